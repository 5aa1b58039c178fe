-- What the functions that read signals give, without where it lies in memory.
use Rattle.icl_lexer.specs.Grammar.{Located}
use Rattle.icl_lexer.specs.Views.{seen_sig_what}
use Rattle.icl_expressions.specs.declared.signals.Located.{Located as LocatedSig}

abbrev pub seen_located : LocatedSig → Located
seen_located s = record { at = s.at; what = seen_sig_what s.what }
