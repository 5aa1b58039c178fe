-- The stage of the ICL text: its tokens, and the modules that the grammar makes of them (IEEE 1687-2014, the
-- part that is read here).
use Rattle.std.specs.Prelude.{◌≡◌, ℕ, List, Option, Some, None, codes}
use Rattle.icl_lexer.specs.declared.fault.LexFault.{LexFault}
use Rattle.icl_lexer.specs.declared.fault.LexFault.TheVariants.{BadByte, OpenComment, OpenText}
use Rattle.icl_lexer.specs.Cutting.{HasFault}
use Rattle.icl_lexer.specs.Modules.{design}
use Rattle.icl_lexer.specs.Seen.{SeenToken, HasTokens}
use Rattle.icl_lexer.specs.Values.{SeenModule}
use Rattle.icl_parser.specs.Refusals.{IsRefused}
use Rattle.icl_parser.specs.declared.fault.ParseFault.{ParseFault}
use Rattle.icl_parser.specs.declared.fault.ParseFault.TheVariants.{LeftOut, ExprLimit, Syntax}
use Rattle.icl_parser.specs.declared.fault.ParseFault.TheVariants.{OutOfMemory as NoMemoryForTree}
use Rattle.ijtag_stages.specs.Work.{◌>>=◌}
use Rattle.ijtag_stages.specs.Refusals.{Part, Refusal, refused_at, refused_word}
use Rattle.ijtag_stages.specs.declared.refusal.Stage.TheVariants.{Icl}

-- how a fault is reported
abbrev pub lex_refusal : LexFault → Refusal
lex_refusal (BadByte at) = refused_at Icl (codes "BadByte") at
lex_refusal (OpenComment at) = refused_at Icl (codes "OpenComment") at
lex_refusal (OpenText at) = refused_at Icl (codes "OpenText") at

-- want of memory is no refusal
abbrev pub parse_refusal : ParseFault → Option Refusal
parse_refusal (LeftOut at word) = Some (refused_word Icl (codes "LeftOut") at word.items)
parse_refusal (ExprLimit at) = Some (refused_at Icl (codes "ExprLimit") at)
parse_refusal (Syntax at) = Some (refused_at Icl (codes "Syntax") at)
parse_refusal NoMemoryForTree = None

-- the one cutting of the text into tokens
unfoldable pub icl_tokens : List ℕ → Part (List SeenToken)
icl_tokens text = record {
  gives = λ tokens. HasTokens text tokens;
  refuses = λ r. (fault : LexFault) × HasFault text fault × (lex_refusal fault ≡ r);
}

-- what the grammar makes of them
unfoldable pub icl_design : List ℕ → List SeenToken → Part (List SeenModule)
icl_design text tokens = record {
  gives = λ modules. design.derives tokens modules;
  refuses = λ r. (fault : ParseFault) × IsRefused text tokens fault × (parse_refusal fault ≡ Some r);
}

unfoldable pub icl_text : List ℕ → Part (List SeenModule)
icl_text text = do
  tokens ← icl_tokens text
  icl_design text tokens
