use Rattle.std.proofs.Common.{sym, ◌∙◌}
use Rattle.svf_reader.specs.Reading.{words_of}
use Rattle.svf_reader.specs.Texts.{plain}
use Rattle.svf_reader.proofs.Keeping.{scan_kept}
use Rattle.svf_reader.proofs.left_out.left_out.Goals as goal

pub returns-then-is_one_of : goal.returns-then-is_one_of
returns-then-is_one_of c =
    sym (scan_kept c.args.first.piece.now (plain c.args.first.rest.now) (words_of c.args.first.rest.now)
    (sym c.is_one_of.ensures ∙ c.if-is_one_of.true))
