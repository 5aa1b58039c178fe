use Rattle.std.proofs.Common.{ap, ◌∙◌}
use Rattle.tap_machine.specs.Play.{is_empty}
use Rattle.svf_audit.proofs.Dues.{done_is}
use Rattle.svf_audit.proofs.left.Left.is_done.Goals as goal

pub returns : goal.returns
returns c =
    done_is c.drop_redundant.new.self c.len.result c.drop_redundant.ensures.within
    c.drop_redundant.ensures.settled c.len.ensures ∙ ap is_empty c.drop_redundant.ensures.work
