use Rattle.std.proofs.Common.{ap, sym, ◌∙◌, Some, [], true, false, unwrap_or}
use Rattle.svf_writer.specs.Lent.{lent}
use Rattle.tap_machine.proofs.Shifts.{expected_at}
use Rattle.tap_machine.proofs.progress.Progress.expects.Goals as goal

pub returns-then-is_compared : goal.returns-then-is_compared
returns-then-is_compared c =
    ap Some c.get.ensures
    ∙ sym (expected_at _ _ _ (unwrap_or c.in_ok-tdo.tdo.now []) _ true c.requires.sound.tdo
    (ap lent c.in_ok-tdo.was) c.requires.within (sym c.is_compared.ensures ∙ c.if-is_compared.true))

pub returns-else-is_compared : goal.returns-else-is_compared
returns-else-is_compared c =
    sym (expected_at _ _ _ (unwrap_or c.in_ok-tdo.tdo.now []) _ false c.requires.sound.tdo
    (ap lent c.in_ok-tdo.was) c.requires.within (sym c.is_compared.ensures ∙ c.if-is_compared.false))
