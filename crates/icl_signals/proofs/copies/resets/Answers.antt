use Rattle.icl_signals.proofs.OneNumber.{resets_copied}
use Rattle.icl_signals.proofs.copies.resets.Goals as goal

pub returns-in-Some : goal.returns-in-Some
returns-in-Some c =
    resets_copied c.copy.result c.args.width c.args.reset.now c.in-Some.bits c.in-Some.is c.copy.ensures
