use Rattle.ijtag_work.proofs.Told.{told_part}
use Rattle.ijtag_work.proofs.stop.report.Goals as goal

pub returns-in_default-clause-part : goal.returns-in_default-clause-part
returns-in_default-clause-part g c =
    told_part c.put_stop.result c.put_stop.ensures.whole c.put_stop.ensures.part
