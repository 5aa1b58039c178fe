use Rattle.ij_io.proofs.Adding.{whole_as, part_as}
use Rattle.direct_report.proofs.Lining.{marked_line}
use Rattle.direct_report.proofs.reads.put_marked.Goals as goal

pub returns-clause-whole : goal.returns-clause-whole
returns-clause-whole g c =
    whole_as c.put_read.result _ _ (marked_line c.args.values.now c.args.reads.now c.args.mark _
    c.found.result c.if-mark-eq0.false c.requires.within c.found.ensures) c.put_read.ensures.whole

pub returns-clause-part : goal.returns-clause-part
returns-clause-part g c =
    part_as c.put_read.result _ _ (marked_line c.args.values.now c.args.reads.now c.args.mark _ c.found.result
    c.if-mark-eq0.false c.requires.within c.found.ensures) c.put_read.ensures.part
