use Rattle.std.proofs.Common.{ap, sym}
use Rattle.ij_io.proofs.Adding.{whole_as, part_as}
use Rattle.report.specs.Totalled.{totals_text}
use Rattle.report.proofs.totals.put_totals.Goals as goal

pub returns-in-Made-clause-whole : goal.returns-in-Made-clause-whole
returns-in-Made-clause-whole g c =
    whole_as c.put_made.result _ _ (sym (ap totals_text c.in-Made.is)) c.put_made.ensures.whole

pub returns-in-Made-clause-part : goal.returns-in-Made-clause-part
returns-in-Made-clause-part g c =
    part_as c.put_made.result _ _ (sym (ap totals_text c.in-Made.is)) c.put_made.ensures.part
