use Rattle.ij_io.proofs.Adding.{adds_both}
use Rattle.mux_test.proofs.file.put_scan.Goals as goal

pub returns-clause-whole : goal.returns-clause-whole
returns-clause-whole g c = adds_both c.in_ok-put_mark_of.ensures.whole c.in_ok-put.ensures.whole
