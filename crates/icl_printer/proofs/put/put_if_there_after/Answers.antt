use Rattle.icl_printer.proofs.Laid.{none_added}
use Rattle.icl_printer.proofs.put.put_if_there_after.Goals as goal

pub returns-in-None-clause-whole : goal.returns-in-None-clause-whole
returns-in-None-clause-whole g c = rw c.in-None.is (none_added (g.K.Sink.taken c.args.k.now))
