use Rattle.icl_printer.proofs.Laid.{none_added}
use Rattle.icl_printer.proofs.put.put_mark_if.Goals as goal

pub returns-else-wanted-clause-whole : goal.returns-else-wanted-clause-whole
returns-else-wanted-clause-whole g c = rw c.if-wanted.false (none_added (g.K.Sink.taken c.args.k.now))
