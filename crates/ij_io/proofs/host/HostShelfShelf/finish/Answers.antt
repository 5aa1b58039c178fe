use Rattle.ij_io.proofs.NameCounts.{noted, noted_once}
use Rattle.ij_io.proofs.host.HostShelfShelf.finish.Goals as goal

pub returns-clause-cause : goal.returns-clause-cause
returns-clause-cause g c = rw (← c.self.view_is)
    (noted c.args.name.now c.self.inside.failed_stores c.note.new.self _ c.in_ok-note.ensures.ok)

pub returns-clause-counted : goal.returns-clause-counted
returns-clause-counted g c = rw (← c.self.view_is)
    (noted_once c.args.name.now c.self.inside.failed_stores c.note.new.self _ c.in_ok-note.ensures.ok)
