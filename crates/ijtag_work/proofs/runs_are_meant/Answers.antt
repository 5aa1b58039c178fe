use Rattle.ijtag_work.proofs.Alike.{runs_differ_alike}
use Rattle.ijtag_work.proofs.Counted.{meanings_are_counted}
use Rattle.ijtag_work.proofs.Named.{compares_are_named, differs_are_named, reads_are_compared}
use Rattle.ijtag_work.proofs.runs_are_meant.Goals as goal

pub returns-clause-counted : goal.returns-clause-counted
returns-clause-counted c = meanings_are_counted

pub returns-clause-alike : goal.returns-clause-alike
returns-clause-alike c =
    runs_differ_alike c.events_are_counted.ensures.power_up
    c.events_are_counted.ensures.compares c.planned_scripts_law.ensures.alike

pub returns-clause-compared : goal.returns-clause-compared
returns-clause-compared c = reads_are_compared c.planned_steps_law.ensures.play

pub returns-clause-named : goal.returns-clause-named
returns-clause-named c =
    compares_are_named c.planned_steps_law.ensures.scripts
    c.planned_scripts_law.ensures.places c.planned_steps_law.ensures.play

pub returns-clause-differs : goal.returns-clause-differs
returns-clause-differs c =
    differs_are_named c.events_are_counted.ensures.power_up
    c.events_are_counted.ensures.compares c.places_are_one.ensures.one
    (compares_are_named c.planned_steps_law.ensures.scripts
    c.planned_scripts_law.ensures.places c.planned_steps_law.ensures.play)
