use Rattle.std.proofs.Common.{◌∙◌}
use Rattle.pdl_targets.specs.SeenRounds.{seen_rounds}
use Rattle.pdl_targets.proofs.Placing.{takes_read, read_nowhere}
use Rattle.pdl_targets.proofs.groups.place_read.Goals as goal

pub returns-in-Some : goal.returns-in-Some
returns-in-Some c =
    takes_read c.put_read.result (seen_rounds c.args.rounds.now) c.in-Some.k c.args.read
    c.args.groups.now.items c.put_read.new.groups.items c.requires c.in-Some.ensures c.put_read.ensures

pub returns-in-None : goal.returns-in-None
returns-in-None c = λ writes reads h. h
    ∙ read_nowhere (seen_rounds c.args.rounds.now) writes reads c.args.read c.in-None.ensures
