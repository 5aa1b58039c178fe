use Rattle.std.proofs.Common.{◌∙◌}
use Rattle.pdl_targets.specs.SeenRounds.{seen_rounds}
use Rattle.pdl_targets.proofs.Placing.{takes_write, write_nowhere}
use Rattle.pdl_targets.proofs.groups.place_write.Goals as goal

pub returns-in-Some : goal.returns-in-Some
returns-in-Some c =
    takes_write c.put_write.result (seen_rounds c.args.rounds.now) c.in-Some.k c.args.write
    c.args.groups.now.items c.put_write.new.groups.items c.requires c.in-Some.ensures c.put_write.ensures

pub returns-in-None : goal.returns-in-None
returns-in-None c = λ writes reads h. h
    ∙ write_nowhere (seen_rounds c.args.rounds.now) writes reads c.args.write c.in-None.ensures
