use Rattle.std.proofs.Common.{subst}
use Rattle.net_graph.specs.declared.net.Point.TheVariants.{Mux}
use Rattle.net_graph.specs.Named.{IsPointOf}
use Rattle.net_picture.proofs.Rooms.{point_there}
use Rattle.net_picture.proofs.met.before.Goals as goal

pub returns-in-Mux-clause-there : goal.returns-in-Mux-clause-there
returns-in-Mux-clause-there c =
    point_there c.args.net.now c.args.holds.now (Mux c.in-Mux.mux) c.mux_input.result c.requires.well_formed
    (subst (IsPointOf c.args.net.now) c.in-Mux.is c.requires.there) c.mux_input.ensures
