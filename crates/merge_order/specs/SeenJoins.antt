-- iApplys by their rounds, without where these lie in memory.
use Rattle.std.specs.Prelude.{List, Vec, map}
use Rattle.std.specs.declared.alloc.Global.{Global}
use Rattle.std.specs.Borrow.{Bor}
use Rattle.net_graph.specs.SeenSteps.{SeenGroup}
use Rattle.net_graph.specs.declared.step.Group.{Group}
use Rattle.pdl_targets.specs.SeenRounds.{seen_groups}

abbrev pub seen_applies : List (Bor (List Group)) → List (List SeenGroup)
seen_applies applies = map (λ a. seen_groups a.now) applies

abbrev pub seen_joins : List (Vec Group Global) → List (List SeenGroup)
seen_joins joins = map (λ j. seen_groups j.items) joins
