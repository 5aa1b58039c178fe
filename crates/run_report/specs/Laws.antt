-- Laws of the places of reads.
use Rattle.std.specs.Prelude.{◌≡◌, List, map}
use Rattle.net_graph.specs.declared.net.Net.{Net}
use Rattle.net_graph.specs.Resets.{start_holds}
use Rattle.net_tree.specs.Form.{Items}
use Rattle.headline.specs.Retargeting.{PlannedStep, seen_of, StepsArePlanned}
use Rattle.run_report.specs.Places.{places}

-- bit steps have their reads at one place each, whatever plans were found
abbrev pub PlacesAreOne : Type 0
PlacesAreOne =
    (net : Net) (form : Items) (xs ys : List PlannedStep) → StepsArePlanned net form (start_holds net) xs
    → StepsArePlanned net form (start_holds net) ys → map seen_of xs ≡ map seen_of ys
    → places net xs ≡ places net ys
