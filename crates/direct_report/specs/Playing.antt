-- A play that is sound: its parts belong together.
use Rattle.std.specs.Prelude.{◌≡◌, ◌≤◌, ℕ, List}
use Rattle.net_graph.specs.Marks.{Marks}
use Rattle.instruments.specs.declared.model.Model.{Model}
use Rattle.net_graph.specs.Nets.{IsNet}
use Rattle.net_graph.specs.declared.net.Net.{Net}
use Rattle.pdl_meaning.specs.States.{SeenState}
use Rattle.instruments.specs.Runners.{AreModels}
use Rattle.net_graph.specs.Numbered.{HaveMarks}
use Rattle.direct_report.specs.Marked.{AreBlank}

pub record IsPlay (net : Net) (models : List Model) (values : SeenState)
    (marks : Marks) (reads differs : ℕ) : Type 0 where
  pub well_formed : IsNet net
  pub fit : AreModels net models
  pub same_net : values.net ≡ net
  pub same_models : values.models ≡ models
  pub blank : AreBlank marks
  pub has_marks : HaveMarks net marks
  pub less : differs ≤ reads
