-- A group's plans give one text and leave the update stages alike, whatever plans were found.
use Rattle.std.proofs.Common.{◌≡◌, ℕ, Option, List, ◌∙◌, subst}
use Rattle.std.specs.Prelude.{map}
use Rattle.ij_io.specs.Bytes.{Adds, AddsPart}
use Rattle.net_graph.specs.declared.net.Net.{Net}
use Rattle.net_graph.specs.Groups.{IsEmpty}
use Rattle.net_graph.specs.SeenSteps.{SeenGroup}
use Rattle.net_graph.specs.Signals.{Holds}
use Rattle.net_tree.specs.Form.{Items}
use Rattle.path_planner.specs.Plans.{ArePlans}
use Rattle.svf_writer.specs.SeenCommands.{SDR}
use Rattle.svf_writer.specs.Written.{texts_of}
use Rattle.headline.specs.Scans.{scans_of, holds_after}
use Rattle.headline.proofs.One.{plans_same}
use Rattle.retargeter.specs.Writing.{WritesGroup, WritesGroupPart, IsAfterGroup}

-- so what was written for some plans is what is written of the group
module _ (net : Net) (form : Items) (g : SeenGroup) (holds : Holds) (named : ¬ IsEmpty g)
    (mine : List SeenGroup) (m : ArePlans net form g holds mine) where
  pub writes_group : {old new : Option (List ℕ)}
      → Adds old new (texts_of (map SDR (scans_of net holds mine))) → WritesGroup net form holds g old new
  writes_group {old} {new} w plans a =
      subst (λ xs. Adds old new (texts_of (map SDR xs)))
      (plans_same net form g named mine plans holds m a.plans).0 w

  pub writes_part : {old new : Option (List ℕ)}
      → AddsPart old new (texts_of (map SDR (scans_of net holds mine)))
      → WritesGroupPart net form holds g old new
  writes_part {old} {new} w plans a =
      subst (λ xs. AddsPart old new (texts_of (map SDR xs)))
      (plans_same net form g named mine plans holds m a.plans).0 w

  pub is_after : {after : Holds} → after ≡ holds_after holds mine → IsAfterGroup net form holds g after
  is_after h plans a = h ∙ (plans_same net form g named mine plans holds m a.plans).1
