-- The route of a walk, turned round, is the active path that is traced back.
use Rattle.std.proofs.Common.{◌≡◌, List, ℕ, length, Some, sym, ap, ◌∙◌, subst}
use Rattle.std.specs.Prelude.{reverse}
use Rattle.std.proofs.lemmas.List.{reverse-reverse}
use Rattle.net_graph.specs.declared.net.Net.{Net}
use Rattle.net_graph.specs.declared.step.ReadBit.{ReadBit}
use Rattle.net_graph.specs.declared.step.WriteBit.{WriteBit}
use Rattle.net_graph.specs.Chain.{IsRoute}
use Rattle.net_graph.specs.Nets.{IsNet}
use Rattle.net_graph.specs.Path.{active, path as scan_path}
use Rattle.net_graph.specs.SeenSteps.{SeenGroup}
use Rattle.net_graph.specs.Signals.{Holds}
use Rattle.net_graph.proofs.Tracing.{trace_route}
use Rattle.scan_packer.specs.Packing.{CanPack, CanScan, plan_of}
use Rattle.std.proofs.lemmas.Option.{same_Some}
use Rattle.ij_bits.proofs.Lists.{map_some}

module _ (net : Net) (holds : Holds) (route : List ℕ) (e : scan_path net holds ≡ Some route) where
  turned_back : (path : List ℕ) → active net holds ≡ Some path → path ≡ reverse route
  turned_back path a =
      let (x, f, g) = map_some reverse (active net holds) route e in
      same_Some path x (sym a ∙ f) ∙ sym (reverse-reverse x) ∙ ap reverse g

  pub is_route : IsNet net → (p : List ℕ) → p ≡ route → IsRoute (length net.regs.items) (reverse p)
  is_route n p f =
      let (x, a, g) = map_some reverse (active net holds) route e in
      subst (IsRoute (length net.regs.items)) (turned_back x a ∙ ap reverse (sym f))
      (trace_route net holds n _ net.out x n.output a)

  pub can_pack : (p : List ℕ) (plan : SeenGroup) (ws : List WriteBit) (rs : List ReadBit)
      → CanScan net holds plan → p ≡ route → ws ≡ plan.writes → rs ≡ plan.reads
      → CanPack net holds (reverse p) (plan_of ws rs)
  can_pack p plan ws rs (path, a, c) f w r =
      subst (λ q. CanPack net holds q (plan_of ws rs)) (turned_back path a ∙ ap reverse (sym f))
      (subst (λ us. CanPack net holds path (plan_of us rs)) (sym w)
      (subst (λ us. CanPack net holds path (plan_of plan.writes us)) (sym r) c))

-- what is packed for one route and plan is packed for the same
pub same_bits : {A : Type 0} (f : List ℕ → SeenGroup
    → A) (p route : List ℕ) (plan : SeenGroup) (ws : List WriteBit) (rs : List ReadBit) → p ≡ route
    → ws ≡ plan.writes → rs ≡ plan.reads → f (reverse p) (plan_of ws rs) ≡ f (reverse route) plan
same_bits f p route plan ws rs e w r =
    ap (λ q. f (reverse q) (plan_of ws rs)) e ∙ ap (λ us. f (reverse route) (plan_of us rs)) w
    ∙ ap (λ us. f (reverse route) (plan_of plan.writes us)) r
