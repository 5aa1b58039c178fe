-- What is packed for a plan is the plan's scan.
use Rattle.std.proofs.Common.{◌≡◌, ℕ, suc, arith, Bool, true, false, List, [], ◌∷◌, length, Option, Some}
use Rattle.std.proofs.Common.{None, refl, sym}
use Rattle.std.proofs.Common.{ap, ◌∙◌}
use Rattle.std.specs.Prelude.{◌==◌, cond, reverse, unwrap_or}
use Rattle.std.proofs.lemmas.Bool.{eqb-true, false≢true}
use Rattle.std.proofs.lemmas.List.{reverse-reverse}
use Rattle.net_graph.specs.Chain.{chain}
use Rattle.net_graph.specs.declared.net.Net.{Net}
use Rattle.net_graph.specs.declared.step.ReadBit.{ReadBit}
use Rattle.net_graph.specs.Path.{active, path as scan_path, route_of}
use Rattle.net_graph.specs.SeenSteps.{SeenGroup}
use Rattle.net_graph.specs.Signals.{Holds}
use Rattle.net_graph.specs.Writes.{write_all}
use Rattle.net_graph.proofs.Shapes.{length-chain_same}
use Rattle.net_graph.proofs.Writing.{write_all-shape}
use Rattle.scan_packer.specs.Packed.{tdi_bits, tdo_bits, mask_bits}
use Rattle.tap_machine.specs.Play.{is_empty}
use Rattle.headline.specs.Scans.{scan_of}
use Rattle.retargeter.specs.Packed.{quiet_scan, comparing_scan}
use Rattle.ij_bits.proofs.Lists.{map_some}

-- whether a scan reads, by the test of the code
pub none : (rs : List ReadBit) → (length rs == 0) ≡ true → rs ≡ []
none [] e = refl
none (r ∷ rs) e = let z : suc (length rs) ≡ 0 = eqb-true (suc (length rs)) 0 e in absurd (omega (arith, z))

pub some : (rs : List ReadBit) → (length rs == 0) ≡ false → ¬ (rs ≡ [])
some rs e n = false≢true (sym e ∙ ap (λ z. length z == 0) n)

some_read : (rs : List ReadBit) → ¬ (rs ≡ []) → is_empty rs ≡ false
some_read [] n = absurd (n refl)
some_read (r ∷ rs) n = refl

module _ (net : Net) (holds : Holds) (route : List ℕ) (e : scan_path net holds ≡ Some route) where
  -- the route of a walk, turned round, is the active path
  turned : route_of net holds ≡ reverse route
  turned =
      let (x, f, g) = map_some reverse (active net holds) route e in
      ap (λ (o : Option (List ℕ)). unwrap_or o []) f ∙ sym (reverse-reverse x) ∙ ap reverse g

  as_long : (plan : SeenGroup)
      → length (tdi_bits holds (reverse route) plan) ≡ length (chain (reverse route) holds)
  as_long plan = length-chain_same (reverse route)
      (write_all holds plan.writes) holds (write_all-shape plan.writes holds)

  module _ (plan : SeenGroup) (tdi : List Bool) (t : tdi ≡ tdi_bits holds (reverse route) plan) where
    pub quiet : (rs : List ReadBit) → rs ≡ plan.reads → rs ≡ []
        → quiet_scan tdi ≡ scan_of net holds (route_of net holds) plan
    quiet rs r n =
        let empty : is_empty plan.reads ≡ true = ap is_empty (sym r ∙ n) in
        ap quiet_scan t
        ∙ ap (λ k. record (quiet_scan (tdi_bits holds (reverse route) plan)) { len = k }) (as_long plan)
        ∙ ap (λ (b : Bool). record (quiet_scan (tdi_bits holds (reverse route) plan)) {
          len = length
              (chain (reverse route) holds);
          tdo = cond b None (Some (tdo_bits net (reverse route) plan));
          mask = cond b None (Some (mask_bits net (reverse route) plan));
        }) (sym empty)
        ∙ ap (λ p. scan_of net holds p plan) (sym turned)

    pub comparing : (tdo mask : List Bool) (rs : List ReadBit) → tdo ≡ tdo_bits net (reverse route) plan
        → mask ≡ mask_bits net (reverse route) plan → rs ≡ plan.reads → ¬ (rs ≡ [])
        → comparing_scan tdi tdo mask ≡ scan_of net holds (route_of net holds) plan
    comparing tdo mask rs d m r n =
        let some : is_empty plan.reads ≡ false = some_read plan.reads (λ z. n (r ∙ z)) in
        ap (λ x. comparing_scan x tdo mask) t
        ∙ ap (λ x. comparing_scan (tdi_bits holds (reverse route) plan) x mask) d
        ∙ ap (λ x. comparing_scan (tdi_bits holds (reverse route) plan)
        (tdo_bits net (reverse route) plan) x) m
        ∙ ap (λ k. record (comparing_scan (tdi_bits holds (reverse route) plan) (tdo_bits net
        (reverse route) plan) (mask_bits net (reverse route) plan)) { len = k }) (as_long plan)
        ∙ ap (λ (b : Bool). record (quiet_scan (tdi_bits holds (reverse route) plan)) {
          len = length
              (chain (reverse route) holds);
          tdo = cond b None (Some (tdo_bits net (reverse route) plan));
          mask = cond b None (Some (mask_bits net (reverse route) plan));
        }) (sym some)
        ∙ ap (λ p. scan_of net holds p plan) (sym turned)
