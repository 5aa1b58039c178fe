-- Reads of one scan, by the path that was walked.
use Rattle.std.proofs.Common.{◌≡◌, ℕ, List, [], ◌∷◌, length, get_or, Option, Some, refl, sym, ap, ◌∙◌}
use Rattle.std.specs.Prelude.{map, cond, ◌==◌, ◌+◌, reverse, unwrap_or}
use Rattle.std.proofs.lemmas.List.{reverse-reverse}
use Rattle.net_graph.specs.declared.net.BitId.{BitId}
use Rattle.net_graph.specs.declared.net.Net.{Net}
use Rattle.net_graph.specs.declared.step.ReadBit.{ReadBit}
use Rattle.net_graph.specs.Chain.{position}
use Rattle.net_graph.specs.Held.{AreHolds}
use Rattle.net_graph.specs.Path.{active, path as scan_path, route_of}
use Rattle.net_graph.specs.Resets.{zero_holds}
use Rattle.net_graph.specs.Signals.{Holds, bits_at}
use Rattle.net_graph.proofs.Shapes.{length_at}
use Rattle.scan_packer.proofs.Filling.{zero_bits}
use Rattle.run_report.specs.Noting.{place_on}
use Rattle.run_report.specs.Places.{place_in, scan_places}
use Rattle.run_report.specs.declared.place.ReadPlace.{ReadPlace}
use Rattle.ij_bits.proofs.Lists.{map_some}

-- the route of a walk, turned round, is the active path
pub turned : (net : Net) (holds : Holds) (route : List ℕ)
    → scan_path net holds ≡ Some route → route_of net holds ≡ reverse route
turned net holds route e =
    let (x, f, g) = map_some reverse (active net holds) route e in
    ap (λ (o : Option (List ℕ)). unwrap_or o []) f ∙ sym (reverse-reverse x) ∙ ap reverse g

-- a place on a path, by one width of its registers or the other
same_position : (path : List ℕ) (a b : Holds) (bit : BitId)
    → ((r : ℕ) → length (bits_at a r) ≡ length (bits_at b r)) → position path a bit ≡ position path b bit
same_position [] a b bit w = refl
same_position (r ∷ rs) a b bit w =
    ap (λ k. cond (r == bit.reg) bit.pos (k + position rs a bit)) (w r)
    ∙ ap (λ k. cond (r == bit.reg) bit.pos (length (bits_at b r) + k)) (same_position rs a b bit w)

pub same_widths : (net : Net) (holds : Holds) → AreHolds net holds → (r : ℕ)
    → length (bits_at (zero_holds net) r) ≡ length (bits_at holds r)
same_widths net holds h r = zero_bits net r ∙ sym (length_at holds r ∙ ap (λ (ns : List ℕ). get_or ns r 0) h)

module _ (net : Net) (holds : Holds) (route : List ℕ) (e : scan_path net holds ≡ Some route) (w : (r : ℕ)
    → length (bits_at (zero_holds net) r) ≡ length (bits_at holds r)) (scan : ℕ) where
  pub places_are : (reads : List ReadBit)
      → map (place_on net (reverse route) scan) reads ≡ scan_places net holds scan reads
  places_are [] = refl
  places_are (r ∷ rs) =
      let one : place_on net (reverse route) scan r ≡ place_in net holds scan r =
      ap (λ k. record { scan = scan; bit = k; read = r }) (same_position (reverse route) (zero_holds net)
      holds r.bit w ∙ ap (λ p. position p holds r.bit) (sym (turned net holds route e))) in
      ap (λ (p : ReadPlace). p ∷ map (place_on net (reverse route) scan) rs) one
      ∙ ap (λ ps. place_in net holds scan r ∷ ps) (places_are rs)
