-- The lists of a flush and their lengths.
use Rattle.std.proofs.Common.{◌≡◌, ℕ, suc, ◌≤◌, Bool, true, false, List, [], ◌∷◌, ◌++◌, length, Some, refl}
use Rattle.std.proofs.Common.{ap, ◌∙◌}
use Rattle.std.specs.Prelude.{reverse, replicate}
use Rattle.net_graph.specs.Chain.{chain}
use Rattle.net_graph.specs.declared.net.Net.{Net}
use Rattle.net_graph.specs.Nets.{IsNet}
use Rattle.net_graph.specs.Path.{path as scan_path}
use Rattle.net_graph.specs.SeenSteps.{SeenGroup}
use Rattle.net_graph.specs.Signals.{Holds}
use Rattle.net_graph.proofs.Shapes.{length-chain_same}
use Rattle.net_graph.proofs.Writing.{write_all-shape}
use Rattle.net_graph.specs.Writes.{write_all}
use Rattle.scan_packer.specs.Flushed.{scan_bits, flush_mask, flush_tdi, flush_tdo}
use Rattle.scan_packer.specs.Packed.{tdi_bits}
use Rattle.scan_packer.specs.Packing.{CanScan}
use Rattle.scan_packer.proofs.Rooms.{chain_few}
use Rattle.scan_packer.proofs.Routes.{is_route}

module _ (net : Net) (holds : Holds) (route : List ℕ) (plan : SeenGroup) where
  -- a plan gives each bit of the path a value
  pub as_long : length (tdi_bits holds (reverse route) plan) ≡ length (chain (reverse route) holds)
  as_long =
      length-chain_same (reverse route) (write_all holds plan.writes) holds
      (write_all-shape plan.writes holds)

  pub path_few : IsNet net → scan_path net holds ≡ Some route → CanScan net holds plan
      → length (chain (reverse route) holds) ≤ scan_bits net
  path_few n e (path, a, p) =
      chain_few net (reverse route) n (is_route net holds route e n route refl) holds p.widths

  -- the three lists, by their parts
  module _ (zeros path : ℕ) (bits : List Bool) (z : zeros ≡ scan_bits net)
      (b : bits ≡ tdi_bits holds (reverse route) plan) (p : path ≡ length bits) where
    pub tdi_is : (replicate zeros false ++ true ∷ []) ++ bits ≡ flush_tdi net holds (reverse route) plan
    tdi_is =
        ap (λ (k : ℕ). (replicate k false ++ true ∷ []) ++ bits) z
        ∙ ap (λ (l : List Bool). (replicate (scan_bits net) false ++ true ∷ []) ++ l) b

    path_is : path ≡ length (chain (reverse route) holds)
    path_is = p ∙ ap length b ∙ as_long

    pub tdo_is : replicate path false ++ (replicate zeros false ++ true ∷ [])
        ≡ flush_tdo net holds (reverse route)
    tdo_is =
        ap (λ (k : ℕ). replicate path false ++ (replicate k false ++ true ∷ [])) z
        ∙ ap (λ (k : ℕ). replicate k false ++ (replicate (scan_bits net) false ++ true ∷ [])) path_is

    pub mask_is : (ones : ℕ) → ones ≡ suc zeros
        → replicate path false ++ replicate ones true ≡ flush_mask net holds (reverse route)
    mask_is ones o =
        ap (λ (k : ℕ). replicate path false ++ replicate k true) (o ∙ ap suc z)
        ∙ ap (λ (k : ℕ). replicate k false ++ replicate (suc (scan_bits net)) true) path_is
