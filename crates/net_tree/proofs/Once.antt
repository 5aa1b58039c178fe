-- A form that describes a net names nothing twice.
use Rattle.std.proofs.Common.{ℕ, zero, suc, List, [], ◌∷◌, arith}
use Rattle.std.specs.Prelude.{Contains}
use Rattle.ij_bits.specs.Different.{AreDifferent}
use Rattle.net_graph.specs.Chain.{NotIn, IsRoute}
use Rattle.net_graph.specs.declared.net.Net.{Net}
use Rattle.net_tree.specs.Form.{Items, Describes}
use Rattle.net_tree.specs.Once.{NamesOnce}

not_there : (r : ℕ) (xs : List ℕ) → NotIn r xs → ¬ Contains xs r
not_there r [] n c = omega (arith, c.1)
not_there r (x ∷ xs) n (zero, l, e) = n.0 e
not_there r (x ∷ xs) n (suc k, l, e) = not_there r xs n.1 (k, omega (arith, l), e)

all_different : (n : ℕ) (xs : List ℕ) → IsRoute n xs → AreDifferent xs
all_different n [] h = tt
all_different n (x ∷ xs) h = (not_there x xs h.1, all_different n xs h.2)

pub described_once : (net : Net) (form : Items) → Describes net form → NamesOnce form
described_once net form d = (all_different _ _ d.registers.different, all_different _ _ d.muxes.different)
