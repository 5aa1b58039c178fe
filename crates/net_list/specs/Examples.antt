-- Worked indices of outputs: q[7:4] and r[0:3] of the instrument at node 1 (IEEE 1687-2014, ICL:
-- DataOutPort).
use Rattle.std.specs.Prelude.{◌≡◌, ℕ, Bool, false, List, [], ◌∷◌, codes, refl}
use Rattle.ij_bits.specs.Room.{full}
use Rattle.net_graph.specs.declared.net.Sig.TheVariants.{Out}
use Rattle.net_graph.specs.declared.net.Spot.{Spot}
use Rattle.net_graph.specs.declared.net.Spot.TheVariants.{Outward}
use Rattle.net_graph.specs.declared.net.Thing.{Thing}
use Rattle.net_list.specs.Drivers.{index_between}
use Rattle.net_list.specs.Outputs.{index_in}

-- position 0 first
abbrev four : ℕ → List Spot
four port = Outward (Out 0 port 0 false) ∷ Outward (Out 0 port 1 false)
    ∷ Outward (Out 0 port 2 false) ∷ Outward (Out 0 port 3 false) ∷ []

abbrev port : ℕ → List ℕ → ℕ → ℕ → ℕ → Thing
port node name left right number =
    record {
      node = node;
      name = full name;
      left = left;
      right = right;
      bits = record { items = four number };
      words = full [];
    }

abbrev things : List Thing
things = port 2 (codes "q") 3 0 0 ∷ port 1 (codes "q") 7 4 0 ∷ port 1 (codes "r") 0 3 1 ∷ []

-- position 0 has the right index, here 4
left_is_high : index_in things 1 (codes "q") 4 1 ≡ 5
left_is_high = refl

-- and here 3
left_is_low : index_in things 1 (codes "r") 4 1 ≡ 2
left_is_low = refl

-- a port that isn't there, and one that is there with other bits
no_port : index_in things 1 (codes "s") 4 1 ≡ 1
no_port = refl

other_width : index_in things 1 (codes "q") 2 1 ≡ 1
other_width = refl

-- [4:1] and [1:4]
first_is_high : index_between 4 1 0 ≡ 1
first_is_high = refl

first_is_low : index_between 1 4 3 ≡ 1
first_is_low = refl
