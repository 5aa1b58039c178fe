-- The network of the register `net.R` is well formed.
use Rattle.std.proofs.Common.{◌≡◌, ℕ, zero, suc, ◌+◌, ◌<◌, ◌≤◌, false, List, [], ◌∷◌, length, refl, ap, ◌∙◌}
use Rattle.std.proofs.Common.{arith}
use Rattle.std.specs.Prelude.{map, All, IsTrue, codes}
use Rattle.ij_bits.specs.Room.{Listed, full}
use Rattle.std.proofs.lemmas.List.Elements.{All-nil, All-cons}
use Rattle.std.proofs.lemmas.List.{length-map, length-replicate}
use Rattle.net_graph.specs.declared.net.BitId.{BitId}
use Rattle.net_graph.specs.declared.net.Net.{Net}
use Rattle.net_graph.specs.declared.net.Node.{Node}
use Rattle.net_graph.specs.declared.net.Point.TheVariants.{Entry}
use Rattle.net_graph.specs.declared.net.Sig.TheVariants.{Bit}
use Rattle.net_graph.specs.declared.net.Spot.TheVariants.{Held}
use Rattle.net_graph.specs.Named.{IsSignalOf, IsSpotOf, bits_from}
use Rattle.ij_text.specs.Words.{is_name}
use Rattle.net_graph.specs.Nets.{IsReg, IsThing, IsMux, IsInst, IsNet, HaveThings}
use Rattle.net_graph.specs.OneRegister.{plain_register, plain_thing, plain_top, plain_instance, plain_net}
use Rattle.ij_bits.proofs.Contained.{none_in, only_in}

pub length-bits_from : (r k n : ℕ) → length (bits_from r k n) ≡ n
length-bits_from r k zero = refl
length-bits_from r k (suc n) = ap suc (length-bits_from r (suc k) n)

-- what holds of each bit below m
bits_have : {Y : Type 0} (f : BitId → Y) (P : Y → Type 0) (r m : ℕ)
    → ((p : ℕ) → p < m → P (f (record { reg = r; pos = p }))) → (k n : ℕ)
    → k + n ≤ m → All P (map f (bits_from r k n))
bits_have f P r m h k zero l = All-nil P
bits_have f P r m h k (suc n) l =
    All-cons P (f (record { reg = r; pos = k })) (map f (bits_from r (suc k) n)) (h k (omega (arith, l)))
    (bits_have f P r m h (suc k) n (omega (arith, l)))

pub some_path : (x : List ℕ) → [] ≡ x ∷ [] → ⊥
some_path x e =
    let n : 0 ≡ 1 = ap length e in
    omega (arith, n)

abbrev IsNear : Node → Type 0
IsNear node = length node.path.items ≤ 64

abbrev IsNamed : Listed ℕ → Type 0
IsNamed name = IsTrue (is_name name.items)

abbrev HasNames : Node → Type 0
HasNames node = All IsNamed node.path.items

abbrev instance_name : Listed ℕ
instance_name = full (codes "net")

pub named_instance : HasNames plain_instance
named_instance = All-cons IsNamed instance_name [] refl (All-nil IsNamed)

module _ (width : ℕ) (some : 1 ≤ width) (few : width ≤ 64) where
  abbrev net : Net
  net = plain_net width

  reg_fits : IsReg net (plain_register 0 width Entry)
  reg_fits =
      record {
        at_least_one_bit = some;
        source = tt;
        captures = length-map (bits_from 0 0 width) (λ b. Bit b false) ∙ length-bits_from 0 0 width;
        signals = bits_have (λ b. Bit b false) (IsSignalOf net) 0 width (λ p l. l) 0 width (omega arith);
        resets = length-replicate width false;
        thing = omega arith;
      }

  thing_long : length (map Held (bits_from 0 0 width)) ≡ width
  thing_long = length-map (bits_from 0 0 width) Held ∙ length-bits_from 0 0 width

  thing_fits : IsThing net (plain_thing width)
  thing_fits =
      record {
        node = omega arith;
        named = refl;
        wide = omega (arith, thing_long, some);
        bits_within_limit = omega (arith, thing_long, few);
        spots = bits_have Held (IsSpotOf net) 0 width
            (λ p l. l) 0 width (omega arith);
        words = All-nil _;
        word_names = tt;
      }

  reg_things : HaveThings net
  reg_things zero l = refl
  reg_things (suc r) l = absurd (omega (arith, l))

  pub plain_net_is_net : IsNet net
  plain_net_is_net =
      record {
        regs = All-cons (IsReg net) (plain_register 0 width Entry) [] reg_fits (All-nil (IsReg net));
        muxes = All-nil (IsMux net);
        insts = All-nil (IsInst net);
        output = omega arith;
        things = All-cons (IsThing net) (plain_thing width) [] thing_fits (All-nil (IsThing net));
        top = omega arith;
        top_path = refl;
        node_paths =
            (λ c. some_path _ (only_in _ _ c), (none_in _, tt));
        inst_nodes = tt;
        thing_names =
            (none_in _, tt);
        path_names = All-cons HasNames plain_top (plain_instance ∷ []) (All-nil IsNamed)
            (All-cons HasNames plain_instance [] named_instance (All-nil HasNames));
        reg_things = reg_things;
        bits_within_limit = omega (arith, few);
        few_muxes = omega arith;
        few_insts = omega arith;
        few_nodes = omega arith;
        few_levels = All-cons IsNear plain_top (plain_instance ∷ []) (omega arith)
            (All-cons IsNear plain_instance [] (omega arith) (All-nil IsNear));
      }
