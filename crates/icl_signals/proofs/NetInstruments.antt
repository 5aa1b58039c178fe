-- The instruments of the network of a hierarchy are well formed.
use Rattle.std.proofs.Common.{◌≡◌, ◌<◌, ◌≤◌, ℕ, Bool, true, List, map, length, filter, Option, Some}
use Rattle.std.proofs.Common.{Ok, refl, sym, ap, subst, ◌∙◌, arith}
use Rattle.std.specs.Prelude.{All, slice_get}
use Rattle.std.specs.List.{AllByRecursion, enumerate_from}
use Rattle.std.proofs.lemmas.Bool.{true≢false}
use Rattle.std.proofs.lemmas.List.{length-map}
use Rattle.std.proofs.lemmas.List.Elements.{All-from_recursion}
use Rattle.ij_bits.specs.Different.{AreDifferent}
use Rattle.icl_elab.specs.WellFormed.{is_thing, is_data_in, is_data_out, is_data_port, is_instrument}
use Rattle.icl_elab.specs.WellFormed.{things_in, HasFewPorts, IsCell}
use Rattle.icl_references.specs.declared.hier.Ref.{Ref}
use Rattle.icl_references.specs.Roles.{Role, DataInput, DataOutput, PartOf, CellOf, part_of, part_at}
use Rattle.icl_references.specs.Roles.{part_width}
use Rattle.icl_elab.specs.Laws.{IsRefOf, AreWired}
use Rattle.net_graph.specs.declared.net.Inst.{Inst}
use Rattle.net_graph.specs.declared.net.Net.{Net}
use Rattle.net_graph.specs.declared.net.PortIn.{PortIn}
use Rattle.net_graph.specs.declared.net.PortOut.{PortOut}
use Rattle.net_graph.specs.declared.net.Sig.{Sig}
use Rattle.net_graph.specs.Named.{IsInputOf}
use Rattle.net_graph.specs.Nets.{IsInst}
use Rattle.icl_signals.specs.declared.wires.Wire.{Wire}
use Rattle.icl_signals.specs.Moves.{Entry}
use Rattle.icl_signals.specs.Connecting.{instruments, parts_that, own_bits, output_of, input_from, input_of}
use Rattle.icl_signals.specs.Connecting.{instrument_of}
use Rattle.icl_signals.proofs.Paired.{paired_length, paired_maps, paired_all, each_paired}
use Rattle.icl_signals.proofs.Paired.{mapped_paired, all_at, all_kept, all_passing, all_and}
use Rattle.icl_signals.proofs.ApartItems.{Apart, apart_kept, apart_weaker, apart_of_map, apart_in_map}
use Rattle.icl_signals.proofs.ApartItems.{apart_different, different_apart, in_kept, known_numbers}
use Rattle.icl_signals.proofs.ApartItems.{kept_items, numbers_rise}
use Rattle.icl_signals.proofs.EntryNumbers.{all_instruments_known}
use Rattle.icl_signals.proofs.NetParts.{IsNetOf, instrument_is, input_is}
use Rattle.icl_signals.proofs.NetSignals.{IsShaped, input_there}
use Rattle.icl_signals.proofs.PartFacts.{length_own, own_there}
use Rattle.ij_bits.proofs.Lists.{filter_twice}
use Rattle.std.proofs.lemmas.Option.{slice_get_within}

-- ---- tests of roles

input_port : (role : Role) → is_data_in role ≡ true → is_data_port role ≡ true
input_port (DataInput bound) h = refl
input_port role h = absurd (true≢false (sym h))

output_port : (role : Role) → is_data_out role ≡ true → is_data_port role ≡ true
output_port (DataOutput source) h = refl
output_port role h = absurd (true≢false (sym h))

input_thing : (role : Role) → is_data_in role ≡ true → is_thing role ≡ true
input_thing (DataInput bound) h = refl
input_thing role h = absurd (true≢false (sym h))

output_thing : (role : Role) → is_data_out role ≡ true → is_thing role ≡ true
output_thing (DataOutput source) h = refl
output_thing role h = absurd (true≢false (sym h))

-- ---- fewer items

fewer_apart : {A : Type 0} (R : A → A → Type 0) (test also : A → Bool)
    → ((x : A) → also x ≡ true → test x ≡ true) → (xs : List A)
    → Apart R (filter test xs) → Apart R (filter also xs)
fewer_apart R test also f xs h =
    subst (Apart R) (filter_twice test also f xs) (apart_kept R also (filter test xs) h)

-- ---- the ports of a cell

abbrev SameName : PartOf → PartOf → Type 0
SameName p q = p.name ≡ q.name → ⊥

things_apart : (c : CellOf) → IsCell c → Apart SameName (things_in c)
things_apart c i = apart_in_map (λ (p : PartOf). p.name) (λ a b. a ≡ b → ⊥) (things_in c)
    (different_apart (map (λ (p : PartOf). p.name) (things_in c)) i.thing_names)

-- the names of the parts that pass a test differ, where each is a thing
port_names : (test : Role → Bool)
    → ((role : Role) → test role ≡ true → is_thing role ≡ true) → (c : CellOf) → IsCell c
    → AreDifferent (map (λ (p : ℕ × PartOf). p.1.name) (parts_that test c))
port_names test f c i =
    apart_different (map (λ (p : ℕ × PartOf). p.1.name) (parts_that test c))
    (apart_of_map (λ (p : ℕ × PartOf). p.1.name) (λ a b. a ≡ b → ⊥) (parts_that test c)
    (apart_in_map (λ (p : ℕ × PartOf). p.1) SameName (parts_that test c)
    (subst (Apart SameName) (sym (kept_items (λ (p : PartOf). test p.role) 0 c.parts))
    (fewer_apart SameName (λ p. is_thing p.role) (λ p. test p.role)
    (λ p. f p.role) c.parts (things_apart c i)))))

length_parts : (test : Role → Bool) (c : CellOf)
    → length (parts_that test c) ≡ length (filter (λ (p : PartOf). test p.role) c.parts)
length_parts test c = sym (length-map (parts_that test c) (λ (p : ℕ × PartOf). p.1))
    ∙ ap length (kept_items (λ (p : PartOf). test p.role) 0 c.parts)

abbrev IsPortAt : (Role → Bool) → CellOf → ℕ × PartOf → Type 0
IsPortAt test c p = (slice_get c.parts p.0 ≡ Some p.1) × (test p.1.role ≡ true)

ports_known : (test : Role → Bool) (c : CellOf) → AllByRecursion (IsPortAt test c) (parts_that test c)
ports_known test c =
    all_and (λ (p : ℕ × PartOf). slice_get c.parts p.0 ≡ Some p.1)
    (λ (p : ℕ × PartOf). test p.1.role ≡ true) (parts_that test c)
    (all_kept (λ (p : ℕ × PartOf). slice_get c.parts p.0 ≡ Some p.1) (λ p. test p.1.role)
    (enumerate_from 0 c.parts) (known_numbers c.parts))
    (all_passing (λ (p : ℕ × PartOf). test p.1.role) (enumerate_from 0 c.parts))

port_width : (test : Role → Bool)
    → ((role : Role) → test role ≡ true → is_data_port role ≡ true) → (c : CellOf) → HasFewPorts c
    → (p : ℕ × PartOf) → IsPortAt test c p → part_width p.1 ≤ 64
port_width test f c few p k =
    let there = in_kept (λ (q : PartOf). is_data_port q.role) p.1 c.parts
    (record { place = p.0; is = k.0 }) (f p.1.role k.1) in
    all_at (λ (q : PartOf). part_width q ≤ 64)
    (filter (λ (q : PartOf). is_data_port q.role) c.parts) there.place p.1 few.widths there.is

module _ (cells : List CellOf) (entry : Wire) (net : Net) (shaped : IsShaped cells entry net)
    (wired : AreWired cells) (named : AllByRecursion IsCell cells) where
  abbrev IsInputPort : PortIn → Type 0
  IsInputPort port = (length port.bits.items ≤ 64) × All (IsInputOf net) port.bits.items

  input_good : (cell : ℕ) (c : CellOf) → slice_get cells cell ≡ Some c
      → HasFewPorts c → (p : ℕ × PartOf) (port : PortIn)
      → IsPortAt is_data_in c p → input_of cells entry cell p ≡ Ok port → IsInputPort port
  input_good cell c at few p port k h =
      let i = input_is cells entry cell p port h in
      let e : Entry = record { cell = cell; part = p.0; what = p.1 } in
      let there : part_at cells cell p.0 ≡ Some p.1 = ap (λ (o : Option CellOf). part_of o p.0) at ∙ k.0 in
      let R = λ (r : Ref) (s : Sig). input_from cells entry p.1.at r ≡ Ok s in
      let bits = each_paired (input_from cells entry p.1.at) (own_bits e) port.bits.items i.bits in
      let long = paired_length R (own_bits e) port.bits.items bits in
      let own = length_own e in
      let wide = port_width is_data_in input_port c few p k in (
        omega (arith, long, own, wide),
        All-from_recursion (IsInputOf net) port.bits.items
            (paired_all (IsRefOf cells) R (IsInputOf net)
            (λ r s g d. input_there cells entry net shaped wired p.1.at r s g d)
            (own_bits e) port.bits.items (own_there cells e there) bits),
      )

  pub instrument_good : (c : ℕ × CellOf) (inst : Inst)
      → (slice_get cells c.0 ≡ Some c.1) × (is_instrument c.1 ≡ true)
      → instrument_of cells entry c ≡ Ok inst → IsInst net inst
  instrument_good c inst k h =
      let i = instrument_is cells entry c inst h in
      let cell = all_at IsCell cells c.0 c.1 named k.0 in
      let few = cell.ports k.1 in
      let R = λ (p : ℕ × PartOf) (port : PortIn). input_of cells entry c.0 p ≡ Ok port in
      let S = λ (p : ℕ × PartOf) (port : PortOut). output_of p ≡ port in
      let ins = each_paired (input_of cells entry c.0)
      (parts_that is_data_in c.1) inst.ins.items i.ins in
      let outs = mapped_paired output_of (parts_that is_data_out c.1) inst.outs.items i.outs in
      let ins_long = paired_length R (parts_that is_data_in c.1) inst.ins.items ins in
      let outs_long = paired_length S (parts_that is_data_out c.1) inst.outs.items outs in
      let ins_are = length_parts is_data_in c.1 in
      let outs_are = length_parts is_data_out c.1 in
      let few_ins = few.inputs in
      let few_outs = few.outputs in
      let below = slice_get_within cells c.0 c.1 k.0 in
      let node = i.node in
      let nodes = shaped.nodes in
      record {
        node = omega (arith, below, node, nodes);
        few_inputs = omega (arith, ins_long, ins_are, few_ins);
        few_outputs = omega (arith, outs_long, outs_are, few_outs);
        inputs = All-from_recursion IsInputPort inst.ins.items
            (paired_all (IsPortAt is_data_in c.1) R IsInputPort (input_good c.0 c.1 k.0 few)
            (parts_that is_data_in c.1) inst.ins.items (ports_known is_data_in c.1) ins);
        outputs = All-from_recursion (λ (port : PortOut). port.width ≤ 64) inst.outs.items
            (paired_all (IsPortAt is_data_out c.1) S (λ (port : PortOut). port.width ≤ 64)
            (λ p port g e. subst (λ (n : ℕ). n ≤ 64) (ap (λ (x : PortOut). x.width) e)
            (port_width is_data_out output_port c.1 few p g))
            (parts_that is_data_out c.1) inst.outs.items (ports_known is_data_out c.1) outs);
        input_names =
            subst AreDifferent (paired_maps R (λ p. p.1.name) (λ port. port.name.items)
            (λ p port g. (input_is cells entry c.0 p port g).name)
            (parts_that is_data_in c.1) inst.ins.items ins)
            (port_names is_data_in input_thing c.1 cell);
        output_names =
            subst AreDifferent (paired_maps S (λ p. p.1.name) (λ port. port.name.items)
            (λ p port e. ap (λ (x : PortOut). x.name.items) e) (parts_that is_data_out c.1)
            inst.outs.items outs)
            (port_names is_data_out output_thing c.1 cell);
      }

pub instruments_good : (cells : List CellOf) (net : Net) (n : IsNetOf cells net)
    → IsShaped cells n.entry net → AreWired cells
    → AllByRecursion IsCell cells → All (IsInst net) net.insts.items
instruments_good cells net n shaped wired named =
    All-from_recursion (IsInst net) net.insts.items
    (paired_all (λ (c : ℕ × CellOf). (slice_get cells c.0 ≡ Some c.1) × (is_instrument c.1 ≡ true))
    (λ (c : ℕ × CellOf) (i : Inst). instrument_of cells n.entry c ≡ Ok i) (IsInst net)
    (instrument_good cells n.entry net shaped wired named)
    (instruments cells) net.insts.items (all_instruments_known cells)
    (each_paired (instrument_of cells n.entry) (instruments cells) net.insts.items n.insts))

-- no node is two instruments
pub instrument_nodes : (cells : List CellOf) (net : Net) (n : IsNetOf cells net)
    → AreDifferent (map (λ (i : Inst). i.node) net.insts.items)
instrument_nodes cells net n =
    subst AreDifferent
    (paired_maps (λ (c : ℕ × CellOf) (i : Inst). instrument_of cells n.entry c
    ≡ Ok i) (λ c. c.0) (λ i. i.node)
    (λ c i h. (instrument_is cells n.entry c i h).node) (instruments cells) net.insts.items
    (each_paired (instrument_of cells n.entry) (instruments cells) net.insts.items n.insts))
    (apart_different (map (λ (c : ℕ × CellOf). c.0) (instruments cells))
    (apart_of_map (λ (c : ℕ × CellOf). c.0) (λ a b. a ≡ b → ⊥) (instruments cells)
    (apart_weaker (λ (p q : ℕ × CellOf). p.0 < q.0) (λ p q. p.0 ≡ q.0
    → ⊥) (λ p q lt e. omega (arith, lt, e)) (instruments cells)
    (apart_kept (λ (p q : ℕ × CellOf). p.0 < q.0) (λ c. is_instrument c.1)
    (enumerate_from 0 cells) (numbers_rise 0 cells)))))
