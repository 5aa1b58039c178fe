-- What procedures may name is well formed in the network of a hierarchy.
use Rattle.std.proofs.Common.{◌≡◌, ◌+◌, ◌-◌, ◌<◌, ℕ, zero, suc, Bool, true, false, List, [], ◌∷◌, map, length}
use Rattle.std.proofs.Common.{get_or, filter, IsTrue, Option, Some, None, Ok, Err, refl, sym, ap, subst, ◌∙◌}
use Rattle.std.proofs.Common.{arith}
use Rattle.std.specs.Prelude.{All, slice_get}
use Rattle.std.specs.List.{AllByRecursion, enumerate_from, range_with_len}
use Rattle.std.proofs.lemmas.List.{length-map}
use Rattle.std.proofs.lemmas.List.Elements.{All-from_recursion}
use Rattle.ij_bits.specs.Different.{AreDifferent}
use Rattle.ij_bits.specs.Room.{Listed}
use Rattle.ij_bits.specs.declared.tern.Tern.{Tern}
use Rattle.ij_text.specs.Numbers.{tern_bits}
use Rattle.ij_text.specs.Words.{is_name}
use Rattle.icl_elab.specs.WellFormed.{is_register, is_thing, things_in, IsCell}
use Rattle.icl_references.specs.declared.hier.Ref.{Ref}
use Rattle.icl_references.specs.declared.hier.Ref.TheVariants.{Fixed, Bit as RefBit}
use Rattle.icl_references.specs.Roles.{Role, DataInput, AScanRegister, AnAliasOf, Word, PartOf, CellOf}
use Rattle.icl_references.specs.Roles.{part_at, part_width, seen_word}
use Rattle.icl_elab.specs.Laws.{IsRefOf, IsRole, AreWired}
use Rattle.net_graph.specs.declared.net.Net.{Net}
use Rattle.net_graph.specs.declared.net.Sig.{Sig}
use Rattle.net_graph.specs.declared.net.Spot.{Spot}
use Rattle.net_graph.specs.declared.net.Spot.TheVariants.{Held}
use Rattle.net_graph.specs.declared.net.Thing.{Thing}
use Rattle.net_graph.specs.Named.{IsSignalOf, IsSpotOf, bits_from, bits_of_thing, thing_of as thing_number}
use Rattle.net_graph.specs.Named.{width_of}
use Rattle.net_graph.specs.Nets.{IsThing, HaveThings}
use Rattle.icl_signals.specs.declared.wires.Wire.{Wire}
use Rattle.icl_signals.specs.Moves.{Entry, entry_of, entries_in}
use Rattle.icl_signals.specs.Refusals.{Answer}
use Rattle.icl_signals.specs.Connecting.{entries_that, number_among, constant, or_absent, one_bit_of}
use Rattle.icl_signals.specs.Connecting.{own_bits, data_from, signal_from, spot_by, spot_in, spot_of, refs_of}
use Rattle.icl_signals.specs.Connecting.{thing_of}
use Rattle.icl_signals.proofs.Joined.{part_wired}
use Rattle.icl_signals.proofs.Paired.{paired_maps, paired_all, mapped_paired, all_at, all_weaker, all_of_map}
use Rattle.icl_signals.proofs.Paired.{all_in_map, at_place}
use Rattle.icl_signals.proofs.ApartItems.{Apart, apart_weaker, apart_of_map, apart_in_map, apart_different}
use Rattle.icl_signals.proofs.ApartItems.{different_apart}
use Rattle.icl_signals.proofs.EntryNumbers.{IsKept, all_kept_known, the_entry, entry_of_number}
use Rattle.icl_signals.proofs.EntryNumbers.{number_of_entry, cells_apart}
use Rattle.icl_signals.proofs.NetParts.{IsNetOf, thing_is}
use Rattle.icl_signals.proofs.NetSignals.{IsShaped, bits_of_entry, IsDriven, driven_signal}
use Rattle.icl_signals.proofs.NetSignals.{register_bit_there, constant_driven, data_there}
use Rattle.icl_signals.proofs.PartFacts.{cell_below, part_named, length_own, own_there}
use Rattle.ij_bits.proofs.Lists.{get_mapped}
use Rattle.ij_text.proofs.Numbers.{tern_length}

module _ (cells : List CellOf) (entry : Wire) (net : Net)
    (shaped : IsShaped cells entry net) (wired : AreWired cells) where
  -- ---- what a reference names

  answer_good : (a : Answer Sig) → ((s : Sig) → a ≡ Ok s → IsDriven net s) → IsSignalOf net (or_absent a)
  answer_good (Ok s) h = driven_signal net s (h s refl)
  answer_good (Err e) h = tt

  signal_good : (p : PartOf) (r : Ref) → IsRefOf cells r → IsSignalOf net (signal_from cells entry p r)
  signal_good p r h = answer_good (data_from cells entry p.at r)
      (λ s e. data_there cells entry net shaped wired p.at r s h e)

  role_spot : (w : Wire) (r : Ref) (p : PartOf) → part_at cells w.cell w.part ≡ Some p
      → IsRefOf cells (RefBit w.cell w.part w.pos false) → IsRefOf cells r → (role : Role) → p.role ≡ role
      → IsSpotOf net (spot_by cells entry p w r role)
  role_spot w r p e h g (AScanRegister scan capture reset) f =
      register_bit_there cells entry net shaped w p e (ap is_register f) h
  role_spot w r p e h g (DataInput bound) f = signal_good p r g
  role_spot w r p e h g role f = signal_good p r g

  part_spot : (w : Wire) (r : Ref) → IsRefOf cells (RefBit w.cell w.part w.pos false)
      → IsRefOf cells r → (o : Option PartOf)
      → part_at cells w.cell w.part ≡ o → IsSpotOf net (spot_in cells entry w r o)
  part_spot w r h g None e = tt
  part_spot w r h g (Some p) e = role_spot w r p e h g p.role refl

  spot_good : (r : Ref) → IsRefOf cells r → IsSpotOf net (spot_of cells entry r)
  spot_good (Fixed b) h = driven_signal net (constant b) (constant_driven cells entry net shaped b)
  spot_good (RefBit cell part pos inverted) h = part_spot (record { cell = cell; part = part; pos = pos })
      (RefBit cell part pos inverted) h h (part_at cells cell part) refl

  -- ---- the bits of a thing

  refs_long : (e : Entry) (role : Role) → IsRole (IsRefOf cells) (part_width e.what) role
      → length (refs_of cells entry e role) ≡ part_width e.what
  refs_long e (AnAliasOf refs) h = h.1
  refs_long e role h = length_own e

  refs_there : (e : Entry) (role : Role) → part_at cells e.cell e.part ≡ Some e.what
      → IsRole (IsRefOf cells) (part_width e.what) role
      → AllByRecursion (IsRefOf cells) (refs_of cells entry e role)
  refs_there e (AnAliasOf refs) k h = h.0
  refs_there e role k h = own_there cells e k

  module _ (named : AllByRecursion IsCell cells) where
    pub thing_good : (e : Entry) (t : Thing) → IsKept cells is_thing e
        → thing_of cells entry e ≡ t → IsThing net t
    thing_good e t k h =
        let i = thing_is cells entry e t h in
        let part = part_wired cells wired e.cell e.part e.what k.0 in
        let names = part_named cells named e.cell e.part e.what k.0 in
        let refs = refs_of cells entry e e.what.role in
        let long : part_width e.what ≡ length t.bits.items = sym (refs_long e e.what.role part.role)
        ∙ sym (length-map refs (spot_of cells entry)) ∙ ap length i.bits in
        let below = cell_below cells e.cell e.part e.what k.0 in
        let node = i.node in
        let nodes = shaped.nodes in
        let few = names.bits_within_limit in
        let spots = all_of_map (spot_of cells entry) (IsSpotOf net) refs
        (all_weaker (IsRefOf cells) (λ r. IsSpotOf net (spot_of cells entry r)) spot_good refs
        (refs_there e e.what.role k.0 part.role)) in
        let words : AllByRecursion (λ (w : Word). length w.value ≡ part_width e.what)
        (map seen_word t.words.items) =
        subst (AllByRecursion (λ (w : Word). length w.value ≡ part_width e.what)) i.words part.words in
        record {
          node = omega (arith, below, node, nodes);
          named = subst (λ (n : List ℕ). IsTrue (is_name n)) i.name names.name;
          wide = sym long ∙ ap (λ (n : ℕ). (n - e.what.right) + (e.what.right - n) + 1) i.left
              ∙ ap (λ (n : ℕ). (t.left - n) + (n - t.left) + 1) i.right;
          bits_within_limit = omega (arith, long, few);
          spots = All-from_recursion (IsSpotOf net) t.bits.items
              (subst (AllByRecursion (IsSpotOf net)) i.bits spots);
          words = All-from_recursion
              (λ (w : Listed ℕ × Tern). length w.1.value.items ≡ length t.bits.items) t.words.items
              (all_weaker (λ (w : Listed ℕ × Tern). length (tern_bits w.1) ≡ part_width e.what)
              (λ w. length w.1.value.items ≡ length t.bits.items)
              (λ w g. sym (tern_length w.1) ∙ g ∙ long) t.words.items
              (all_in_map seen_word (λ (w : Word). length w.value ≡ part_width e.what) t.words.items words));
          word_names = subst AreDifferent (word_names_are t.words.items)
              (subst (λ (ws : List Word). AreDifferent (map (λ (w : Word). w.name) ws)) i.words names.words);
        }
      where
        word_names_are : (ws : List (Listed ℕ × Tern))
            → map (λ (w : Word). w.name) (map seen_word ws) ≡ map (λ (w : Listed ℕ × Tern). w.0.items) ws
        word_names_are [] = refl
        word_names_are (w ∷ ws) = ap (λ l. w.0.items ∷ l) (word_names_are ws)

  -- ---- the things of registers

  held : (e : Entry) (r s n : ℕ) → part_at cells e.cell e.part ≡ Some e.what → is_register e.what.role ≡ true
      → number_among is_register cells e.cell e.part ≡ r
      → map (spot_of cells entry) (map (one_bit_of e.cell e.part) (range_with_len s n))
      ≡ map Held (bits_from r s n)
  held e r s zero k t h = refl
  held e r s (suc n) k t h =
      let next : s + 1 ≡ suc s = omega arith in
      ap (λ (x : Spot). x ∷ map (spot_of cells entry)
      (map (one_bit_of e.cell e.part) (range_with_len (s + 1) n))) (one e.what.role refl t)
      ∙ ap (λ (l : List Spot). Held (record { reg = r; pos = s }) ∷ l)
      (ap (λ (j : ℕ). map (spot_of cells entry) (map (one_bit_of e.cell e.part) (range_with_len j n))) next
      ∙ held e r (suc s) n k t h)
    where
      w : Wire
      w = record { cell = e.cell; part = e.part; pos = s }

      one : (role : Role) → e.what.role ≡ role → is_register role ≡ true
          → spot_in cells entry w (RefBit e.cell e.part s false)
          (part_at cells e.cell e.part) ≡ Held (record { reg = r; pos = s })
      one (AScanRegister scan capture reset) f u =
          ap (spot_in cells entry w (RefBit e.cell e.part s false)) k
          ∙ ap (spot_by cells entry e.what w (RefBit e.cell e.part s false)) f
          ∙ ap (λ (n : ℕ). Held (record { reg = n; pos = s })) h
      one role f u = absurd cc

  own_refs : (e : Entry) (role : Role) → is_register role ≡ true → refs_of cells entry e role ≡ own_bits e
  own_refs e (AScanRegister scan capture reset) h = refl
  own_refs e role h = absurd cc

  register_things : (r : ℕ) → r < length net.regs.items
      → bits_of_thing net (thing_number net r) ≡ map Held (bits_from r 0 (width_of net r))
  register_things r lt =
      let long = shaped.regs in
      let p = at_place (entries_that is_register cells) r (omega (arith, lt, long)) in
      let k = all_at (IsKept cells is_register) (entries_that is_register cells) r p.item
      (all_kept_known cells is_register) p.is in
      by_entry p.item p.is k.0 k.1
    where
      by_entry : (e : Entry) → slice_get (entries_that is_register cells) r ≡ Some e
          → part_at cells e.cell e.part ≡ Some e.what
          → is_register e.what.role ≡ true
          → bits_of_thing net (thing_number net r) ≡ map Held (bits_from r 0 (width_of net r))
      by_entry e at k t =
          let number : thing_number net r
          ≡ number_among is_thing cells e.cell e.part = ap (λ l. get_or l r 0) shaped.numbers
          ∙ get_mapped (λ (x : Entry). number_among is_thing cells x.cell x.part) 0
          (entries_that is_register cells) r e at in
          let wide : width_of net r ≡ part_width e.what = ap (λ l. get_or l r 0) shaped.widths
          ∙ get_mapped (λ (x : Entry). part_width x.what) 0 (entries_that is_register cells) r e at in
          let there = entry_of_number is_thing cells e.cell e.part e.what k (is_also e.what.role t) in
          ap (bits_of_thing net) number
          ∙ ap (λ l. get_or l (number_among is_thing cells e.cell e.part) []) shaped.bits
          ∙ get_mapped (bits_of_entry cells entry) [] (entries_that is_thing cells)
          (number_among is_thing cells e.cell e.part)
          (the_entry e.cell e.part e.what) there
          ∙ ap (map (spot_of cells entry)) (own_refs (the_entry e.cell e.part e.what) e.what.role t)
          ∙ held e r 0 (part_width e.what) k t (number_of_entry is_register cells r e at)
          ∙ ap (λ (n : ℕ). map Held (bits_from r 0 n)) (sym wide)
        where
          is_also : (role : Role) → is_register role ≡ true → is_thing role ≡ true
          is_also (AScanRegister scan capture reset) h = refl
          is_also role h = absurd cc

  pub have_things : HaveThings net
  have_things = register_things

pub things_good : (cells : List CellOf) (net : Net) (n : IsNetOf cells net)
    → IsShaped cells n.entry net → AreWired cells
    → AllByRecursion IsCell cells → All (IsThing net) net.things.items
things_good cells net n shaped wired named =
    All-from_recursion (IsThing net) net.things.items
    (paired_all (IsKept cells is_thing)
    (λ (e : Entry) (t : Thing). thing_of cells n.entry e ≡ t) (IsThing net)
    (thing_good cells n.entry net shaped wired named)
    (entries_that is_thing cells) net.things.items (all_kept_known cells is_thing)
    (mapped_paired (thing_of cells n.entry)
    (entries_that is_thing cells) net.things.items n.things))

-- ---- no two things of a node have one name

abbrev named_at : Entry → ℕ × List ℕ
named_at e = (e.cell, e.what.name)

abbrev OtherName : Entry → Entry → Type 0
OtherName e f = named_at e ≡ named_at f → ⊥

pub whats : (test : Role → Bool) (n s : ℕ) (ps : List PartOf)
    → map (λ (e : Entry). e.what)
    (filter (λ (e : Entry). test e.what.role) (map (entry_of n) (enumerate_from s ps)))
    ≡ filter (λ (p : PartOf). test p.role) ps
whats test n s [] = refl
whats test n s (p ∷ ps) = by_test (test p.role) refl (whats test n (s + 1) ps)
  where
    by_test : (b : Bool) → test p.role ≡ b
        → map (λ (e : Entry). e.what)
        (filter (λ (e : Entry). test e.what.role) (map (entry_of n) (enumerate_from (s + 1) ps)))
        ≡ filter (λ (q : PartOf). test q.role) ps
        → map (λ (e : Entry). e.what) (filter (λ (e : Entry). test e.what.role)
        (map (entry_of n) (enumerate_from s (p ∷ ps)))) ≡ filter (λ (q : PartOf). test q.role) (p ∷ ps)
    by_test true e h = rw e (ap (λ l. p ∷ l) h)
    by_test false e h = rw e h

cell_names : (n : ℕ) (c : CellOf) → IsCell c
    → Apart OtherName (filter (λ (e : Entry). is_thing e.what.role) (entries_in (n, c)))
cell_names n c i =
    let es = filter (λ (e : Entry). is_thing e.what.role) (entries_in (n, c)) in
    let names = apart_in_map (λ (p : PartOf). p.name) (λ a b. a ≡ b → ⊥) (things_in c)
    (different_apart (map (λ (p : PartOf). p.name) (things_in c)) i.thing_names) in
    apart_weaker (λ (e f : Entry). e.what.name ≡ f.what.name
    → ⊥) OtherName (λ e f h g. h (ap (λ (x : ℕ × List ℕ). x.1) g)) es
    (apart_in_map (λ (e : Entry). e.what) (λ (p q : PartOf). p.name ≡ q.name → ⊥) es
    (subst (Apart (λ (p q : PartOf). p.name ≡ q.name → ⊥)) (sym (whats is_thing n 0 c.parts)) names))

pub thing_names : (cells : List CellOf) (net : Net) (n : IsNetOf cells net) → AllByRecursion IsCell cells
    → AreDifferent {A = ℕ × List ℕ} (map (λ (t : Thing). (t.node, t.name.items)) net.things.items)
thing_names cells net n named =
    subst AreDifferent
    (paired_maps (λ (e : Entry) (t : Thing). thing_of cells n.entry e ≡ t) named_at
    (λ t. (t.node, t.name.items))
    (λ e t h. let i = thing_is cells n.entry e t h in
    ap (λ (k : ℕ). (k, e.what.name)) i.node ∙ ap (λ (l : List ℕ). (t.node, l)) i.name)
    (entries_that is_thing cells) net.things.items (mapped_paired (thing_of cells n.entry)
    (entries_that is_thing cells) net.things.items n.things))
    (apart_different (map named_at (entries_that is_thing cells))
    (apart_of_map named_at (λ a b. a ≡ b → ⊥) (entries_that is_thing cells)
    (cells_apart OtherName (λ (e : Entry). is_thing e.what.role)
    (λ e f lt g. let same : e.cell ≡ f.cell = ap (λ (x : ℕ × List ℕ). x.0) g in
    omega (arith, lt, same)) 0 cells (by_cell 0 cells named))))
  where
    by_cell : (s : ℕ) (cs : List CellOf) → AllByRecursion IsCell cs
        → AllByRecursion (λ (c : ℕ × CellOf). Apart OtherName
        (filter (λ (e : Entry). is_thing e.what.role) (entries_in c))) (enumerate_from s cs)
    by_cell s [] h = tt
    by_cell s (c ∷ cs) h = (cell_names s c h.0, by_cell (s + 1) cs h.1)
