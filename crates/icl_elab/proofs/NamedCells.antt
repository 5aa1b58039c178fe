-- The names of a cell's parts, the ports of an instrument, and what holds of every hierarchy.
use Rattle.std.proofs.Common.{◌≡◌, ◌≤◌, ℕ, zero, suc, Bool, true, false, cond, ◌||◌, List, [], ◌∷◌, length}
use Rattle.std.proofs.Common.{map, Option, refl, sym, ap, subst, ◌∙◌, arith}
use Rattle.std.specs.Prelude.{Contains, filter, zip, IfSome, IsTrue}
use Rattle.std.specs.List.{AllByRecursion}
use Rattle.std.proofs.lemmas.Bool.{true≢false}
use Rattle.std.proofs.lemmas.List.Sums.{length-filter}
use Rattle.ij_bits.specs.Different.{AreDifferent}
use Rattle.ij_text.specs.Words.{is_name}
use Rattle.icl_lexer.specs.Values.{SeenWhat, SeenItem}
use Rattle.icl_declarations.specs.declared.ranges.Bounds.{Bounds}
use Rattle.icl_declarations.specs.Parts.{is_part, is_signal, is_interface, is_link, port_that}
use Rattle.icl_declarations.specs.Parts.{is_data_in as is_data_in_kind, is_data_out as is_data_out_kind}
use Rattle.icl_declarations.specs.Parts.{is_data_port as is_data_port_item, parts_of}
use Rattle.icl_declarations.specs.Ranges.{width}
use Rattle.icl_frames.specs.FirstPass.{Frame}
use Rattle.icl_frames.specs.Laws.{IsFrame, HasFewPorts as FrameHasFewPorts}
use Rattle.icl_frames.specs.Written.{IsWrittenItem, IsWrittenFrame}
use Rattle.icl_frames.proofs.Paired.{Paired}
use Rattle.icl_frames.proofs.Siblings.{frames_are_tree}
use Rattle.icl_frames.proofs.Holding.{frames_are_declared, frames_are_few}
use Rattle.icl_frames.proofs.WrittenFrames.{frames_are_written}
use Rattle.icl_references.specs.Names.{members_from}
use Rattle.icl_references.specs.Roles.{PartOf, CellOf, part_width}
use Rattle.icl_elab.specs.WellFormed.{is_data_in, is_data_out, is_data_port, is_thing, is_instrument}
use Rattle.icl_elab.specs.WellFormed.{things_in, IsPartNamed, HasFewPorts, IsCell, HierarchiesAreInTree}
use Rattle.icl_elab.specs.WellFormed.{HierarchiesAreFew, HierarchiesAreWellFormed}
use Rattle.icl_elab.proofs.CellsOfFrames.{IsPartOfMember, IsCellOfFrame, cells_of_frames}
use Rattle.icl_elab.proofs.CountedCells.{count_cell, data_part, instrument_same, tree_of_frames}
use Rattle.icl_elab.proofs.CountedCells.{few_of_frames}
use Rattle.icl_elab.proofs.PartWords.{HasInner}
use Rattle.icl_elab.proofs.Wiring.{hierarchies_are_wired}
use Rattle.icl_elab.proofs.SoundValues.{AreSound, frames_sound}
use Rattle.ij_bits.proofs.Contained.{later_in}
use Rattle.ij_bits.proofs.Everywhere.{all_kept}
use Rattle.ij_bits.proofs.Lists.{filter_twice}

-- ---- two lists of which the second has fewer items, under the same names

module _ {A B : Type 0} (f : A → List ℕ) (g : B → List ℕ) (x : A) (y : B) (xs : List A) (ys : List B) where
  among_more : (s t : Bool) → (t ≡ true → s ≡ true) → g y ≡ f x → (z : List ℕ)
      → (Contains (map g ys) z → Contains (map f xs) z)
      → Contains (map g (cond t (y ∷ ys) ys)) z → Contains (map f (cond s (x ∷ xs) xs)) z
  among_more true true w e z h (zero, l, q) = (zero, omega arith, sym e ∙ q)
  among_more true true w e z h (suc k, l, q) = later_in (f x) z (map f xs) (h (k, omega (arith, l), q))
  among_more true false w e z h c = later_in (f x) z (map f xs) (h c)
  among_more false true w e z h c = absurd (true≢false (sym (w refl)))
  among_more false false w e z h c = h c

  apart_more : (s t : Bool) → (t ≡ true → s ≡ true) → g y ≡ f x
      → ((z : List ℕ) → Contains (map g ys) z → Contains (map f xs) z)
      → (AreDifferent (map f xs) → AreDifferent (map g ys))
      → AreDifferent (map f (cond s (x ∷ xs) xs)) → AreDifferent (map g (cond t (y ∷ ys) ys))
  apart_more true true w e among again d =
      (λ c. d.0 (subst (Contains (map f xs)) e (among (g y) c)), again d.1)
  apart_more true false w e among again d = again d.1
  apart_more false true w e among again d = absurd (true≢false (sym (w refl)))
  apart_more false false w e among again d = again d

-- ---- things

abbrev signals : List SeenItem → List SeenItem
signals items = filter (λ item. is_signal item.what) items

abbrev things : List PartOf → List PartOf
things ps = filter (λ p. is_thing p.role) ps

abbrev name_of_item : SeenItem → List ℕ
name_of_item item = item.name

abbrev name_of_part : PartOf → List ℕ
name_of_part p = p.name

things_among : (f : Frame) (n : ℕ) (items : List SeenItem) (bs : List Bounds) (ps : List PartOf)
    → Paired (IsPartOfMember f) (members_from n items bs) ps
    → (z : List ℕ) → Contains (map name_of_part (things ps)) z → Contains (map name_of_item (signals items)) z
things_among f n [] bs [] h z c = c
things_among f n [] bs (p ∷ ps) h z c = absurd h
things_among f n (item ∷ items) [] [] h z c = absurd h
things_among f n (item ∷ items) (b ∷ bs) [] h z c = absurd h
things_among f n (item ∷ items) [] (p ∷ ps) h z c =
    let i = h.0 in
    among_more name_of_item name_of_part item p (signals items) (things ps) (is_signal item.what)
    (is_thing p.role) i.kind.6 i.name z (things_among f (suc n) items [] ps h.1 z) c
things_among f n (item ∷ items) (b ∷ bs) (p ∷ ps) h z c =
    let i = h.0 in
    among_more name_of_item name_of_part item p (signals items) (things ps) (is_signal item.what)
    (is_thing p.role) i.kind.6 i.name z (things_among f (suc n) items bs ps h.1 z) c

things_apart : (f : Frame) (n : ℕ) (items : List SeenItem) (bs : List Bounds) (ps : List PartOf)
    → Paired (IsPartOfMember f) (members_from n items bs) ps
    → AreDifferent (map name_of_item (signals items)) → AreDifferent (map name_of_part (things ps))
things_apart f n [] bs [] h d = tt
things_apart f n [] bs (p ∷ ps) h d = absurd h
things_apart f n (item ∷ items) [] [] h d = absurd h
things_apart f n (item ∷ items) (b ∷ bs) [] h d = absurd h
things_apart f n (item ∷ items) [] (p ∷ ps) h d =
    let i = h.0 in
    apart_more name_of_item name_of_part item p (signals items) (things ps) (is_signal item.what)
    (is_thing p.role) i.kind.6 i.name (things_among f (suc n) items [] ps h.1)
    (things_apart f (suc n) items [] ps h.1) d
things_apart f n (item ∷ items) (b ∷ bs) (p ∷ ps) h d =
    let i = h.0 in
    apart_more name_of_item name_of_part item p (signals items) (things ps) (is_signal item.what)
    (is_thing p.role) i.kind.6 i.name (things_among f (suc n) items bs ps h.1)
    (things_apart f (suc n) items bs ps h.1) d

-- signals are parts
signal_part : (what : SeenWhat) → is_signal what ≡ true → is_part what ≡ true
signal_part what h = ap (λ (b : Bool). b || is_interface what || is_link what) h

pub thing_names : (f : Frame) (c : CellOf) → IsFrame f → IsCellOfFrame f c
    → AreDifferent (map name_of_part (things_in c))
thing_names f c h i =
    let same : signals (parts_of f.block)
    ≡ signals f.block.items = filter_twice (λ (item : SeenItem). is_part item.what)
    (λ item. is_signal item.what) (λ item e. signal_part item.what e) f.block.items in
    things_apart f 0 (parts_of f.block) f.bounds c.parts i.parts
    (subst (λ items. AreDifferent (map name_of_item items)) (sym same) h.signals)

-- ---- the ports of an instrument

widths_few : (f : Frame) (n : ℕ) (items : List SeenItem) (bs : List Bounds) (ps : List PartOf)
    → length bs ≡ length items
    → Paired (IsPartOfMember f) (members_from n items bs) ps
    → AllByRecursion (λ (p : SeenItem × Bounds). is_data_port_item p.0.what ≡ true
    → width p.1 ≤ 64) (zip items bs)
    → AllByRecursion (λ p. part_width p ≤ 64) (filter (λ p. is_data_port p.role) ps)
widths_few f n [] [] [] l h w = tt
widths_few f n [] [] (p ∷ ps) l h w = absurd h
widths_few f n [] (b ∷ bs) ps l h w = absurd (omega (arith, l))
widths_few f n (item ∷ items) [] ps l h w = absurd (omega (arith, l))
widths_few f n (item ∷ items) (b ∷ bs) [] l h w = absurd h
widths_few f n (item ∷ items) (b ∷ bs) (p ∷ ps) l h w =
    by_test (is_data_port p.role) refl (widths_few f (suc n) items bs ps (omega (arith, l)) h.1 w.1)
  where
    by_test : (t : Bool) → is_data_port p.role ≡ t
        → AllByRecursion (λ p. part_width p ≤ 64) (filter (λ p. is_data_port p.role) ps)
        → AllByRecursion (λ p. part_width p ≤ 64)
        (cond t (p ∷ filter (λ p. is_data_port p.role) ps) (filter (λ p. is_data_port p.role) ps))
    by_test true e rest = let i = h.0 in (subst (λ k. k ≤ 64) (sym i.wide) (w.0 (sym i.kind.4 ∙ e)), rest)
    by_test false e rest = rest

pub few_ports : (f : Frame) (c : CellOf) → IsFrame f → IsCellOfFrame f c
    → is_instrument c ≡ true → HasFewPorts c
few_ports f c h i e =
    let ports : FrameHasFewPorts f = h.ports (sym (instrument_same f c i) ∙ e) in
    let ins = count_cell f c (λ p. is_data_in p.role) (port_that is_data_in_kind)
    (λ m p j. j.kind.2) (data_part is_data_in_kind) i in
    let outs = count_cell f c (λ p. is_data_out p.role) (port_that is_data_out_kind)
    (λ m p j. j.kind.3) (data_part is_data_out_kind) i in
    record {
      inputs = subst (λ n. n ≤ 16)
          (sym (length-filter (λ (p : PartOf). is_data_in p.role) c.parts ∙ ins)) ports.inputs;
      outputs = subst (λ n. n ≤ 16)
          (sym (length-filter (λ (p : PartOf). is_data_out p.role) c.parts ∙ outs)) ports.outputs;
      widths = widths_few f 0 (parts_of f.block) f.bounds c.parts h.all i.parts ports.widths;
    }

-- ---- names of ICL

-- a written item's part, in a module whose names differ
parts_named : (f : Frame) (n : ℕ) (items : List SeenItem) (bs : List Bounds) (ps : List PartOf)
    → length bs ≡ length items
    → HasInner f → AreSound f.params
    → AllByRecursion IsWrittenItem items → AllByRecursion (λ b. width b ≤ 65536) bs
    → Paired (IsPartOfMember f) (members_from n items bs) ps → AllByRecursion IsPartNamed ps
parts_named f n [] [] [] l inner sound w few h = tt
parts_named f n [] [] (p ∷ ps) l inner sound w few h = absurd h
parts_named f n [] (b ∷ bs) ps l inner sound w few h = absurd (omega (arith, l))
parts_named f n (item ∷ items) [] ps l inner sound w few h = absurd (omega (arith, l))
parts_named f n (item ∷ items) (b ∷ bs) [] l inner sound w few h = absurd h
parts_named f n (item ∷ items) (b ∷ bs) (p ∷ ps) l inner sound w few h =
    let i = h.0 in
    let own = w.0 in
    let first : IsPartNamed p =
    record {
      name = subst (λ z. IsTrue (is_name z)) (sym i.name) own.name;
      bits_within_limit =
          subst (λ k. k ≤ 65536) (sym i.wide) few.0;
      rows = i.rows sound own.what;
      words = i.words inner;
    } in
    (first, parts_named f (suc n) items bs ps (omega (arith, l)) inner sound w.1 few.1 h.1)

-- ---- cells

cell_is : (f : Frame) (c : CellOf) → IsFrame f → IsWrittenFrame f
    → AreSound f.params → IsCellOfFrame f c → IsCell c
cell_is f c h w sound i =
    let block = w.block in
    record {
      name = subst (λ (o : Option ℕ). IfSome o (λ parent. IsTrue (is_name c.name))) (sym i.parent)
          (subst (λ z. IfSome f.parent (λ parent. IsTrue (is_name z))) (sym i.name) w.name);
      parts = parts_named f 0 (parts_of f.block) f.bounds c.parts h.all h.inner sound
          (all_kept IsWrittenItem (λ item. is_part item.what) f.block.items block.items) h.widths i.parts;
      thing_names = thing_names f c h i;
      ports = few_ports f c h i;
    }

cells_are : (frames : List Frame) (cells : List CellOf)
    → AllByRecursion IsFrame frames → AllByRecursion IsWrittenFrame frames
    → AllByRecursion (λ (f : Frame). AreSound f.params) frames
    → Paired IsCellOfFrame frames cells → AllByRecursion IsCell cells
cells_are [] [] h w sound p = tt
cells_are [] (c ∷ cells) h w sound p = absurd p
cells_are (f ∷ frames) [] h w sound p = absurd p
cells_are (f ∷ frames) (c ∷ cells) h w sound p =
    (cell_is f c h.0 w.0 sound.0 p.0, cells_are frames cells h.1 w.1 sound.1 p.1)

-- ---- hierarchies

pub hierarchies_are_in_tree : HierarchiesAreInTree
hierarchies_are_in_tree blocks top cells h =
    let a = cells_of_frames blocks top cells h in
    tree_of_frames blocks a.frames cells (frames_are_tree blocks top a.frames a.entered) a.paired

pub hierarchies_are_few : HierarchiesAreFew
hierarchies_are_few blocks top cells h =
    let a = cells_of_frames blocks top cells h in
    few_of_frames a.frames cells (frames_are_few blocks top a.frames a.entered)
    (frames_are_declared blocks top a.frames a.entered) a.paired

pub hierarchies_are_well_formed : HierarchiesAreWellFormed
hierarchies_are_well_formed blocks top cells w h =
    let a = cells_of_frames blocks top cells h in
    let tree = hierarchies_are_in_tree blocks top cells h in
    let few = hierarchies_are_few blocks top cells h in
    record {
      wired = hierarchies_are_wired blocks top cells h;
      top = tree.top;
      parents = tree.parents;
      siblings = tree.siblings;
      cells_are = cells_are a.frames cells (frames_are_declared blocks top a.frames a.entered)
          (frames_are_written blocks top a.frames w a.entered)
          (frames_sound blocks top a.frames a.entered) a.paired;
      few_cells = few.few_cells;
      few_levels = tree.few_levels;
      bits_within_limit = few.bits_within_limit;
      few_muxes = few.few_muxes;
      few_instruments = few.few_instruments;
    }
