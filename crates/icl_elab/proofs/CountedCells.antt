-- The tree of the cells and their counts are those of the frames.
use Rattle.std.proofs.Common.{◌≡◌, ◌+◌, ◌≤◌, ℕ, suc, Bool, true, false, not, cond, ◌&&◌, ◌||◌, List, [], ◌∷◌}
use Rattle.std.proofs.Common.{◌++◌, length, map, Option, refl, sym, ap, subst, ◌∙◌, arith}
use Rattle.std.specs.Prelude.{filter, zip, sum_by, count_by, is_some}
use Rattle.std.specs.List.{AllByRecursion, list_any, enumerate_from}
use Rattle.std.proofs.lemmas.Bool.{true≢false}
use Rattle.std.proofs.lemmas.List.Sums.{sum_by-cons, length-filter}
use Rattle.ij_bits.specs.Different.{AreDifferent}
use Rattle.icl_lexer.specs.declared.tree.PortKind.{PortKind}
use Rattle.icl_lexer.specs.Values.{SeenWhat, APort, ARegister, AMux, AChild, AnAlias, SomeWords, AParameter}
use Rattle.icl_lexer.specs.Values.{AnInterface, ALink, AnAttribute, SeenItem, SeenModule}
use Rattle.icl_declarations.specs.declared.ranges.Bounds.{Bounds}
use Rattle.icl_declarations.specs.Parts.{is_part, port_that, is_data_in as is_data_in_kind}
use Rattle.icl_declarations.specs.Parts.{is_data_out as is_data_out_kind, is_data_port as is_data_port_item}
use Rattle.icl_declarations.specs.Parts.{is_register as is_register_item, is_mux as is_mux_item}
use Rattle.icl_declarations.specs.Parts.{is_barred_in_instrument as is_barred_item, parts_of}
use Rattle.icl_frames.specs.FirstPass.{Frame}
use Rattle.icl_frames.specs.Laws.{IsBelow, AreBelow, AreTree, IsFrame, AreFew, levels_from as levels_of}
use Rattle.icl_frames.specs.Laws.{level_below, parents_of, is_instrument_frame, register_bits, bits_in}
use Rattle.icl_frames.specs.Laws.{muxes_in}
use Rattle.icl_frames.proofs.Paired.{Paired}
use Rattle.icl_references.specs.Names.{Member, members_from}
use Rattle.icl_references.specs.Roles.{PartOf, CellOf, part_width}
use Rattle.icl_elab.specs.WellFormed.{is_register, is_mux, is_data_port, is_barred_in_instrument}
use Rattle.icl_elab.specs.WellFormed.{is_instrument}
use Rattle.icl_elab.specs.WellFormed.{levels_from, width_that, count_that, AreInTree, AreCellsFew}
use Rattle.icl_elab.proofs.CellsOfFrames.{IsPartOfMember, IsCellOfFrame}
use Rattle.std.proofs.Math.Bool.{and_assoc}

-- ---- lists that go together

module _ {A B : Type 0} (P : A → B → Type 0) where
  pub map_same : {C : Type 0} (f : A → C) (g : B → C)
      → ((a : A) (b : B) → P a b → g b ≡ f a) → (xs : List A) (ys : List B)
      → Paired P xs ys → map g ys ≡ map f xs
  map_same f g same [] [] p = refl
  map_same f g same [] (y ∷ ys) p = absurd p
  map_same f g same (x ∷ xs) [] p = absurd p
  map_same {C} f g same (x ∷ xs) (y ∷ ys) p =
      ap (λ (z : C). z ∷ map g ys) (same x y p.0)
      ∙ ap (λ (zs : List C). f x ∷ zs) (map_same f g same xs ys p.1)

  pub sum_same : (f : A → ℕ) (g : B → ℕ) → ((a : A) (b : B) → P a b → g b ≡ f a)
      → (xs : List A) (ys : List B) → Paired P xs ys
      → sum_by g ys ≡ sum_by f xs
  sum_same f g same [] [] p = refl
  sum_same f g same [] (y ∷ ys) p = absurd p
  sum_same f g same (x ∷ xs) [] p = absurd p
  sum_same f g same (x ∷ xs) (y ∷ ys) p =
      sum_by-cons g y ys ∙ ap (λ n. n + sum_by g ys) (same x y p.0)
      ∙ ap (λ n. f x + n) (sum_same f g same xs ys p.1) ∙ sym (sum_by-cons f x xs)

  pub long_same : (xs : List A) (ys : List B) → Paired P xs ys → length ys ≡ length xs
  long_same [] [] p = refl
  long_same [] (y ∷ ys) p = absurd p
  long_same (x ∷ xs) [] p = absurd p
  long_same (x ∷ xs) (y ∷ ys) p = ap suc (long_same xs ys p.1)

  pub all_good : (Q : A → Type 0) (xs : List A) (ys : List B) → AllByRecursion Q xs → Paired P xs ys
      → Paired (λ x y. Q x × P x y) xs ys
  all_good Q [] [] q p = tt
  all_good Q [] (y ∷ ys) q p = absurd p
  all_good Q (x ∷ xs) [] q p = absurd p
  all_good Q (x ∷ xs) (y ∷ ys) q p = ((q.0, p.0), all_good Q xs ys q.1 p.1)

-- ---- the parts of one cell

module _ (f : Frame) (t : PartOf → Bool) (u : SeenWhat → Bool) (same : (m : Member) (p : PartOf)
    → IsPartOfMember f m p → t p ≡ u m.item.what) where
  pub count_parts : (n : ℕ) (items : List SeenItem) (bs : List Bounds) (ps : List PartOf)
      → Paired (IsPartOfMember f) (members_from n items bs) ps
      → count_by t ps ≡ count_by (λ item. u item.what) items
  count_parts n [] bs [] h = refl
  count_parts n [] bs (p ∷ ps) h = absurd h
  count_parts n (item ∷ items) [] [] h = absurd h
  count_parts n (item ∷ items) (b ∷ bs) [] h = absurd h
  count_parts n (item ∷ items) [] (p ∷ ps) h =
      sum_by-cons (λ (x : PartOf). cond (t x) 1 0) p ps
      ∙ ap (λ k. k + count_by t ps) (ap (λ (c : Bool). cond c 1 0) (same _ p h.0))
      ∙ ap (λ k. cond (u item.what) 1 0 + k) (count_parts (suc n) items [] ps h.1)
      ∙ sym (sum_by-cons (λ (x : SeenItem). cond (u x.what) 1 0) item items)
  count_parts n (item ∷ items) (b ∷ bs) (p ∷ ps) h =
      sum_by-cons (λ (x : PartOf). cond (t x) 1 0) p ps
      ∙ ap (λ k. k + count_by t ps) (ap (λ (c : Bool). cond c 1 0) (same _ p h.0))
      ∙ ap (λ k. cond (u item.what) 1 0 + k) (count_parts (suc n) items bs ps h.1)
      ∙ sym (sum_by-cons (λ (x : SeenItem). cond (u x.what) 1 0) item items)

  pub any_parts : (n : ℕ) (items : List SeenItem) (bs : List Bounds) (ps : List PartOf)
      → Paired (IsPartOfMember f) (members_from n items bs) ps
      → list_any t ps ≡ list_any (λ item. u item.what) items
  any_parts n [] bs [] h = refl
  any_parts n [] bs (p ∷ ps) h = absurd h
  any_parts n (item ∷ items) [] [] h = absurd h
  any_parts n (item ∷ items) (b ∷ bs) [] h = absurd h
  any_parts n (item ∷ items) [] (p ∷ ps) h =
      ap (λ (c : Bool). c || list_any t ps) (same _ p h.0)
      ∙ ap (λ (c : Bool). u item.what || c) (any_parts (suc n) items [] ps h.1)
  any_parts n (item ∷ items) (b ∷ bs) (p ∷ ps) h =
      ap (λ (c : Bool). c || list_any t ps) (same _ p h.0)
      ∙ ap (λ (c : Bool). u item.what || c) (any_parts (suc n) items bs ps h.1)

-- what only items of one kind pass is counted and found among these
module _ {A : Type 0} (p q : A → Bool) (within : (x : A) → q x ≡ true → p x ≡ true) where
  pub count_within : (xs : List A) → count_by q (filter p xs) ≡ count_by q xs
  count_within [] = refl
  count_within (x ∷ xs) = by_test (p x) refl (q x) refl (count_within xs)
    where
      by_test : (a : Bool) → p x ≡ a → (b : Bool) → q x ≡ b → count_by q (filter p xs) ≡ count_by q xs
          → count_by q (cond a (x ∷ filter p xs) (filter p xs)) ≡ count_by q (x ∷ xs)
      by_test true e b f h =
          sum_by-cons (λ y. cond (q y) 1 0) x (filter p xs) ∙ ap (λ k. cond (q x) 1 0 + k) h
          ∙ sym (sum_by-cons (λ y. cond (q y) 1 0) x xs)
      by_test false e true f h = absurd (true≢false (sym (within x f) ∙ e))
      by_test false e false f h =
          let z : cond (q x) 1 0 + count_by q xs
          ≡ count_by q xs = ap (λ (c : Bool). cond c 1 0 + count_by q xs) f ∙ omega arith in
          h ∙ sym z ∙ sym (sum_by-cons (λ y. cond (q y) 1 0) x xs)

  pub any_within : (xs : List A) → list_any q (filter p xs) ≡ list_any q xs
  any_within [] = refl
  any_within (x ∷ xs) = by_test (p x) refl (q x) refl (any_within xs)
    where
      by_test : (a : Bool) → p x ≡ a → (b : Bool) → q x ≡ b → list_any q (filter p xs) ≡ list_any q xs
          → list_any q (cond a (x ∷ filter p xs) (filter p xs)) ≡ (b || list_any q xs)
      by_test true e true f h = ap (λ (c : Bool). c || list_any q (filter p xs)) f
      by_test true e false f h = ap (λ (c : Bool). c || list_any q (filter p xs)) f ∙ h
      by_test false e true f h = absurd (true≢false (sym (within x f) ∙ e))
      by_test false e false f h = h

-- ---- parts of a module

mux_part : (what : SeenWhat) → is_mux_item what ≡ true → is_part what ≡ true
mux_part (AMux select rows) h = refl
mux_part (APort kind range props) h = refl
mux_part (ARegister range props) h = refl
mux_part (AChild module' binds) h = refl
mux_part (AnAlias range sigs props) h = refl
mux_part (SomeWords words) h = absurd cc
mux_part (AParameter local value) h = absurd cc
mux_part (AnInterface ports) h = refl
mux_part (ALink kind entity instrs) h = refl
mux_part (AnAttribute value) h = absurd cc

pub data_part : (test : PortKind → Bool) (what : SeenWhat) → port_that test what ≡ true → is_part what ≡ true
data_part test (APort kind range props) h = refl
data_part test (AMux select rows) h = refl
data_part test (ARegister range props) h = refl
data_part test (AChild module' binds) h = refl
data_part test (AnAlias range sigs props) h = refl
data_part test (SomeWords words) h = absurd cc
data_part test (AParameter local value) h = absurd cc
data_part test (AnInterface ports) h = refl
data_part test (ALink kind entity instrs) h = refl
data_part test (AnAttribute value) h = absurd cc

barred_part : (what : SeenWhat) → is_barred_item what ≡ true → is_part what ≡ true
barred_part (APort kind range props) h = refl
barred_part (AMux select rows) h = refl
barred_part (ARegister range props) h = refl
barred_part (AChild module' binds) h = refl
barred_part (AnAlias range sigs props) h = refl
barred_part (SomeWords words) h = absurd cc
barred_part (AParameter local value) h = absurd cc
barred_part (AnInterface ports) h = refl
barred_part (ALink kind entity instrs) h = refl
barred_part (AnAttribute value) h = absurd cc

-- ---- one cell

-- what the cell's parts pass in number is what its module's items do
pub count_cell : (f : Frame) (c : CellOf) (t : PartOf → Bool) (u : SeenWhat → Bool)
    → ((m : Member) (p : PartOf) → IsPartOfMember f m p → t p ≡ u m.item.what)
    → ((what : SeenWhat) → u what ≡ true → is_part what ≡ true)
    → IsCellOfFrame f c → count_by t c.parts ≡ count_by (λ item. u item.what) f.block.items
count_cell f c t u same within i =
    count_parts f t u same 0 (parts_of f.block) f.bounds c.parts i.parts
    ∙ count_within (λ (item : SeenItem). is_part item.what) (λ item. u item.what)
    (λ item h. within item.what h) f.block.items

any_cell : (f : Frame) (c : CellOf) (t : PartOf → Bool) (u : SeenWhat → Bool)
    → ((m : Member) (p : PartOf) → IsPartOfMember f m p → t p ≡ u m.item.what)
    → ((what : SeenWhat) → u what ≡ true → is_part what ≡ true)
    → IsCellOfFrame f c → list_any t c.parts ≡ list_any (λ item. u item.what) f.block.items
any_cell f c t u same within i =
    any_parts f t u same 0 (parts_of f.block) f.bounds c.parts i.parts
    ∙ any_within (λ (item : SeenItem). is_part item.what) (λ item. u item.what)
    (λ item h. within item.what h) f.block.items

-- an instrument's cell is an instrument's frame
pub instrument_same : (f : Frame) (c : CellOf) → IsCellOfFrame f c → is_instrument c ≡ is_instrument_frame f
instrument_same f c i =
    let ports = any_cell f c (λ p. is_data_port p.role) is_data_port_item (λ m p j. j.kind.4)
    (data_part (λ kind. is_data_in_kind kind || is_data_out_kind kind)) i in
    let barred = any_cell f c (λ p. is_barred_in_instrument p.role) is_barred_item
    (λ m p j. j.kind.5) barred_part i in
    and_assoc (is_some c.parent) (list_any (λ p. is_data_port p.role) c.parts)
    (not (list_any (λ p. is_barred_in_instrument p.role) c.parts))
    ∙ ap (λ (o : Option ℕ). is_some o && (list_any (λ p. is_data_port p.role) c.parts && not
    (list_any (λ p. is_barred_in_instrument p.role) c.parts))) i.parent
    ∙ ap (λ (b : Bool). is_some f.parent &&
    (b && not (list_any (λ p. is_barred_in_instrument p.role) c.parts))) ports
    ∙ ap (λ (b : Bool). is_some f.parent &&
    (list_any (λ item. is_data_port_item item.what) f.block.items && not b)) barred

-- the bits of a cell's registers
filtered_sum : (p : PartOf) (ps : List PartOf) (t : Bool)
    → sum_by part_width (cond t (p ∷ ps) ps) ≡ cond t (part_width p) 0 + sum_by part_width ps
filtered_sum p ps true = sum_by-cons part_width p ps
filtered_sum p ps false = omega arith

bits_same : (f : Frame) (n : ℕ) (items : List SeenItem) (bs : List Bounds) (ps : List PartOf)
    → length bs ≡ length items
    → Paired (IsPartOfMember f) (members_from n items bs) ps
    → sum_by part_width (filter (λ p. is_register p.role) ps) ≡ sum_by register_bits (zip items bs)
bits_same f n [] [] [] l h = refl
bits_same f n [] (b ∷ bs) ps l h = absurd (omega (arith, l))
bits_same f n [] [] (p ∷ ps) l h = absurd h
bits_same f n (item ∷ items) [] ps l h = absurd (omega (arith, l))
bits_same f n (item ∷ items) (b ∷ bs) [] l h = absurd h
bits_same f n (item ∷ items) (b ∷ bs) (p ∷ ps) l h =
    let i = h.0 in
    let fs : List PartOf = filter (λ p. is_register p.role) ps in
    let one : cond (is_register p.role) (part_width p) 0
    ≡ register_bits (item, b) = ap (λ (t : Bool). cond t (part_width p) 0) i.kind.0
    ∙ ap (λ (k : ℕ). cond (is_register_item item.what) k 0) i.wide in
    let rest : length bs ≡ length items = omega (arith, l) in
    filtered_sum p fs (is_register p.role) ∙ ap (λ k. k + sum_by part_width fs) one
    ∙ ap (λ k. register_bits (item, b) + k) (bits_same f (suc n) items bs ps rest h.1)
    ∙ sym (sum_by-cons register_bits (item, b) (zip items bs))

-- ---- the tree

levels_same : (levels : List ℕ) (cells : List CellOf)
    → levels_from levels cells ≡ levels_of levels (map (λ c. c.parent) cells)
levels_same levels [] = refl
levels_same levels (c ∷ cells) = levels_same (levels ++ level_below levels c.parent ∷ []) cells

below_cells : (n : ℕ) (cells : List CellOf)
    → AllByRecursion (λ (p : ℕ × Option ℕ). IsBelow p.0 p.1) (enumerate_from n (map (λ c. c.parent) cells))
    → AllByRecursion (λ (c : ℕ × CellOf). IsBelow c.0 c.1.parent) (enumerate_from n cells)
below_cells n [] h = tt
below_cells n (c ∷ cells) h = (h.0, below_cells (n + 1) cells h.1)

pub tree_of_frames : (blocks : List SeenModule) (frames : List Frame) (cells : List CellOf)
    → AreTree blocks frames
    → Paired IsCellOfFrame frames cells → AreInTree cells
tree_of_frames blocks frames cells h p =
    let parents : map (λ (c : CellOf). c.parent) cells ≡ parents_of frames = map_same IsCellOfFrame
    (λ (f : Frame). f.parent) (λ (c : CellOf). c.parent) (λ f c i. i.parent) frames cells p in
    let pairs = map_same IsCellOfFrame {C = Option ℕ × List ℕ} (λ f. (f.parent, f.name))
    (λ c. (c.parent, c.name)) (λ f c i. pair_is f c i) frames cells p in
    record {
      top = subst (λ n. 1 ≤ n) (sym (long_same IsCellOfFrame frames cells p)) h.some;
      parents = below_cells 0 cells (subst AreBelow (sym parents) h.parents);
      siblings = subst (AreDifferent {A = Option ℕ × List ℕ}) (sym pairs) h.siblings;
      few_levels = subst (AllByRecursion (λ (n : ℕ). n ≤ 64))
          (sym (levels_same [] cells ∙ ap (levels_of []) parents)) h.few_levels;
    }
  where
    pair_is : (f : Frame) (c : CellOf) → IsCellOfFrame f c
        → ◌≡◌ {A = Option ℕ × List ℕ} (c.parent, c.name) (f.parent, f.name)
    pair_is f c i = ap (λ (o : Option ℕ). (o, c.name)) i.parent ∙ ap (λ (n : List ℕ). (f.parent, n)) i.name

-- ---- counts

pub few_of_frames : (frames : List Frame) (cells : List CellOf)
    → AreFew frames → AllByRecursion IsFrame frames
    → Paired IsCellOfFrame frames cells → AreCellsFew cells
few_of_frames frames cells h all p =
    let both = all_good IsCellOfFrame IsFrame frames cells all p in
    let bits : sum_by (width_that is_register) cells ≡ sum_by bits_in frames =
    sum_same (λ f c. IsFrame f × IsCellOfFrame f c) bits_in (width_that is_register)
    (λ f c i. bits_same f 0 (parts_of f.block) f.bounds c.parts i.0.all i.1.parts) frames cells both in
    let muxes : sum_by (count_that is_mux) cells ≡ sum_by muxes_in frames = sum_same IsCellOfFrame muxes_in
    (count_that is_mux) (λ f c i. length-filter (λ (p : PartOf). is_mux p.role) c.parts
    ∙ count_cell f c (λ p. is_mux p.role) is_mux_item (λ m p j. j.kind.1) mux_part i) frames cells p in
    let instruments : count_by is_instrument cells ≡ count_by is_instrument_frame frames =
    sum_same IsCellOfFrame (λ f. cond (is_instrument_frame f) 1 0) (λ c. cond (is_instrument c) 1 0)
    (λ f c i. ap (λ (b : Bool). cond b 1 0) (instrument_same f c i)) frames cells p in
    record {
      few_cells = subst (λ n. n ≤ 8192) (sym (long_same IsCellOfFrame frames cells p)) h.few_cells;
      bits_within_limit = subst (λ n. n ≤ 4096) (sym bits) h.bits_within_limit;
      few_muxes = subst (λ n. n ≤ 1024) (sym muxes) h.few_muxes;
      few_instruments = subst (λ n. n ≤ 256)
          (sym (length-filter is_instrument cells ∙ instruments)) h.few_instruments;
    }
