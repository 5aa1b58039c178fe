-- What a path leads to is there, and so is each bit that a range names.
use Rattle.std.proofs.Common.{◌≡◌, inl, inr, ◌+◌, ◌-◌, ◌<◌, ◌≤◌, ℕ, zero, suc, Bool, true, false, cond, ◌&&◌}
use Rattle.std.proofs.Common.{List, [], ◌∷◌, map, Option, Some, None, Ok, Err, refl, sym, ap, subst, ◌∙◌}
use Rattle.std.proofs.Common.{arith}
use Rattle.std.specs.Prelude.{slice_get, find, nat_le}
use Rattle.std.specs.List.{AllByRecursion, enumerate_from, range_with_len}
use Rattle.std.proofs.lemmas.Bool.{leb-true, and_parts, or_cases}
use Rattle.std.proofs.lemmas.Bool.Decides.{leb_tells}
use Rattle.ij_text.specs.declared.Place.{Place}
use Rattle.icl_lexer.specs.Values.{SeenRange, SeenWhat, APort, ARegister, AMux, AChild, AnAlias, SomeWords}
use Rattle.icl_lexer.specs.Values.{AParameter, AnInterface, ALink, AnAttribute, SeenItem}
use Rattle.icl_declarations.specs.Faults.{Answer, BadRange}
use Rattle.icl_declarations.specs.Values.{Params}
use Rattle.icl_declarations.specs.declared.ranges.Bounds.{Bounds}
use Rattle.icl_declarations.specs.declared.ranges.Stretch.{Stretch}
use Rattle.icl_references.specs.declared.hier.Ref.{Ref}
use Rattle.icl_references.specs.declared.hier.Ref.TheVariants.{Fixed, Bit}
use Rattle.icl_declarations.specs.Ranges.{width, has_index, position_of, runs_along, position_range, whole}
use Rattle.icl_declarations.specs.Ranges.{indices, named_positions, one_bit}
use Rattle.icl_frames.specs.FirstPass.{Frame}
use Rattle.icl_references.specs.Names.{Here, here_of, Member, members_from, members, member_that}
use Rattle.icl_references.specs.Names.{known_member, named, child_cell, known_cell, cell_of_instance}
use Rattle.icl_references.specs.Names.{CellMember}
use Rattle.icl_references.specs.Names.{path_from}
use Rattle.icl_references.specs.Signals.{bit_of, bits_of}
use Rattle.icl_frames.proofs.Answering.{both, ok_is}
use Rattle.std.proofs.lemmas.Option.{same_Some}

-- ---- what is found in a list of numbered items is at its number

pub record IsAt {A : Type 0} (xs : List A) (s n : ℕ) (x : A) : Type 0 where
  pub place : ℕ
  pub there : slice_get xs place ≡ Some x
  pub number : n ≡ s + place

enum_found : {A : Type 0} (p : ℕ × A → Bool) (s : ℕ) (xs : List A) (y : ℕ × A)
    → find p (enumerate_from s xs) ≡ Some y → IsAt xs s y.0 y.1
enum_found p s [] y h = absurd cc
enum_found {A} p s (x ∷ xs) y h = by_test (p (s, x)) h (λ g. enum_found p (s + 1) xs y g)
  where
    by_test : (b : Bool) → cond b (Some (s, x)) (find p (enumerate_from (s + 1) xs)) ≡ Some y
        → (find p (enumerate_from (s + 1) xs) ≡ Some y → IsAt xs (s + 1) y.0 y.1) → IsAt (x ∷ xs) s y.0 y.1
    by_test true g again =
        let e : (s, x) ≡ y = same_Some (s, x) y g in
        record {
          place = 0;
          there = ap (λ (z : ℕ × A). Some z.1) e;
          number =
              let f : s ≡ y.0 = ap (λ (z : ℕ × A). z.0) e in omega (arith, f);
        }
    by_test false g again = let a = again g in
        record { place = suc a.place; there = a.there; number = let e = a.number in omega (arith, e) }

member_found : (q : Member → Bool) (s : ℕ) (items : List SeenItem) (bs : List Bounds) (m : Member)
    → find q (members_from s items bs) ≡ Some m → IsAt (members_from s items bs) s m.part m
member_found q s [] bs m h = absurd cc
member_found q s (item ∷ items) [] m h = by_test (q (record { part = s; item = item; bounds = one_bit })) h
    (λ g. member_found q (suc s) items [] m g)
  where
    by_test : (b : Bool) → cond b (Some (record { part = s; item = item; bounds = one_bit }))
        (find q (members_from (suc s) items [])) ≡ Some m
        → (find q (members_from (suc s) items []) ≡ Some m
        → IsAt (members_from (suc s) items []) (suc s) m.part m)
        → IsAt (members_from s (item ∷ items) []) s m.part m
    by_test true g again =
        let e : record { part = s; item = item; bounds = one_bit } ≡ m = same_Some _ m g in
        record {
          place = 0;
          there = ap (λ z. Some z) e;
          number =
              let f : s ≡ m.part = ap (λ (z : Member). z.part) e in omega (arith, f);
        }
    by_test false g again = let a = again g in
        record { place = suc a.place; there = a.there; number = let e = a.number in omega (arith, e) }
member_found q s (item ∷ items) (b ∷ bs) m h =
    by_test (q (record { part = s; item = item; bounds = b })) h (λ g. member_found q (suc s) items bs m g)
  where
    by_test : (c : Bool) → cond c (Some (record { part = s; item = item; bounds = b }))
        (find q (members_from (suc s) items bs)) ≡ Some m
        → (find q (members_from (suc s) items bs) ≡ Some m
        → IsAt (members_from (suc s) items bs) (suc s) m.part m)
        → IsAt (members_from s (item ∷ items) (b ∷ bs)) s m.part m
    by_test true g again =
        let e : record { part = s; item = item; bounds = b } ≡ m = same_Some _ m g in
        record {
          place = 0;
          there = ap (λ z. Some z) e;
          number =
              let f : s ≡ m.part = ap (λ (z : Member). z.part) e in omega (arith, f);
        }
    by_test false g again = let a = again g in
        record { place = suc a.place; there = a.there; number = let e = a.number in omega (arith, e) }

-- ---- cells and parts that are there

abbrev pub IsHere : List Frame → Here → Type 0
IsHere frames here = slice_get frames here.number ≡ Some here.frame

abbrev pub IsMember : Frame → Member → Type 0
IsMember frame m = slice_get (members frame) m.part ≡ Some m

pub record IsTarget (frames : List Frame) (t : CellMember) : Type 0 where
  pub cell : IsHere frames t.here
  pub part : IsMember t.here.frame t.member

at_zero : {A : Type 0} (xs : List A) (n : ℕ) (x : A) → IsAt xs 0 n x → slice_get xs n ≡ Some x
at_zero {A} xs n x a = let e : n ≡ a.place =
    let f = a.number in omega (arith, f) in ap (slice_get xs) e ∙ a.there

pub child_there : (frames : List Frame) (cell : ℕ) (name : List ℕ) (c : ℕ × Frame)
    → child_cell frames cell name ≡ Some c → IsHere frames (here_of c)
child_there frames cell name c h = at_zero frames c.0 c.1 (enum_found _ 0 frames c h)

pub member_there : (test : SeenWhat → Bool) (frame : Frame) (name : List ℕ) (m : Member)
    → member_that test frame name ≡ Some m → IsMember frame m
member_there test frame name m h = at_zero (members frame) m.part m (member_found _ 0 _ _ m h)

-- ---- paths

pub known_is : (at : Place) (name : List ℕ) (o : Option Member) (m : Member)
    → known_member at name o ≡ Ok m → o ≡ Some m
known_is at name None m h = absurd cc
known_is at name (Some n) m h = ap (λ z. Some z) (ok_is n m h)

pub named_there : (frame : Frame) (at : Place) (name : List ℕ) (m : Member)
    → named frame at name ≡ Ok m → IsMember frame m
named_there frame at name m h = member_there _ frame name m (known_is at name _ m h)

known_cell_there : (frames : List Frame) (at : Place) (cell : ℕ) (name : List ℕ) (h : Here)
    → known_cell at (child_cell frames cell name) ≡ Ok h → IsHere frames h
known_cell_there frames at cell name h e = by_child (child_cell frames cell name) refl e
  where
    by_child : (o : Option (ℕ × Frame)) → child_cell frames cell name ≡ o
        → known_cell at o ≡ Ok h → IsHere frames h
    by_child None f g = absurd cc
    by_child (Some c) f g = subst (IsHere frames) (ok_is (here_of c) h g) (child_there frames cell name c f)

pub inside_there : (frames : List Frame) (here : Here) (at : Place) (name : List ℕ) (what : SeenWhat)
    (h : Here) → cell_of_instance frames here at name what ≡ Ok h → IsHere frames h
inside_there frames here at name (AChild module' binds) h e = known_cell_there frames at here.number name h e
inside_there frames here at name (APort kind range props) h e = absurd cc
inside_there frames here at name (ARegister range props) h e = absurd cc
inside_there frames here at name (AMux select rows) h e = absurd cc
inside_there frames here at name (AnAlias range sigs props) h e = absurd cc
inside_there frames here at name (SomeWords words) h e = absurd cc
inside_there frames here at name (AParameter local value) h e = absurd cc
inside_there frames here at name (AnInterface ports) h e = absurd cc
inside_there frames here at name (ALink kind entity instrs) h e = absurd cc
inside_there frames here at name (AnAttribute value) h e = absurd cc

pub path_there : (frames : List Frame) (here : Here) (at : Place) (path : List (List ℕ)) (t : CellMember)
    → IsHere frames here → path_from frames here at path ≡ Ok t → IsTarget frames t
path_there frames here at [] t i h = absurd cc
path_there frames here at (name ∷ []) t i h =
    let a = both (named here.frame at name) _ t h in
    let there : IsTarget frames (record { here = here; member = a.first }) =
    record { cell = i; part = named_there here.frame at name a.first a.is } in
    subst (IsTarget frames) (ok_is _ t a.then') there
path_there frames here at (name ∷ next ∷ names) t i h =
    let a = both (named here.frame at name) _ t h in
    let b = both (cell_of_instance frames here at a.first.item.name a.first.item.what) _ t a.then' in
    path_there frames b.first at (next ∷ names) t (inside_there frames here at _ _ b.first b.is) b.then'

-- ---- positions

between : (b : Bounds) (i : ℕ) → (b.right ≤ i) × (i ≤ b.left) → position_of b i < width b
between b i h = let p = h.0 in let q = h.1 in omega (arith, p, q)

between' : (b : Bounds) (i : ℕ) → (b.left ≤ i) × (i ≤ b.right) → position_of b i < width b
between' b i h = let p = h.0 in let q = h.1 in omega (arith, p, q)

-- an index is at a position below the width
index_within : (b : Bounds) (i : ℕ) → has_index b i ≡ true → position_of b i < width b
index_within b i h =
    elim (or_cases (nat_le b.right i && nat_le i b.left) (nat_le b.left i && nat_le i b.right) h) [
      | inl e ↦ let f = and_parts (nat_le b.right i) (nat_le i b.left) e in
          between b i (leb-true b.right i f.0, leb-true i b.left f.1)
      | inr e ↦ let f = and_parts (nat_le b.left i) (nat_le i b.right) e in
          between' b i (leb-true b.left i f.0, leb-true i b.right f.1)
    ]

abbrev pub IsWithin : Bounds → Stretch → Type 0
IsWithin b s = s.high < width b

stretch_within : (at : Place) (b i : Bounds) (s : Stretch) → position_range at b i ≡ Ok s → IsWithin b s
stretch_within at b i s h = by_test (runs_along b i) refl h
  where
    by_test : (t : Bool) → runs_along b i ≡ t → cond {A = Answer Stretch} t
        (Ok (record { low = position_of b i.right; high = position_of b i.left })) (Err (BadRange at)) ≡ Ok s
        → IsWithin b s
    by_test true e g =
        let f = and_parts (has_index b i.left && has_index b i.right)
        (nat_le (position_of b i.right) (position_of b i.left)) e in
        let l = and_parts (has_index b i.left) (has_index b i.right) f.0 in
        subst (IsWithin b) (ok_is _ s g) (index_within b i.left l.0)
    by_test false e g = absurd cc

pub named_within : (ps : Params) (b : Bounds) (range : Option SeenRange) (s : Stretch)
    → named_positions ps b range ≡ Ok s → IsWithin b s
named_within ps b None s h = subst (IsWithin b) (ok_is (whole b) s h) (omega arith)
named_within ps b (Some r) s h =
    let a = both (indices ps r) (position_range r.at b) s h in stretch_within r.at b a.first s a.then'

-- ---- bits that are there

pub record IsBitThere (frames : List Frame) (cell part pos : ℕ) : Type 0 where
  pub frame : Frame
  pub member : Member
  pub cell_is : slice_get frames cell ≡ Some frame
  pub part_is : slice_get (members frame) part ≡ Some member
  pub within : pos < width member.bounds

abbrev pub IsThere : List Frame → Ref → Type 0
IsThere frames (Fixed b) = Unit {0}
IsThere frames (Bit cell part pos inverted) = IsBitThere frames cell part pos

pub bit_there : (frames : List Frame) (t : CellMember) (inverted : Bool) (pos : ℕ) → IsTarget frames t
    → pos < width t.member.bounds → IsThere frames (bit_of t inverted pos)
bit_there frames t inverted pos i lt =
    record { frame = t.here.frame; member = t.member; cell_is = i.cell; part_is = i.part; within = lt }

bits_from : (frames : List Frame) (t : CellMember) (inverted : Bool) (low n : ℕ)
    → IsTarget frames t → low + n ≤ width t.member.bounds
    → AllByRecursion (IsThere frames) (map (bit_of t inverted) (range_with_len low n))
bits_from frames t inverted low zero i le = tt
bits_from frames t inverted low (suc n) i le = (
  bit_there frames t inverted low i (omega (arith, le)),
  bits_from frames t inverted (low + 1) n i (omega (arith, le)),
)

pub bits_there : (frames : List Frame) (t : CellMember) (inverted : Bool) (s : Stretch) → IsTarget frames t
    → IsWithin t.member.bounds s → AllByRecursion (IsThere frames) (bits_of t inverted s)
bits_there frames t inverted s i lt =
    elim (leb_tells s.low (s.high + 1)) [
      | inl w ↦
          let le = w.1 in bits_from frames t inverted s.low (s.high + 1 - s.low) i (omega (arith, le, lt))
      | inr w ↦ let gt = w.1 in
          let z : s.high + 1 - s.low ≡ 0 = omega (arith, gt) in subst
          (λ n. AllByRecursion (IsThere frames) (map (bit_of t inverted) (range_with_len s.low n))) (sym z) tt
    ]
