-- The parts of a hierarchy among those of their kind: each is at its number.
use Rattle.std.proofs.Common.{◌≡◌, ◌+◌, ◌<◌, ◌==◌, ◌&&◌, ◌++◌, ℕ, Bool, true, List, [], ◌∷◌, map, filter}
use Rattle.std.proofs.Common.{flat_map, Some, refl, sym, ap, subst, ◌∙◌, arith}
use Rattle.std.specs.Prelude.{slice_get, position, unwrap_or}
use Rattle.std.specs.List.{AllByRecursion, enumerate_from}
use Rattle.std.proofs.lemmas.Bool.{eq-eqb, eqb-true, and_parts}
use Rattle.std.proofs.lemmas.List.Elements.{filter-append}
use Rattle.icl_elab.specs.WellFormed.{is_data_out, is_instrument}
use Rattle.icl_references.specs.Roles.{Role, PartOf, CellOf, part_at}
use Rattle.icl_signals.specs.Moves.{Entry, entry_of, entries_in, entries}
use Rattle.icl_signals.specs.Connecting.{entries_that, is_same, number_among, instruments, instrument_number}
use Rattle.icl_signals.specs.Connecting.{parts_that, output_number}
use Rattle.icl_signals.proofs.Joined.{Known, all_known}
use Rattle.icl_signals.proofs.Standing.{in_cell}
use Rattle.icl_signals.proofs.Paired.{all_kept, all_passing, all_and}
use Rattle.icl_signals.proofs.ApartItems.{Apart, apart_kept, apart_append, apart_weaker, apart_of_map, In}
use Rattle.icl_signals.proofs.ApartItems.{in_map, in_kept, in_flat, in_numbered, number_is, numbers_rise}
use Rattle.icl_signals.proofs.ApartItems.{known_numbers, kept_number}
use Rattle.ij_bits.proofs.Lists.{get_mapped}

-- ---- the parts of a kind

abbrev pub HasRole : (Role → Bool) → Entry → Type 0
HasRole test e = test e.what.role ≡ true

-- an entry of a kind is a part that is there
abbrev pub IsKept : List CellOf → (Role → Bool) → Entry → Type 0
IsKept cells test e = Known cells e × HasRole test e

pub all_kept_known : (cells : List CellOf) (test : Role → Bool)
    → AllByRecursion (IsKept cells test) (entries_that test cells)
all_kept_known cells test =
    all_and (Known cells) (HasRole test) (entries_that test cells)
    (all_kept (Known cells) (λ e. test e.what.role) (entries cells)
    (all_known cells cells 0 (λ i. let z : 0 + i ≡ i = omega arith in ap (slice_get cells) z)))
    (all_passing (λ e. test e.what.role) (entries cells))

-- a part's entry
abbrev pub the_entry : ℕ → ℕ → PartOf → Entry
the_entry cell part p = record { cell = cell; part = part; what = p }

pub entry_there : (cells : List CellOf) (cell part : ℕ) (p : PartOf) → part_at cells cell part ≡ Some p
    → In (the_entry cell part p) (entries cells)
entry_there cells cell part p h =
    let c = in_cell cells cell part p h in
    in_flat entries_in (cell, c.inside) (the_entry cell part p) (enumerate_from 0 cells)
    (in_numbered c.inside cell 0 cell cells (omega arith) c.cell_is)
    (in_map (entry_of cell) (part, p) (enumerate_from 0 c.inside.parts)
    (in_numbered p part 0 part c.inside.parts (omega arith) c.part_is))

-- ---- no part has two entries

abbrev pub ApartParts : Entry → Entry → Type 0
ApartParts e f = e.cell ≡ f.cell → e.part ≡ f.part → ⊥

-- entries of different cells are apart, and so are those of one cell
module _ (R : Entry → Entry → Type 0) (test : Entry
    → Bool) (across : (e f : Entry) → e.cell < f.cell → R e f) where
  own_cell : (s i : ℕ) (ps : List PartOf)
      → AllByRecursion (λ (e : Entry). e.cell ≡ s) (map (entry_of s) (enumerate_from i ps))
  own_cell s i [] = tt
  own_cell s i (p ∷ ps) = (refl, own_cell s (i + 1) ps)

  all_both : (P : Entry → Type 0) (xs ys : List Entry) → AllByRecursion P xs
      → AllByRecursion P ys → AllByRecursion P (xs ++ ys)
  all_both P [] ys p q = q
  all_both P (x ∷ xs) ys p q = (p.0, all_both P xs ys p.1 q)

  all_after : (t s i : ℕ) (ps : List PartOf) → t < s
      → AllByRecursion (λ (e : Entry). t < e.cell) (map (entry_of s) (enumerate_from i ps))
  all_after t s i [] lt = tt
  all_after t s i (p ∷ ps) lt = (lt, all_after t s (i + 1) ps lt)

  later_cells : (t s : ℕ) (cells : List CellOf) → t < s
      → AllByRecursion (λ (e : Entry). t < e.cell) (flat_map entries_in (enumerate_from s cells))
  later_cells t s [] lt = tt
  later_cells t s (c ∷ cells) lt =
      all_both (λ (e : Entry). t < e.cell) (entries_in (s, c))
      (flat_map entries_in (enumerate_from (s + 1) cells))
      (all_after t s 0 c.parts lt) (later_cells t (s + 1) cells (omega (arith, lt)))

  crossing : (s : ℕ) (es fs : List Entry) → AllByRecursion (λ (e : Entry). e.cell ≡ s) es
      → AllByRecursion (λ (f : Entry). s < f.cell) fs → AllByRecursion (λ e. AllByRecursion (R e) fs) es
  crossing s [] fs h g = tt
  crossing s (e ∷ es) fs h g = (each_later fs g, crossing s es fs h.1 g)
    where
      each_later : (gs : List Entry) → AllByRecursion (λ (f : Entry). s < f.cell) gs → AllByRecursion (R e) gs
      each_later [] k = tt
      each_later (f ∷ gs) k = (across e f (subst (λ n. n < f.cell) (sym h.0) k.0), each_later gs k.1)

  pub cells_apart : (s : ℕ) (cells : List CellOf)
      → AllByRecursion (λ (c : ℕ × CellOf). Apart R (filter test (entries_in c))) (enumerate_from s cells)
      → Apart R (filter test (flat_map entries_in (enumerate_from s cells)))
  cells_apart s [] h = tt
  cells_apart s (c ∷ cells) h =
      let rest = flat_map entries_in (enumerate_from (s + 1) cells) in
      subst (Apart R) (sym (filter-append test (entries_in (s, c)) rest))
      (apart_append R (filter test (entries_in (s, c))) (filter test rest) h.0 (cells_apart (s + 1) cells h.1)
      (crossing s (filter test (entries_in (s, c))) (filter test rest)
      (all_kept (λ (e : Entry). e.cell ≡ s) test (entries_in (s, c)) (own_cell s 0 c.parts))
      (all_kept (λ (e : Entry). s < e.cell) test rest (later_cells s (s + 1) cells (omega arith)))))

entries_apart_in : (s : ℕ) (ps : List PartOf) → Apart ApartParts (map (entry_of s) (enumerate_from 0 ps))
entries_apart_in s ps =
    apart_of_map (entry_of s) ApartParts (enumerate_from 0 ps)
    (apart_weaker (λ (p q : ℕ × PartOf). p.0 < q.0) (λ p q. s ≡ s → p.0 ≡ q.0
    → ⊥) (λ p q lt e f. omega (arith, lt, f))
    (enumerate_from 0 ps) (numbers_rise 0 ps))

pub entries_apart : (test : Role → Bool) (cells : List CellOf) → Apart ApartParts (entries_that test cells)
entries_apart test cells = cells_apart ApartParts (λ e. test e.what.role)
    (λ e f lt a b. omega (arith, lt, a)) 0 cells (by_cell 0 cells)
  where
    by_cell : (s : ℕ) (cs : List CellOf)
        → AllByRecursion (λ (c : ℕ × CellOf). Apart ApartParts
        (filter (λ e. test e.what.role) (entries_in c))) (enumerate_from s cs)
    by_cell s [] = tt
    by_cell s (c ∷ cs) = (
      apart_kept ApartParts (λ e. test e.what.role) (entries_in (s, c))
          (entries_apart_in s c.parts),
      by_cell (s + 1) cs,
    )

not_both : (cell part : ℕ) (e f : Entry) → ApartParts e f
    → is_same cell part e ≡ true → is_same cell part f ≡ true → ⊥
not_both cell part e f h a b =
    let x = and_parts (e.cell == cell) (e.part == part) a in
    let y = and_parts (f.cell == cell) (f.part == part) b in
    h (eqb-true e.cell cell x.0 ∙ sym (eqb-true f.cell cell y.0))
    (eqb-true e.part part x.1 ∙ sym (eqb-true f.part part y.1))

both_same : (a b : ℕ) → (a == a && b == b) ≡ true
both_same a b = rw (eq-eqb a a refl, eq-eqb b b refl) refl

-- the number of an entry
pub number_of_entry : (test : Role → Bool) (cells : List CellOf) (k : ℕ) (e : Entry)
    → slice_get (entries_that test cells) k ≡ Some e → number_among test cells e.cell e.part ≡ k
number_of_entry test cells k e h =
    number_is (is_same e.cell e.part) (entries_that test cells) k e h (both_same e.cell e.part)
    (apart_weaker ApartParts (λ x y. is_same e.cell e.part x ≡ true
    → is_same e.cell e.part y ≡ true → ⊥) (not_both e.cell e.part)
    (entries_that test cells) (entries_apart test cells))

-- the entry of a number
pub entry_of_number : (test : Role → Bool) (cells : List CellOf) (cell part : ℕ) (p : PartOf)
    → part_at cells cell part ≡ Some p
    → test p.role ≡ true → slice_get (entries_that test cells) (number_among test cells cell part)
    ≡ Some (the_entry cell part p)
entry_of_number test cells cell part p h t =
    let kept = in_kept (λ e. test e.what.role) (the_entry cell part p)
    (entries cells) (entry_there cells cell part p h) t in
    ap (slice_get (entries_that test cells))
    (number_of_entry test cells kept.place (the_entry cell part p) kept.is) ∙ kept.is

-- ---- instruments and their outputs

pub all_instruments_known : (cells : List CellOf)
    → AllByRecursion (λ (c : ℕ × CellOf). (slice_get cells c.0 ≡ Some c.1)
    × (is_instrument c.1 ≡ true)) (instruments cells)
all_instruments_known cells =
    all_and (λ (c : ℕ × CellOf). slice_get cells c.0 ≡ Some c.1)
    (λ c. is_instrument c.1 ≡ true) (instruments cells)
    (all_kept (λ (c : ℕ × CellOf). slice_get cells c.0 ≡ Some c.1) (λ c. is_instrument c.1)
    (enumerate_from 0 cells) (known_numbers cells))
    (all_passing (λ (c : ℕ × CellOf). is_instrument c.1) (enumerate_from 0 cells))

pub instrument_there : (cells : List CellOf) (cell : ℕ) (c : CellOf)
    → slice_get cells cell ≡ Some c → is_instrument c ≡ true
    → slice_get (instruments cells) (instrument_number cells cell) ≡ Some (cell, c)
instrument_there cells cell c h t = kept_number is_instrument cells cell c h t

pub output_there : (cells : List CellOf) (cell part : ℕ) (c : CellOf) (p : PartOf)
    → slice_get cells cell ≡ Some c
    → slice_get c.parts part ≡ Some p → is_data_out p.role ≡ true
    → slice_get (parts_that is_data_out c) (output_number cells cell part) ≡ Some (part, p)
output_there cells cell part c p h g t =
    ap (λ l. slice_get (parts_that is_data_out c)
    (unwrap_or (position (λ (q : ℕ × PartOf). q.0 == part) l) 0))
    (get_mapped (parts_that is_data_out) [] cells cell c h)
    ∙ kept_number (λ (q : PartOf). is_data_out q.role) c.parts part p g t
