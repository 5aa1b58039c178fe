-- What is known of the parts of a well formed hierarchy, by their numbers.
use Rattle.std.proofs.Common.{◌≡◌, ◌+◌, ◌<◌, ◌≤◌, ℕ, zero, suc, List, length, IsSomeAnd, Some, sym, subst}
use Rattle.std.proofs.Common.{◌∙◌, arith}
use Rattle.std.specs.List.{AllByRecursion, range_with_len}
use Rattle.std.proofs.lemmas.List.{length-map}
use Rattle.icl_elab.specs.WellFormed.{IsCell, IsPartNamed}
use Rattle.icl_references.specs.Roles.{PartOf, CellOf, part_at, part_width}
use Rattle.icl_elab.specs.Laws.{IsRefOf}
use Rattle.icl_signals.specs.Moves.{Entry}
use Rattle.icl_signals.specs.Connecting.{one_bit_of, own_bits}
use Rattle.icl_signals.proofs.Standing.{in_cell}
use Rattle.icl_signals.proofs.Paired.{all_at, all_of_map, all_weaker}
use Rattle.std.proofs.lemmas.List.FromFn.{length-range_with_len}
use Rattle.std.proofs.lemmas.Option.{slice_get_within}

-- the cell of a part is there
pub cell_below : (cells : List CellOf) (cell part : ℕ) (p : PartOf)
    → part_at cells cell part ≡ Some p → cell < length cells
cell_below cells cell part p h =
    let c = in_cell cells cell part p h in slice_get_within cells cell c.inside c.cell_is

pub part_named : (cells : List CellOf) → AllByRecursion IsCell cells → (cell part : ℕ) (p : PartOf)
    → part_at cells cell part ≡ Some p → IsPartNamed p
part_named cells all cell part p h =
    let c = in_cell cells cell part p h in
    let whole = all_at IsCell cells cell c.inside all c.cell_is in
    all_at IsPartNamed c.inside.parts part p whole.parts c.part_is

pub some_width : (p : PartOf) → 1 ≤ part_width p
some_width p = omega arith

-- ---- the own bits of a part

range_below : (s n m : ℕ) → s + n ≤ m → AllByRecursion (λ (k : ℕ). k < m) (range_with_len s n)
range_below s zero m le = tt
range_below s (suc n) m le = (omega (arith, le), range_below (s + 1) n m (omega (arith, le)))

pub length_own : (e : Entry) → length (own_bits e) ≡ part_width e.what
length_own e = length-map (range_with_len 0 (part_width e.what)) (one_bit_of e.cell e.part)
    ∙ length-range_with_len 0 (part_width e.what)

pub own_there : (cells : List CellOf) (e : Entry) → part_at cells e.cell e.part ≡ Some e.what
    → AllByRecursion (IsRefOf cells) (own_bits e)
own_there cells e h =
    all_of_map (one_bit_of e.cell e.part) (IsRefOf cells) (range_with_len 0 (part_width e.what))
    (all_weaker (λ (k : ℕ). k < part_width e.what) (λ k. IsRefOf cells (one_bit_of e.cell e.part k))
    (λ k lt. subst (λ o. IsSomeAnd o (λ p. k < part_width p)) (sym h) lt)
    (range_with_len 0 (part_width e.what))
    (range_below 0 (part_width e.what) (part_width e.what) (omega arith)))
