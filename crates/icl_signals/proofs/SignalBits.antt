-- The bits of a hierarchy, cell by cell.
use Rattle.std.proofs.Common.{◌≡◌, ◌+◌, ◌++◌, ℕ, List, [], ◌∷◌, map, refl, sym, ◌∙◌, arith}
use Rattle.std.specs.Prelude.{sum_by, flat_map}
use Rattle.std.specs.List.{enumerate_from}
use Rattle.std.proofs.lemmas.List.Sums.{sum_by-cons}
use Rattle.icl_references.specs.Roles.{PartOf, CellOf, part_width}
use Rattle.icl_signals.specs.Moves.{Entry, entry_of, entries_in}
use Rattle.icl_signals.specs.Traces.{signal_bits}

abbrev pub bits_of_cells : List CellOf → ℕ
bits_of_cells cells = sum_by (λ c. sum_by part_width c.parts) cells

abbrev bits_of_entries : List Entry → ℕ
bits_of_entries es = sum_by (λ e. part_width e.what) es

entry_more : (e : Entry) (es : List Entry) → bits_of_entries (e ∷ es) ≡ part_width e.what + bits_of_entries es
entry_more e es = sum_by-cons (λ x. part_width x.what) e es

part_more : (p : PartOf) (ps : List PartOf) → sum_by part_width (p ∷ ps) ≡ part_width p + sum_by part_width ps
part_more p ps = sum_by-cons part_width p ps

cell_more : (c : CellOf) (cells : List CellOf)
    → bits_of_cells (c ∷ cells) ≡ sum_by part_width c.parts + bits_of_cells cells
cell_more c cells = sum_by-cons (λ x. sum_by part_width x.parts) c cells

both_sums : (es fs : List Entry) → bits_of_entries (es ++ fs) ≡ bits_of_entries es + bits_of_entries fs
both_sums [] fs = let none : bits_of_entries [] ≡ 0 = refl in omega (arith, none)
both_sums (e ∷ es) fs =
    let more : bits_of_entries ((e ∷ es) ++ fs)
    ≡ part_width e.what + bits_of_entries (es ++ fs) = entry_more e (es ++ fs) in
    omega (arith, more, entry_more e es, both_sums es fs)

one_cell : (cell s : ℕ) (ps : List PartOf)
    → bits_of_entries (map (entry_of cell) (enumerate_from s ps)) ≡ sum_by part_width ps
one_cell cell s [] = refl
one_cell cell s (p ∷ ps) =
    let more : bits_of_entries (map (entry_of cell) (enumerate_from s (p ∷ ps)))
    ≡ part_width p + bits_of_entries (map (entry_of cell) (enumerate_from (s + 1) ps)) =
    entry_more (entry_of cell (s, p)) (map (entry_of cell) (enumerate_from (s + 1) ps)) in
    omega (arith, more, part_more p ps, one_cell cell (s + 1) ps)

cells_from : (s : ℕ) (cells : List CellOf)
    → bits_of_entries (flat_map entries_in (enumerate_from s cells)) ≡ bits_of_cells cells
cells_from s [] = refl
cells_from s (c ∷ cells) = both_sums (entries_in (s, c)) (flat_map entries_in (enumerate_from (s + 1) cells))
    ∙ omega (arith, one_cell s 0 c.parts, cell_more c cells, cells_from (s + 1) cells)

pub bits_are : (cells : List CellOf) → bits_of_cells cells ≡ signal_bits cells
bits_are cells = sym (cells_from 0 cells)
