-- Where each cell's instance is.
use Rattle.std.proofs.Common.{◌≡◌, ◌+◌, ◌<◌, ℕ, zero, suc, Bool, true, false, cond, eqb, ◌&&◌, List, [], ◌∷◌}
use Rattle.std.proofs.Common.{map, get_or, Option, Some, None, refl, sym, ap, ◌∙◌, arith}
use Rattle.std.specs.Prelude.{find, slice_get}
use Rattle.std.specs.Option.{option_map}
use Rattle.std.specs.List.{position_from}
use Rattle.std.proofs.lemmas.Bool.Decides.{nat_tests}
use Rattle.ij_text.specs.Options.{or_else}
use Rattle.icl_elab.specs.declared.pass.Placed.{Placed}
use Rattle.icl_elab.specs.declared.pass.CellParts.{CellParts}
use Rattle.icl_elab.specs.Bindings.{Bound}
use Rattle.icl_elab.specs.Hierarchy.{bindings_of, bound_at, is_this_cell}
use Rattle.icl_references.specs.Names.{is_in}
use Rattle.icl_elab.specs.Placing.{part_bindings, bound_of, home_in, is_of_cell, parts_of}
use Rattle.icl_elab.specs.FoundParts.{Found}
use Rattle.icl_elab.specs.SeenCells.{seen_pass, seen_placed}
use Rattle.icl_elab.proofs.Bound.{first_get, none_found}
use Rattle.icl_references.proofs.Children.{or_none}

-- ---- one part more, one cell more

pub part_more : (h q : Option ℕ) (i t : Bool) (k : ℕ)
    → or_else (or_else h (cond (i && t) (Some k) None)) (cond i q None)
    ≡ or_else h (cond i (cond t (Some k) q) None)
part_more (Some n) q i t k = refl
part_more None q true true k = refl
part_more None q true false k = refl
part_more None q false t k = refl

pub cell_more : (a b c : Option ℕ) → or_else (or_else a b) c ≡ or_else a (or_else b c)
cell_more None b c = refl
cell_more (Some n) b c = refl

-- ---- all cells

abbrev pub home_here : ℕ → Option ℕ → ℕ → CellParts → Option ℕ
home_here c parent s cell = cond (is_in parent s) (position_from (is_of_cell c) 0 cell.parts.items) None

abbrev pub home_from : ℕ → Option ℕ → ℕ → List CellParts → Option ℕ
home_from c parent s [] = None
home_from c parent s (cell ∷ cells) = or_else (home_here c parent s cell) (home_from c parent (s + 1) cells)

no_parent : (c s : ℕ) (cells : List CellParts) → home_from c None s cells ≡ None
no_parent c s [] = refl
no_parent c s (cell ∷ cells) = no_parent c (s + 1) cells

passed : (c p s : ℕ) (cells : List CellParts) → p < s → home_from c (Some p) s cells ≡ None
passed c p s [] lt = refl
passed c p s (cell ∷ cells) lt =
    let no : eqb p s ≡ false = grind (arith, nat_tests) in
    ap (λ (t : Bool). or_else (cond t (position_from (is_of_cell c) 0 cell.parts.items) None)
    (home_from c (Some p) (s + 1) cells)) no ∙ passed c p (s + 1) cells (omega (arith, lt))

to_come : (c s j : ℕ) (cells : List CellParts)
    → home_from c (Some (s + j)) s cells ≡ position_from (is_of_cell c) 0 (parts_of (slice_get cells j))
to_come c s j [] = refl
to_come c s zero (cell ∷ cells) =
    let yes : eqb (s + 0) s ≡ true = grind (arith, nat_tests) in
    ap (λ (t : Bool). or_else (cond t (position_from (is_of_cell c) 0 cell.parts.items) None)
    (home_from c (Some (s + 0)) (s + 1) cells)) yes
    ∙ ap (or_else (position_from (is_of_cell c) 0 cell.parts.items))
    (passed c (s + 0) (s + 1) cells (omega arith))
    ∙ or_none _
to_come c s (suc j) (cell ∷ cells) =
    let no : eqb (s + suc j) s ≡ false = grind (arith, nat_tests) in
    let n : s + suc j ≡ s + 1 + j = omega arith in
    ap (λ (t : Bool). or_else (cond t (position_from (is_of_cell c) 0 cell.parts.items) None)
    (home_from c (Some (s + suc j)) (s + 1) cells)) no
    ∙ ap (λ (m : ℕ). home_from c (Some m) (s + 1) cells) n
    ∙ to_come c (s + 1) j cells

pub home_is : (c : ℕ) (parent : Option ℕ) (cells : List CellParts)
    → home_from c parent 0 cells ≡ home_in cells c parent
home_is c None cells = no_parent c 0 cells
home_is c (Some p) cells =
    ap (λ (m : ℕ). home_from c (Some m) 0 cells) (let e : p ≡ 0 + p = omega arith in e) ∙ to_come c 0 p cells

-- ---- what a cell is bound to

found_in : (t : Found → Bool) (ps : List Placed)
    → find t (map seen_placed ps) ≡ option_map seen_placed (find (λ p. t (seen_placed p)) ps)
found_in t [] = refl
found_in t (p ∷ ps) = by_test (t (seen_placed p)) (found_in t ps)
  where
    by_test : (b : Bool) → find t (map seen_placed ps)
        ≡ option_map seen_placed (find (λ q. t (seen_placed q)) ps)
        → cond b (Some (seen_placed p)) (find t (map seen_placed ps))
        ≡ option_map seen_placed (cond b (Some p) (find (λ q. t (seen_placed q)) ps))
    by_test true h = refl
    by_test false h = h

parts_at : (cells : List CellParts) (p : ℕ)
    → get_or (seen_pass cells) p [] ≡ map seen_placed (parts_of (slice_get cells p))
parts_at [] p = refl
parts_at (cell ∷ cells) zero = refl
parts_at (cell ∷ cells) (suc p) = parts_at cells p

bound_seen : (o : Option Placed) → bound_at (option_map seen_placed o) ≡ bound_of o
bound_seen None = refl
bound_seen (Some p) = refl

bindings_are : (cells : List CellParts) (c p : ℕ)
    → bindings_of (seen_pass cells) c (Some p) ≡ bound_of (find (is_of_cell c) (parts_of (slice_get cells p)))
bindings_are cells c p =
    let ps = parts_of (slice_get cells p) in
    ap (λ (fs : List Found). bound_at (find (λ f. is_this_cell c f.role) fs)) (parts_at cells p)
    ∙ ap bound_at (found_in (λ f. is_this_cell c f.role) ps) ∙ bound_seen (find (is_of_cell c) ps)

pub bound_there : (cells : List CellParts) (c p k : ℕ) → Some k ≡ home_in cells c (Some p)
    → part_bindings cells p k ≡ bindings_of (seen_pass cells) c (Some p)
bound_there cells c p k h = sym
    (bindings_are cells c p ∙ ap bound_of (first_get (is_of_cell c) k (parts_of (slice_get cells p)) (sym h)))

pub bound_nowhere : (cells : List CellParts) (c p : ℕ) → None ≡ home_in cells c (Some p)
    → ◌≡◌ {A = List Bound} [] (bindings_of (seen_pass cells) c (Some p))
bound_nowhere cells c p h = sym (bindings_are cells c p
    ∙ ap bound_of (none_found (is_of_cell c) 0 (parts_of (slice_get cells p)) (sym h)))
