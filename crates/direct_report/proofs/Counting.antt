-- Reads that differ, counted one by one as a loop does.
use Rattle.std.proofs.Common.{◌≡◌, ◌+◌, ◌<◌, ◌≤◌, ℕ, suc, Bool, true, false, cond, List, [], ◌∷◌, length}
use Rattle.std.proofs.Common.{take, get_or, sym, ap, ◌∙◌, arith}
use Rattle.std.specs.Prelude.{filter}
use Rattle.std.proofs.lemmas.List.{take-map, get_or-map, length-map}
use Rattle.std.proofs.lemmas.List.Filters.{length-filter_more}
use Rattle.net_graph.specs.declared.step.ReadBit.{ReadBit}
use Rattle.pdl_meaning.specs.States.{SeenState}
use Rattle.direct_report.specs.Report.{differs}
use Rattle.direct_report.specs.Seen.{found_in, found_all}

-- one read more
pub count_more : (s : SeenState) (reads : List ReadBit) (i : ℕ) (d : ReadBit) (t : Bool) → i < length reads
    → t ≡ differs (found_in s (get_or reads i d))
    → length (filter differs (found_all s (take (i + 1) reads)))
    ≡ length (filter differs (found_all s (take i reads))) + cond t 1 0
count_more s reads i d t l e =
    let xs = found_all s reads in
    ap (λ (ys : List (ReadBit × Bool)). length (filter differs ys))
    (sym (take-map (found_in s) (i + 1) reads))
    ∙ length-filter_more differs xs i (found_in s d) (omega (arith, l, length-map reads (found_in s)))
    ∙ ap (λ (ys : List (ReadBit × Bool)). length (filter differs ys) + cond
    (differs (get_or xs i (found_in s d))) 1 0) (take-map (found_in s) i reads)
    ∙ ap (λ (x : ReadBit × Bool). length (filter differs (found_all s (take i reads))) + cond (differs x) 1 0)
    (get_or-map (found_in s) reads i d (found_in s d) l)
    ∙ ap (λ (u : Bool). length (filter differs (found_all s (take i reads))) + cond u 1 0) (sym e)

pub not_more : (xs : List (ReadBit × Bool)) → length (filter differs xs) ≤ length xs
not_more [] = omega arith
not_more (x ∷ xs) = by_test (differs x) (not_more xs)
  where
    by_test : (t : Bool) → length (filter differs xs) ≤ length xs
        → length (cond t (x ∷ filter differs xs) (filter differs xs)) ≤ suc (length xs)
    by_test true h = omega (arith, h)
    by_test false h = omega (arith, h)
