-- Every row of every mux, one by one.
use Rattle.std.proofs.Common.{◌≡◌, ℕ, zero, suc, ◌+◌, ◌<◌, List, [], ◌∷◌, ◌++◌, length, drop, get_or, refl}
use Rattle.std.proofs.Common.{sym, ap, ◌∙◌, arith, append_assoc}
use Rattle.std.proofs.lemmas.List.{drop_more}
use Rattle.net_graph.specs.declared.branch.Branch.{Branch}
use Rattle.net_graph.specs.declared.net.Mux.{Mux}
use Rattle.net_graph.specs.declared.net.Row.{Row}
use Rattle.mux_test.specs.Test.{branches_from, row_branches}

row_next : (m k : ℕ) (rs : List Row) (i : ℕ) → i < length rs
    → row_branches m k (drop i rs) ≡ record { mux = m; row = k } ∷ row_branches m (suc k) (drop (suc i) rs)
row_next m k [] i l = absurd (omega (arith, l))
row_next m k (r ∷ rs) zero l = refl
row_next m k (r ∷ rs) (suc i) l = row_next m k rs i (omega (arith, l))

-- a row more is listed
pub row_listed : (old new all : List Branch) (m i : ℕ) (rs : List Row) → i < length rs
    → new ≡ old ++ record { mux = m; row = i } ∷ [] → old ++ row_branches m i (drop i rs) ≡ all
    → new ++ row_branches m (i + 1) (drop (i + 1) rs) ≡ all
row_listed old new all m i rs l n e =
    let one : i + 1 ≡ suc i = omega arith in
    let b : Branch = record { mux = m; row = i } in
    ap (λ k. new ++ row_branches m k (drop k rs)) one
    ∙ ap (λ bs. bs ++ row_branches m (suc i) (drop (suc i) rs)) n
    ∙ append_assoc old (b ∷ []) (row_branches m (suc i) (drop (suc i) rs))
    ∙ ap (λ bs. old ++ bs) (sym (row_next m i rs i l))
    ∙ e

-- the rows of a mux more are listed
pub mux_listed : (old new all : List Branch) (i : ℕ) (xs : List Mux) (x : Mux) (rows : List Row)
    → i < length xs → x ≡ get_or xs i x → rows ≡ x.rows.items → new ≡ old ++ row_branches i 0 rows
    → old ++ branches_from i (drop i xs) ≡ all → new ++ branches_from (i + 1) (drop (i + 1) xs) ≡ all
mux_listed old new all i xs x rows l g r n e =
    let one : i + 1 ≡ suc i = omega arith in
    let rest = branches_from (suc i) (drop (i + 1) xs) in
    let next : branches_from i (drop i xs) ≡ row_branches i 0 x.rows.items ++ rest =
    ap (branches_from i) (drop_more xs i x l ∙ ap (λ y. y ∷ drop (i + 1) xs) (sym g)) in
    ap (λ k. new ++ branches_from k (drop (i + 1) xs)) one
    ∙ ap (λ bs. bs ++ rest) (n ∙ ap (λ rs. old ++ row_branches i 0 rs) r)
    ∙ append_assoc old (row_branches i 0 x.rows.items) rest
    ∙ ap (λ bs. old ++ bs) (sym next)
    ∙ e
