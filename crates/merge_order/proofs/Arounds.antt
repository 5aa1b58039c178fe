-- Rows around registers, added one after the other.
use Rattle.std.proofs.Common.{◌≡◌, ℕ, ◌+◌, ◌<◌, Bool, true, false, List, [], ◌++◌, length, get_or, take}
use Rattle.std.proofs.Common.{Option, Some, refl, sym, ap, ◌∙◌, subst}
use Rattle.std.specs.Prelude.{◌||◌, flat_map}
use Rattle.std.specs.Option.{IfSome}
use Rattle.std.specs.List.{list_any}
use Rattle.std.proofs.lemmas.List.Folds.{list_any-append, list_any_more}
use Rattle.net_graph.specs.declared.branch.Branch.{Branch}
use Rattle.pdl_targets.specs.Rounds.{Places}
use Rattle.merge_order.specs.Tables.{SameRows}
use Rattle.merge_order.proofs.Tabled.{any_flat}
use Rattle.std.proofs.Math.Bool.{or_assoc}

absorbed : (a b : Bool) → ((a || b) || b) ≡ (a || b)
absorbed true b = refl
absorbed false true = refl
absorbed false false = refl

-- rows after others
pub more_rows : (old place now : List Branch) → now ≡ old ++ place → (test : Branch → Bool)
    → list_any test now ≡ (list_any test old || list_any test place)
more_rows old place now is test = ap (list_any test) is ∙ list_any-append test old place

-- they hold what was put after
pub has_more : (old place now : List Branch) → now ≡ old ++ place → (test : Branch → Bool)
    → (list_any test now || list_any test place) ≡ list_any test now
has_more old place now is test =
    let e = more_rows old place now is test in
    ap (λ t. t || list_any test place) e ∙ absorbed (list_any test old) (list_any test place) ∙ sym e

-- the rows around the last register are there already
pub had : (places : Places) (rows : List Branch) (last : Option ℕ) (register : ℕ)
    → IfSome last (λ r. (test : Branch → Bool)
    → (list_any test rows || list_any test (places r)) ≡ list_any test rows)
    → last ≡ Some register → (test : Branch → Bool)
    → list_any test rows ≡ (list_any test rows || list_any test (places register))
had places rows last register has is test =
    let P : Option ℕ → Type 0 = λ o. IfSome o (λ r. (t : Branch → Bool)
    → (list_any t rows || list_any t (places r)) ≡ list_any t rows) in
    sym (subst P is has test)

-- the rows around one register more
pub around_step : {A : Type 0} (f : A → List Branch) (xs : List A) (i : ℕ) (d : A) (test : Branch
    → Bool) (before current now : Bool) → i < length xs
    → current ≡ (before || list_any test (flat_map f (take i xs)))
    → now ≡ (current || list_any test (f (get_or xs i d)))
    → now ≡ (before || list_any test (flat_map f (take (i + 1) xs)))
around_step {A = A} f xs i d test before current now within so_far here =
    let p = λ (x : A). list_any test (f x) in
    here
    ∙ ap (λ t. t || p (get_or xs i d)) (so_far ∙ ap (λ t. before || t) (any_flat test f (take i xs)))
    ∙ or_assoc before (list_any p (take i xs)) (p (get_or xs i d))
    ∙ ap (λ t. before || t) (sym (list_any_more p xs i d within) ∙ sym (any_flat test f (take (i + 1) xs)))

-- the rows around the registers of writes, and then those of reads
pub rows_told : (none first all w r writes reads : List Branch) → none ≡ []
    → ((test : Branch → Bool) → list_any test first ≡ (list_any test none || list_any test w))
    → ((test : Branch → Bool) → list_any test all ≡ (list_any test first || list_any test r)) → w ≡ writes
    → r ≡ reads → SameRows all (writes ++ reads)
rows_told none first all w r writes reads is put_w put_r w_is r_is test =
    put_r test
    ∙ ap (λ t. t || list_any test r) (put_w test ∙ ap (λ l. list_any test l || list_any test w) is)
    ∙ ap (λ l. list_any test l || list_any test r) w_is
    ∙ ap (λ l. list_any test writes || list_any test l) r_is
    ∙ sym (list_any-append test writes reads)
