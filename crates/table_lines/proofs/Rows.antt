-- Assignments and conditions, one after another.
use Rattle.std.proofs.Common.{◌≡◌, ◌≤◌, Bool, true, false, cond, List, [], ◌∷◌, ◌++◌, length, Option, Some}
use Rattle.std.proofs.Common.{None, codes, refl, ap, sym, ◌∙◌, append_assoc, arith}
use Rattle.std.specs.Option.{option_map}
use Rattle.table_lines.specs.Said.{Words, is, SaidCond, SaidSet, SaidRow, set_words, sets, more_sets, row_of}
use Rattle.table_lines.specs.Said.{front_cond, more_conds, after_cond, conds_sets, if_there}
use Rattle.table_lines.specs.Parted.{with_conds, do_sets}

with_set : (before : List SaidSet) (x : SaidSet) (o : Option (List SaidSet))
    → option_map (λ xs. (before ++ x ∷ []) ++ xs) o ≡ option_map (λ xs. before ++ xs) (more_sets (Some x) o)
with_set before x None = refl
with_set before x (Some xs) = ap Some (append_assoc before (x ∷ []) xs)

pub sets_step : (second : Bool) (front : Words) (before : List SaidSet) (x : SaidSet)
    (all : Option (List SaidSet)) (more : List Words)
    → set_words second front ≡ Some x → option_map (λ xs. before ++ xs) (sets second (front ∷ more)) ≡ all
    → option_map (λ xs. (before ++ x ∷ []) ++ xs) (sets second more) ≡ all
sets_step second front before x all more said so_far =
    with_set before x (sets second more)
    ∙ ap (λ o. option_map (λ xs. before ++ xs) (more_sets o (sets second more))) (sym said) ∙ so_far

with_cond : (before : List SaidCond) (x : SaidCond) (o : Option SaidRow)
    → with_conds (before ++ x ∷ []) o ≡ with_conds before (more_conds x o)
with_cond before x None = refl
with_cond before x (Some row) =
    ap (λ cs. Some (record row { conds = cs })) (append_assoc before (x ∷ []) row.conds)

pub conds_step : (second change : Bool) (front rest : Words) (before : List SaidCond) (x : SaidCond)
    (all : Option SaidRow) (more : List Words)
    → front_cond change front ≡ Some (x, rest) → rest ≡ []
    → with_conds before (conds_sets second change (front ∷ more)) ≡ all
    → with_conds (before ++ x ∷ []) (conds_sets second change more) ≡ all
conds_step second change front rest before x all more said none so_far =
    with_cond before x (conds_sets second change more)
    ∙ ap (λ r. with_conds before (after_cond second (x, r) more (conds_sets second change more))) (sym none)
    ∙ ap (λ o. with_conds before (if_there o (λ c. after_cond second c more (conds_sets second change more))))
    (sym said) ∙ so_far

at_do : (k : Bool) (before : List SaidCond) (x : SaidCond) (o : Option SaidRow)
    → cond k (with_conds (before ++ x ∷ []) o) None ≡ with_conds before (cond k (more_conds x o) None)
at_do true before x o = with_cond before x o
at_do false before x o = refl

do_rest : (second : Bool) (rest : Words) (before : List SaidCond) (x : SaidCond)
    (more : List Words) (o : Option SaidRow) → 1 ≤ length rest
    → do_sets second (before ++ x ∷ []) rest more ≡ with_conds before (after_cond second (x, rest) more o)
do_rest second [] before x more o some = absurd (omega (arith, some))
do_rest second (w ∷ ws) before x more o some =
    at_do (is (codes "do") w) before x (row_of (sets second (ws ∷ more)))

pub do_step : (second change : Bool) (front rest : Words) (before : List SaidCond) (x : SaidCond)
    (all : Option SaidRow) (more : List Words)
    → front_cond change front ≡ Some (x, rest) → 1 ≤ length rest
    → with_conds before (conds_sets second change (front ∷ more)) ≡ all
    → do_sets second (before ++ x ∷ []) rest more ≡ all
do_step second change front rest before x all more said some so_far =
    do_rest second rest before x more (conds_sets second change more) some
    ∙ ap (λ o. with_conds before (if_there o (λ c. after_cond second c more (conds_sets second change more))))
    (sym said) ∙ so_far

pub no_more : (second change : Bool) (front rest : Words)
    (before : List SaidCond) (x : SaidCond) (all : Option SaidRow)
    → front_cond change front ≡ Some (x, rest) → rest ≡ []
    → with_conds before (conds_sets second change (front ∷ [])) ≡ all → None ≡ all
no_more second change front rest before x all said none so_far =
    conds_step second change front rest before x all [] said none so_far
