-- Rows and their parts.
use Rattle.std.proofs.Common.{◌≡◌, ℕ, suc, ◌<◌, ◌≤◌, None, Bool, true, false, cond, List, [], ◌∷◌, length}
use Rattle.std.proofs.Common.{take, drop, refl, ap, sym, ◌∙◌, arith, codes, Bor}
use Rattle.std.proofs.lemmas.List.{take-map, drop-map}
use Rattle.table_lines.specs.Reading.{texts}
use Rattle.table_lines.specs.Said.{Words, is, parts, in_first, front_cond}
use Rattle.table_lines.specs.Parted.{part_length}

abbrev after : Words → List Words
after [] = []
after (w ∷ ws) = parts ws

one_word : (w : List ℕ) (ws : Words) (comma : Bool)
    → parts ws ≡ take (part_length ws) ws ∷ after (drop (part_length ws) ws)
    → cond comma ([] ∷ parts ws) (in_first w (parts ws)) ≡ take (cond comma 0 (suc (part_length ws))) (w ∷ ws)
    ∷ after (drop (cond comma 0 (suc (part_length ws))) (w ∷ ws))
one_word w ws true more = refl
one_word w ws false more = ap (in_first w) more

parts_are : (ws : Words) → parts ws ≡ take (part_length ws) ws ∷ after (drop (part_length ws) ws)
parts_are [] = refl
parts_are (w ∷ ws) = one_word w ws (is (codes ",") w) (parts_are ws)

taken : (n : ℕ) (ws : List (Bor (List ℕ))) → take n (texts ws) ≡ texts (take n ws)
taken n ws = take-map (λ w. w.now) n ws

dropped : (n : ℕ) (ws : List (Bor (List ℕ))) → drop n (texts ws) ≡ texts (drop n ws)
dropped n ws = drop-map (λ w. w.now) n ws

after_one : (ws : List (Bor (List ℕ))) → 1 ≤ length ws → after (texts ws) ≡ parts (texts (drop 1 ws))
after_one [] some = absurd (omega (arith, some))
after_one (w ∷ ws) some = refl

cut : (n : ℕ) (ws : List (Bor (List ℕ))) → n ≡ part_length (texts ws)
    → parts (texts ws) ≡ texts (take n ws) ∷ after (texts (drop n ws))
cut n ws is =
    parts_are (texts ws) ∙ ap (λ k. take k (texts ws) ∷ after (drop k (texts ws))) (sym is)
    ∙ ap (λ f. f ∷ after (drop n (texts ws))) (taken n ws)
    ∙ ap (λ b. texts (take n ws) ∷ after b) (dropped n ws)

pub last_part : (n : ℕ) (ws front rest : List (Bor (List ℕ))) → n ≡ part_length (texts ws) → front ≡ take n ws
    → rest ≡ drop n ws → rest ≡ [] → texts front ∷ [] ≡ parts (texts ws)
last_part n ws front rest is f r none =
    ap (λ x. texts x ∷ []) f
    ∙ sym (cut n ws is ∙ ap (λ x. texts (take n ws) ∷ after (texts x)) (sym r ∙ none))

pub first_part : (n : ℕ) (ws front rest more : List (Bor (List ℕ))) → n ≡ part_length (texts ws)
    → front ≡ take n ws → rest ≡ drop n ws → 1 ≤ length rest → more ≡ drop 1 rest
    → texts front ∷ parts (texts more) ≡ parts (texts ws)
first_part n ws front rest more is f r some m =
    ap (λ x. texts x ∷ parts (texts more)) f ∙ ap (λ x. texts (take n ws) ∷ parts (texts x)) m
    ∙ sym (cut n ws is ∙ ap (λ x. texts (take n ws) ∷ after (texts x)) (sym r)
    ∙ ap (λ x. texts (take n ws) ∷ x) (after_one rest some))

pub short_cond : (change : Bool) (ws : List (Bor (List ℕ)))
    → length ws < 3 → None ≡ front_cond change (texts ws)
short_cond change [] few = refl
short_cond change (a ∷ []) few = refl
short_cond change (a ∷ b ∷ []) few = refl
short_cond change (a ∷ b ∷ c ∷ ws) few = absurd (omega (arith, few))
