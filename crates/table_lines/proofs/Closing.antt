-- Texts with brackets.
use Rattle.std.proofs.Common.{◌≡◌, ℕ, ◌≤◌, Bool, true, false, cond, List, [], ◌∷◌, length, None, refl, ap}
use Rattle.std.proofs.Common.{sym, ◌∙◌, arith}
use Rattle.std.specs.Prelude.{◌==◌}
use Rattle.ij_text.specs.Parts.{before, split}
use Rattle.table_lines.specs.Words.{closed, opened, bracketed, two_decimals, part_of}

-- something after the `]`
closed_more : (inside : List ℕ) (bs : List ℕ) → closed (inside ∷ [] ∷ split 93 bs) ≡ None
closed_more inside [] = refl
closed_more inside (b ∷ bs) = more (b == 93) (split 93 bs)
  where
    more : (same : Bool) (us : List (List ℕ))
        → closed (inside ∷ [] ∷ cond same ([] ∷ us) (before b us)) ≡ None
    more true us = refl
    more false [] = refl
    more false (u ∷ us) = refl

pub not_closed : (inside : List ℕ) (text : List ℕ) → 1 ≤ length text → closed (inside ∷ split 93 text) ≡ None
not_closed inside [] some = absurd (omega (arith, some))
not_closed inside (b ∷ bs) some = more (b == 93) (split 93 bs) (closed_more inside bs)
  where
    more : (same : Bool) (us : List (List ℕ)) → closed (inside ∷ [] ∷ us) ≡ None
        → closed (inside ∷ cond same ([] ∷ us) (before b us)) ≡ None
    more true us h = h
    more false [] h = refl
    more false (u ∷ us) h = refl

-- a second `[`
opened_more : (name rest : List ℕ) (text : List ℕ) → opened (name ∷ rest ∷ split 91 text) ≡ None
opened_more name rest [] = refl
opened_more name rest (b ∷ bs) = more (b == 91) (split 91 bs)
  where
    more : (same : Bool) (us : List (List ℕ))
        → opened (name ∷ rest ∷ cond same ([] ∷ us) (before b us)) ≡ None
    more true us = refl
    more false [] = refl
    more false (u ∷ us) = refl

pub second_bracket : (text name rest inside after : List ℕ) → split 91 text ≡ name ∷ split 91 rest
    → split 91 rest ≡ inside ∷ split 91 after → None ≡ bracketed text
second_bracket text name rest inside after first second =
    sym (ap opened first ∙ ap (λ ps. opened (name ∷ ps)) second ∙ opened_more name inside after)

-- a second `:`
two_more : (l r : List ℕ) (text : List ℕ) → two_decimals (l ∷ r ∷ split 58 text) ≡ None
two_more l r [] = refl
two_more l r (b ∷ bs) = more (b == 58) (split 58 bs)
  where
    more : (same : Bool) (us : List (List ℕ))
        → two_decimals (l ∷ r ∷ cond same ([] ∷ us) (before b us)) ≡ None
    more true us = refl
    more false [] = refl
    more false (u ∷ us) = refl

pub second_colon : (word text left rest right after : List ℕ) → split 58 text ≡ left ∷ split 58 rest
    → split 58 rest ≡ right ∷ split 58 after → None ≡ part_of word (two_decimals (split 58 text))
second_colon word text left rest right after first second =
    sym (ap (λ ps. part_of word (two_decimals ps)) first ∙ ap (λ ps. part_of word (two_decimals (left ∷ ps)))
    second ∙ ap (part_of word) (two_more left right after))
