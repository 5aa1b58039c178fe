-- How a factor is read.
use Rattle.std.proofs.Common.{◌≡◌, ℕ, zero, suc, ◌<◌, ◌-◌, Bool, true, false, List, [], ◌∷◌, refl, arith}
use Rattle.ij_text.specs.Reading.{read_barred}
use Rattle.icl_lexer.specs.Seen.{SeenToken, is_mark}
use Rattle.icl_lexer.specs.Grammar.{too_deep}
use Rattle.icl_expressions.specs.Reading.{begins, read_leaf, read_parentheses, read_sum, read_factor}

pub factor_leaf : (d : ℕ) (alone : Bool) (used : ℕ) (ts : List SeenToken) → begins (is_mark 40) ts ≡ false
    → read_factor d alone used ts ≡ read_leaf alone used ts
unfolding read_factor
factor_leaf zero alone used [] e = refl
factor_leaf zero alone used (t ∷ ts) e = rw e refl
factor_leaf (suc d) alone used [] e = refl
factor_leaf (suc d) alone used (t ∷ ts) e = rw e refl

pub factor_zero : (d : ℕ) (alone : Bool) (used : ℕ) (ts : List SeenToken) → d ≡ 0
    → begins (is_mark 40) ts ≡ true → read_factor d alone used ts ≡ read_barred too_deep ts
unfolding read_factor
factor_zero d alone used [] e h = absurd cc
factor_zero d alone used (t ∷ ts) e h = rw (e, h) refl

pub factor_open : (d : ℕ) (alone : Bool) (used : ℕ) (ts : List SeenToken)
    → 0 < d → begins (is_mark 40) ts ≡ true
    → read_factor d alone used ts ≡ read_parentheses (read_sum (d - 1)) used ts
unfolding read_factor
factor_open zero alone used ts lt e = absurd (omega (arith, lt))
factor_open (suc d) alone used [] lt e = absurd cc
factor_open (suc d) alone used (t ∷ ts) lt e = let k : suc d - 1 ≡ d = omega arith in rw (k, e) refl

pub ruleset factor_steps = (factor_leaf, factor_zero, factor_open)
