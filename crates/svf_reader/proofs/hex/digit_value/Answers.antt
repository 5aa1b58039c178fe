-- The table is held against the definition at each of the 256 bytes, by computing.
use Rattle.std.proofs.Common.{◌≡◌, ℕ, zero, suc, ◌<◌, ◌%◌, Bool, true, get_or, List, refl, arith, inl, inr}
use Rattle.std.specs.Prelude.{◌==◌, ◌&&◌}
use Rattle.std.proofs.lemmas.Bool.{cases_eq, eqb-true, and_parts}
use Rattle.ij_text.specs.Numbers.{hex_value as digit_value}
use Rattle.svf_reader.specs.declared.hex.TheConstants.{DIGIT_VALUES}
use Rattle.svf_reader.proofs.hex.digit_value.Goals as goal

-- two functions agree below n
agree_below : (ℕ → ℕ) → (ℕ → ℕ) → ℕ → Bool
agree_below f g zero = true
agree_below f g (suc n) = f n == g n && agree_below f g n

agree_at : (f g : ℕ → ℕ) (n : ℕ) → agree_below f g n ≡ true → (b : ℕ) → b < n → f b ≡ g b
unfolding agree_below
agree_at f g zero h b lt = absurd (omega arith)
agree_at f g (suc n) h b lt =
    let both = and_parts (f n == g n) (agree_below f g n) h in
    elim (cases_eq b n) [
      | inl same ↦ rw same (eqb-true (f n) (g n) both.0)
      | inr other ↦ agree_at f g n both.1 b (omega arith)
    ]

from_table : (table : List ℕ) (b : ℕ) → b < 256
    → agree_below (λ k. get_or table k 0) (λ k. digit_value k % 16) 256 ≡ true
    → get_or table b 0 ≡ digit_value b % 16
from_table table b lt h = agree_at _ _ 256 h b lt

pub returns-clause-value : goal.returns-clause-value
unfolding agree_below
returns-clause-value c = from_table DIGIT_VALUES c.args.b (omega arith) refl

pub returns-clause-small : goal.returns-clause-small
unfolding agree_below
returns-clause-small c =
    let is = from_table DIGIT_VALUES c.args.b (omega arith) refl in
    omega (arith, is)
