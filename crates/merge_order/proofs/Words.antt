-- The first of many, word by word.
use Rattle.std.proofs.Common.{◌≡◌, inl, inr, ◌<◌, ◌≤◌, ◌+◌, ◌-◌, ℕ, Bool, true, ap, ◌∙◌, arith}
use Rattle.std.proofs.lemmas.Bool.{cases_lt}

-- those of the words before, and those in a word before one
pub before_or_in : (f : ℕ → Bool) (from n k : ℕ) → ((i : ℕ) → i < from → f i ≡ true)
    → ((j : ℕ) → j < n → f (from + j) ≡ true) → k < from + n → f k ≡ true
before_or_in f from n k before within below =
    elim (cases_lt k from) [
      | inl low ↦ before k low
      | inr high ↦ ap f (there high) ∙ within (k - from) (short high)
    ]
  where
    there : from ≤ k → k ≡ from + (k - from)
    there high = omega arith

    short : from ≤ k → k - from < n
    short high = omega (arith, below)
