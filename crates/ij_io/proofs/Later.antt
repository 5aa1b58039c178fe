-- Counts of faults over several calls on one name.
use Rattle.std.proofs.Common.{◌≡◌, ◌≢◌, ◌≤◌, ◌+◌, ◌-◌, ◌^◌, ℕ, List, Result, refl, ◌∙◌, arith}
use Rattle.std.specs.Prelude.{min, IsErrOf}
use Rattle.ij_io.specs.Causes.{HasCauseAt, Rose}

-- no count falls, and those of other names stay
pub record Later (name : List ℕ) (before now : List ℕ → ℕ) : Type 0 where
  pub later : (any : List ℕ) → before any ≤ now any
  pub others : (other : List ℕ) → other ≢ name → now other ≡ before other

pub at_begin : (name : List ℕ) (before : List ℕ → ℕ) → Later name before before
at_begin name before = record { later = λ any. omega arith; others = λ other h. refl }

module _ {T E : Type 0} (name : List ℕ) (first before now : List ℕ
    → ℕ) (result : Result T E) (fault : E) where
  pub one_later : Later name first before → HasCauseAt name before now result fault → Later name first now
  one_later l h =
      record {
        later = λ any. let a = l.later any in let b = h.later any in
            omega (arith, a, b);
        others = λ other n. h.others other n ∙ l.others other n;
      }

  -- the fault of the last call has its cause in the count from the first on
  pub last_cause : Later name first before → HasCauseAt name before now result fault
      → HasCauseAt name first now result fault
  last_cause l h =
      let all = one_later l h in
      record { later = all.later; others = all.others; failed = λ e. rose_later (l.later name) (h.failed e) }
    where
      rose_later : first name ≤ before name → Rose (before name) (now name) → Rose (first name) (now name)
      rose_later a b = omega (arith, a, b)

-- a call that answered otherwise
pub no_cause : {T E : Type 0} (name : List ℕ) (first now : List ℕ → ℕ) (result : Result T E) (fault : E)
    → Later name first now → ¬ IsErrOf result fault → HasCauseAt name first now result fault
no_cause name first now result fault l n =
    record { later = l.later; others = l.others; failed = λ e. absurd (n e) }
