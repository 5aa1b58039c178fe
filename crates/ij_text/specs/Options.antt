-- Two values that may be missing, and one as it is.
use Rattle.std.specs.Prelude.{ℕ, Option, Some, None}

-- both, where both are there
abbrev pub both : Option ℕ → Option ℕ → Option (ℕ × ℕ)
both None right = None
both (Some l) None = None
both (Some l) (Some r) = Some (l, r)

-- the first of two that is there
abbrev pub or_else : {A : Type 0} → Option A → Option A → Option A
or_else None other = other
or_else (Some a) other = Some a

-- a value as it is
abbrev pub same : {X : Type 0} → X → X
same x = x
