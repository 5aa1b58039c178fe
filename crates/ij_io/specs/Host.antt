-- What clauses see of a stream that is written to, and of real files: counts of faults, and the stream
-- itself.
use Rattle.std.specs.Prelude.{ℕ, List}

pub record Stream (W : Type 0) : Type 0 where
  pub stream : W
  -- how many writes failed
  pub faults : ℕ

pub record FailedNames : Type 0 where
  -- the name of each load that failed
  pub loads : List (List ℕ)
  -- the name of each begin, append and finish that failed
  pub stores : List (List ℕ)
