-- The operator that a token is.
use Rattle.std.proofs.Common.{◌≡◌, ℕ, zero, suc, ◌<◌, ◌≤◌, ◌-◌, Bool, true, false, List, Some, None, Ok, Err}
use Rattle.std.proofs.Common.{refl, arith}
use Rattle.icl_lexer.specs.declared.words.Limit.TheVariants.{OfExpression}
use Rattle.icl_lexer.specs.Seen.{SeenToken}
use Rattle.icl_lexer.specs.Grammar.{Signed}
use Rattle.icl_expressions.specs.Reading.{operator_of}

at_zero : (spare : ℕ) (lone : Bool) (s : Signed) (n : ℕ) (ts : List SeenToken) → spare ≡ 0
    → operator_of spare lone (Some s) n ts ≡ Err (n, Some OfExpression)
at_zero zero lone s n ts e = refl
at_zero (suc spare) lone s n ts e = absurd (omega (arith, e))

at_lone : (spare : ℕ) (s : Signed) (n : ℕ) (ts : List SeenToken) → 0 < spare
    → operator_of spare true (Some s) n ts ≡ Err (n, None)
at_lone zero s n ts h = absurd (omega (arith, h))
at_lone (suc spare) s n ts h = refl

at_some : (spare : ℕ) (s : Signed) (n : ℕ) (ts : List SeenToken) → 0 < spare
    → operator_of spare false (Some s) n ts ≡ Ok (s, ts)
at_some zero s n ts h = absurd (omega (arith, h))
at_some (suc spare) s n ts h = refl

pub operator_full : (used : ℕ) (lone : Bool) (s : Signed) (n : ℕ) (ts : List SeenToken) → 256 ≤ used
    → operator_of (256 - used) lone (Some s) n ts ≡ Err (n, Some OfExpression)
operator_full used lone s n ts h = at_zero (256 - used) lone s n ts (omega (arith, h))

pub operator_lone : (used : ℕ) (lone : Bool) (s : Signed) (n : ℕ) (ts : List SeenToken) → used < 256
    → lone ≡ true → operator_of (256 - used) lone (Some s) n ts ≡ Err (n, None)
operator_lone used lone s n ts h e = rw e (at_lone (256 - used) s n ts (omega (arith, h)))

pub operator_there : (used : ℕ) (lone : Bool) (s : Signed) (n : ℕ) (ts : List SeenToken) → used < 256
    → lone ≡ false → operator_of (256 - used) lone (Some s) n ts ≡ Ok (s, ts)
operator_there used lone s n ts h e = rw e (at_some (256 - used) s n ts (omega (arith, h)))

pub ruleset operator_steps = (operator_full, operator_lone, operator_there)
