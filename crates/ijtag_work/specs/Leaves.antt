-- What a command leaves where all of it is done.
use Rattle.std.specs.Prelude.{ℕ, Bool, List}

-- a file that is written, whole
pub record Written : Type 0 where
  pub name : List ℕ
  pub bytes : List ℕ

-- the files in the order in which they are written, what is printed on the output, and whether a compare
-- differs or an audit says no
pub record Leaves : Type 0 where
  pub files : List Written
  pub printed : List ℕ
  pub differs : Bool
