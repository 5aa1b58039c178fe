-- What a file's tables say is well formed.
use Rattle.std.specs.Prelude.{ℕ, List, All, IfOk}
use Rattle.instruments.specs.Models.{IsModel}
use Rattle.table_file.specs.Tables.{tables}

-- each table of a text has a well formed model
abbrev pub TablesAreModels : Type 0
TablesAreModels = (text : List ℕ) → IfOk (tables text) (All (λ t. IsModel t.model))
