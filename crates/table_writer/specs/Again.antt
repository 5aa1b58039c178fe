-- What is written of tables is read again, with other places.
use Rattle.std.specs.Prelude.{◌≡◌, ◌≢◌, ℕ, List, [], map, All, IfSome, true, Ok}
use Rattle.ij_bits.specs.Different.{AreDifferent}
use Rattle.ij_text.specs.Words.{is_name}
use Rattle.instruments.specs.Seen.{SeenModel}
use Rattle.instruments.specs.Models.{IsModel}
use Rattle.table_file.specs.Tables.{SeenTable, tables}
use Rattle.bench_file.specs.Written.{tables_text}

-- a name of letters, digits and `_` that begins with no digit
abbrev pub IsName : List ℕ → Type 0
IsName name = is_name name ≡ true

pub record HasNames (m : SeenModel) : Type 0 where
  pub ins : All (λ d. IsName d.name) m.ins
  pub words : All (λ d. IsName d.name) m.words
  pub memory : IfSome m.memory (λ d. IsName d.name)
  pub outs : All (λ d. IsName d.name) m.outs

pub record IsTable (t : SeenTable) : Type 0 where
  pub path : t.path ≢ []
  pub path_names : All IsName t.path
  pub names : HasNames t.model
  pub model : IsModel t.model

-- what is said of which instrument, wherever it is
abbrev pub without_place : SeenTable → List (List ℕ) × SeenModel
without_place t = (t.path, t.model)

-- the tables of different paths, written and read
abbrev pub AreReadAgain : Type 0
AreReadAgain =
    (ts : List SeenTable) → All IsTable ts → AreDifferent (map (λ t. t.path) ts)
    → (us : List SeenTable) × (tables (tables_text ts) ≡ Ok us)
    × (map without_place us ≡ map without_place ts)

-- what a text says of its tables, written and read
abbrev pub AreWrittenBack : Type 0
AreWrittenBack =
    (text : List ℕ) (ts : List SeenTable) → tables text ≡ Ok ts → (us : List SeenTable)
    × (tables (tables_text ts) ≡ Ok us) × (map without_place us ≡ map without_place ts)
