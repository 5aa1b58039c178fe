-- The files that a command loads, and names in a list.
use Rattle.std.specs.Prelude.{◌≡◌, ◌≢◌, ◌⊎◌, ◌<◌, ◌≤◌, ℕ, List, [], ◌∷◌, length, Option, IfSome, codes}
use Rattle.ij_io.specs.Files.{Files, bytes_of}
use Rattle.ijtag_stages.specs.Refusals.{Part, refused_name}
use Rattle.ijtag_stages.specs.Work.{give, ◌>>=◌}
use Rattle.ijtag_stages.specs.declared.refusal.Stage.TheVariants.{File}

-- a file that is loaded, and how many bytes it may have
pub record Load : Type 0 where
  pub name : List ℕ
  pub limit : ℕ

abbrev pub source : List ℕ → Load
source name = record { name = name; limit = 16777216 }

-- an SVF file may be longer
abbrev pub svf_file : List ℕ → Load
svf_file name = record { name = name; limit = 134217728 }

abbrev pub names_of : List Load → List (List ℕ)
names_of [] = []
names_of (load ∷ loads) = load.name ∷ names_of loads

-- where the files aren't told, a load may give any text that is short enough, or find any file too long
unfoldable pub loaded_one : Option Files → Load → Part (List ℕ)
loaded_one files load = record {
  gives = λ text. (length text ≤ load.limit) × IfSome files (λ f. text ≡ bytes_of f load.name);
  refuses = λ r. (r ≡ refused_name File (codes "Long") load.name)
      × IfSome files (λ f. load.limit < length (bytes_of f load.name));
}

abbrev pub loaded : Option Files → List Load → Part (List (List ℕ))
loaded files [] = give []
loaded files (load ∷ loads) = do
  text ← loaded_one files load
  texts ← loaded files loads
  give (text ∷ texts)

-- ---- names in a list

abbrev pub IsOneOf : List (List ℕ) → List ℕ → Type 0
IsOneOf [] name = ⊥
IsOneOf (n ∷ ns) name = (name ≡ n) ⊎ IsOneOf ns name

abbrev pub IsNoneOf : List (List ℕ) → List ℕ → Type 0
IsNoneOf [] name = Unit {0}
IsNoneOf (n ∷ ns) name = (name ≢ n) × IsNoneOf ns name
