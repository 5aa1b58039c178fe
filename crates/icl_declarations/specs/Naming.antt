-- The names of a module's items, and those in an item, differ among themselves (IEEE 1687-2014, ICL: Module,
-- Enum, AccessLink).
use Rattle.std.specs.Prelude.{ℕ, List, [], ◌∷◌, ◌++◌, Ok}
use Rattle.std.specs.List.{list_any}
use Rattle.std.specs.Str.{bytes_eq}
use Rattle.ij_text.specs.declared.Place.{Place}
use Rattle.icl_lexer.specs.Values.{SeenItem}
use Rattle.icl_declarations.specs.Faults.{Answer, ◌>>=◌, refuse_if, over, DoubleName}
use Rattle.icl_declarations.specs.Parts.{is_taken, inner_names}

abbrev pub with_name : Place → List (List ℕ) → List ℕ → Answer (List (List ℕ))
with_name at names name = refuse_if (list_any (bytes_eq name) names) (DoubleName at name)
    >>= λ u. Ok (names ++ name ∷ [])

-- the names differ among themselves
abbrev pub distinct : Place → List (List ℕ) → Answer (Unit {0})
distinct at names = over (with_name at) [] names >>= λ all. Ok tt

-- the item's own name, then those in it
abbrev pub check_item_names : List SeenItem → SeenItem → Answer (Unit {0})
check_item_names before item = refuse_if (is_taken before item) (DoubleName item.at item.name)
    >>= λ u. distinct item.at (inner_names item.what)
