-- The parts of a module by their names, and a table of them.
use Rattle.std.specs.Prelude.{◌≡◌, ℕ, suc, Bool, ◌&&◌, cond, List, [], ◌∷◌, Option, Some, None}
use Rattle.std.specs.Str.{bytes_eq}
use Rattle.std.specs.Map.{lookup}
use Rattle.ij_text.specs.Options.{or_else}
use Rattle.icl_lexer.specs.Values.{SeenWhat, SeenItem}
use Rattle.icl_declarations.specs.declared.scope.Scope.{Scope}
use Rattle.icl_declarations.specs.Parts.{is_part, is_signal}

-- the number of the first part of this name that passes a test, where this many parts come before the items
abbrev pub part_from : ℕ → (SeenWhat → Bool) → List SeenItem → List ℕ → Option ℕ
part_from n test [] name = None
part_from n test (item ∷ items) name =
    cond (is_part item.what) (cond (test item.what && bytes_eq name item.name) (Some n)
    (part_from (suc n) test items name)) (part_from n test items name)

abbrev pub part_named : (SeenWhat → Bool) → List SeenItem → List ℕ → Option ℕ
part_named test items name = part_from 0 test items name

-- ---- a table

abbrev pub entry_of : Scope → List ℕ → Option ℕ
entry_of scope name = lookup (λ key. bytes_eq name key.items) scope.parts.entries

-- a part is added, unless one of its name is there
abbrev pub IsAdded : Scope → Scope → List ℕ → ℕ → Type 0
IsAdded old new name part = (n : List ℕ)
    → entry_of new n ≡ or_else (entry_of old n) (cond (bytes_eq n name) (Some part) None)

-- a table has what it had
abbrev pub IsKept : Scope → Scope → Type 0
IsKept old new = (name : List ℕ) → entry_of new name ≡ entry_of old name

-- the table has the parts that signals name
abbrev pub IsScopeOf : Scope → List SeenItem → Type 0
IsScopeOf scope items = (name : List ℕ) → entry_of scope name ≡ part_named is_signal items name

-- one item more: what the table and the items after it say is what the table before it and these items say
abbrev pub GoesOn : Scope → Scope → ℕ → ℕ → SeenItem → Type 0
GoesOn old new part next item = (rest : List SeenItem) (name : List ℕ)
    → or_else (entry_of new name) (part_from next is_signal rest name)
    ≡ or_else (entry_of old name) (part_from part is_signal (item ∷ rest) name)
