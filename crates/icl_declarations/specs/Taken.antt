-- The names that are at some items, in tables: one for each kind of items whose names differ among
-- themselves.
use Rattle.std.specs.Prelude.{◌≡◌, ℕ, Bool, ◌&&◌, List, [], ◌∷◌, ◌++◌, is_some}
use Rattle.std.specs.List.{list_any}
use Rattle.std.specs.Str.{bytes_eq}
use Rattle.icl_lexer.specs.Values.{SeenWhat, SeenItem}
use Rattle.icl_declarations.specs.declared.scope.Scope.{Scope}
use Rattle.icl_declarations.specs.declared.taken.Taken.{Taken}
use Rattle.icl_declarations.specs.Parts.{is_signal, is_interface, is_link, is_enum, is_parameter}
use Rattle.icl_declarations.specs.Scopes.{entry_of}

-- whether a table has a name
abbrev pub has_entry : Scope → List ℕ → Bool
has_entry scope name = is_some (entry_of scope name)

-- whether an item of a kind has this name
abbrev pub has_item : (SeenWhat → Bool) → List SeenItem → List ℕ → Bool
has_item test items name = list_any (λ other. test other.what && bytes_eq name other.name) items

-- a table has the names of the items of a kind
abbrev pub HasNames : (SeenWhat → Bool) → Scope → List SeenItem → Type 0
HasNames test scope items = (name : List ℕ) → has_entry scope name ≡ has_item test items name

pub record AreTaken (t : Taken) (items : List SeenItem) : Type 0 where
  pub signals : HasNames is_signal t.signals items
  pub interfaces : HasNames is_interface t.interfaces items
  pub links : HasNames is_link t.links items
  pub enums : HasNames is_enum t.enums items
  pub parameters : HasNames is_parameter t.parameters items

-- a table has the names that it had
abbrev pub KeepsNames : Scope → Scope → Type 0
KeepsNames old new = (name : List ℕ) → has_entry new name ≡ has_entry old name

-- one item more
abbrev pub IsOneMore : Taken → Taken → SeenItem → Type 0
IsOneMore old new item = (items : List SeenItem) → AreTaken old items → AreTaken new (items ++ item ∷ [])

-- the same items
abbrev pub AreStill : Taken → Taken → Type 0
AreStill old new = (items : List SeenItem) → AreTaken old items → AreTaken new items
