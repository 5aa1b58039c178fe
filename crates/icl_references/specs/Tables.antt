-- Tables of the cells of a design, for the second pass of elaboration: the parts of each cell by number and
-- by name, and the cells that its instances are.
use Rattle.std.specs.Prelude.{◌≡◌, ℕ, ◌<◌, ◌^◌, ◌==◌, ◌&&◌, cond, List, [], ◌∷◌, ◌++◌, map, length, get_or}
use Rattle.std.specs.Prelude.{Some, None}
use Rattle.std.specs.Str.{bytes_eq}
use Rattle.std.specs.Option.{option_map}
use Rattle.ij_text.specs.Options.{or_else}
use Rattle.icl_lexer.specs.Views.{seen_item}
use Rattle.icl_frames.specs.FirstPass.{Frame}
use Rattle.icl_declarations.specs.Scopes.{IsScopeOf, entry_of}
use Rattle.icl_frames.specs.SeenFrames.{seen_frame}
use Rattle.icl_declarations.specs.declared.scope.Scope.{Scope}
use Rattle.icl_references.specs.declared.tables.Member.{Member as MemberAt}
use Rattle.icl_references.specs.declared.tables.CellTable.{CellTable}
use Rattle.icl_references.specs.declared.tables.Tables.{Tables}
use Rattle.icl_references.specs.Names.{Here, Member, members, child_cell}

abbrev pub seen_member : MemberAt → Member
seen_member m = record { part = m.part; item = seen_item m.item.now; bounds = m.bounds }

-- ---- the cells

abbrev pub frames_in : List CellTable → List Frame
frames_in cells = map (λ c. seen_frame c.frame.now) cells

abbrev pub frames_of : Tables → List Frame
frames_of tables = frames_in tables.cells.items

-- what is past the last cell
abbrev pub no_frame : Frame
no_frame = record {
  name = [];
  parent = None;
  block = record { name = []; at = record { line = 1; col = 1 }; items = [] };
  params = [];
  bounds = [];
}

abbrev pub here_at : List Frame → ℕ → Here
here_at frames cell = record { number = cell; frame = get_or frames cell no_frame }

-- the cell of this number
abbrev pub here_in : Tables → ℕ → Here
here_in tables cell = here_at (frames_of tables) cell

-- ---- the tables

-- the parts of a cell, by number and by name
pub record IsCellTable (c : CellTable) : Type 0 where
  pub parts : map seen_member c.members.items ≡ members (seen_frame c.frame.now)
  pub names : IsScopeOf c.names (map seen_item c.frame.now.block.now.items.items)

abbrev pub AreCellTables : List CellTable → Type 0
AreCellTables cells = (cell : ℕ) (c : CellTable) → cell < length cells
    → c ≡ get_or cells cell c → IsCellTable c

-- the cell that the instance of each name is, in one cell
abbrev pub AreChildren : List Frame → ℕ → Scope → Type 0
AreChildren frames cell children = (name : List ℕ)
    → entry_of children name ≡ option_map (λ c. c.0) (child_cell frames cell name)

abbrev pub AreAllChildren : List Frame → List Scope → Type 0
AreAllChildren frames all = (cell : ℕ) (c : Scope) → cell < length all
    → c ≡ get_or all cell c → AreChildren frames cell c

pub record AreTables (tables : Tables) : Type 0 where
  pub few : length tables.cells.items < 2 ^ 32
  pub cells : AreCellTables tables.cells.items
  pub long : length tables.children.items ≡ length tables.cells.items
  pub children : AreAllChildren (frames_of tables) tables.children.items

-- a cell in the tables
pub record IsHere (t : Tables) (cell : ℕ) : Type 0 where
  pub tables : AreTables t
  pub there : cell < length t.cells.items

-- ---- how the tables are made

-- no cell has children
abbrev pub AreEmpty : List Scope → Type 0
AreEmpty all = (cell : ℕ) (c : Scope) → cell < length all → c ≡ get_or all cell c
    → (name : List ℕ) → entry_of c name ≡ None

-- a cell has a child more, unless it has one of this name
abbrev pub IsChildAdded : List Scope → List Scope → ℕ → List ℕ → ℕ → Type 0
IsChildAdded old new parent name number = (cell : ℕ) (c d : Scope) → cell < length old
    → c ≡ get_or old cell c → d ≡ get_or new cell d
    → (n : List ℕ)
    → entry_of d n ≡ or_else (entry_of c n) (cond (parent == cell && bytes_eq n name) (Some number) None)

-- a cell more, after all that were there, is among the children
abbrev pub IsFrameAdded : List Scope → List Scope → Frame → ℕ → Type 0
IsFrameAdded old new frame number = (frames : List Frame) → AreAllChildren frames old → number ≡ length frames
    → AreAllChildren (frames ++ frame ∷ []) new
