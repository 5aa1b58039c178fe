-- The hierarchy (IEEE 1687-2014, ICL: the instances of a design), without where its lists lie in memory.
use Rattle.std.specs.Prelude.{ℕ, ◌+◌, ◌-◌, List, map, slice_get, Option, Some, None}
use Rattle.std.specs.Option.{option_map}
use Rattle.ij_bits.specs.Room.{Listed}
use Rattle.ij_bits.specs.declared.tern.Tern.{Tern}
use Rattle.ij_text.specs.declared.Place.{Place}
use Rattle.ij_text.specs.Numbers.{tern_bits}
use Rattle.icl_declarations.specs.Values.{OpenBits}
use Rattle.icl_references.specs.declared.hier.Ref.{Ref}
use Rattle.icl_references.specs.declared.hier.Body.{Body}
use Rattle.icl_references.specs.declared.hier.Body.TheVariants.{ScanIn, ScanOut, DataIn, DataOut, Control}
use Rattle.icl_references.specs.declared.hier.Body.TheVariants.{Register, Mux, Alias, Child, Interface, Link}
use Rattle.icl_references.specs.declared.hier.Part.{Part}
use Rattle.icl_references.specs.declared.hier.Cell.{Cell}
use Rattle.icl_references.specs.declared.hier.Hier.{Hier}

-- a row of a multiplexer: its values and its source
pub record Choice : Type 0 where
  pub values : List OpenBits
  pub source : Ref

-- an instruction of an access link: the cell that it selects, and the interface among that cell's parts
pub record Selection : Type 0 where
  pub name : List ℕ
  pub cell : ℕ
  pub interface : ℕ

-- what a part is; lists of bits begin at position 0
pub data Role : Type 0 where
  ScanInput : Option Ref → Role
  ScanOutput : Option Ref → Role
  DataInput : Option (List Ref) → Role
  DataOutput : Option (List Ref) → Role
  ControlPort : Role
  AScanRegister : Option Ref → Option (List Ref) → Option OpenBits → Role
  AScanMux : List Ref → List Choice → Role
  AnAliasOf : List Ref → Role
  AnInstance : ℕ → Role
  AnInterfaceOf : List ℕ → Role
  AnAccessLink : List Selection → Role

-- a word of an enumeration, in the width of the part that refers to it
pub record Word : Type 0 where
  pub name : List ℕ
  pub value : OpenBits

-- a part of a cell: its name, the place of its item, its outermost indices
pub record PartOf : Type 0 where
  pub name : List ℕ
  pub at : Place
  pub left : ℕ
  pub right : ℕ
  pub role : Role
  pub words : List Word

pub record CellOf : Type 0 where
  pub name : List ℕ
  pub parent : Option ℕ
  pub module_name : List ℕ
  pub parts : List PartOf

-- ---- parts by their numbers

abbrev pub part_of : Option CellOf → ℕ → Option PartOf
part_of None part = None
part_of (Some c) part = slice_get c.parts part

abbrev pub part_at : List CellOf → ℕ → ℕ → Option PartOf
part_at cells cell part = part_of (slice_get cells cell) part

-- how many bits a part has
abbrev pub part_width : PartOf → ℕ
part_width p = (p.left - p.right) + (p.right - p.left) + 1

-- ---- views

abbrev pub seen_row : Listed Tern × Ref → Choice
seen_row row = record { values = map tern_bits row.0.items; source = row.1 }

abbrev pub seen_selection : Listed ℕ × ℕ × ℕ → Selection
seen_selection i = record { name = i.0.items; cell = i.1; interface = i.2 }

abbrev pub seen_refs : Listed Ref → List Ref
seen_refs refs = refs.items

abbrev pub seen_body : Body → Role
seen_body (ScanIn bound) = ScanInput bound
seen_body (ScanOut source) = ScanOutput source
seen_body (DataIn bound) = DataInput (option_map seen_refs bound)
seen_body (DataOut source) = DataOutput (option_map seen_refs source)
seen_body Control = ControlPort
seen_body (Register scan capture reset) =
    AScanRegister scan (option_map seen_refs capture) (option_map tern_bits reset)
seen_body (Mux select rows) = AScanMux select.items (map seen_row rows.items)
seen_body (Alias refs) = AnAliasOf refs.items
seen_body (Child cell) = AnInstance cell
seen_body (Interface ports) = AnInterfaceOf ports.items
seen_body (Link instrs) = AnAccessLink (map seen_selection instrs.items)

abbrev pub seen_word : Listed ℕ × Tern → Word
seen_word w = record { name = w.0.items; value = tern_bits w.1 }

abbrev pub seen_part : Part → PartOf
seen_part p = record {
  name = p.name.items;
  at = p.at;
  left = p.left;
  right = p.right;
  role = seen_body p.body;
  words = map seen_word p.words.items;
}

abbrev pub seen_cell : Cell → CellOf
seen_cell c = record {
  name = c.name.items;
  parent = c.parent;
  module_name = c.«module».items;
  parts = map seen_part c.parts.items;
}

abbrev pub seen_hier : Hier → List CellOf
seen_hier h = map seen_cell h.cells.items
