-- What holds of every hierarchy of an accepted design (IEEE 1687-2014, ICL): names differ where they must,
-- names are names of ICL, multiplexers have rows, and the counts are within this compiler's limits.
use Rattle.std.specs.Prelude.{◌≡◌, ◌≤◌, ◌<◌, ◌^◌, ℕ, Bool, true, false, not, ◌&&◌, List, [], ◌∷◌, ◌++◌, map}
use Rattle.std.specs.Prelude.{filter, length, sum_by, Option, Ok, is_some, IfSome, IsTrue}
use Rattle.std.specs.List.{AllByRecursion, list_any, enumerate_from}
use Rattle.ij_bits.specs.Different.{AreDifferent}
use Rattle.ij_text.specs.Words.{is_name}
use Rattle.icl_lexer.specs.Values.{SeenModule}
use Rattle.icl_frames.specs.Laws.{IsBelow, level_below}
use Rattle.icl_frames.specs.Written.{AreWritten}
use Rattle.icl_references.specs.Roles.{Choice, Role, ScanInput, ScanOutput, DataInput, DataOutput}
use Rattle.icl_references.specs.Roles.{AScanRegister, AScanMux, AnAliasOf, AnInstance, PartOf, CellOf}
use Rattle.icl_references.specs.Roles.{part_width}
use Rattle.icl_elab.specs.Hierarchy.{hierarchy}
use Rattle.icl_elab.specs.Laws.{AreWired}

-- ---- kinds of parts

abbrev pub is_register : Role → Bool
is_register (AScanRegister scan capture reset) = true
is_register role = false

abbrev pub is_mux : Role → Bool
is_mux (AScanMux select rows) = true
is_mux role = false

abbrev pub is_data_in : Role → Bool
is_data_in (DataInput bound) = true
is_data_in role = false

abbrev pub is_data_out : Role → Bool
is_data_out (DataOutput source) = true
is_data_out role = false

abbrev pub is_data_port : Role → Bool
is_data_port (DataInput bound) = true
is_data_port (DataOutput source) = true
is_data_port role = false

-- what procedures may name: registers, data ports and aliases
abbrev pub is_thing : Role → Bool
is_thing (AScanRegister scan capture reset) = true
is_thing (DataInput bound) = true
is_thing (DataOutput source) = true
is_thing (AnAliasOf refs) = true
is_thing role = false

-- what an instrument may not have: scan ports, registers, multiplexers, instances, and sources of its own
abbrev pub is_barred_in_instrument : Role → Bool
is_barred_in_instrument (ScanInput bound) = true
is_barred_in_instrument (ScanOutput source) = true
is_barred_in_instrument (AScanRegister scan capture reset) = true
is_barred_in_instrument (AScanMux select rows) = true
is_barred_in_instrument (AnInstance cell) = true
is_barred_in_instrument (DataOutput source) = is_some source
is_barred_in_instrument role = false

-- an instance that data ports alone join to the network
abbrev pub is_instrument : CellOf → Bool
is_instrument c =
    is_some c.parent && list_any (λ p. is_data_port p.role) c.parts && not
    (list_any (λ p. is_barred_in_instrument p.role) c.parts)

-- ---- the tree

-- for each cell how many instances stand around it and itself below the top, by its parent's level
abbrev pub levels_from : List ℕ → List CellOf → List ℕ
levels_from levels [] = levels
levels_from levels (c ∷ cs) = levels_from (levels ++ level_below levels c.parent ∷ []) cs

-- ---- cells and their parts

-- an instance below the top has a name of ICL
abbrev pub IsInstanceNamed : CellOf → Type 0
IsInstanceNamed c = IfSome c.parent (λ parent. IsTrue (is_name c.name))

-- a multiplexer has a select bit, and rows with values
abbrev pub HasRows : Role → Type 0
HasRows (AScanMux select rows) =
    (1 ≤ length select) × (1 ≤ length rows) × (length rows < 2 ^ 32)
    × AllByRecursion (λ (row : Choice). 1 ≤ length row.values) rows
HasRows role = Unit {0}

pub record IsPartNamed (p : PartOf) : Type 0 where
  pub name : IsTrue (is_name p.name)
  pub bits_within_limit : part_width p ≤ 65536
  pub rows : HasRows p.role
  pub words : AreDifferent (map (λ w. w.name) p.words)

-- a cell's registers, data ports and aliases
abbrev pub things_in : CellOf → List PartOf
things_in c = filter (λ p. is_thing p.role) c.parts

-- at most 16 inputs and 16 outputs of at most 64 bits
pub record HasFewPorts (c : CellOf) : Type 0 where
  pub inputs : length (filter (λ p. is_data_in p.role) c.parts) ≤ 16
  pub outputs : length (filter (λ p. is_data_out p.role) c.parts) ≤ 16
  pub widths : AllByRecursion (λ p. part_width p ≤ 64) (filter (λ p. is_data_port p.role) c.parts)

pub record IsCell (c : CellOf) : Type 0 where
  pub name : IsInstanceNamed c
  pub parts : AllByRecursion IsPartNamed c.parts
  pub thing_names : AreDifferent (map (λ p. p.name) (things_in c))
  pub ports : is_instrument c ≡ true → HasFewPorts c

-- ---- hierarchies

-- the bits of the parts that pass a test
abbrev pub width_that : (Role → Bool) → CellOf → ℕ
width_that test c = sum_by part_width (filter (λ p. test p.role) c.parts)

-- how many parts pass a test
abbrev pub count_that : (Role → Bool) → CellOf → ℕ
count_that test c = length (filter (λ p. test p.role) c.parts)

-- a cell's parent comes before it; cell 0 alone, the top, has none; cells of one parent differ in their names
pub record AreInTree (cells : List CellOf) : Type 0 where
  pub top : 1 ≤ length cells
  pub parents : AllByRecursion (λ (c : ℕ × CellOf). IsBelow c.0 c.1.parent) (enumerate_from 0 cells)
  pub siblings : AreDifferent {A = Option ℕ × List ℕ} (map (λ c. (c.parent, c.name)) cells)
  pub few_levels : AllByRecursion (λ (n : ℕ). n ≤ 64) (levels_from [] cells)

pub record AreCellsFew (cells : List CellOf) : Type 0 where
  pub few_cells : length cells ≤ 8192
  pub bits_within_limit : sum_by (width_that is_register) cells ≤ 4096
  pub few_muxes : sum_by (count_that is_mux) cells ≤ 1024
  pub few_instruments : length (filter is_instrument cells) ≤ 256

pub record IsHierarchy (cells : List CellOf) : Type 0 where
  pub wired : AreWired cells
  pub top : 1 ≤ length cells
  pub parents : AllByRecursion (λ (c : ℕ × CellOf). IsBelow c.0 c.1.parent) (enumerate_from 0 cells)
  pub siblings : AreDifferent {A = Option ℕ × List ℕ} (map (λ c. (c.parent, c.name)) cells)
  pub cells_are : AllByRecursion IsCell cells
  pub few_cells : length cells ≤ 8192
  pub few_levels : AllByRecursion (λ (n : ℕ). n ≤ 64) (levels_from [] cells)
  pub bits_within_limit : sum_by (width_that is_register) cells ≤ 4096
  pub few_muxes : sum_by (count_that is_mux) cells ≤ 1024
  pub few_instruments : length (filter is_instrument cells) ≤ 256

-- ---- the laws

abbrev pub HierarchiesAreInTree : Type 0
HierarchiesAreInTree =
    (blocks : List SeenModule) (top : List ℕ) (cells : List CellOf)
    → hierarchy blocks top ≡ Ok cells → AreInTree cells

abbrev pub HierarchiesAreFew : Type 0
HierarchiesAreFew =
    (blocks : List SeenModule) (top : List ℕ) (cells : List CellOf)
    → hierarchy blocks top ≡ Ok cells → AreCellsFew cells

-- of modules that the grammar gives
abbrev pub HierarchiesAreWellFormed : Type 0
HierarchiesAreWellFormed =
    (blocks : List SeenModule) (top : List ℕ) (cells : List CellOf) → AreWritten blocks
    → hierarchy blocks top ≡ Ok cells → IsHierarchy cells
