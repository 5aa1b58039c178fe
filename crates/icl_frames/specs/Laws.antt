-- What holds of the frames of every accepted design (IEEE 1687-2014, ICL): they form a tree, each one has
-- what its module declares, and they are within this compiler's limits.
use Rattle.std.specs.Prelude.{◌≡◌, ◌≤◌, ◌<◌, ℕ, suc, Bool, true, ◌&&◌, cond, List, [], ◌∷◌, ◌++◌, map, filter}
use Rattle.std.specs.Prelude.{zip, length, get_or, sum_by, count_by, Contains, slice_get, Option, Some, None}
use Rattle.std.specs.Prelude.{Ok, is_some, IfSome, IsSomeAnd}
use Rattle.std.specs.List.{AllByRecursion, enumerate_from}
use Rattle.ij_bits.specs.Different.{AreDifferent}
use Rattle.icl_lexer.specs.Values.{SeenItem, SeenModule}
use Rattle.icl_declarations.specs.Faults.{each}
use Rattle.icl_declarations.specs.declared.ranges.Bounds.{Bounds}
use Rattle.icl_declarations.specs.Ranges.{width, declared}
use Rattle.icl_declarations.specs.Parts.{is_register, is_mux, is_signal, port_that, is_data_in, is_data_out}
use Rattle.icl_declarations.specs.Parts.{is_data_port, is_instrument, inner_names, range_in, parts_of}
use Rattle.icl_frames.specs.FirstPass.{Frame, first_pass}
use Rattle.icl_frames.specs.Preorder.{children_of}

-- ---- the tree

abbrev pub parents_of : List Frame → List (Option ℕ)
parents_of frames = map (λ f. f.parent) frames

-- a parent comes before its child; cell 0 alone, the top, has none
abbrev pub IsBelow : ℕ → Option ℕ → Type 0
IsBelow number None = number ≡ 0
IsBelow number (Some parent) = parent < number

abbrev pub AreBelow : List (Option ℕ) → Type 0
AreBelow parents = AllByRecursion (λ (p : ℕ × Option ℕ). IsBelow p.0 p.1) (enumerate_from 0 parents)

-- how many instances stand around a cell and itself below the top, by the levels of the cells before it
abbrev pub level_below : List ℕ → Option ℕ → ℕ
level_below levels None = 0
level_below levels (Some parent) = suc (get_or levels parent 0)

abbrev pub levels_from : List ℕ → List (Option ℕ) → List ℕ
levels_from levels [] = levels
levels_from levels (p ∷ ps) = levels_from (levels ++ level_below levels p ∷ []) ps

-- the names of the instances among some items
abbrev pub child_names : List SeenItem → List (List ℕ)
child_names items = map (λ d. d.name) (children_of items)

-- a frame with a parent is one of the instances that the parent's module declares
abbrev pub IsDeclaredIn : List Frame → Frame → Type 0
IsDeclaredIn frames f = IfSome f.parent
    (λ parent. IsSomeAnd (slice_get frames parent) (λ p. Contains (child_names p.block.items) f.name))

pub record AreTree (blocks : List SeenModule) (frames : List Frame) : Type 0 where
  pub some : 1 ≤ length frames
  pub parents : AreBelow (parents_of frames)
  pub siblings : AreDifferent {A = Option ℕ × List ℕ} (map (λ f. (f.parent, f.name)) frames)
  pub few_levels : AllByRecursion (λ (n : ℕ). n ≤ 64) (levels_from [] (parents_of frames))
  pub blocks_are : AllByRecursion (λ f. Contains blocks f.block) frames
  pub declared_are : AllByRecursion (IsDeclaredIn frames) frames

-- ---- what each one has

-- the parts of a frame with their bounds
abbrev pub parts_in : Frame → List (SeenItem × Bounds)
parts_in f = zip (parts_of f.block) f.bounds

-- an instrument is no top
abbrev pub is_instrument_frame : Frame → Bool
is_instrument_frame f = is_some f.parent && is_instrument f.block

-- at most 16 inputs and 16 outputs of at most 64 bits
pub record HasFewPorts (f : Frame) : Type 0 where
  pub inputs : count_by (λ item. port_that is_data_in item.what) f.block.items ≤ 16
  pub outputs : count_by (λ item. port_that is_data_out item.what) f.block.items ≤ 16
  pub widths : AllByRecursion (λ (p : SeenItem × Bounds). is_data_port p.0.what ≡ true
      → width p.1 ≤ 64) (parts_in f)

-- each part has the bounds that its range says in the frame's parameters, one bit without a range, and at
-- most 65,536; the names of its signals differ, and so do those in each item
pub record IsFrame (f : Frame) : Type 0 where
  pub bounds : each (λ item. declared f.params (range_in item.what)) (parts_of f.block) ≡ Ok f.bounds
  pub all : length f.bounds ≡ length (parts_of f.block)
  pub widths : AllByRecursion (λ b. width b ≤ 65536) f.bounds
  pub signals : AreDifferent (map (λ item. item.name) (filter (λ item. is_signal item.what) f.block.items))
  pub inner : AllByRecursion (λ item. AreDifferent (inner_names item.what)) f.block.items
  pub ports : is_instrument_frame f ≡ true → HasFewPorts f

-- ---- counts

abbrev pub register_bits : SeenItem × Bounds → ℕ
register_bits p = cond (is_register p.0.what) (width p.1) 0

abbrev pub bits_in : Frame → ℕ
bits_in f = sum_by register_bits (parts_in f)

abbrev pub muxes_in : Frame → ℕ
muxes_in f = count_by (λ item. is_mux item.what) f.block.items

pub record AreFew (frames : List Frame) : Type 0 where
  pub few_cells : length frames ≤ 8192
  pub bits_within_limit : sum_by bits_in frames ≤ 4096
  pub few_muxes : sum_by muxes_in frames ≤ 1024
  pub few_instruments : count_by is_instrument_frame frames ≤ 256

-- ---- the laws

abbrev pub FramesAreTree : Type 0
FramesAreTree =
    (blocks : List SeenModule) (top : List ℕ) (frames : List Frame)
    → first_pass blocks top ≡ Ok frames → AreTree blocks frames

abbrev pub FramesAreDeclared : Type 0
FramesAreDeclared =
    (blocks : List SeenModule) (top : List ℕ) (frames : List Frame)
    → first_pass blocks top ≡ Ok frames → AllByRecursion IsFrame frames

abbrev pub FramesAreFew : Type 0
FramesAreFew =
    (blocks : List SeenModule) (top : List ℕ) (frames : List Frame)
    → first_pass blocks top ≡ Ok frames → AreFew frames
