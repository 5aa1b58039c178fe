-- The cells of an accepted design are its instances in preorder (IEEE 1687-2014, ICL: Instance): each one
-- before its children, and these one after another, as the module's text has them. Each has the parameters
-- that its module evaluates to, with those that its instance binds, which are evaluated in the parent.
use Rattle.std.specs.Prelude.{◌≡◌, ◌+◌, ℕ, zero, suc, List, [], ◌∷◌, ◌++◌, filter_map, length, Option, Some}
use Rattle.std.specs.Prelude.{None, Ok}
use Rattle.icl_lexer.specs.Values.{SeenBind, SeenWhat, AChild, SeenItem, SeenModule}
use Rattle.icl_declarations.specs.Faults.{over}
use Rattle.icl_declarations.specs.Values.{Params}
use Rattle.icl_declarations.specs.Parts.{block_named}
use Rattle.icl_frames.specs.FirstPass.{Frame, parameters, with_binding, first_pass}

-- an instance that a module declares
pub record Declared : Type 0 where
  pub name : List ℕ
  pub module_name : List ℕ
  pub binds : List SeenBind

abbrev pub declared_by : List ℕ → SeenWhat → Option Declared
declared_by name (AChild module' binds) = Some (record { name = name; module_name = module'; binds = binds })
declared_by name what = None

-- in the order of the text
abbrev pub children_of : List SeenItem → List Declared
children_of items = filter_map (λ item. declared_by item.name item.what) items

-- a number, a parent, a name, a module, bound parameters: that the frames are those of such an instance
abbrev pub OfInstance : Type 1
OfInstance = ℕ → Option ℕ → List ℕ → SeenModule → Params → List Frame → Type 0

-- the frames of one child
pub record AreOfChild (blocks : List SeenModule) (Is : OfInstance) (number parent : ℕ) (params : Params)
    (d : Declared) (frames : List Frame) : Type 0 where
  pub block : SeenModule
  pub given : Params
  pub known : block_named blocks d.module_name ≡ Some block
  pub bound : over (with_binding params block) [] d.binds ≡ Ok given
  pub instance : Is number (Some parent) d.name block given frames

-- the frames of children one after another, the first of which has this number
abbrev pub AreOfChildren : List SeenModule → OfInstance → ℕ → ℕ → Params → List Declared → List Frame → Type 0
AreOfChildren blocks Is number parent params [] frames = frames ≡ []
AreOfChildren blocks Is number parent params (d ∷ ds) frames =
    (xs : List Frame) × (ys : List Frame) × (frames ≡ xs ++ ys)
    × AreOfChild blocks Is number parent params d xs
    × AreOfChildren blocks Is (number + length xs) parent params ds ys

-- the frames of an instance, in this many levels: its own, and those of its children after it
abbrev pub AreOfInstance : List SeenModule → ℕ → OfInstance
AreOfInstance blocks zero number parent name block given frames = ⊥
AreOfInstance blocks (suc levels) number parent name block given [] = ⊥
AreOfInstance blocks (suc levels) number parent name block given (frame ∷ rest) =
    (frame.name ≡ name) × (frame.parent ≡ parent) × (frame.block ≡ block)
    × (parameters given block ≡ Ok frame.params)
    × AreOfChildren blocks (AreOfInstance blocks levels)
    (suc number) number frame.params (children_of block.items) rest

-- the frames of an accepted design are those of its top, with at most 64 instances inside one another below
-- it
pub record ArePreorder (blocks : List SeenModule) (top : List ℕ) (frames : List Frame) : Type 0 where
  pub block : SeenModule
  pub known : block_named blocks top ≡ Some block
  pub instance : AreOfInstance blocks 65 0 None [] block [] frames

abbrev pub FramesArePreorder : Type 0
FramesArePreorder = (blocks : List SeenModule) (top : List ℕ) (frames : List Frame)
    → first_pass blocks top ≡ Ok frames → ArePreorder blocks top frames
