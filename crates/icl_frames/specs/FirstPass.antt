-- The first pass of elaboration (IEEE 1687-2014, ICL: Instance, Parameter): which cells there are, in
-- preorder, with their parameters and the ranges of what they declare; or the first fault. A cell is finished
-- before its first child is entered.
use Rattle.std.specs.Prelude.{ℕ, zero, suc, nat_le, Bool, not, ◌&&◌, cond, List, [], ◌∷◌, ◌++◌, length}
use Rattle.std.specs.Prelude.{Option, Some, None, is_some, Ok, Err}
use Rattle.std.specs.List.{list_any}
use Rattle.std.specs.Str.{bytes_eq}
use Rattle.ij_text.specs.declared.Place.{Place}
use Rattle.ij_text.specs.declared.Which.TheVariants.{Hierarchy, Cells}
use Rattle.icl_lexer.specs.Values.{SeenExpr, SeenBind, ABoundPort, ABoundParameter, ABoundAttribute, SeenWhat}
use Rattle.icl_lexer.specs.Values.{AChild, AParameter, SeenItem, SeenModule}
use Rattle.icl_declarations.specs.Faults.{Answer, ◌>>=◌, refuse_if, over, NoModule, NoName, DoubleName}
use Rattle.icl_declarations.specs.Faults.{InstanceLoop, Limit}
use Rattle.icl_declarations.specs.Values.{ParamValue, Params, param_value, with_param}
use Rattle.icl_declarations.specs.Expressions.{evaluate}
use Rattle.icl_declarations.specs.declared.counts.Counts.{Counts}
use Rattle.icl_declarations.specs.Parts.{is_part, range_in, block_named, is_bindable, is_instrument}
use Rattle.icl_declarations.specs.declared.ranges.Bounds.{Bounds}
use Rattle.icl_declarations.specs.Ranges.{declared}
use Rattle.icl_declarations.specs.Naming.{check_item_names}
use Rattle.icl_declarations.specs.Counting.{count_part, count_instrument}

-- a cell: an instance of a module, with its parameters, and the bounds of each of its parts
pub record Frame : Type 0 where
  pub name : List ℕ
  pub parent : Option ℕ
  pub block : SeenModule
  pub params : Params
  pub bounds : List Bounds

-- an instance that is wanted: its name, its module, and the parameters that are bound at it
pub record Request : Type 0 where
  pub name : List ℕ
  pub block : SeenModule
  pub given : Params

-- ---- parameters

-- a parameter that its instance binds has that value, and every other one its own
abbrev pub param_in : Params → Params → Place → List ℕ → SeenExpr → Option ParamValue → Answer ParamValue
param_in given ps at name e None = evaluate ps at e
param_in given ps at name e (Some value) = Ok value

abbrev pub bound_value : Params → Bool → List ℕ → Option ParamValue
bound_value given local name = cond local None (param_value given name)

abbrev pub with_parameter : Params → Params → SeenItem → SeenWhat → Answer Params
with_parameter given ps item (AParameter local e) = param_in given ps item.at item.name e
    (bound_value given local item.name) >>= λ value. Ok (with_param ps item.name value)
with_parameter given ps item what = Ok ps

-- a module's parameters are evaluated in the order of the text, each after those above it
abbrev pub parameters : Params → SeenModule → Answer Params
parameters given block = over (λ ps item. with_parameter given ps item item.what) [] block.items

-- ---- instances

abbrev pub with_binding : Params → SeenModule → Params → SeenBind → Answer Params
with_binding ps block given (ABoundParameter at name e) = do
  open' ← refuse_if (not (is_bindable block name)) (NoName at name)
  once ← refuse_if (is_some (param_value given name)) (DoubleName at name)
  value ← evaluate ps at e
  Ok (with_param given name value)
with_binding ps block given (ABoundPort at name range sigs) = Ok given
with_binding ps block given (ABoundAttribute name value) = Ok given

abbrev pub known_block : List ℕ → Option SeenModule → Answer SeenModule
known_block name None = Err (NoModule name)
known_block name (Some block) = Ok block

-- the instance that an item wants, in a cell that is in these modules; parameters are evaluated in the
-- parent
abbrev pub request : List SeenModule → List (List ℕ) → Params → SeenItem → SeenWhat → Answer (List Request)
request blocks above ps item (AChild module' binds) = do
  block ← known_block module' (block_named blocks module')
  loop ← refuse_if (list_any (bytes_eq module') above) (InstanceLoop item.at)
  given ← over (with_binding ps block) [] binds
  Ok (record { name = item.name; block = block; given = given } ∷ [])
request blocks above ps item what = Ok []

-- ---- the items of a cell

-- what is known after some items: these items, the bounds of the parts among them, the instances that they
-- want
pub record Passed : Type 0 where
  pub items : List SeenItem
  pub bounds : List Bounds
  pub requests : List Request
  pub counts : Counts

abbrev pub bounds_of : SeenWhat → Bounds → List Bounds
bounds_of what b = cond (is_part what) (b ∷ []) []

-- what one item adds: its bounds, the instance that it wants, and the counts with it
pub record Added : Type 0 where
  pub bounds : Bounds
  pub wanted : List Request
  pub counts : Counts

-- an item after others, in a cell that is in these modules
unfoldable pub item_additions : List SeenModule → List (List ℕ) → Params
    → List SeenItem → Counts → SeenItem → Answer Added
item_additions blocks above ps before c item = do
  names ← check_item_names before item
  b ← declared ps (range_in item.what)
  wanted ← request blocks above ps item item.what
  counts ← count_part c b item.what
  Ok (record { bounds = b; wanted = wanted; counts = counts })

abbrev pub with_added : Passed → SeenItem → Added → Passed
with_added s item a = record {
  items = s.items ++ item ∷ [];
  bounds = s.bounds ++ bounds_of item.what a.bounds;
  requests = s.requests ++ a.wanted;
  counts = a.counts;
}

unfoldable pub fold_item : List SeenModule → List (List ℕ) → Params → Passed → SeenItem → Answer Passed
fold_item blocks above ps s item =
    item_additions blocks above ps s.items s.counts item >>= λ a. Ok (with_added s item a)

abbrev pub nothing_passed : Counts → Passed
nothing_passed c = record { items = []; bounds = []; requests = []; counts = c }

abbrev pub fold_items : List SeenModule → List (List ℕ) → Params → Counts → SeenModule → Answer Passed
fold_items blocks above ps c block = over (fold_item blocks above ps) (nothing_passed c) block.items

-- ---- instruments

-- the top is no instrument
abbrev pub cell_counts : Option ℕ → SeenModule → Passed → Answer Counts
cell_counts parent block s =
    cond (is_some parent && is_instrument block) (count_instrument block s.bounds s.counts) (Ok s.counts)

-- ---- cells

pub record Progress : Type 0 where
  pub frames : List Frame
  pub counts : Counts

-- a cell, and the instances that it wants
pub record Entered : Type 0 where
  pub frame : Frame
  pub requests : List Request
  pub counts : Counts

-- one cell, which is in these modules, its own among them
unfoldable pub cell_of_request : List SeenModule → List (List ℕ) → Option ℕ → Counts → Request → Answer
    Entered
cell_of_request blocks above parent c r = do
  ps ← parameters r.given r.block
  s ← fold_items blocks above ps c r.block
  counts ← cell_counts parent r.block s
  Ok (record {
    frame = record {
      name = r.name;
      parent = parent;
      block = r.block;
      params = ps;
      bounds = s.bounds;
    };
    requests = s.requests;
    counts = counts;
  })

-- a cell and all cells below it, in this many levels
unfoldable pub add_subtree : ℕ → List SeenModule → List (List ℕ) → Option ℕ → Progress → Request → Answer
    Progress
add_subtree zero blocks above parent s r = Err (Limit Hierarchy 64)
add_subtree (suc levels) blocks above parent s r = do
  room ← refuse_if (nat_le 8192 (length s.frames)) (Limit Cells 8192)
  e ← cell_of_request blocks (r.block.name ∷ above) parent s.counts r
  over (add_subtree levels blocks (r.block.name ∷ above) (Some (length s.frames)))
      (record { frames = s.frames ++ e.frame ∷ []; counts = e.counts }) e.requests

-- ---- the whole pass

abbrev pub with_block : List SeenModule → SeenModule → Answer (List SeenModule)
with_block before block = refuse_if (is_some (block_named before block.name)) (DoubleName block.at block.name)
    >>= λ u. Ok (before ++ block ∷ [])

abbrev pub nothing_entered : Progress
nothing_entered = record { frames = []; counts = record { bits = 0; muxes = 0; instruments = 0 } }

-- at most 64 instances stand inside one another below the top
unfoldable pub first_pass : List SeenModule → List ℕ → Answer (List Frame)
first_pass blocks top = do
  names ← over with_block [] blocks
  block ← known_block top (block_named blocks top)
  s ← add_subtree 65 blocks [] None nothing_entered (record { name = []; block = block; given = [] })
  Ok s.frames
