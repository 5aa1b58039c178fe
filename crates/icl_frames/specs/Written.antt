-- What the grammar gives each design (IEEE 1687-2014, ICL): names are names of ICL, a multiplexer has a
-- select and rows, and each row has a value.
use Rattle.std.specs.Prelude.{◌≡◌, ◌≤◌, ◌<◌, ◌^◌, ℕ, List, length, IfSome, IsTrue, Ok}
use Rattle.std.specs.List.{AllByRecursion}
use Rattle.ij_text.specs.Words.{is_name}
use Rattle.icl_lexer.specs.Token.{Token}
use Rattle.icl_lexer.specs.Cutting.{AreTokens}
use Rattle.icl_lexer.specs.Seen.{seen_tokens}
use Rattle.icl_lexer.specs.Values.{SeenSig, SeenRow, SeenEnumWord, SeenWhat, AMux, SomeWords, SeenItem}
use Rattle.icl_lexer.specs.Values.{SeenModule}
use Rattle.icl_lexer.specs.Modules.{design}
use Rattle.icl_frames.specs.FirstPass.{Frame, first_pass}

-- a multiplexer has a select and rows, with values
pub record IsWrittenMux (select : List SeenSig) (rows : List SeenRow) : Type 0 where
  pub select_some : 1 ≤ length select
  pub rows_some : 1 ≤ length rows
  pub rows_few : length rows < 2 ^ 32
  pub values_some : AllByRecursion (λ (row : SeenRow). 1 ≤ length row.values) rows

-- the words of an enumeration have names of ICL
abbrev pub IsWrittenWhat : SeenWhat → Type 0
IsWrittenWhat (AMux select rows) = IsWrittenMux select rows
IsWrittenWhat (SomeWords words) = AllByRecursion (λ (w : SeenEnumWord). IsTrue (is_name w.name)) words
IsWrittenWhat what = Unit {0}

pub record IsWrittenItem (item : SeenItem) : Type 0 where
  pub name : IsTrue (is_name item.name)
  pub what : IsWrittenWhat item.what

pub record IsWritten (block : SeenModule) : Type 0 where
  pub name : IsTrue (is_name block.name)
  pub items : AllByRecursion IsWrittenItem block.items

abbrev pub AreWritten : List SeenModule → Type 0
AreWritten blocks = AllByRecursion IsWritten blocks

-- every design that is read from a text of fewer than 2^32 tokens is so
abbrev pub DesignsAreWritten : Type 0
DesignsAreWritten =
    (text : List ℕ) (tokens : List Token) (blocks : List SeenModule)
    → AreTokens text tokens → length tokens < 2 ^ 32
    → design.derives (seen_tokens text tokens) blocks → AreWritten blocks

-- ---- frames

-- an instance below the top has a name of ICL
pub record IsWrittenFrame (f : Frame) : Type 0 where
  pub name : IfSome f.parent (λ parent. IsTrue (is_name f.name))
  pub block : IsWritten f.block

-- and so is each frame of an accepted design
abbrev pub FramesAreWritten : Type 0
FramesAreWritten =
    (blocks : List SeenModule) (top : List ℕ) (frames : List Frame)
    → AreWritten blocks → first_pass blocks top ≡ Ok frames
    → AllByRecursion IsWrittenFrame frames
