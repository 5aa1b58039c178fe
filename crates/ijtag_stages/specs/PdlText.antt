-- The stage of the PDL text: its procedures (IEEE 1687-2014, PDL level 0, the part that is read here).
use Rattle.std.specs.Prelude.{◌≡◌, ℕ, List, Option, Some, None, codes}
use Rattle.pdl_parser.specs.Cutting.{words_of}
use Rattle.pdl_parser.specs.Grammar.{procs}
use Rattle.pdl_parser.specs.Refusals.{AFault, NoMemory, IsLeftOut, IsNotInLevel0, IsBadNumber, IsTooWide}
use Rattle.pdl_parser.specs.Refusals.{IsProcTwice, IsNoArg, IsSyntax, IsRefused}
use Rattle.pdl_parser.specs.Values.{AProc}
use Rattle.ijtag_stages.specs.Refusals.{Part, Refusal, refused_at, refused_word}
use Rattle.ijtag_stages.specs.declared.refusal.Stage.TheVariants.{Pdl}

-- how a fault is reported; want of memory is no refusal
abbrev pub pdl_refusal : AFault → Option Refusal
pdl_refusal NoMemory = None
pdl_refusal (IsLeftOut at word) = Some (refused_word Pdl (codes "LeftOut") at word)
pdl_refusal (IsNotInLevel0 at) = Some (refused_at Pdl (codes "NotInLevel0") at)
pdl_refusal (IsBadNumber at) = Some (refused_at Pdl (codes "BadNumber") at)
pdl_refusal (IsTooWide at) = Some (refused_at Pdl (codes "TooWide") at)
pdl_refusal (IsProcTwice at) = Some (refused_at Pdl (codes "ProcTwice") at)
pdl_refusal (IsNoArg at name) = Some (refused_word Pdl (codes "NoArg") at name)
pdl_refusal (IsSyntax at) = Some (refused_at Pdl (codes "PdlSyntax") at)

-- the procedures that the grammar makes of the text's words
unfoldable pub pdl_text : List ℕ → Part (List AProc)
pdl_text text = record {
  gives = λ ps. procs.derives (words_of text) ps;
  refuses = λ r. (fault : AFault) × IsRefused text fault × (pdl_refusal fault ≡ Some r);
}
