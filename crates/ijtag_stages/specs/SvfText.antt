-- The stage of the SVF text: its commands (Serial Vector Format, revision E).
use Rattle.std.specs.Prelude.{◌≡◌, ℕ, List, Option, Some, None, Ok, codes}
use Rattle.svf_writer.specs.SeenCommands.{SeenCommand}
use Rattle.svf_reader.specs.Answers.{Refuses}
use Rattle.svf_reader.specs.Meaning.{svf}
use Rattle.svf_reader.specs.declared.fault.SvfFault.{SvfFault}
use Rattle.svf_reader.specs.declared.fault.SvfFault.TheVariants.{LeftOut, SvfSyntax, SvfLimit, HexWide}
use Rattle.svf_reader.specs.declared.fault.SvfFault.TheVariants.{TdiMissing, OutOfMemory}
use Rattle.ijtag_stages.specs.Refusals.{Part, Refusal, refused_at, refused_word}
use Rattle.ijtag_stages.specs.declared.refusal.Stage.TheVariants.{Svf}

-- how a fault is reported; want of memory is no refusal
abbrev pub svf_fault : SvfFault → Option Refusal
svf_fault (LeftOut at word) = Some (refused_word Svf (codes "LeftOut") at word.items)
svf_fault (SvfSyntax at) = Some (refused_at Svf (codes "SvfSyntax") at)
svf_fault (SvfLimit at) = Some (refused_at Svf (codes "SvfLimit") at)
svf_fault (HexWide at) = Some (refused_at Svf (codes "HexWide") at)
svf_fault (TdiMissing at) = Some (refused_at Svf (codes "TdiMissing") at)
svf_fault OutOfMemory = None

unfoldable pub svf_text : List ℕ → Part (List SeenCommand)
svf_text text = record {
  gives = λ commands. svf text ≡ Ok commands;
  refuses = λ r. (fault : SvfFault) × Refuses text fault × (svf_fault fault ≡ Some r);
}
