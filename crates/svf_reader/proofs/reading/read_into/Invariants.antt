use Rattle.std.proofs.Common.{◌≡◌, ◌-◌, ◌≤◌, ◌++◌, List, length}
use Rattle.svf_writer.specs.SeenCommands.{SeenCommand}
use Rattle.svf_writer.specs.Fits.{AreFit, AreFitAfter}
use Rattle.svf_reader.specs.Texts.{plain, texts}
use Rattle.svf_reader.specs.Meaning.{before, read_from, svf}
use Rattle.svf_reader.proofs.reading.read_into.Given as goal

-- the commands so far, and those of the rest, are those of the text; and what can follow by what is kept can
-- follow them
abbrev pub invariant-loop-next : goal.invariant-loop-next
invariant-loop-next l = record {
  within : length l.rest ≤ length l.fn.src;
  so_far : before l.commands (read_from l.kept (length l.fn.src - length l.rest) (texts (plain l.rest)))
      ≡ svf l.fn.src;
  fit : (more : List SeenCommand) → AreFitAfter l.kept.ir l.kept.dr more → AreFit (l.commands ++ more);
}

abbrev pub decreases-loop-next : goal.decreases-loop-next
decreases-loop-next l = length l.rest
