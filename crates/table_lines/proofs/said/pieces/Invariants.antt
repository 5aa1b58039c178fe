use Rattle.std.proofs.Common.{◌≡◌, ◌++◌, length}
use Rattle.ij_text.specs.Parts.{split}
use Rattle.table_lines.specs.Reading.{texts}
use Rattle.table_lines.proofs.said.pieces.Given as goal

abbrev pub invariant-loop-all : goal.invariant-loop-all
invariant-loop-all l = texts l.all.items ++ split 46 l.text ≡ split 46 l.fn.text

abbrev pub decreases-loop-all : goal.decreases-loop-all
decreases-loop-all l = length l.text
