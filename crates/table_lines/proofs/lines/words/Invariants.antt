use Rattle.std.proofs.Common.{◌≡◌, ◌++◌, length}
use Rattle.table_lines.specs.Lines.{words}
use Rattle.table_lines.specs.Reading.{texts}
use Rattle.table_lines.proofs.lines.words.Given as goal

abbrev pub invariant-loop-next : goal.invariant-loop-next
invariant-loop-next l = texts l.all.items ++ words l.rest ≡ words l.text

abbrev pub decreases-loop-next : goal.decreases-loop-next
decreases-loop-next l = length l.rest
