use Rattle.std.proofs.Common.{◌≡◌, ◌≤◌, ◌-◌, map, drop, Some}
use Rattle.icl_lexer.specs.Views.{seen_module}
use Rattle.icl_declarations.specs.Faults.{over}
use Rattle.icl_frames.specs.FirstPass.{add_subtree}
use Rattle.icl_frames.specs.SeenFrames.{names_of, seen_request, seen_progress}
use Rattle.icl_frames.proofs.cells.+add_subtree.Given as goal

abbrev pub decreases-add_subtree : goal.decreases-add_subtree
decreases-add_subtree l = l.levels

abbrev pub invariant-loop-wanted : goal.invariant-loop-wanted
invariant-loop-wanted l = record {
  few : l.cells.counts.bits ≤ 4096;
  goes_on : over (add_subtree (l.levels - 1) (map seen_module l.modules) (names_of l.inside.items) (Some
      l.cell))
      (seen_progress l.cells) (map seen_request (drop l.wanted-index l.wanted-items))
      ≡ add_subtree l.levels (map seen_module l.modules) (names_of l.above) l.fn.parent
      (seen_progress l.fn.state) (seen_request l.request);
}
