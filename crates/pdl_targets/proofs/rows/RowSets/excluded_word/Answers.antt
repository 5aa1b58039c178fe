use Rattle.std.proofs.Common.{◌+◌, ◌*◌}
use Rattle.pdl_targets.specs.Rows.{excluded_at}
use Rattle.ij_bits.proofs.Lists.{any_word}
use Rattle.pdl_targets.proofs.rows.RowSets.excluded_word.Goals as goal

pub loop-branch-preserved : goal.loop-branch-preserved
loop-branch-preserved c j low =
    any_word (λ b. excluded_at c.args.self.now b (64 * c.args.w + j)) c.args.branches.now
    c.loop-branch.branch-index _ _ _ _ c.loop-branch-test.true
    (c.loop-branch.invariant j low) (c.other_rows_word.ensures j low) (c.bits_of_either-word.ensures j)
