use Rattle.std.proofs.Common.{ap, ◌∙◌}
use Rattle.std.specs.Prelude.{◌==◌, ◌&&◌, ◌||◌}
use Rattle.std.specs.List.{list_any}
use Rattle.std.proofs.lemmas.List.{take_all}
use Rattle.pdl_targets.specs.Rows.{exclude, excluded_at}
use Rattle.pdl_targets.proofs.Tables.{add_step}
use Rattle.pdl_targets.proofs.rows.RowSets.add_all.Goals as goal

pub loop-branch-preserved : goal.loop-branch-preserved
loop-branch-preserved c b k =
    add_step (λ a. exclude a b) c.args.branches.now c.loop-branch.branch-index _
    (k == c.args.round) (excluded_at c.args.self.now b k) _ _
    c.loop-branch-test.true (c.loop-branch.invariant b k) (c.in_ok-add.ensures b k)

pub returns : goal.returns
returns c b k =
    c.loop-branch.invariant b k
    ∙ ap (λ l. (k == c.args.round && list_any (λ a. exclude a b) l) || excluded_at c.args.self.now b k)
    (take_all c.loop-branch.branch-index c.args.branches.now c.loop-branch-test.false)
