use Rattle.std.proofs.Common.{◌≡◌, ℕ, ◌<◌, ◌+◌, ◌*◌, ◌==◌, take}
use Rattle.std.specs.Int.{bit_at}
use Rattle.std.specs.List.{list_any}
use Rattle.pdl_targets.specs.Rows.{excluded_at}
use Rattle.pdl_targets.proofs.rows.RowSets.excluded_word.Given as goal

abbrev pub invariant-loop-branch : goal.invariant-loop-branch
invariant-loop-branch l = (j : ℕ) → j < 64 → (bit_at l.word j == 1)
    ≡ list_any (λ b. excluded_at l.self b (64 * l.w + j)) (take l.branch-index l.branches)
