use Rattle.std.proofs.Common.{◌≡◌, take}
use Rattle.pdl_targets.specs.SeenRounds.{seen_groups}
use Rattle.merge_order.proofs.copies.copied_rounds.Given as goal

abbrev pub invariant-loop-round : goal.invariant-loop-round
invariant-loop-round l = seen_groups l.copies.items ≡ seen_groups (take l.round-index l.rounds)
