use Rattle.std.proofs.Common.{◌≡◌, drop}
use Rattle.pdl_targets.specs.Targets.{word_value}
use Rattle.pdl_targets.proofs.values.word_value.Given as goal

abbrev pub invariant-loop-word : goal.invariant-loop-word
invariant-loop-word l = word_value (drop l.word-index l.words) l.name ≡ word_value l.words l.name
