use Rattle.std.proofs.Common.{◌≡◌, length}
use Rattle.svf_notes.specs.Heads.{AreHeadsFrom}
use Rattle.svf_notes.proofs.heads.Heads.new.Given as goal

abbrev pub invariant-loop-reg : goal.invariant-loop-reg
invariant-loop-reg l = record {
  count : length l.heads.items ≡ l._reg;
  each : AreHeadsFrom l.net 0 l.heads.items;
}
