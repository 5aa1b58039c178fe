use Rattle.std.proofs.Common.{◌≡◌, ◌-◌, drop, length, take}
use Rattle.svf_notes.specs.Notes.{digits}
use Rattle.svf_notes.specs.Packed.{part_bits}
use Rattle.svf_notes.proofs.digits.put_some_digits.Given as goal

abbrev pub invariant-loop-j : goal.invariant-loop-j
invariant-loop-j l = record {
  long : length l.text ≡ 64;
  filled : take l.j l.text ≡ digits l.shown (drop (l.n - l.j) (part_bits l.part));
}
