use Rattle.std.proofs.Common.{◌≡◌, ◌++◌, take, drop}
use Rattle.icl_declarations.specs.Sized.{front, after}
use Rattle.icl_declarations.proofs.digits.split.Given as goal

abbrev pub invariant-loop-i : goal.invariant-loop-i
invariant-loop-i l = record {
  front : take l.i l.text ++ front (drop l.i l.text) ≡ front l.text;
  after : after (drop l.i l.text) ≡ after l.text;
}
