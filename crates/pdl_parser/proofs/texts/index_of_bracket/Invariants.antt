use Rattle.std.proofs.Common.{length, ◌-◌, ◌≤◌, ◌≡◌, ◌++◌, take, drop}
use Rattle.pdl_parser.specs.Texts.{front_of, back_of}
use Rattle.pdl_parser.proofs.texts.index_of_bracket.Given as goal

abbrev pub invariant-loop-n : goal.invariant-loop-n
invariant-loop-n l = record {
  within : l.n ≤ length l.text;
  front : take l.n l.text ++ front_of (drop l.n l.text) ≡ front_of l.text;
  back : back_of (drop l.n l.text) ≡ back_of l.text;
}

abbrev pub decreases-loop-n : goal.decreases-loop-n
decreases-loop-n l = length l.text - l.n
