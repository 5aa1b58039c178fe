use Rattle.std.proofs.Common.{◌≡◌, ◌/◌, ◌++◌, true, false, refl, arith}
use Rattle.std.specs.Prelude.{◌==◌}
use Rattle.net_wave.specs.Codes.{code}
use Rattle.std.proofs.lemmas.Bool.Decides.{nat_tests}
use Rattle.net_wave.proofs.CodeSteps.{code_ends, code_next}
use Rattle.net_wave.proofs.codes.add_code.Goals as goal

pub returns-then-left-eq0 : goal.returns-then-left-eq0
returns-then-left-eq0 c =
    let none : (c.loop-k.left / 94 == 0) ≡ true = grind (arith, nat_tests) in
    code_ends (c.args.piece.now ++ code c.args.number) c.loop-k.piece c.add.new.piece c.loop-k._k
    c.loop-k.left c.loop-k-test.true c.in_ok-add.ensures c.loop-k.invariant none

pub loop-k-preserved : goal.loop-k-preserved
loop-k-preserved c =
    let some : (c.loop-k.left / 94 == 0) ≡ false = grind (arith, nat_tests) in
    code_next (c.args.piece.now ++ code c.args.number) c.loop-k.piece c.add.new.piece c.loop-k._k
    c.loop-k.left c.loop-k-test.true c.in_ok-add.ensures c.loop-k.invariant some _ refl
