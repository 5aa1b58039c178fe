use Rattle.std.proofs.Common.{◌≡◌, ◌-◌, ◌+◌, ℕ, suc, List, ◌++◌, Some, length, arith, subst, ap, ◌∙◌}
use Rattle.ij_io.proofs.Fronts.{AddsFront, front_next}
use Rattle.net_picture.specs.Captures.{capture_at, captures}
use Rattle.net_picture.proofs.captures.put_signals.Goals as goal

pub loop-j-preserved : goal.loop-j-preserved
loop-j-preserved c =
    let net = c.args.net.now in
    let signals = c.args.signals.now in
    let n = length signals - c.loop-j.j in
    let m = length signals - (c.loop-j.j + 1) in
    let p = length signals - 1 - c.loop-j.j in
    let more : n ≡ suc m = omega (arith, c.loop-j-test.true) in
    let place : m ≡ p = omega arith in
    let here : captures net signals n ≡ capture_at net signals p ++ captures net signals m =
    ap (captures net signals) more
    ∙ ap (λ (q : ℕ). capture_at net signals q ++ captures net signals m) place in
    let front = subst (λ (rest : List ℕ). AddsFront (Some c.args.text.now) (Some c.loop-j.text) rest
    (captures net signals (length signals))) here c.loop-j.invariant.front in
    record {
      front = front_next (capture_at net signals p)
          (captures net signals m) front c.in_ok-put_capture.ensures;
    }
