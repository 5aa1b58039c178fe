use Rattle.std.proofs.Common.{◌≡◌, ◌-◌, ◌+◌, ℕ, suc, List, ◌++◌, length, arith, subst}
use Rattle.ij_io.proofs.Adding.{at_refusal}
use Rattle.ij_io.proofs.Fronts.{AddsFront, front_next, front_part}
use Rattle.net_list.specs.Drivers.{driver, drivers}
use Rattle.net_list.proofs.Pieces.{drivers_next}
use Rattle.net_list.proofs.drivers.put_drivers.Goals as goal

pub returns-in_err-put_driver-clause-part : goal.returns-in_err-put_driver-clause-part
returns-in_err-put_driver-clause-part g c =
    let net = c.args.net.now in
    let bits = c.args.bits.now in
    let n = length bits - c.loop-j.j in
    let m = length bits - (c.loop-j.j + 1) in
    let p = length bits - 1 - c.loop-j.j in
    let more : n ≡ suc m = omega (arith, c.loop-j-test.true) in
    let place : p ≡ m = omega arith in
    let here : drivers net bits n ≡ driver net bits p ++ drivers net bits m =
    drivers_next net bits n m p more place in
    let front = subst (λ (rest : List ℕ). AddsFront (g.K.Sink.taken c.args.k.now)
    (g.K.Sink.taken c.loop-j.k) rest (drivers net bits (length bits))) here c.loop-j.invariant.front in
    at_refusal c.from_residual.result
    (front_part (driver net bits p) (drivers net bits m) front c.in_err-put_driver.ensures.part)

pub loop-j-preserved : goal.loop-j-preserved
loop-j-preserved g c =
    let net = c.args.net.now in
    let bits = c.args.bits.now in
    let n = length bits - c.loop-j.j in
    let m = length bits - (c.loop-j.j + 1) in
    let p = length bits - 1 - c.loop-j.j in
    let more : n ≡ suc m = omega (arith, c.loop-j-test.true) in
    let place : p ≡ m = omega arith in
    let here : drivers net bits n ≡ driver net bits p ++ drivers net bits m =
    drivers_next net bits n m p more place in
    let front = subst (λ (rest : List ℕ). AddsFront (g.K.Sink.taken c.args.k.now)
    (g.K.Sink.taken c.loop-j.k) rest (drivers net bits (length bits))) here c.loop-j.invariant.front in
    record {
      front = front_next (driver net bits p) (drivers net bits m) front c.in_ok-put_driver.ensures.whole;
      later = omega (arith, c.put_driver.ensures.cause.later);
    }
