use Rattle.std.proofs.Common.{◌≡◌, ◌+◌, ◌-◌, ℕ, suc, sym, ap, ◌∙◌, arith}
use Rattle.icl_signals.specs.Wirings.{cells_of}
use Rattle.icl_signals.specs.Alike.{wire_after}
use Rattle.icl_signals.specs.Traces.{follow}
use Rattle.icl_signals.proofs.Beside.{moves, told}
use Rattle.icl_signals.proofs.following.follow.Goals as goal

pub loop-look-init : goal.loop-look-init
loop-look-init c =
    let w = c.args.wiring.now in
    let all : w.looks - 0 ≡ w.looks = omega arith in
    record {
      some = c.requires.count;
      few = omega arith;
      rest = λ k lt. ap (λ n. follow (cells_of w) w.entry n c.args.inverted (wire_after k c.args.wire)) all;
    }

pub loop-look-preserved : goal.loop-look-preserved
loop-look-preserved c =
    let w = c.args.wiring.now in
    let l = c.loop-look in
    let a = c.alike-count.ensures in
    let few = a.few in
    let most = l.invariant.few in
    let left : ℕ = w.looks - (l._look + 1) in
    let n : w.looks - l._look ≡ suc left = omega (arith, c.loop-look-test.true) in
    let is = sym c.in-At.is ∙ c.one_move.ensures in
    record {
      some = a.some;
      few = omega (arith, few, most);
      rest = λ k lt.
          sym (ap (λ m. follow (cells_of w) w.entry m l.inverted (wire_after k l.wire)) n
          ∙ moves (cells_of w) w.entry l.inverted l.wire c.alike-count.result _ a.alike is k lt left)
          ∙ l.invariant.rest k (omega (arith, lt, few));
    }

pub returns-in-Ended-clause-few : goal.returns-in-Ended-clause-few
returns-in-Ended-clause-few c =
    let few = c.alike-count.ensures.few in
    let most = c.loop-look.invariant.few in
    omega (arith, few, most)

pub returns-in-Ended-clause-value : goal.returns-in-Ended-clause-value
returns-in-Ended-clause-value c k lt =
    let w = c.args.wiring.now in
    let l = c.loop-look in
    let a = c.alike-count.ensures in
    let few = a.few in
    let left : ℕ = w.looks - (l._look + 1) in
    let n : w.looks - l._look ≡ suc left = omega (arith, c.loop-look-test.true) in
    let is = sym c.in-Ended.is ∙ c.one_move.ensures in
    sym (l.invariant.rest k (omega (arith, lt, few)))
    ∙ ap (λ m. follow (cells_of w) w.entry m l.inverted (wire_after k l.wire)) n
    ∙ moves (cells_of w) w.entry l.inverted l.wire c.alike-count.result _ a.alike is k lt left

pub returns-in-Ended-clause-told : goal.returns-in-Ended-clause-told
returns-in-Ended-clause-told c k lt =
    let w = c.args.wiring.now in
    let l = c.loop-look in
    let is = sym c.in-Ended.is ∙ c.one_move.ensures in
    told (cells_of w) w.entry l.inverted l.wire c.alike-count.result _ c.alike-count.ensures.alike is k lt
