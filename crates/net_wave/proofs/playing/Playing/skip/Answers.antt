use Rattle.std.proofs.Common.{◌≡◌, ◌+◌, ◌-◌, suc, true, false, refl, sym, ◌∙◌, arith}
use Rattle.net_wave.proofs.Leaving.{differs_none, differs_on, played, skipped_all, skipped_next, skipped_none}
use Rattle.net_wave.proofs.playing.Playing.skip.Goals as goal

pub returns-in_default-clause-text : goal.returns-in_default-clause-text
returns-in_default-clause-text c =
    skipped_none c.loop-k.self c.next.new.self (c.args.clocks - c.loop-k._k) c.in_default.ensures.given
    (c.in_default.ensures.end refl) ∙ c.loop-k.invariant.text

pub returns-in_default-clause-differs : goal.returns-in_default-clause-differs
returns-in_default-clause-differs c =
    differs_none c.loop-k.self c.next.new.self
    (c.in_default.ensures.given ∙ sym (c.in_default.ensures.end refl)) ∙ c.loop-k.invariant.differs

pub loop-k-preserved : goal.loop-k-preserved
loop-k-preserved c =
    let p = c.loop-k.self in
    let m = c.args.clocks - c.loop-k._k in
    let n = c.args.clocks - (c.loop-k._k + 1) in
    let more : m ≡ suc n = omega (arith, c.loop-k-test.true) in
    record {
      playing = played p c.step-differs.new.bench c.next.new.self c.step-differs.new.stages p.told
          p.instruction p.scratch p.last p.first p.clock p.digits c.either-self.result _
          c.loop-k.invariant.playing c.step-differs.ensures.bench c.step-differs.ensures.shape
          c.step-differs.ensures.stages c.loop-k.invariant.playing.told (λ e. absurd (let wrong : true
          ≡ false = sym c.loop-k.invariant.first ∙ e in cc)) c.loop-k.invariant.playing.digits;
      first = c.loop-k.invariant.first;
      text = skipped_next p c.step-differs.new.bench c.next.new.self c.step-differs.new.stages
          c.either-self.result m n c.in-Some.pins more c.in-Some.ensures.given c.step-differs.ensures.bench
          ∙ c.loop-k.invariant.text;
      differs = differs_on p c.step-differs.new.bench c.next.new.self c.step-differs.new.stages
          c.step-differs.result c.either-self.result c.in-Some.pins c.in-Some.ensures.given
          c.step-differs.ensures.bench c.step-differs.ensures.differs c.either-self.ensures
          ∙ c.loop-k.invariant.differs;
    }

pub returns-clause-text : goal.returns-clause-text
returns-clause-text c =
    skipped_all c.loop-k.self (c.args.clocks - c.loop-k._k)
    (omega (arith, c.loop-k-test.false)) ∙ c.loop-k.invariant.text
