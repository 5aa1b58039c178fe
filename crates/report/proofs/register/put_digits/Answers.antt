use Rattle.std.proofs.Common.{◌≡◌, ◌-◌, ◌+◌, ℕ, suc, List, [], ◌∷◌, ◌++◌, arith, ap, ◌∙◌, subst}
use Rattle.ij_io.proofs.Adding.{at_refusal}
use Rattle.ij_io.proofs.Fronts.{AddsFront, front_next, front_part}
use Rattle.report.specs.Registers.{bit_digit, register_digits}
use Rattle.report.proofs.Steps.{digits_next}
use Rattle.report.proofs.register.put_digits.Goals as goal

pub returns-in_err-write-clause-part : goal.returns-in_err-write-clause-part
returns-in_err-write-clause-part g c =
    let net = c.args.net.now in
    let holds = c.args.holds.now in
    let r = c.args.reg in
    let n = c.args.width - c.loop-j.j in
    let m = c.args.width - 1 - c.loop-j.j in
    let more : n ≡ suc m = omega arith in
    let here : register_digits net holds r n ≡ (c.digit_of.result ∷ []) ++ register_digits net holds r m =
    digits_next net holds r n m c.digit_of.result more c.digit_of.ensures in
    at_refusal c.from_residual.result
    (front_part (c.digit_of.result ∷ []) (register_digits net holds r m)
    (subst (λ (rest : List ℕ). AddsFront (g.K.Sink.taken c.args.k.now) (g.K.Sink.taken c.loop-j.k) rest
    (register_digits net holds r c.args.width)) here c.loop-j.invariant.front)
    c.in_err-write.ensures.part)

pub loop-j-preserved : goal.loop-j-preserved
loop-j-preserved g c =
    let net = c.args.net.now in
    let holds = c.args.holds.now in
    let r = c.args.reg in
    let n = c.args.width - c.loop-j.j in
    let m = c.args.width - (c.loop-j.j + 1) in
    let more : n ≡ suc m = omega arith in
    let place : c.args.width - 1 - c.loop-j.j ≡ m = omega arith in
    let is : c.digit_of.result ≡ bit_digit net holds (record { reg = r; pos = m }) =
    c.digit_of.ensures ∙ ap (λ p. bit_digit net holds (record { reg = r; pos = p })) place in
    let here : register_digits net holds r n ≡ (c.digit_of.result ∷ []) ++ register_digits net holds r m =
    digits_next net holds r n m c.digit_of.result more is in
    record {
      front = front_next (c.digit_of.result ∷ []) (register_digits net holds r m)
          (subst (λ (rest : List ℕ). AddsFront (g.K.Sink.taken c.args.k.now) (g.K.Sink.taken c.loop-j.k) rest
          (register_digits net holds r c.args.width)) here c.loop-j.invariant.front)
          c.in_ok-write.ensures.whole;
      later = omega (arith, c.write.ensures.cause.later);
    }
