use Rattle.std.proofs.Common.{◌≡◌, ◌-◌, ◌+◌, ℕ, suc, List, [], ◌∷◌, ◌++◌, arith, ap, ◌∙◌, subst}
use Rattle.ij_io.proofs.Adding.{at_refusal}
use Rattle.ij_io.proofs.Fronts.{AddsFront, front_next, front_part}
use Rattle.net_list.specs.Forms.{tern_digit, tern_digits}
use Rattle.net_list.proofs.Pieces.{digits_next}
use Rattle.net_list.proofs.values.put_digits.Goals as goal

pub returns-in_err-write-clause-part : goal.returns-in_err-write-clause-part
returns-in_err-write-clause-part g c =
    let t = c.args.value.now in
    let n = c.args.width - c.loop-j.j in
    let m = c.args.width - (c.loop-j.j + 1) in
    let more : n ≡ suc m = omega arith in
    let place : c.args.width - 1 - c.loop-j.j ≡ m = omega arith in
    let is : c.digit_of.result ≡ tern_digit t m = c.digit_of.ensures ∙ ap (λ (p : ℕ). tern_digit t p) place in
    let here : tern_digits t n ≡ (c.digit_of.result ∷ []) ++ tern_digits t m =
    digits_next t n m c.digit_of.result more is in
    let front = subst (λ (rest : List ℕ). AddsFront (g.K.Sink.taken c.args.k.now)
    (g.K.Sink.taken c.loop-j.k) rest (tern_digits t c.args.width)) here c.loop-j.invariant.front in
    at_refusal c.from_residual.result
    (front_part (c.digit_of.result ∷ []) (tern_digits t m) front c.in_err-write.ensures.part)

pub loop-j-preserved : goal.loop-j-preserved
loop-j-preserved g c =
    let t = c.args.value.now in
    let n = c.args.width - c.loop-j.j in
    let m = c.args.width - (c.loop-j.j + 1) in
    let more : n ≡ suc m = omega arith in
    let place : c.args.width - 1 - c.loop-j.j ≡ m = omega arith in
    let is : c.digit_of.result ≡ tern_digit t m = c.digit_of.ensures ∙ ap (λ (p : ℕ). tern_digit t p) place in
    let here : tern_digits t n ≡ (c.digit_of.result ∷ []) ++ tern_digits t m =
    digits_next t n m c.digit_of.result more is in
    let front = subst (λ (rest : List ℕ). AddsFront (g.K.Sink.taken c.args.k.now)
    (g.K.Sink.taken c.loop-j.k) rest (tern_digits t c.args.width)) here c.loop-j.invariant.front in
    record {
      front = front_next (c.digit_of.result ∷ []) (tern_digits t m) front c.in_ok-write.ensures.whole;
      later = omega (arith, c.write.ensures.cause.later);
    }
