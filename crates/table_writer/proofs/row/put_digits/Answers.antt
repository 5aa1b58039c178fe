use Rattle.std.proofs.Common.{◌≡◌, ◌-◌, ◌+◌, ℕ, suc, List, [], ◌∷◌, ◌++◌, arith, ap, ◌∙◌, subst}
use Rattle.std.specs.Prelude.{◌==◌}
use Rattle.std.specs.Int.{bit_at}
use Rattle.ij_io.proofs.Adding.{at_refusal}
use Rattle.ij_io.proofs.Fronts.{AddsFront, front_next, front_part}
use Rattle.ij_bits.specs.BitLists.{bits_of}
use Rattle.bench_file.specs.Written.{digit, digits}
use Rattle.table_writer.proofs.Pieced.{digits_step}
use Rattle.table_writer.proofs.row.put_digits.Goals as goal

pub returns-in_err-write-clause-part : goal.returns-in_err-write-clause-part
returns-in_err-write-clause-part g c =
    let v = c.args.value in
    let care = c.args.care in
    let width = c.args.width in
    let n = width - c.loop-j.j in
    let m = width - 1 - c.loop-j.j in
    let more : n ≡ suc m = omega arith in
    let here : digits (bits_of n v) (bits_of n care) ≡ (c.digit_at.result ∷ []) ++ digits (bits_of m v)
    (bits_of m care) = digits_step v care n m c.digit_at.result more c.digit_at.ensures in
    at_refusal c.from_residual.result
    (front_part (c.digit_at.result ∷ []) (digits (bits_of m v) (bits_of m care))
    (subst (λ (rest : List ℕ). AddsFront (g.K.Sink.taken c.args.k.now) (g.K.Sink.taken c.loop-j.k) rest
    (digits (bits_of width v) (bits_of width care))) here c.loop-j.invariant.front)
    c.in_err-write.ensures.part)

pub loop-j-preserved : goal.loop-j-preserved
loop-j-preserved g c =
    let v = c.args.value in
    let care = c.args.care in
    let width = c.args.width in
    let n = width - c.loop-j.j in
    let m = width - (c.loop-j.j + 1) in
    let more : n ≡ suc m = omega arith in
    let place : width - 1 - c.loop-j.j ≡ m = omega arith in
    let is : c.digit_at.result ≡ digit (bit_at v m == 1) (bit_at care m == 1) =
    c.digit_at.ensures ∙ ap (λ (p : ℕ). digit (bit_at v p == 1) (bit_at care p == 1)) place in
    let here : digits (bits_of n v) (bits_of n care) ≡ (c.digit_at.result ∷ [])
    ++ digits (bits_of m v) (bits_of m care) = digits_step v care n m c.digit_at.result more is in
    record {
      front = front_next (c.digit_at.result ∷ []) (digits (bits_of m v) (bits_of m care))
          (subst (λ (rest : List ℕ). AddsFront (g.K.Sink.taken c.args.k.now) (g.K.Sink.taken c.loop-j.k) rest
          (digits (bits_of width v) (bits_of width care))) here c.loop-j.invariant.front)
          c.in_ok-write.ensures.whole;
      later = omega (arith, c.write.ensures.cause.later);
    }
