use Rattle.std.proofs.Common.{◌≡◌, ◌-◌, ◌+◌, ◌/◌, ◌<◌, ℕ, suc, [], ◌∷◌, List, length, arith, ap, sym, ◌∙◌}
use Rattle.std.proofs.Common.{subst}
use Rattle.ij_bits.specs.BitLists.{bits_of}
use Rattle.ij_bits.specs.Hex.{hex_digit}
use Rattle.ij_io.proofs.Adding.{at_refusal}
use Rattle.ij_io.proofs.Fronts.{AddsFront, front_start, front_next, front_part}
use Rattle.svf_writer.specs.Written.{hex_lines, hex_text}
use Rattle.svf_writer.proofs.Opcodes.{next_digit, opcode_digit}
use Rattle.ij_io.proofs.HexLines.{all_lines}
use Rattle.ij_bits.proofs.WordBits.{length-bits_of}
use Rattle.svf_writer.proofs.opcode.put_opcode.Goals as goal

pub loop-j-init : goal.loop-j-init
loop-j-init g c =
    let bits = bits_of c.args.width c.args.n in
    let n : c.div_ceil-digits.result - 0
    ≡ (length bits + 3) / 4 = omega (arith, length-bits_of c.args.width c.args.n) in
    let taken = g.K.Sink.taken c.args.k.now in
    record {
      front = subst (λ (rest : List ℕ). AddsFront taken taken rest (hex_text bits))
          (sym (all_lines bits (c.div_ceil-digits.result - 0) n)) (front_start taken (hex_text bits));
      later = omega arith;
    }

pub returns-in_err-write-clause-part : goal.returns-in_err-write-clause-part
returns-in_err-write-clause-part g c =
    let bits = bits_of c.args.width c.args.n in
    let n = c.div_ceil-digits.result in
    let j = c.loop-j.j in
    let more : n - j ≡ suc (n - (j + 1)) = omega arith in
    let place : n - (j + 1) ≡ n - 1 - j = omega arith in
    let short : j < 64 = omega arith in
    let is = ap (hex_digit bits) place
    ∙ opcode_digit c.args.width c.args.n (n - 1 - j) c.requires.fits ∙ sym c.hex_digit_at.ensures in
    let line = next_digit bits (n - j) (n - (j + 1)) c.hex_digit_at.result j more short is in
    at_refusal c.from_residual.result
    (front_part (c.hex_digit_at.result ∷ []) (hex_lines bits (n - (j + 1)) (j + 1))
    (subst (λ (rest : List ℕ). AddsFront (g.K.Sink.taken c.args.k.now) (g.K.Sink.taken c.loop-j.k) rest
    (hex_text bits)) line c.loop-j.invariant.front) c.in_err-write.ensures.part)

pub loop-j-preserved : goal.loop-j-preserved
loop-j-preserved g c =
    let bits = bits_of c.args.width c.args.n in
    let n = c.div_ceil-digits.result in
    let j = c.loop-j.j in
    let more : n - j ≡ suc (n - (j + 1)) = omega arith in
    let place : n - (j + 1) ≡ n - 1 - j = omega arith in
    let short : j < 64 = omega arith in
    let is = ap (hex_digit bits) place
    ∙ opcode_digit c.args.width c.args.n (n - 1 - j) c.requires.fits ∙ sym c.hex_digit_at.ensures in
    let line = next_digit bits (n - j) (n - (j + 1)) c.hex_digit_at.result j more short is in
    record {
      front = front_next (c.hex_digit_at.result ∷ []) (hex_lines bits (n - (j + 1)) (j + 1))
          (subst (λ (rest : List ℕ). AddsFront (g.K.Sink.taken c.args.k.now) (g.K.Sink.taken c.loop-j.k) rest
          (hex_text bits)) line c.loop-j.invariant.front) c.in_ok-write.ensures.whole;
      later = omega (arith, c.write.ensures.cause.later);
    }
