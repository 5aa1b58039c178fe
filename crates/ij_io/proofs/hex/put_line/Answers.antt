use Rattle.std.proofs.Common.{◌≡◌, ◌+◌, ◌-◌, ℕ, List, length, take, drop, replicate, min, arith, refl, subst}
use Rattle.ij_io.specs.Bytes.{Adds, AddsPart}
use Rattle.ij_io.proofs.Adding.{at_refusal}
use Rattle.ij_io.proofs.HexLines.{line_is}
use Rattle.ij_io.proofs.hex.put_line.Goals as goal

pub returns-clause-whole : goal.returns-clause-whole
returns-clause-whole g c =
    let old : List ℕ = replicate 65 10 in
    let n : ℕ = c.min-n.result in
    let own : n ≡ min c.args.left 64 = omega arith in
    let size : ℕ = length (take (n + 1 - 1) (drop 1 old)) in
    subst (λ (piece : List ℕ). Adds (g.K.Sink.taken c.args.k.now) (g.K.Sink.taken c.write.new.self) piece)
    (line_is c.args.bits.now.items c.args.left n c.args.skip size (n + 1 - 1) old c.hex_digits.new.to refl
    refl own refl c.hex_digits.auto.to c.hex_digits.ensures) c.in_ok-write.ensures.whole

pub returns-in_err-write-clause-part : goal.returns-in_err-write-clause-part
returns-in_err-write-clause-part g c =
    let old : List ℕ = replicate 65 10 in
    let n : ℕ = c.min-n.result in
    let own : n ≡ min c.args.left 64 = omega arith in
    let size : ℕ = length (take (n + 1 - 1) (drop 1 old)) in
    at_refusal c.from_residual.result (subst
    (λ (piece : List ℕ). AddsPart (g.K.Sink.taken c.args.k.now) (g.K.Sink.taken c.write.new.self) piece)
    (line_is c.args.bits.now.items c.args.left n c.args.skip size (n + 1 - 1) old c.hex_digits.new.to refl
    refl own refl c.hex_digits.auto.to c.hex_digits.ensures) c.in_err-write.ensures.part)
