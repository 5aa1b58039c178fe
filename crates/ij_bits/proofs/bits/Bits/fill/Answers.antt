use Rattle.std.proofs.Common.{◌≡◌, ◌<◌, ◌∙◌, List, ℕ, ap, sym, arith}
use Rattle.std.specs.Prelude.{◌==◌, replicate}
use Rattle.std.specs.Int.{bit_at}
use Rattle.std.proofs.lemmas.Nat.Bits.{bit_at_ones, bit_at-zero}
use Rattle.ij_bits.specs.Words.{first_bits}
use Rattle.ij_bits.proofs.WordBits.{count_is, first_bits-filled}
use Rattle.ij_bits.proofs.bits.Bits.fill.Goals as goal
use Rattle.ij_bits.proofs.bits.Bits.fill.Goals.{then-v, else-v}

pub returns-clause-items : goal.returns-clause-items
returns-clause-items c =
    let all : (j : ℕ) → j < 64 → (bit_at c.if-v.fill j == 1) ≡ c.args.v = λ j low.
    elim c.if-v.branch [
      | then-v w ↦ ap (λ n. bit_at n j == 1) w.fill-is
          ∙ ap (λ b. b == 1) (bit_at_ones 64 j low) ∙ sym w.if-v.true
      | else-v w ↦ ap (λ n. bit_at n j == 1) w.fill-is ∙ ap (λ b. b == 1) (bit_at-zero j) ∙ sym w.if-v.false
    ] in
    let count = count_is c.self.inside _ c.self.view_is in
    ap (λ (ws : List ℕ). first_bits ws c.self.inside.count) (c.fill.ensures.items (λ y e. e))
    ∙ first_bits-filled c.self.inside.words.len c.self.inside.count c.if-v.fill c.args.v (omega arith) all
    ∙ ap (λ n. replicate n c.args.v) (sym count)
