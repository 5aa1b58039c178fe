use Rattle.std.proofs.Common.{◌≡◌, ◌<◌, ◌+◌, ◌/◌, length, get_or, arith}
use Rattle.ij_bits.proofs.Joining.{read_aligned, read_joined}
use Rattle.ij_bits.proofs.words.word_at.Goals as goal
use Rattle.ij_bits.proofs.words.word_at.Goals.{then-at-words, else-at-words}

pub returns-then-r-eq0 : goal.returns-then-r-eq0
returns-then-r-eq0 c j low within = read_aligned c.args.words.now c.args.i j c.if-r-eq0.true low

pub returns : goal.returns
returns c j low within =
    let next_is : c.args.i / 64 + 1 < length c.args.words.now
    → c.if-at-words.next ≡ get_or c.args.words.now (c.args.i / 64 + 1) 0 =
    elim c.if-at-words.branch [
      | then-at-words w ↦ λ _. w.next-is
      | else-at-words w ↦ λ more. absurd (omega arith)
    ] in
    read_joined c.args.words.now c.args.i c.joined.result c.if-at-words.next j c.joined.ensures.low
    c.joined.ensures.high next_is low within
