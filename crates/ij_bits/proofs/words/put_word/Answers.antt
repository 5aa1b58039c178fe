use Rattle.std.proofs.Common.{◌≡◌, ◌+◌, ◌%◌, ap, inl, inr, arith}
use Rattle.std.specs.Int.{bit_at}
use Rattle.std.proofs.Math.ListN.{length-set}
use Rattle.ij_bits.proofs.Joining.{kept_high, one_after, one_at, one_below, two_after, two_at, two_below}
use Rattle.ij_bits.proofs.words.put_word.Goals as goal

pub returns-then-r-eq0-clause-at : goal.returns-then-r-eq0-clause-at
returns-then-r-eq0-clause-at c j low within =
    one_at c.args.words.now c.args.i c.args.word c.args.word j c.requires
    (λ k near. let same : c.args.i % 64 + k ≡ k = omega (arith, c.if-r-eq0.true) in
    ap (bit_at c.args.word) same) (inr c.if-r-eq0.true) low within

pub returns-then-r-eq0-clause-below : goal.returns-then-r-eq0-clause-below
returns-then-r-eq0-clause-below c k below = one_below c.args.words.now c.args.i c.args.word k c.requires
    (λ j low. absurd (omega (arith, c.if-r-eq0.true))) below

pub returns-then-at-words-clause-at : goal.returns-then-at-words-clause-at
returns-then-at-words-clause-at c j low within =
    two_at c.args.words.now c.args.i c.covered.result c.joined.result c.args.word j
    (simp length-set at c.if-at-words.true) c.covered.ensures.high
    (λ k inner. c.joined.ensures.low k (omega arith)) low within

pub returns-then-at-words-clause-below : goal.returns-then-at-words-clause-below
returns-then-at-words-clause-below c k below =
    two_below c.args.words.now c.args.i c.covered.result c.joined.result
    k c.requires c.covered.ensures.low below

pub returns-else-at-words-clause-at : goal.returns-else-at-words-clause-at
returns-else-at-words-clause-at c j low within =
    one_at c.args.words.now c.args.i c.covered.result c.args.word j c.requires c.covered.ensures.high
    (inl (simp length-set at c.if-at-words.false)) low within

pub returns-else-at-words-clause-below : goal.returns-else-at-words-clause-below
returns-else-at-words-clause-below c k below =
    one_below c.args.words.now c.args.i c.covered.result k c.requires c.covered.ensures.low below

pub returns-then-r-eq0-clause-following : goal.returns-then-r-eq0-clause-following
returns-then-r-eq0-clause-following c k after = one_after c.args.words.now c.args.i c.args.word k after

pub returns-then-at-words-clause-following : goal.returns-then-at-words-clause-following
returns-then-at-words-clause-following c k after =
    two_after c.args.words.now c.args.i c.covered.result c.joined.result k
    (simp length-set at c.if-at-words.true)
    (λ j low. kept_high c.args.words.now c.args.i c.covered.result
    c.joined.result j c.joined.ensures.high low) after

pub returns-else-at-words-clause-following : goal.returns-else-at-words-clause-following
returns-else-at-words-clause-following c k after =
    one_after c.args.words.now c.args.i c.covered.result k after
