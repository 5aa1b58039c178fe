use Rattle.std.proofs.Common.{◌≡◌, ◌+◌, ◌<◌, ℕ, suc, List, length, map, drop, arith, subst}
use Rattle.ij_io.proofs.Adding.{at_refusal}
use Rattle.ij_io.proofs.Fronts.{AddsFront, front_next, front_part}
use Rattle.instruments.specs.Seen.{seen_word}
use Rattle.report.specs.Instruments.{word_text, words_from}
use Rattle.report.proofs.Steps.{words_next, word_wide}
use Rattle.report.proofs.instrument.put_numbers.Goals as goal

pub put_word-requires : goal.put_word-requires
put_word-requires g c =
    let ws = c.args.words.now.items in
    let i = c.loop-i.i in
    let within : i < length ws = omega (arith, c.loop-i-test.true, c.len-i-end.ensures) in
    word_wide ws i c.get.result.now within c.get.ensures c.requires.words

pub returns-in_err-put_word-clause-part : goal.returns-in_err-put_word-clause-part
returns-in_err-put_word-clause-part g c =
    let ws = c.args.words.now.items in
    let numbers = c.args.machine.now.words in
    let i = c.loop-i.i in
    let within : i < length ws = omega (arith, c.loop-i-test.true, c.len-i-end.ensures) in
    let d = seen_word c.get.result.now in
    let next : i + 1 ≡ suc i = omega arith in
    let here = words_next numbers ws i
    (i + 1) c.get.result.now c.word.result within c.get.ensures next c.word.ensures in
    at_refusal c.from_residual.result
    (front_part (word_text d.name d.width c.word.result)
    (words_from numbers (i + 1) (drop (i + 1) (map seen_word ws)))
    (subst (λ (rest : List ℕ). AddsFront (g.K.Sink.taken c.args.k.now) (g.K.Sink.taken c.loop-i.k) rest
    (words_from numbers 0 (map seen_word ws))) here c.loop-i.invariant.front)
    c.in_err-put_word.ensures.part)

pub loop-i-preserved : goal.loop-i-preserved
loop-i-preserved g c =
    let ws = c.args.words.now.items in
    let numbers = c.args.machine.now.words in
    let i = c.loop-i.i in
    let within : i < length ws = omega (arith, c.loop-i-test.true, c.len-i-end.ensures) in
    let d = seen_word c.get.result.now in
    let next : i + 1 ≡ suc i = omega arith in
    let here = words_next numbers ws i
    (i + 1) c.get.result.now c.word.result within c.get.ensures next c.word.ensures in
    record {
      front = front_next (word_text d.name d.width c.word.result)
          (words_from numbers (i + 1) (drop (i + 1) (map seen_word ws)))
          (subst (λ (rest : List ℕ). AddsFront (g.K.Sink.taken c.args.k.now) (g.K.Sink.taken c.loop-i.k) rest
          (words_from numbers 0 (map seen_word ws))) here c.loop-i.invariant.front)
          c.in_ok-put_word.ensures.whole;
      later = omega (arith, c.put_word.ensures.cause.later);
    }
