use Rattle.std.proofs.Common.{◌+◌, arith, sym, ◌∙◌, drop}
use Rattle.svf_reader.proofs.Lexing.{run_on, run_stops, byte_there}
use Rattle.svf_reader.proofs.bytes.run_len.Goals as goal

pub returns-then-not-in_class-clause-value : goal.returns-then-not-in_class-clause-value
returns-then-not-in_class-clause-value c =
    let text = c.args.text.now in
    let there = byte_there text c.loop-n.n c.byte_at-b.result c.loop-n-test.true c.byte_at-b.ensures in
    let ends = run_stops c.args.class c.loop-n.inside c.in_comment-hidden.result (drop c.loop-n.n text)
    (drop (c.loop-n.n + 1) text) c.byte_at-b.result there c.in_comment-hidden.ensures
    (sym c.in_class.ensures ∙ c.if-not-in_class.true) in
    omega (arith, ends, c.loop-n.invariant.so_far)

pub loop-n-preserved : goal.loop-n-preserved
loop-n-preserved c =
    let text = c.args.text.now in
    let there = byte_there text c.loop-n.n c.byte_at-b.result c.loop-n-test.true c.byte_at-b.ensures in
    let goes = run_on c.args.class c.loop-n.inside c.in_comment-hidden.result (drop c.loop-n.n text)
    (drop (c.loop-n.n + 1) text) c.byte_at-b.result there c.in_comment-hidden.ensures
    (sym c.in_class.ensures ∙ c.if-not-in_class.false) in
    record { within = omega arith; so_far = omega (arith, goes, c.loop-n.invariant.so_far) }
