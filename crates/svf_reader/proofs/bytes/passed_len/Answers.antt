use Rattle.std.proofs.Common.{◌≡◌, ◌+◌, suc, arith, ap, sym, ◌∙◌, drop, false}
use Rattle.svf_reader.specs.Reading.{run_length}
use Rattle.svf_reader.proofs.Lexing.{byte_there}
use Rattle.svf_reader.proofs.Passing.{pass_one}
use Rattle.svf_reader.proofs.bytes.passed_len.Goals as goal

pub loop-n-preserved : goal.loop-n-preserved
loop-n-preserved c =
    let text = c.args.text.now in
    let class = c.args.class in
    let n = c.loop-n.n in
    let there = byte_there text n c.byte_at-b.result c.loop-n-test.true c.byte_at-b.ensures in
    let goes : run_length class false (drop n text) ≡ suc (run_length class false (drop (n + 1) text)) =
    ap (run_length class false) there ∙ pass_one class c.byte_at-b.result (drop (n + 1) text)
    (sym c.is_passed.ensures ∙ c.if-not-is_passed.false) in
    record { within = omega arith; so_far = omega (arith, goes, c.loop-n.invariant.so_far) }
