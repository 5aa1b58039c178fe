use Rattle.std.proofs.Common.{◌≡◌, ◌≤◌, true, false, arith, ap, sym, ◌∙◌, length, take}
use Rattle.std.specs.List.{list_all}
use Rattle.svf_reader.specs.Reading.{run_length}
use Rattle.svf_reader.specs.Passed.{is_passed}
use Rattle.svf_reader.proofs.Passing.{pass_many}
use Rattle.svf_reader.proofs.bytes.after_blocks.Goals as goal

pub loop-rest-preserved : goal.loop-rest-preserved
loop-rest-preserved c =
    let class = c.args.class in
    let rest = c.loop-rest.rest.now in
    let size = c.args.size in
    let long : size ≤ length rest = omega (arith, c.loop-rest-test.true) in
    let passed : list_all (is_passed class) (take size rest) ≡ true =
    ap (list_all (is_passed class)) (sym c.split_at.ensures.front)
    ∙ sym c.all_passed.ensures ∙ c.if-not-all_passed.false in
    let step = pass_many class size rest long passed in
    let back = ap (run_length class false) c.split_at.ensures.back in
    record {
      value = omega (arith, long, step, back, c.loop-rest.invariant.value, c.split_at.ensures.back_len);
      within = omega (arith, c.loop-rest.invariant.within, c.split_at.ensures.back_len);
    }
