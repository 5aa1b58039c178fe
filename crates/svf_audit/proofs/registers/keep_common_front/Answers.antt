use Rattle.std.proofs.Common.{◌∙◌, ap, arith, length}
use Rattle.svf_audit.specs.Audit.{bits_on}
use Rattle.svf_audit.proofs.Paths.{both_next}
use Rattle.net_graph.proofs.Widths.{turn_register}
use Rattle.svf_audit.proofs.registers.keep_common_front.Goals as goal

pub loop-same-preserved : goal.loop-same-preserved
loop-same-preserved c =
    let path = c.args.path.now in
    let old = c.args.old.now in
    let i = c.loop-same.same in
    let v = c.loop-same.invariant in
    let n = both_next c.args.holds.now c.args.bits.now.items (bits_on c.args.holds.now path) path old i
    c.loop-same.kept c.len.result c.loop-same-test.true c.if-same-old.true c.if-path-same.true
    (c.len.ensures ∙ ap length c.register.ensures) v.within v.rest v.front in
    record {
      front = n.0;
      rest = n.1;
      route = (turn_register (length c.args.holds.now) path i c.loop-same-test.true v.route).1;
      within = n.2;
      short = omega (arith, c.loop-same-test.true);
    }
