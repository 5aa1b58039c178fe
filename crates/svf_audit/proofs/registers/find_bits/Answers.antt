use Rattle.std.proofs.Common.{◌∙◌, ap, arith, length, drop, length-append}
use Rattle.svf_audit.specs.Audit.{bits_on}
use Rattle.svf_audit.proofs.Paths.{on_length, one_register}
use Rattle.net_graph.proofs.Widths.{turn_register}
use Rattle.svf_audit.proofs.registers.find_bits.Goals as goal

pub register-requires : goal.register-requires
register-requires c =
    (turn_register (length c.args.holds.now) c.args.path.now c.loop-i.i
    (omega arith) c.loop-i.invariant.route).0

pub add_bits-requires : goal.add_bits-requires
add_bits-requires c =
    let path = c.args.path.now in
    let i = c.loop-i.i in
    omega (
      arith,
      ap length c.loop-i.invariant.items,
      length-append c.loop-i.bits.items
          (bits_on c.args.holds.now (drop i path)),
      on_length c.args.holds.now path i (omega arith),
      c.loop-i.invariant.room,
      c.requires.room,
      c.len.ensures ∙ ap length c.register.ensures,
    )

pub loop-i-preserved : goal.loop-i-preserved
loop-i-preserved c =
    record {
      items = one_register c.args.holds.now c.args.path.now c.loop-i.i c.len.result c.loop-i.bits.items
          c.add_bits.new.bits.items _ (omega arith)
          (c.len.ensures ∙ ap length c.register.ensures) c.add_bits.ensures.items c.loop-i.invariant.items;
      route = (turn_register (length c.args.holds.now) c.args.path.now c.loop-i.i
          (omega arith) c.loop-i.invariant.route).1;
      room = c.add_bits.ensures.room ∙ c.loop-i.invariant.room;
    }
