use Rattle.std.proofs.Common.{◌∙◌, ap, arith, get_or}
use Rattle.net_graph.specs.Held.{set_hold}
use Rattle.svf_audit.proofs.Moving.{held_as, put_end, put_next, put_shape}
use Rattle.svf_audit.proofs.Places.{first}
use Rattle.svf_audit.proofs.registers.put_bits.Goals as goal

pub get-requires : goal.get-requires
get-requires c = c.requires.there c.loop-bit.bit-index first c.loop-bit-test.true

pub set-requires : goal.set-requires
set-requires c =
    let w = get_or c.args.bits.now c.loop-bit.bit-index first in
    held_as c.loop-bit.into c.args.from.now w c.loop-bit.invariant.shape
    (c.requires.there c.loop-bit.bit-index first c.loop-bit-test.true)

pub loop-bit-preserved : goal.loop-bit-preserved
loop-bit-preserved c =
    let into = c.loop-bit.into in
    let from = c.args.from.now in
    let i = c.loop-bit.bit-index in
    let w = get_or c.args.bits.now i first in
    let now = c.set.ensures ∙ ap (set_hold into w) c.get.ensures in
    record {
      shape = put_shape into from c.set.new.self w _ c.set.ensures c.loop-bit.invariant.shape;
      others = put_next into from c.set.new.self c.args.bits.now i c.loop-bit-test.true
          (held_as into from w c.loop-bit.invariant.shape (c.requires.there i first c.loop-bit-test.true))
          now c.loop-bit.invariant.others;
    }

pub returns : goal.returns
returns c =
    put_end c.loop-bit.into c.args.from.now c.args.bits.now c.loop-bit.bit-index
    (omega arith) c.loop-bit.invariant.shape c.loop-bit.invariant.others
