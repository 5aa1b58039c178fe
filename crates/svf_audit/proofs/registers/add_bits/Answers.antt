use Rattle.std.proofs.Common.{◌∙◌, ◌∷◌, [], ap, arith, length, length-append}
use Rattle.svf_audit.proofs.Paths.{last_bit, one_bit}
use Rattle.svf_audit.proofs.registers.add_bits.Goals as goal

pub loop-pos-preserved : goal.loop-pos-preserved
loop-pos-preserved c =
    record {
      items = one_bit c.args.reg c.loop-pos.pos c.args.width
          c.loop-pos.bits.items c.push_reserved.new.self.items _
          (omega arith) c.push_reserved.ensures.items c.loop-pos.invariant.items;
      count = omega (
        arith,
        ap length c.push_reserved.ensures.items,
        length-append c.loop-pos.bits.items
            (record { reg = c.args.reg; pos = c.loop-pos.pos } ∷ []),
        c.loop-pos.invariant.count,
      );
      room = c.push_reserved.ensures.capacity ∙ c.loop-pos.invariant.room;
    }

pub returns-clause-items : goal.returns-clause-items
returns-clause-items c = last_bit c.args.reg c.loop-pos.pos c.args.width c.loop-pos.bits.items _
    (omega arith) c.loop-pos.invariant.items
