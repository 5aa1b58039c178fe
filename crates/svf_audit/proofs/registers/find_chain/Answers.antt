use Rattle.std.proofs.Common.{◌≡◌, ◌++◌, ◌∙◌, Bool, List, ap, arith, length, drop, length-append, get_or}
use Rattle.std.specs.Prelude.{slice_range}
use Rattle.net_graph.specs.Chain.{chain}
use Rattle.net_graph.specs.Signals.{bits_at}
use Rattle.net_graph.proofs.Widths.{turn_length, turn_register}
use Rattle.svf_audit.proofs.Paths.{chain_next, whole_range}
use Rattle.svf_audit.proofs.registers.find_chain.Goals as goal

pub register-bits-requires : goal.register-bits-requires
register-bits-requires c =
    (turn_register (length c.args.holds.now) c.args.path.now c.loop-reg.reg-index
    c.loop-reg-test.true c.loop-reg.invariant.route).0

pub append_part_reserved-requires-clause-room : goal.append_part_reserved-requires-clause-room
append_part_reserved-requires-clause-room c =
    let path = c.args.path.now in
    let i = c.loop-reg.reg-index in
    omega (
      arith,
      ap length c.loop-reg.invariant.items,
      length-append c.loop-reg.into.items
          (chain (drop i path) c.args.holds.now),
      turn_length c.args.holds.now path i c.loop-reg-test.true,
      c.loop-reg.invariant.room,
      c.requires.room,
      c.len.ensures ∙ ap length c.register-bits.ensures,
    )

pub append_part_reserved-requires-clause-short : goal.append_part_reserved-requires-clause-short
append_part_reserved-requires-clause-short c =
    let path = c.args.path.now in
    let i = c.loop-reg.reg-index in
    omega (
      arith,
      ap length c.loop-reg.invariant.items,
      length-append c.loop-reg.into.items
          (chain (drop i path) c.args.holds.now),
      turn_length c.args.holds.now path i c.loop-reg-test.true,
      c.requires.few,
      c.len.ensures ∙ ap length c.register-bits.ensures,
    )

pub loop-reg-preserved : goal.loop-reg-preserved
loop-reg-preserved c =
    let path = c.args.path.now in
    let i = c.loop-reg.reg-index in
    let own : List Bool = bits_at c.args.holds.now (get_or path i 0) in
    let here : slice_range c.register-bits.result.now.items 0 c.len.result
    ≡ own = ap (λ n. slice_range c.register-bits.result.now.items 0 n) c.len.ensures
    ∙ whole_range c.register-bits.result.now.items ∙ c.register-bits.ensures in
    let now : c.append_part_reserved.new.self.items ≡ c.loop-reg.into.items ++ own =
    c.append_part_reserved.ensures.items ∙ ap (λ bs. c.loop-reg.into.items ++ bs) here in
    record {
      items = chain_next c.args.holds.now path i c.loop-reg.into.items c.append_part_reserved.new.self.items _
          c.loop-reg-test.true now c.loop-reg.invariant.items;
      route = (turn_register (length c.args.holds.now) path i
          c.loop-reg-test.true c.loop-reg.invariant.route).1;
      room = omega (
        arith,
        c.loop-reg.invariant.room,
        c.append_part_reserved.ensures.spare,
        ap length now,
        length-append c.loop-reg.into.items own,
        c.len.ensures ∙ ap length c.register-bits.ensures,
      );
    }
