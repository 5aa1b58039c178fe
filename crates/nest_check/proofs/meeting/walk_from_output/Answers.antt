use Rattle.std.proofs.Common.{◌≡◌, length, arith}
use Rattle.nest_check.specs.Meeting.{AtOutput}
use Rattle.nest_check.specs.Flags.{Flagged}
use Rattle.nest_check.proofs.Flagging.{start_walk}
use Rattle.nest_check.proofs.meeting.walk_from_output.Goals as goal

pub reach-requires-clause-walk : goal.reach-requires-clause-walk
reach-requires-clause-walk c =
    let net = c.args.net.now in
    let f : Flagged = record { regs = c.in_ok-vec.field-0.items; muxes = c.in_ok-vec-2.field-0.items } in
    let regs : length f.regs ≡ length net.regs.items =
    omega (arith, c.in_ok-vec.ensures.len, c.in_ok-vec.field-0.ok, c.len.ensures) in
    let muxes : length f.muxes ≡ length net.muxes.items =
    omega (arith, c.in_ok-vec-2.ensures.len, c.in_ok-vec-2.field-0.ok, c.len-2.ensures) in
    start_walk net c.len.result c.len-2.result f c.new.result.items (regs, muxes)
    (c.in_ok-vec.ensures.items_if_clones_equal (λ y e. e))
    (c.in_ok-vec-2.ensures.items_if_clones_equal (λ y e. e)) c.new.ensures.items

pub reach-requires-clause-met : goal.reach-requires-clause-met
reach-requires-clause-met c = AtOutput
