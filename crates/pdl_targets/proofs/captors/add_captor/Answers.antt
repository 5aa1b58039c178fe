use Rattle.std.proofs.Common.{refl}
use Rattle.pdl_targets.proofs.Captured.{added}
use Rattle.pdl_targets.proofs.captors.add_captor.Goals as goal

pub returns : goal.returns
returns c =
    added c.args.slots.now.items c.grow_slots.new.slots.items _ c.args.captor c.index_mut.result.now
    c.push.new.self c.slot_of-slot.result c.slot_of-slot.ensures c.in_ok-grow_slots.ensures.same
    c.in_ok-grow_slots.ensures.long c.index_mut.ensures.value c.in_ok-push.ensures.ok refl
