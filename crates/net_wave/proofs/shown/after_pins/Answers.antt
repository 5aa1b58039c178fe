use Rattle.net_wave.proofs.Quiet.{next_place}
use Rattle.net_wave.proofs.shown.after_pins.Goals as goal

pub loop-i-preserved : goal.loop-i-preserved
loop-i-preserved c =
    let next = next_place c.args.vars.now c.loop-i.i c.loop-i.place c.pins_end_after-place.result _
    c.loop-i-test.true c.loop-i.invariant.few c.pins_end_after-place.ensures c.loop-i.invariant.rest in
    record { few = next.0; rest = next.1 }
