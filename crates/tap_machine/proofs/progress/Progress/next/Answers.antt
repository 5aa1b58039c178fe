use Rattle.std.proofs.Common.{◌≡◌, ap, sym, ◌∙◌, ◌++◌, []}
use Rattle.tap_machine.proofs.Remains.{no_pins}
use Rattle.tap_machine.specs.Remaining.{pins_at_hand, later_pins}
use Rattle.tap_machine.proofs.progress.Progress.next.Goals as goal

pub loop-pins-preserved : goal.loop-pins-preserved
loop-pins-preserved c =
    let none : pins_at_hand c.loop-pins.self ≡ [] = no_pins _ c.in-None.ensures.pins in
    record {
      pins = c.begin.ensures.pins ∙ sym (ap (λ ps. ps ++ later_pins c.loop-pins.self) none)
          ∙ c.loop-pins.invariant.pins;
      rests = c.begin.ensures.rests ∙ c.loop-pins.invariant.rests;
      sound = c.begin.ensures.sound;
    }
