use Rattle.std.proofs.Common.{◌++◌, ℕ, List, refl, ap, sym, ◌∙◌}
use Rattle.net_wave.specs.Left.{clock_text}
use Rattle.net_wave.proofs.Leaving.{can_step, differs_given, differs_kept, end_text, next_text, step_kept}
use Rattle.net_wave.proofs.playing.Playing.add_next.Goals as goal

pub returns-in_ok-add_falling-in-None-clause-end : goal.returns-in_ok-add_falling-in-None-clause-end
returns-in_ok-add_falling-in-None-clause-end c e =
    c.in_ok-add_falling-in-None.ensures.text ∙ ap (λ (l : List ℕ). c.args.piece.now ++ l)
    (end_text c.args.self.now c.next_pins.new.self c.next_pins.ensures.same (c.in-None.ensures.none refl))

pub returns-in_ok-add_falling-in-None-clause-differs : goal.returns-in_ok-add_falling-in-None-clause-differs
returns-in_ok-add_falling-in-None-clause-differs c =
    differs_kept c.args.self.now c.next_pins.new.self c.next_pins.ensures.same c.add_falling.new.self
    c.in_ok-add_falling-in-None.ensures.same (c.in-None.ensures.kept refl)

pub returns-in_ok-add_falling-in-None-clause-step : goal.returns-in_ok-add_falling-in-None-clause-step
returns-in_ok-add_falling-in-None-clause-step c =
    step_kept c.args.self.now c.next_pins.new.self c.next_pins.ensures.same c.add_falling.new.self
    c.in_ok-add_falling-in-None.ensures.same c.requires

pub returns-in_ok-add_clock-in-Some-clause-text : goal.returns-in_ok-add_clock-in-Some-clause-text
returns-in_ok-add_clock-in-Some-clause-text c e =
    let q = c.next_pins.new.self in
    let x = c.in-Some.pins in
    let text = next_text c.args.self.now q x c.next_pins.ensures.same c.in-Some.ensures.some in (
      clock_text q x,
      c.in_ok-add_clock-in-Some.ensures.text,
      text ∙ ap (λ (l : List ℕ). clock_text q x ++ l) (sym c.in_ok-add_clock-in-Some.ensures.left),
    )

pub returns-in_ok-add_clock-in-Some-clause-differs : goal.returns-in_ok-add_clock-in-Some-clause-differs
returns-in_ok-add_clock-in-Some-clause-differs c =
    c.in_ok-add_clock-in-Some.ensures.differs ∙ differs_given c.args.self.now c.next_pins.new.self
    c.next_pins.ensures.same c.in-Some.pins c.in-Some.ensures.given

pub returns-in_ok-add_clock-in-Some-clause-step : goal.returns-in_ok-add_clock-in-Some-clause-step
returns-in_ok-add_clock-in-Some-clause-step c =
    can_step c.add_clock.new.self c.in_ok-add_clock-in-Some.ensures.playing
