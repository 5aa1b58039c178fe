use Rattle.std.proofs.Common.{ap, ◌∙◌}
use Rattle.tap_machine.specs.Remaining.{Remaining}
use Rattle.tap_machine.proofs.Remains.{nothing_left}
use Rattle.tap_machine.proofs.player.Player.end_state.Goals as goal

pub returns : goal.returns
returns c =
    nothing_left _ _ _ _ _ _ (ap (λ (l : Remaining). l.pins) c.self.view_is ∙ c.requires)
    ∙ ap (λ (l : Remaining). l.rests) c.self.view_is
