use Rattle.instruments.proofs.Running.{state_is, one_reset}
use Rattle.instruments.proofs.runner.Runner.reset.Goals as goal

pub returns-clause-state : goal.returns-clause-state
returns-clause-state c at =
    state_is _ _ _ _ (c.reset.ensures at) (one_reset c.args.self.now.counts _ c.saturating_add-self.ensures)
