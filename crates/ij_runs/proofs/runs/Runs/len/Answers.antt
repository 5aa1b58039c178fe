use Rattle.std.proofs.Common.{length, sym, ap, ◌∙◌}
use Rattle.ij_runs.proofs.Expanded.{counted_all}
use Rattle.ij_runs.proofs.runs.Runs.len.Goals as goal

pub returns-in-Some-clause-value : goal.returns-in-Some-clause-value
returns-in-Some-clause-value g c =
    let i = c.self.inside in
    sym (ap (λ m. length m.items) (sym c.self.view_is)
    ∙ counted_all g.T.Follow.after g.T.Follow.room i.before.items i.last c.in-Some.last c.in-Some.is
    c.self.invariant)
