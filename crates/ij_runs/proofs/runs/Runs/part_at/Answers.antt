use Rattle.std.proofs.Common.{◌≡◌, ◌+◌, ◌-◌, get_or, sym, ap, ◌∙◌, arith}
use Rattle.ij_runs.proofs.runs.Runs.part_at.Goals as goal

pub returns-clause-values : goal.returns-clause-values
returns-clause-values g c k lt any =
    let run = c.run_at-run.result in
    let from = c.run_at-run.ensures.from in
    let to = c.run_at-run.ensures.to in
    let here : run.start + (c.args.i - run.start + k) ≡ c.args.i + k = omega (arith, from) in
    ap (λ j. get_or c.args.self.now.items j any) (sym here)
    ∙ c.run_at-run.ensures.is.values (c.args.i - run.start + k) (omega (arith, from, to, lt)) any
