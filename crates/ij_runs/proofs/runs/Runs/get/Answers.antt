use Rattle.std.proofs.Common.{◌≡◌, ◌+◌, ◌-◌, get_or, sym, ap, ◌∙◌, arith}
use Rattle.ij_runs.proofs.runs.Runs.get.Goals as goal

pub returns : goal.returns
returns g c any =
    let run = c.run_at-run.result in
    let from = c.run_at-run.ensures.from in
    let to = c.run_at-run.ensures.to in
    let here : run.start + (c.args.i - run.start) ≡ c.args.i = omega (arith, from) in
    c.after.ensures ∙ sym (ap (λ k. get_or c.args.self.now.items k any) (sym here)
    ∙ c.run_at-run.ensures.is.values (c.args.i - run.start) (omega (arith, from, to)) any)
