use Rattle.std.proofs.Common.{◌≡◌, ◌+◌, ◌-◌, ◌++◌, ℕ, map, ap, ◌∙◌, arith}
use Rattle.std.specs.List.{range_with_len}
use Rattle.ij_runs.specs.Runs.{following}
use Rattle.icl_references.specs.RefRuns.{ref_after}
use Rattle.icl_references.specs.declared.hier.Ref.TheVariants.{Bit}
use Rattle.icl_references.proofs.RefRuns.{bits_from}
use Rattle.icl_references.proofs.bits.bits_between.Goals as goal

pub returns : goal.returns
returns c =
    let s = c.args.s in
    let one = Bit c.args.cell c.args.part s.low c.args.inverted in
    let up = c.from-end.ensures in
    let low = c.from.ensures in
    let less = c.saturating_sub.ensures in
    let count = c.in-Ok.ensures in
    let e : c.in-Ok.count ≡ s.high + 1 - s.low = omega (arith, up, low, less, count) in
    c.in_ok-push_run.ensures.ok
    ∙ ap (λ l. l ++ following ref_after one c.in-Ok.count) c.new-refs.ensures
    ∙ bits_from c.args.cell c.args.part s.low c.args.inverted c.in-Ok.count
    ∙ ap (λ n. map (λ (pos : ℕ). Bit c.args.cell c.args.part pos c.args.inverted) (range_with_len s.low n)) e
