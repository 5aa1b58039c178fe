use Rattle.std.proofs.Common.{◌++◌, sym, ap, ◌∙◌, arith}
use Rattle.ij_runs.specs.Runs.{following}
use Rattle.net_graph.specs.SpotRuns.{spot_after}
use Rattle.icl_references.specs.RefRuns.{ref_after, both_after}
use Rattle.icl_signals.specs.Wirings.{cells_of}
use Rattle.icl_signals.specs.Connecting.{spot_of}
use Rattle.icl_signals.proofs.SpotsBeside.{more}
use Rattle.icl_signals.proofs.things.named_spots.Goals as goal

pub loop-bit-preserved : goal.loop-bit-preserved
loop-bit-preserved c =
    let w = c.args.wiring.now in
    let l = c.loop-bit in
    let xs = c.args.refs.now.items in
    let p = c.part_at-part.ensures in
    let r = c.after.result in
    let s = c.spots_from-run.ensures in
    let run = c.spots_from-run.result in
    let few = s.few in
    let some = s.some in
    let within = p.within in
    let far = l.invariant.far in
    let f = spot_of (cells_of w) w.entry in
    record {
      items = c.in_ok-push_run.ensures.ok
          ∙ ap (λ ys. ys ++ following spot_after run.spot run.count) l.invariant.items
          ∙ sym (more f (λ k. spot_after k run.spot) xs l.pos run.count r (omega (arith, within, few))
          (λ k lt. ap f (p.values k (omega (arith, lt, few)) r
          ∙ sym (both_after k c.part_at-part.result.from c.part_at-part.result.first)
          ∙ ap (ref_after k) (sym c.after.ensures)) ∙ s.each k lt));
      far = omega (arith, far, some);
      within = omega (arith, within, few);
    }
