use Rattle.std.proofs.Common.{sym, ap, ◌∙◌}
use Rattle.net_graph.specs.SpotRuns.{spot_after}
use Rattle.icl_references.specs.RefRuns.{ref_after}
use Rattle.icl_references.specs.Roles.{seen_part}
use Rattle.icl_signals.specs.Wirings.{cells_of}
use Rattle.icl_signals.specs.Alike.{data_spot}
use Rattle.icl_signals.specs.Connecting.{spot_of}
use Rattle.icl_signals.proofs.SpotsBeside.{data_bits_beside}
use Rattle.icl_signals.proofs.things.spots_from.Goals as goal

pub returns-clause-each : goal.returns-clause-each
returns-clause-each c k lt =
    let w = c.args.wiring.now in
    let p = seen_part c.in-Some.p.now in
    let b = c.in-Bit in
    ap (λ r. spot_of (cells_of w) w.entry (ref_after k r)) b.is
    ∙ data_bits_beside (cells_of w) w.entry b.cell b.part b.pos b.inverted p k c.traces-run.result.end
    (sym c.in-Some.ensures) (sym c.is_of.ensures ∙ c.if-is_of.false)
    (c.traces-run.ensures.value k lt)
    ∙ ap (spot_after k) (ap (data_spot p.role) (sym (c.signal_at.ensures p.at)) ∙ sym c.data_spot.ensures)
