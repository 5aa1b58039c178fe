use Rattle.std.specs.Prelude.{ℕ}
use Rattle.std.proofs.Common.{◌≤◌, drop}
use Rattle.ij_io.proofs.Fronts.{AddsFront}
use Rattle.net_list.specs.Forms.{items}
use Rattle.net_graph.specs.PathNames.{mux_path}
use Rattle.net_list.specs.Lines.{quoted}
use Rattle.net_list.proofs.register.put_muxes.Given as goal

abbrev pub invariant-loop-mux : goal.invariant-loop-mux
invariant-loop-mux g l = record {
  front : AddsFront (g.K.Sink.taken l.fn.k) (g.K.Sink.taken l.k)
      (items (λ (m : ℕ). quoted l.format (mux_path l.net m)) l.between l.before (drop l.mux-index l.muxes))
      (items (λ (m : ℕ). quoted l.format (mux_path l.net m)) l.between l.first l.muxes);
  later : g.K.Sink.faults l.fn.k ≤ g.K.Sink.faults l.k;
}
