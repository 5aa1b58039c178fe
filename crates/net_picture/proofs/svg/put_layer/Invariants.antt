use Rattle.std.proofs.Common.{◌≤◌, take}
use Rattle.std.specs.List.{flat_map}
use Rattle.ij_io.specs.Bytes.{Adds}
use Rattle.net_picture.specs.Svg.{text_in_layer}
use Rattle.net_picture.proofs.svg.put_layer.Given as goal

abbrev pub invariant-loop-shape : goal.invariant-loop-shape
invariant-loop-shape g l = record {
  so_far : Adds (g.K.Sink.taken l.fn.k) (g.K.Sink.taken l.k)
      (flat_map (text_in_layer l.net l.layer) (take l.shape-index l.shapes));
  later : g.K.Sink.faults l.fn.k ≤ g.K.Sink.faults l.k;
}
