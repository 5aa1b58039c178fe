use Rattle.std.proofs.Common.{Bool, ap}
use Rattle.ij_io.proofs.Adding.{whole_as, part_as}
use Rattle.net_picture.specs.Dot.{row_edge}
use Rattle.net_picture.proofs.dot.put_row_line.Goals as goal

pub returns-clause-whole : goal.returns-clause-whole
returns-clause-whole g c =
    whole_as c.put_row_edge.result (g.K.Sink.taken c.args.k.now) (g.K.Sink.taken c.put_row_edge.new.k)
    (ap (λ (b : Bool). row_edge c.args.net.now b c.args.mux c.args.row) c.is_edge_active-shown.ensures)
    c.put_row_edge.ensures.whole

pub returns-clause-part : goal.returns-clause-part
returns-clause-part g c =
    part_as c.put_row_edge.result (g.K.Sink.taken c.args.k.now) (g.K.Sink.taken c.put_row_edge.new.k)
    (ap (λ (b : Bool). row_edge c.args.net.now b c.args.mux c.args.row) c.is_edge_active-shown.ensures)
    c.put_row_edge.ensures.part
