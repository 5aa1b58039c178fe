use Rattle.std.proofs.Common.{Bool, Some, ap, ◌∙◌}
use Rattle.ij_io.proofs.Adding.{whole_as}
use Rattle.net_graph.specs.declared.net.Sig.{Sig}
use Rattle.net_picture.specs.Captures.{is_repeated, line_unless}
use Rattle.net_picture.proofs.captures.put_capture.Goals as goal

pub returns : goal.returns
returns c =
    let net = c.args.net.now in
    whole_as c.put_line_unless.result (Some c.args.text.now) (Some c.put_line_unless.new.text)
    (ap (λ (b : Bool). line_unless net b c.captured_at-signal.result) c.is_repeated-repeated.ensures
    ∙ ap (λ (s : Sig). line_unless net (is_repeated c.args.signals.now c.args.pos) s)
    c.captured_at-signal.ensures)
    c.put_line_unless.ensures
