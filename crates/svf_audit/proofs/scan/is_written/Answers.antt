use Rattle.std.proofs.Common.{ap, ◌∙◌}
use Rattle.std.specs.Option.{is_some}
use Rattle.net_graph.specs.Path.{same_place}
use Rattle.svf_audit.proofs.Numbering.{any_position}
use Rattle.svf_audit.proofs.scan.is_written.Goals as goal

pub returns : goal.returns
returns c = c.is_some.ensures ∙ ap is_some c.index_of_write.ensures
    ∙ any_position (λ w. same_place w.bit c.args.bit) c.args.writes.now
