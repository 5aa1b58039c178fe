use Rattle.std.proofs.Common.{ap, ◌==◌, ◌∙◌}
use Rattle.std.specs.Prelude.{not}
use Rattle.net_graph.proofs.select_table.is_marked_select.Goals as goal

pub returns : goal.returns
returns c = ap (λ k. not (k == 0)) c.get.ensures ∙ c.requires c.args.bit
