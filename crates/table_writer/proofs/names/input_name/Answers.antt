use Rattle.std.proofs.Common.{[], ◌∙◌}
use Rattle.instruments.specs.Seen.{SeenPort, seen_port}
use Rattle.instruments.proofs.Places.{seen_at}
use Rattle.table_writer.proofs.names.input_name.Goals as goal

pub returns-then-k-len : goal.returns-then-k-len
returns-then-k-len c =
    c.as_slice.ensures ∙ seen_at (λ (d : SeenPort). d.name) seen_port c.args.m.now.ins.items c.args.k
    c.get.result.now [] (rw c.len.ensures at c.if-k-len.true) c.get.ensures
