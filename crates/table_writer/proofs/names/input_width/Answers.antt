use Rattle.instruments.specs.Seen.{SeenPort, seen_port}
use Rattle.instruments.specs.Models.{IsWidth}
use Rattle.instruments.proofs.Places.{seen_at, holds_at}
use Rattle.table_writer.proofs.names.input_width.Goals as goal

pub returns-then-k-len-clause-value : goal.returns-then-k-len-clause-value
returns-then-k-len-clause-value c =
    seen_at (λ (d : SeenPort). d.width) seen_port c.args.m.now.ins.items c.args.k c.get.result.now 0
    (rw c.len.ensures at c.if-k-len.true) c.get.ensures

pub returns-then-k-len-clause-few : goal.returns-then-k-len-clause-few
returns-then-k-len-clause-few c =
    let word = holds_at (λ (d : SeenPort). IsWidth d.width) seen_port c.args.m.now.ins.items c.args.k
    c.get.result.now (rw c.len.ensures at c.if-k-len.true) c.get.ensures c.requires.ins in
    word.few
