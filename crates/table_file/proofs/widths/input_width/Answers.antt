use Rattle.instruments.specs.Seen.{seen_port}
use Rattle.instruments.proofs.Places.{seen_at}
use Rattle.table_file.proofs.widths.input_width.Goals as goal

pub returns-then-k-len : goal.returns-then-k-len
returns-then-k-len c =
    seen_at (λ d. d.width) seen_port c.args.m.now.ins.items c.args.k c.get.result.now 0
    (rw c.len.ensures at c.if-k-len.true) c.get.ensures
