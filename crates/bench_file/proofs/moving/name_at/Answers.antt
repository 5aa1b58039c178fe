use Rattle.std.proofs.Common.{◌≡◌, ℕ, [], ap, sym, ◌∙◌}
use Rattle.instruments.specs.Seen.{SeenPort, seen_port}
use Rattle.instruments.specs.declared.model.PortDef.{PortDef}
use Rattle.instruments.proofs.Places.{seen_at}
use Rattle.bench_file.proofs.moving.name_at.Goals as goal

pub returns-then-k-ins : goal.returns-then-k-ins
returns-then-k-ins c =
    c.as_slice.ensures ∙ ap (λ (d : PortDef). d.name.items) (sym c.index-ins-k.is)
    ∙ seen_at (λ (d : SeenPort). d.name) seen_port c.args.ins.now c.args.k c.index-ins-k.result
    [] c.if-k-ins.true c.index-ins-k.is
