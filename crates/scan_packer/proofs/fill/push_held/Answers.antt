use Rattle.std.proofs.Common.{◌++◌, ap, ◌∙◌}
use Rattle.std.specs.Prelude.{slice_range}
use Rattle.net_graph.specs.Signals.{bits_at}
use Rattle.scan_packer.proofs.Filling.{all_bits}
use Rattle.scan_packer.proofs.fill.push_held.Goals as goal

pub returns-clause-items : goal.returns-clause-items
returns-clause-items c =
    c.append_part_reserved.ensures.items
    ∙ ap (λ bits. c.args.into.now.items ++ slice_range bits 0 c.args.width) c.register.ensures
    ∙ ap (λ bits. c.args.into.now.items ++ bits)
    (all_bits (bits_at c.args.holds.now c.args.reg) c.args.width c.requires.width)
