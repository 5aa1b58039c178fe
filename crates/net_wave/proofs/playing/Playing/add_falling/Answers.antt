use Rattle.std.proofs.Common.{◌≡◌, ◌++◌, List, map, subst}
use Rattle.std.specs.Prelude.{OnOk}
use Rattle.bench_report.specs.Report.{chip_of}
use Rattle.instruments.specs.Seen.{seen_model}
use Rattle.net_wave.specs.declared.var.Var.{Var}
use Rattle.net_wave.specs.Changes.{pin_digits, pin_vars}
use Rattle.net_wave.specs.Left.{before_of, falling_text, told_of, values_at}
use Rattle.net_wave.specs.Moments.{falling, moment_text}
use Rattle.net_wave.specs.Values.{values}
use Rattle.net_wave.proofs.playing.Playing.add_falling.Goals as goal

pub returns-clause-told : goal.returns-clause-told
unfolding values_at
returns-clause-told c =
    let p = c.args.self.now in
    subst (λ (l : List Var). OnOk c.add_falling.result (pin_digits c.shown-now.result
    c.add_falling.new.instruction.items ++ told_of c.add_falling.new.told.items ≡ values (chip_of p.bench)
    (map seen_model p.models.now.items) (pin_vars ++ l) c.args.pins p.bench.state))
    c.as_slice.ensures c.add_falling.ensures.told

pub returns-clause-text : goal.returns-clause-text
unfolding values_at falling_text
returns-clause-text c =
    let p = c.args.self.now in
    subst (λ (l : List Var). OnOk c.add_falling.result (c.add_falling.new.piece
    ≡ c.args.piece.now ++ moment_text (falling p.first p.clock (before_of p) (values (chip_of p.bench)
    (map seen_model p.models.now.items) (pin_vars ++ l) c.args.pins p.bench.state))))
    c.as_slice.ensures c.add_falling.ensures.text
