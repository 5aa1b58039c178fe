use Rattle.std.proofs.Common.{sym, ap, ◌∙◌}
use Rattle.bench_file.specs.Fits.{names_one, name_texts}
use Rattle.bench_file.proofs.Misfits.{one_named, none_named}
use Rattle.bench_file.proofs.fitting.extra.Goals as goal

pub loop-t-preserved : goal.loop-t-preserved
loop-t-preserved c =
    let net = c.args.net.now in
    let named = ap (λ names. names_one net net.insts.items (name_texts names)) (sym c.as_slice.ensures)
    ∙ sym c.names_one.ensures ∙ c.if-not-names_one.false in
    one_named net c.args.tables.now c.loop-t.t-index c.t-item.result c.loop-t-test.true c.t-item.is named
    ∙ c.loop-t.invariant

pub returns-then-not-names_one : goal.returns-then-not-names_one
returns-then-not-names_one c =
    let net = c.args.net.now in
    let named = ap (λ names. names_one net net.insts.items (name_texts names)) (sym c.as_slice.ensures)
    ∙ sym c.names_one.ensures ∙ c.if-not-names_one.true in
    sym (none_named net c.args.tables.now c.loop-t.t-index c.t-item.result
    c.loop-t-test.true c.t-item.is named) ∙ c.loop-t.invariant
