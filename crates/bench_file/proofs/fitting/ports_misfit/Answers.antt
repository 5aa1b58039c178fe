use Rattle.std.proofs.Common.{◌≡◌, ◌<◌, length, None, map, sym, ap, ◌∙◌, arith}
use Rattle.table_file.specs.Tables.{seen_table}
use Rattle.bench_file.specs.Fits.{inst_misfit, inst_path, table_named}
use Rattle.bench_file.proofs.Misfits.{one_more, one_misfit, not_some}
use Rattle.bench_file.proofs.fitting.ports_misfit.Goals as goal

pub loop-i-preserved : goal.loop-i-preserved
loop-i-preserved c =
    let net = c.args.net.now in
    let ts = map seen_table c.args.tables.now in
    let i = c.loop-i.i in
    let inst = c.get-inst.result.now in
    let within : i < length net.insts.items = omega (arith, c.loop-i-test.true, c.len-i-end.ensures) in
    let none = not_some c.inst_misfit-fault.result (sym c.is_some.ensures ∙ c.if-is_some.false) in
    let found = c.table_named.ensures ∙ ap (table_named ts) c.inst_path.ensures in
    let fits : inst_misfit i inst (table_named ts (inst_path net inst))
    ≡ None = ap (inst_misfit i inst) (sym found) ∙ sym c.inst_misfit-fault.ensures ∙ none in
    one_more net ts i net.insts.items inst within c.get-inst.ensures fits ∙ c.loop-i.invariant

pub returns-then-is_some : goal.returns-then-is_some
returns-then-is_some c =
    let net = c.args.net.now in
    let ts = map seen_table c.args.tables.now in
    let i = c.loop-i.i in
    let inst = c.get-inst.result.now in
    let within : i < length net.insts.items = omega (arith, c.loop-i-test.true, c.len-i-end.ensures) in
    let found = c.table_named.ensures ∙ ap (table_named ts) c.inst_path.ensures in
    let is : c.inst_misfit-fault.result ≡ inst_misfit i inst (table_named ts (inst_path net inst)) =
    c.inst_misfit-fault.ensures ∙ ap (inst_misfit i inst) found in
    sym (one_misfit net ts i net.insts.items inst within c.get-inst.ensures c.inst_misfit-fault.result is
    (sym c.is_some.ensures ∙ c.if-is_some.true)) ∙ c.loop-i.invariant
