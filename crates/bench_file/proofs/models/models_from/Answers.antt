use Rattle.std.proofs.Common.{◌≡◌, ◌<◌, ◌+◌, List, length, map, get_or, drop, subst, sym, arith}
use Rattle.std.specs.Option.{option_map}
use Rattle.instruments.specs.Seen.{seen_model}
use Rattle.instruments.specs.declared.model.Model.{Model}
use Rattle.table_file.specs.Tables.{seen_table}
use Rattle.bench_file.specs.Fits.{models_from, table_named, inst_path}
use Rattle.bench_file.proofs.Modelling.{with_front, one_more_model, fails_here}
use Rattle.bench_file.proofs.models.models_from.Goals as goal

pub loop-i-preserved : goal.loop-i-preserved
loop-i-preserved c =
    let net = c.args.net.now in
    let ts = map seen_table c.args.tables.now in
    let inst = c.get-inst.result.now in
    let within : c.loop-i.i < length net.insts.items = grind arith in
    let is : inst ≡ get_or net.insts.items c.loop-i.i inst = grind arith in
    let found : option_map (λ t. seen_table t.now) c.table_named-table.result
    ≡ table_named ts (inst_path net inst) = grind arith in
    record {
      same = subst (λ (ms : List Model). with_front (map seen_model ms)
          (models_from net ts (c.loop-i.i + 1) (drop (c.loop-i.i + 1) net.insts.items))
          ≡ models_from net ts 0 net.insts.items) (sym c.push_reserved.ensures.items)
          (one_more_model net ts c.loop-i.i net.insts.items inst within is c.loop-i.models.items
          c.in_ok-model_for.field-0 (c.loop-i.i + 1) _ _
          (omega arith) found c.in_ok-model_for.ensures c.loop-i.invariant.same);
      room = omega (arith, c.push_reserved.ensures.spare, c.loop-i.invariant.room);
    }

pub returns-in_err-model_for : goal.returns-in_err-model_for
returns-in_err-model_for c =
    let net = c.args.net.now in
    let ts = map seen_table c.args.tables.now in
    let inst = c.get-inst.result.now in
    let within : c.loop-i.i < length net.insts.items = grind arith in
    let is : inst ≡ get_or net.insts.items c.loop-i.i inst = grind arith in
    let found : option_map (λ t. seen_table t.now) c.table_named-table.result
    ≡ table_named ts (inst_path net inst) = grind arith in
    let fails = fails_here net ts c.loop-i.i net.insts.items inst within is c.loop-i.models.items _ _
    c.in_err-model_for.field-0.0 found c.in_err-model_for.ensures c.loop-i.invariant.same in
    grind (arith, fails)
