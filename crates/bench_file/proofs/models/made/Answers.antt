use Rattle.std.proofs.Common.{◌≡◌, List, map, ap, sym, ◌∙◌}
use Rattle.table_file.specs.declared.table.Table.{Table}
use Rattle.table_file.specs.Tables.{seen_table}
use Rattle.bench_file.specs.Fits.{models_from}
use Rattle.bench_file.proofs.Arranging.{made_is, made_fits, made_one, made_well}
use Rattle.bench_file.proofs.models.made.Goals as goal

pub returns-in-Ok-clause-ok : goal.returns-in-Ok-clause-ok
returns-in-Ok-clause-ok c =
    made_is c.args.net.now c.args.tables.now.items c.in-Ok.models.items c.requires.net c.requires.tables
    c.requires.fit (ap (λ (ts : List Table). models_from c.args.net.now
    (map seen_table ts) 0 c.args.net.now.insts.items) (sym c.as_slice.ensures) ∙ c.in-Ok.ensures)

pub returns-in-Ok-clause-fit : goal.returns-in-Ok-clause-fit
returns-in-Ok-clause-fit c =
    made_fits c.args.net.now c.args.tables.now.items c.in-Ok.models.items c.requires.net c.requires.tables
    c.requires.fit (ap (λ (ts : List Table). models_from c.args.net.now
    (map seen_table ts) 0 c.args.net.now.insts.items) (sym c.as_slice.ensures) ∙ c.in-Ok.ensures)

pub returns-in-Ok-clause-count : goal.returns-in-Ok-clause-count
returns-in-Ok-clause-count c =
    made_one c.args.net.now c.args.tables.now.items c.in-Ok.models.items c.requires.net c.requires.tables
    c.requires.fit (ap (λ (ts : List Table). models_from c.args.net.now
    (map seen_table ts) 0 c.args.net.now.insts.items) (sym c.as_slice.ensures) ∙ c.in-Ok.ensures)

pub returns-in-Ok-clause-models : goal.returns-in-Ok-clause-models
returns-in-Ok-clause-models c =
    made_well c.args.net.now c.args.tables.now.items c.in-Ok.models.items c.requires.net c.requires.tables
    c.requires.fit (ap (λ (ts : List Table). models_from c.args.net.now
    (map seen_table ts) 0 c.args.net.now.insts.items) (sym c.as_slice.ensures) ∙ c.in-Ok.ensures)
