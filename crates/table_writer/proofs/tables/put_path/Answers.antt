use Rattle.std.specs.Prelude.{codes}
use Rattle.ij_io.proofs.Adding.{whole_as, part_as}
use Rattle.table_writer.proofs.Pieced.{first_is}
use Rattle.table_writer.proofs.tables.put_path.Goals as goal

pub returns-in-len1-up-clause-whole : goal.returns-in-len1-up-clause-whole
returns-in-len1-up-clause-whole g c =
    whole_as c.put_first_names.result _ _ (first_is (λ name. name.items) (codes ".") c.args.path.now
    c.first-item.result c.in-len1-up.len_at_least c.first-item.is) c.put_first_names.ensures.whole

pub returns-in-len1-up-clause-part : goal.returns-in-len1-up-clause-part
returns-in-len1-up-clause-part g c =
    part_as c.put_first_names.result _ _ (first_is (λ name. name.items) (codes ".") c.args.path.now
    c.first-item.result c.in-len1-up.len_at_least c.first-item.is) c.put_first_names.ensures.part
