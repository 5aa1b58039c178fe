use Rattle.std.proofs.Common.{◌≤◌, ℕ, subst, sym}
use Rattle.instruments.specs.Seen.{seen_model}
use Rattle.table_file.specs.Tables.{known, cond_operand}
use Rattle.table_lines.specs.SeenSaid.{seen_cond}
use Rattle.table_file.proofs.Narrowing.{few}
use Rattle.table_file.proofs.adding.compared_width.Goals as goal

pub returns-clause-few : goal.returns-clause-few
returns-clause-few c =
    let m = seen_model c.args.m.now in
    subst (λ (n : ℕ). n ≤ 64) (sym c.cond_width.ensures)
    (few m (known (cond_operand m (seen_cond c.args.c.now))) c.requires.narrow)
