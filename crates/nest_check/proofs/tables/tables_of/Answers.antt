use Rattle.std.proofs.Common.{◌≡◌, ◌≤◌, [], ap, sym, subst, arith}
use Rattle.std.specs.Prelude.{All}
use Rattle.nest_check.specs.Tables.{no_marks_taken, pass}
use Rattle.nest_check.proofs.tables.tables_of.Goals as goal

pub loop-i-init : goal.loop-i-init
unfolding no_marks_taken
loop-i-init c =
    let met : c.in_ok-tables.tables.met.items ≡ [] = ap (λ t. t.met) c.in_ok-tables.ensures in (
      subst (All (λ a. a.level.begun ≤ 0)) (sym met) (λ k d h. absurd (omega (arith, h))),
      ap (λ t. pass t c.args.marks.now) c.in_ok-tables.ensures,
    )
