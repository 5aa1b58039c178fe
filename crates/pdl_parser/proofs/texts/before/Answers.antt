use Rattle.std.proofs.Common.{◌-◌, length, get_or, arith}
use Rattle.std.specs.Prelude.{◌==◌}
use Rattle.std.proofs.lemmas.Bool.Decides.{Decides-eqb}
use Rattle.std.proofs.lemmas.Bool.{false_from_ne_true}
use Rattle.pdl_parser.proofs.Indices.{ends_with, ends_without, nothing_before}
use Rattle.pdl_parser.proofs.texts.before.Goals as goal
use Rattle.pdl_parser.proofs.texts.before.Goals.{else-n-gt0-via-then-n-gt0+else-text-n}
use Rattle.pdl_parser.proofs.texts.before.Goals.{else-n-gt0-via-else-n-gt0}

pub returns-then-text-n : goal.returns-then-text-n
returns-then-text-n c = ends_with c.args.c c.args.text.now c.if-n-gt0.true
    ((Decides-eqb (get_or c.args.text.now (length c.args.text.now - 1) 0) c.args.c).1 c.if-text-n.true)

pub returns-else-n-gt0 : goal.returns-else-n-gt0
returns-else-n-gt0 c = elim c.else-n-gt0.branch [
  | else-n-gt0-via-then-n-gt0+else-text-n w ↦
      let last = get_or c.args.text.now (length c.args.text.now - 1) 0 in
      ends_without c.args.c c.args.text.now (false_from_ne_true (last == c.args.c)
      (λ same. w.if-text-n.false ((Decides-eqb last c.args.c).0 same)))
  | else-n-gt0-via-else-n-gt0 w ↦
      nothing_before c.args.c c.args.text.now (λ more. omega (arith, more, w.if-n-gt0.false))
]
