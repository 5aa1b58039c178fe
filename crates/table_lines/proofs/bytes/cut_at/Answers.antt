use Rattle.std.proofs.Common.{◌≡◌, ◌≤◌, List, ℕ, [], ◌∷◌, length, take, drop, ap, sym, ◌∙◌, arith, subst}
use Rattle.std.proofs.lemmas.List.{nil_from_length}
use Rattle.std.proofs.lemmas.Bool.Decides.{nat_tests}
use Rattle.ij_text.specs.Parts.{split}
use Rattle.table_lines.proofs.Runs.{last_piece, first_piece}
use Rattle.table_lines.proofs.bytes.cut_at.Goals as goal

pub returns-then-is_empty-clause-pieces : goal.returns-then-is_empty-clause-pieces
returns-then-is_empty-clause-pieces c =
    let none : length c.split_at.result.1.now ≡ 0 = grind (arith, nat_tests) in
    last_piece c.args.at c.args.text.now c.run_len.result c.run_len.ensures.value
    (sym c.split_at.ensures.back ∙ nil_from_length c.split_at.result.1.now none)
    ∙ ap (λ (front : List ℕ). front ∷ []) (sym c.split_at.ensures.front)

pub returns-clause-pieces : goal.returns-clause-pieces
returns-clause-pieces c =
    let some : 1 ≤ length c.split_at.result.1.now = grind (arith, nat_tests) in
    let there = subst (λ (rest : List ℕ). 1 ≤ length rest) c.split_at.ensures.back some in
    first_piece c.args.at c.args.text.now c.run_len.result c.run_len.ensures.value there
    ∙ ap (λ (rest : List ℕ). take c.run_len.result c.args.text.now ∷ split c.args.at (drop 1 rest))
    (sym c.split_at.ensures.back)
    ∙ ap (λ (front : List ℕ). front ∷ split c.args.at (drop 1 c.split_at.result.1.now))
    (sym c.split_at.ensures.front)
    ∙ ap (λ (rest : List ℕ). c.split_at.result.0.now ∷ split c.args.at rest) (sym c.split_at-2.ensures.back)
