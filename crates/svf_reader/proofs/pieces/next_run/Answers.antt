use Rattle.std.proofs.Common.{◌≡◌, ◌≤◌, ◌∷◌, List, ℕ, ap, sym, ◌∙◌, arith, length, drop}
use Rattle.std.proofs.lemmas.List.{nil_from_length}
use Rattle.std.proofs.lemmas.Bool.Decides.{nat_tests}
use Rattle.svf_reader.specs.Reading.{runs_of}
use Rattle.svf_reader.proofs.Lexing.{next_run_is, no_runs}
use Rattle.svf_reader.proofs.pieces.next_run.Goals as goal

pub returns-then-is_empty-clause-value : goal.returns-then-is_empty-clause-value
returns-then-is_empty-clause-value c =
    let none : length c.skip_gap-text.result.now ≡ 0 = grind (arith, nat_tests) in
    c.skip_gap-text.ensures.runs ∙ ap runs_of (nil_from_length c.skip_gap-text.result.now none) ∙ no_runs

pub returns-clause-value : goal.returns-clause-value
returns-clause-value c =
    let text = c.skip_gap-text.result.now in
    let some : 1 ≤ length text = grind (arith, nat_tests) in
    let front =
    next_run_is text c.run_len.result some c.skip_gap-text.ensures.stops c.run_len.ensures.value in
    c.skip_gap-text.ensures.runs ∙ front.is
    ∙ ap (λ (w : List ℕ). w ∷ runs_of (drop c.run_len.result text)) (sym c.split_at.ensures.front)
    ∙ ap (λ (r : List ℕ). c.split_at.result.0.now ∷ runs_of r) (sym c.split_at.ensures.back)

pub returns-clause-shorter : goal.returns-clause-shorter
returns-clause-shorter c =
    let text = c.skip_gap-text.result.now in
    let some : 1 ≤ length text = grind (arith, nat_tests) in
    let front =
    next_run_is text c.run_len.result some c.skip_gap-text.ensures.stops c.run_len.ensures.value in
    omega (arith, front.some, c.skip_gap-text.ensures.shorter, c.split_at.ensures.back_len)
