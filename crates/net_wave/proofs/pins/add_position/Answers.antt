use Rattle.std.proofs.Common.{◌≡◌, ◌++◌, ◌∷◌, ◌%◌, ℕ, List, codes, append-nil, append_assoc, refl, ap, sym}
use Rattle.std.proofs.Common.{◌∙◌}
use Rattle.std.proofs.lemmas.Result.{on_ok_weaker}
use Rattle.net_wave.specs.Changes.{binary, told_if}
use Rattle.net_wave.specs.Values.{number_digits}
use Rattle.net_wave.proofs.OnePin.{other_position, position_said, said_first, said_new, same_position, unsaid}
use Rattle.net_wave.proofs.pins.add_position.Goals as goal
use Rattle.net_wave.proofs.pins.add_position.Goals.{then-first-via-then-first}
use Rattle.net_wave.proofs.pins.add_position.Goals.{then-first-via-else-first+then-before-now}

pub returns-then-first : goal.returns-then-first
returns-then-first c =
    let before = number_digits 16 c.args.before in
    let now = number_digits 16 c.args.now in
    let m = c.args.now % 65536 in
    let text : told_if c.args.first 9 before now ≡ codes "b" ++ (binary m ++ (codes " " ++ 42 ∷ codes "\n")) =
    elim c.then-first.branch [
      | then-first-via-then-first w ↦ said_first c.args.first 9 before now w.if-first.true
          ∙ position_said c.args.now m refl
      | then-first-via-else-first+then-before-now w ↦ said_new c.args.first 9 before now
          (other_position c.args.before c.args.now w.if-before-now.true) ∙ position_said c.args.now m refl
    ] in
    on_ok_weaker c.add_binary.result
    (λ e. e ∙ append_assoc c.args.piece.now (codes "b") (binary m ++ (codes " " ++ 42 ∷ codes "\n"))
    ∙ ap (λ (l : List ℕ). c.args.piece.now ++ l) (sym text)) c.add_binary.ensures

pub returns : goal.returns
returns c =
    sym (append-nil c.args.piece.now) ∙ ap (λ (l : List ℕ). c.args.piece.now ++ l) (sym (unsaid c.args.first 9
    _ _ c.if-first.false (same_position c.args.before c.args.now c.if-before-now.false)))
