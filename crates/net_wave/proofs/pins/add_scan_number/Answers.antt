use Rattle.std.proofs.Common.{◌≡◌, ◌++◌, ◌∷◌, ℕ, List, codes, append-nil, append_assoc, ap, sym, ◌∙◌}
use Rattle.std.proofs.lemmas.Result.{on_ok_weaker}
use Rattle.net_wave.specs.Changes.{binary, told_if}
use Rattle.net_wave.specs.Values.{number_digits}
use Rattle.net_wave.proofs.OnePin.{other_scan, said_first, said_new, scan_said, unsaid}
use Rattle.net_wave.proofs.pins.add_scan_number.Goals as goal
use Rattle.net_wave.proofs.pins.add_scan_number.Goals.{then-first-via-then-first}
use Rattle.net_wave.proofs.pins.add_scan_number.Goals.{then-first-via-else-first+then-before-now}

pub returns-then-first : goal.returns-then-first
returns-then-first c =
    let before = number_digits 32 c.args.before in
    let now = number_digits 32 c.args.now in
    let text : told_if c.args.first 8 before now
    ≡ codes "b" ++ (binary c.args.now ++ (codes " " ++ 41 ∷ codes "\n")) =
    elim c.then-first.branch [
      | then-first-via-then-first w ↦
          said_first c.args.first 8 before now w.if-first.true ∙ scan_said c.args.now
      | then-first-via-else-first+then-before-now w ↦ said_new c.args.first 8 before now
          (other_scan c.args.before c.args.now c.ranges.before.fits c.ranges.now.fits w.if-before-now.true)
          ∙ scan_said c.args.now
    ] in
    on_ok_weaker c.add_binary.result (λ e. e
    ∙ append_assoc c.args.piece.now (codes "b") (binary c.args.now ++ (codes " " ++ 41 ∷ codes "\n"))
    ∙ ap (λ (l : List ℕ). c.args.piece.now ++ l) (sym text)) c.add_binary.ensures

pub returns : goal.returns
returns c =
    sym (append-nil c.args.piece.now) ∙ ap (λ (l : List ℕ). c.args.piece.now ++ l)
    (sym (unsaid c.args.first 8 _ _ c.if-first.false (ap (number_digits 32) c.if-before-now.false)))
