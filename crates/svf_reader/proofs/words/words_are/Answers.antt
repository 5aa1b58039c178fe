use Rattle.std.proofs.Common.{◌≡◌, ◌≤◌, ℕ, false, List, [], ◌∷◌, length, drop, map, refl, arith, ap, sym, ◌∙◌}
use Rattle.std.proofs.Common.{Bor, length-drop}
use Rattle.std.proofs.lemmas.List.{length-map}
use Rattle.svf_reader.specs.Commands.{words_are}
use Rattle.svf_reader.proofs.words.words_are.Goals as goal

are_ends : (names : List (List ℕ)) → 1 ≤ length names → words_are names [] ≡ false
are_ends [] some = absurd (omega arith)
are_ends (n ∷ ns) some = refl

pub returns-in-None : goal.returns-in-None
returns-in-None c =
    let left : List (Bor (List ℕ)) = drop c.loop-name.name-index c.args.names.now in
    let some : 1 ≤ length (map (λ (name : Bor (List ℕ)). name.now) left) = omega (
      arith,
      length-map left
          (λ (name : Bor (List ℕ)). name.now),
      length-drop c.loop-name.name-index c.args.names.now,
    ) in
    sym (are_ends (map (λ (name : Bor (List ℕ)). name.now) left) some)
    ∙ ap (words_are (map (λ (name : Bor (List ℕ)). name.now) left)) (sym c.in-None.ensures.value)
    ∙ c.loop-name.invariant
