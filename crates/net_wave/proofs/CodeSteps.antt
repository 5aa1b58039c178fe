-- Codes, digit by digit.
use Rattle.std.proofs.Common.{◌≡◌, ℕ, suc, ◌+◌, ◌-◌, ◌/◌, ◌%◌, ◌<◌, true, false, cond, List, [], ◌∷◌, ◌++◌}
use Rattle.std.proofs.Common.{ap, sym, ◌∙◌, append_assoc, append-nil, arith}
use Rattle.std.specs.Prelude.{◌==◌}
use Rattle.net_wave.specs.Codes.{code_digits}

module _ (all piece new : List ℕ) (k left : ℕ) (within : k < 10) (more : new ≡ piece ++ (33 + left % 94) ∷ [])
    (so_far : piece ++ code_digits (10 - k) left ≡ all) where
  here : new ++ cond (left / 94 == 0) [] (code_digits (10 - (k + 1)) (left / 94 - 1)) ≡ all
  here =
      let m = 10 - (k + 1) in
      let next : 10 - k ≡ suc m = omega arith in
      let rest = cond (left / 94 == 0) [] (code_digits m (left / 94 - 1)) in
      ap (λ l. l ++ rest) more ∙ append_assoc piece ((33 + left % 94) ∷ []) rest
      ∙ ap (λ n. piece ++ code_digits n left) (sym next) ∙ so_far

  pub code_ends : (left / 94 == 0) ≡ true → new ≡ all
  code_ends e =
      sym (append-nil new)
      ∙ ap (λ b. new ++ cond b [] (code_digits (10 - (k + 1)) (left / 94 - 1))) (sym e) ∙ here

  pub code_next : (left / 94 == 0) ≡ false → (next : ℕ) → next ≡ left / 94 - 1
      → new ++ code_digits (10 - (k + 1)) next ≡ all
  code_next e next is =
      ap (λ n. new ++ code_digits (10 - (k + 1)) n) is
      ∙ ap (λ b. new ++ cond b [] (code_digits (10 - (k + 1)) (left / 94 - 1))) (sym e) ∙ here
