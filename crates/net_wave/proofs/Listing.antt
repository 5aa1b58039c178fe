-- Lists that grow by what belongs to one number more.
use Rattle.std.proofs.Common.{◌≡◌, ℕ, ◌+◌, List, ◌++◌, ap, sym, ◌∙◌, append_assoc, add-one}
use Rattle.net_wave.specs.Vars.{up_to}

pub up_to_next : {T : Type 0} (f : ℕ → List T) (old xs ys : List T) (n : ℕ) → xs ≡ old ++ up_to f n
    → ys ≡ xs ++ f n → ys ≡ old ++ up_to f (n + 1)
up_to_next f old xs ys n before more =
    more ∙ ap (λ l. l ++ f n) before ∙ append_assoc old (up_to f n) (f n)
    ∙ ap (λ k. old ++ up_to f k) (sym (add-one n))
