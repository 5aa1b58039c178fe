-- Whether any of some compares differs, by how many do.
use Rattle.std.proofs.Common.{◌≡◌, ◌≤◌, ◌∙◌, ap, arith, ℕ, Bool, false, true, List, [], ◌∷◌, length}
use Rattle.ijtag_work.specs.Order.{any_differs}

by_count : {A : Type 0} (xs : List A) (verdict : Bool) (n : ℕ) → (n ≡ 0 → verdict ≡ false)
    → (1 ≤ n → verdict ≡ true) → n ≡ length xs → verdict ≡ any_differs xs
by_count [] verdict n none some count = none count
by_count (x ∷ xs) verdict n none some count = some (omega (arith, count))

pub verdict_is : {A : Type 0} (xs ys : List A) (verdict : Bool) (n : ℕ) → (n ≡ 0 → verdict ≡ false)
    → (1 ≤ n → verdict ≡ true) → n ≡ length xs → xs ≡ ys → verdict ≡ any_differs ys
verdict_is xs ys verdict n none some count same = by_count xs verdict n none some count ∙ ap any_differs same
