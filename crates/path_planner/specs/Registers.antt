-- A list of registers that is made by adding one after the other, unless it came last.
use Rattle.std.specs.Prelude.{ℕ, ◌==◌, Bool, false, cond, List, [], ◌∷◌, ◌++◌}

abbrev pub last_reg_is : List ℕ → ℕ → Bool
last_reg_is [] r = false
last_reg_is (x ∷ []) r = x == r
last_reg_is (x ∷ y ∷ rs) r = last_reg_is (y ∷ rs) r

abbrev pub add_register : List ℕ → ℕ → List ℕ
add_register rs r = cond (last_reg_is rs r) rs (rs ++ r ∷ [])

abbrev pub add_registers : List ℕ → List ℕ → List ℕ
add_registers rs [] = rs
add_registers rs (x ∷ xs) = add_registers (add_register rs x) xs
