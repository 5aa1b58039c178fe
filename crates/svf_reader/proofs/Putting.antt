-- The bits of digits.
use Rattle.std.proofs.Common.{◌≡◌, ℕ, zero, suc, ◌+◌, ◌*◌, ◌<◌, Bool, false, List, [], ◌∷◌, ◌++◌, length}
use Rattle.std.proofs.Common.{take, replicate, refl, ap, sym, ◌∙◌, arith, append_assoc, append-nil, get_or}
use Rattle.std.proofs.lemmas.List.{take_more, length-append}
use Rattle.ij_bits.specs.BitLists.{bits_of, has_one}
use Rattle.ij_text.specs.Numbers.{hex_value as digit_value}
use Rattle.svf_reader.specs.Values.{hex_bits}

pub hex_bits-append : (xs ys : List ℕ) → hex_bits (xs ++ ys) ≡ hex_bits ys ++ hex_bits xs
hex_bits-append [] ys = sym (append-nil (hex_bits ys))
hex_bits-append (x ∷ xs) ys =
    ap (λ (l : List Bool). l ++ bits_of 4 (digit_value x)) (hex_bits-append xs ys)
    ∙ append_assoc (hex_bits ys) (hex_bits xs) (bits_of 4 (digit_value x))

pub hex_bits-more : (ds : List ℕ) (i : ℕ) → i < length ds
    → hex_bits (take (i + 1) ds) ≡ bits_of 4 (digit_value (get_or ds i 0)) ++ hex_bits (take i ds)
hex_bits-more ds i within =
    ap hex_bits (take_more ds i 0 within) ∙ hex_bits-append (take i ds) (get_or ds i 0 ∷ [])

pub hex_length : (ds : List ℕ) → length (hex_bits ds) ≡ 4 * length ds
hex_length [] = refl
hex_length (d ∷ ds) = omega (arith, length-append (hex_bits ds) (bits_of 4 (digit_value d)), hex_length ds)

pub no_one : (n : ℕ) → has_one (replicate n false) ≡ false
no_one zero = refl
no_one (suc n) = no_one n
