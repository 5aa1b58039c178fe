-- Steps of the loops over a stage, bit by bit.
use Rattle.std.proofs.Common.{◌≡◌, ℕ, zero, suc, ◌+◌, ◌-◌, ◌<◌, ◌/◌, ◌%◌, ◌==◌, Bool, true, false, List, []}
use Rattle.std.proofs.Common.{◌∷◌, ◌++◌, length, take, drop, refl, sym, ap, ◌∙◌, arith, append_assoc}
use Rattle.std.specs.Prelude.{slice_set, get_or, ◌&&◌}
use Rattle.std.proofs.lemmas.List.{take_more_set, drop_more}
use Rattle.ij_bits.specs.BitLists.{bits_of, bits_eq, same_bit}
use Rattle.net_bench.specs.Instruction.{capture_ir}
use Rattle.ij_bits.proofs.WordBits.{bits_of-none}
use Rattle.ij_bits.proofs.Tests.{one_less}

pub put_step : (w i rest : ℕ) (items : List Bool) → length items ≡ w → i < w
    → take (i + 1) (slice_set items i ((rest % 2) == 1)) ++ bits_of (w - (i + 1)) (rest / 2)
    ≡ take i items ++ bits_of (w - i) rest
put_step w i rest items e h =
    ap (λ x. x ++ bits_of (w - (i + 1)) (rest / 2)) (take_more_set items i ((rest % 2) == 1) (omega arith))
    ∙ append_assoc (take i items) (((rest % 2) == 1) ∷ []) (bits_of (w - (i + 1)) (rest / 2))
    ∙ ap (λ k. take i items ++ bits_of k rest) (sym (one_less w i h))

pub eq_step : (xs : List Bool) (i rest : ℕ) → i < length xs
    → bits_eq (drop i xs) (bits_of (length xs - i) rest) ≡ (same_bit (get_or xs i false)
    ((rest % 2) == 1) && bits_eq (drop (i + 1) xs) (bits_of (length xs - (i + 1)) (rest / 2)))
eq_step xs i rest h =
    ap (λ ys. bits_eq ys (bits_of (length xs - i) rest)) (drop_more xs i false h)
    ∙ ap (λ k. bits_eq (get_or xs i false ∷ drop (i + 1) xs) (bits_of k rest)) (one_less (length xs) i h)

pub captured_ir : (n : ℕ) → bits_of n 1 ≡ capture_ir n
captured_ir zero = refl
captured_ir (suc n) = ap (λ bs. true ∷ bs) (bits_of-none n)
