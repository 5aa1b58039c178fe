-- What signals in a run are worth: part of a register, or the lowest bits of an output.
use Rattle.std.proofs.Common.{◌≡◌, ◌+◌, ◌<◌, ◌≤◌, ◌^◌, ℕ, zero, suc, Bool, List, ◌∷◌, refl, ap, sym, ◌∙◌}
use Rattle.std.proofs.Common.{arith, subst, length, take, drop, get_or}
use Rattle.std.specs.Prelude.{◌==◌, All, false, map}
use Rattle.std.specs.Int.{bit_at}
use Rattle.std.proofs.lemmas.List.{drop_more, length-map}
use Rattle.ij_bits.specs.BitLists.{number_of}
use Rattle.ij_bits.proofs.Hex.{number_is}
use Rattle.net_graph.specs.Signals.{Holds, Outputs, bits_at, signal}
use Rattle.net_graph.specs.declared.net.Sig.{Sig}
use Rattle.net_graph.specs.declared.net.Sig.TheVariants.{Zero}
use Rattle.instruments.specs.Driven.{IsDriven}
use Rattle.instruments.specs.Runs.{output_run, register_run}

-- ---- bits of a register

-- a run of bits that are there doesn't go past the register's end
pub register_run_within : (holds : Holds) (reg pos n : ℕ) → 1 ≤ n
    → All (IsDriven holds) (register_run reg pos n) → pos + n ≤ length (bits_at holds reg)
register_run_within holds reg pos zero some d = absurd (omega (arith, some))
register_run_within holds reg pos (suc zero) some d =
    let first : pos < length (bits_at holds reg) = d 0 Zero (omega arith) in
    omega (arith, first)
register_run_within holds reg pos (suc (suc n)) some d =
    let rest : All (IsDriven holds) (register_run reg (suc pos) (suc n)) =
    λ k e h. d (suc k) e (omega (arith, h)) in
    omega (arith, register_run_within holds reg (suc pos) (suc n) (omega arith) rest)

pub register_run_value : (outs : Outputs) (holds : Holds) (reg pos n : ℕ)
    → pos + n ≤ length (bits_at holds reg)
    → map (signal outs holds) (register_run reg pos n) ≡ take n (drop pos (bits_at holds reg))
register_run_value outs holds reg pos zero h = refl
register_run_value outs holds reg pos (suc n) h =
    let bits : List Bool = bits_at holds reg in
    let next : suc pos ≡ pos + 1 = omega arith in
    ap (λ (xs : List Bool). get_or bits pos false ∷ xs)
    (register_run_value outs holds reg (suc pos) n (omega (arith, h)))
    ∙ ap (λ k. get_or bits pos false ∷ take n (drop k bits)) next
    ∙ sym (ap (take (suc n)) (drop_more bits pos false (omega (arith, h))))

-- ---- bits of an output

pub length-output_run : (inst port pos n : ℕ) → length (output_run inst port pos n) ≡ n
length-output_run inst port pos zero = refl
length-output_run inst port pos (suc n) = ap suc (length-output_run inst port (suc pos) n)

output_run_bit : (outs : Outputs) (holds : Holds) (inst port pos n k : ℕ) → k < n
    → get_or (map (signal outs holds) (output_run inst port pos n)) k false ≡ outs inst port (pos + k)
output_run_bit outs holds inst port pos zero k h = absurd (omega (arith, h))
output_run_bit outs holds inst port pos (suc n) zero h = ap (outs inst port) (omega arith)
output_run_bit outs holds inst port pos (suc n) (suc k) h =
    output_run_bit outs holds inst port (suc pos) n k (omega (arith, h)) ∙ ap (outs inst port) (omega arith)

-- a number with these bits is that of a run
pub output_run_value : (outs : Outputs) (holds : Holds) (inst port n x : ℕ) → x < 2 ^ n
    → ((k : ℕ) → k < n → (bit_at x k == 1) ≡ outs inst port k)
    → x ≡ number_of (map (signal outs holds) (output_run inst port 0 n))
output_run_value outs holds inst port n x small bits =
    number_is (map (signal outs holds) (output_run inst port 0 n)) x n
    (length-map (output_run inst port 0 n) (signal outs holds) ∙ length-output_run inst port 0 n) small
    (λ k h. bits k h ∙ ap (outs inst port) (omega arith) ∙ sym (output_run_bit outs holds inst port 0 n k h))

-- ---- signals that are such a run

pub run_within : (holds : Holds) (sigs : List Sig) (reg pos : ℕ) → sigs ≡ register_run reg pos (length sigs)
    → 1 ≤ length sigs → All (IsDriven holds) sigs → pos + length sigs ≤ length (bits_at holds reg)
run_within holds sigs reg pos is some d =
    register_run_within holds reg pos (length sigs) some (subst (All (IsDriven holds)) is d)

pub run_value : (outs : Outputs) (holds : Holds) (sigs : List Sig) (reg pos : ℕ)
    → sigs ≡ register_run reg pos (length sigs) → 1 ≤ length sigs → All (IsDriven holds) sigs
    → take (length sigs) (drop pos (bits_at holds reg)) ≡ map (signal outs holds) sigs
run_value outs holds sigs reg pos is some d =
    sym (ap (map (signal outs holds)) is
    ∙ register_run_value outs holds reg pos (length sigs) (run_within holds sigs reg pos is some d))
