-- What isn't at fault is small.
use Rattle.std.proofs.Common.{◌≡◌, ℕ, zero, suc, ◌+◌, ◌^◌, ◌<◌, ◌≤◌, Bool, false, nat_le, nat_lt, List, []}
use Rattle.std.proofs.Common.{◌∷◌, length, map, Option, Some, None, All, arith}
use Rattle.std.specs.Prelude.{◌==◌, ◌||◌, IfSome, unwrap_or}
use Rattle.std.specs.List.{list_any}
use Rattle.std.proofs.Math.Pow.{pow_mono}
use Rattle.std.proofs.lemmas.Bool.Decides.{nat_tests}
use Rattle.instruments.specs.Seen.{SeenModel, SeenWord}
use Rattle.instruments.specs.Models.{word_width}
use Rattle.table_lines.specs.Words.{Slice}
use Rattle.table_lines.specs.Said.{SaidLine, Input, Word, Memory, Output, Change, Run, End, SaidSlot, ToWord}
use Rattle.table_lines.specs.Said.{ToEntry, SaidAmount, Number, Copy, Plus, Minus, FromEntry}
use Rattle.table_lines.specs.SeenSaid.{seen_amount, seen_set}
use Rattle.table_lines.specs.declared.said.SaidSet.{SaidSet as RustSet}
use Rattle.table_file.specs.Tables.{is_above, bounds_outside, slot_width, amount_wide, width_fault}
use Rattle.table_file.specs.Tables.{limit_fault, with_line, no_width, word_named, row_said}
use Rattle.table_file.specs.Small.{AreNarrow, IsSmall, IsFewAmount}
use Rattle.table_file.proofs.Narrowing.{few_word, few_memory}
use Rattle.std.proofs.lemmas.Bool.{ltb-false}
use Rattle.std.proofs.lemmas.List.{length_push}
use Rattle.std.proofs.lemmas.List.Elements.{All-push}
use Rattle.ij_bits.proofs.Tests.{or_left_false, or_right_false}

pub less : (m n : ℕ) → nat_le m n ≡ false → n < m
less m n h = grind (arith, nat_tests)

below : (width n : ℕ) → width ≤ 64 → is_above width n ≡ false → n < 2 ^ 64
below width n few h =
    let lt = less (2 ^ width) n h in
    let most : 2 ^ width ≤ 2 ^ 64 = pow_mono few in
    omega (arith, lt, most)

few_slot : (m : SeenModel) (slot : SaidSlot) → AreNarrow m → slot_width m slot ≤ 64
few_slot m (ToWord name) narrow = few_word m (unwrap_or (word_named m name) 0) narrow
few_slot m (ToEntry e) narrow = few_memory m.memory narrow.memory

few_amount : (m : SeenModel) (width : ℕ) (a : SaidAmount) → width ≤ 64
    → amount_wide m width a ≡ false → IsFewAmount a
few_amount m width (Number n) few h = below width n few h
few_amount m width (Copy name) few h = tt
few_amount m width (Plus name n) few h = below width n few (or_right_false _ (is_above width n) h)
few_amount m width (Minus name n) few h = below width n few (or_right_false _ (is_above width n) h)
few_amount m width (FromEntry e) few h = tt

pub few_sets : (m : SeenModel) (xs : List RustSet) → AreNarrow m
    → list_any (λ x. amount_wide m (slot_width m x.slot) x.amount) (map seen_set xs) ≡ false
    → All (λ x. IsFewAmount (seen_amount x.amount)) xs
few_sets m [] narrow h i e lt = absurd (omega (arith, lt))
few_sets m (x ∷ xs) narrow h zero e lt =
    few_amount m (slot_width m (seen_set x).slot) (seen_amount x.amount)
    (few_slot m (seen_set x).slot narrow) (or_left_false _ _ h)
few_sets m (x ∷ xs) narrow h (suc i) e lt =
    few_sets m xs narrow (or_right_false _ _ h) i e (omega (arith, lt))

few_bounds : (width : ℕ) (bounds : Option (ℕ × ℕ)) → width ≤ 64 → bounds_outside width bounds ≡ false
    → IfSome bounds (λ b. (b.0 < 2 ^ 32) × (b.1 < 2 ^ 32))
few_bounds width None few h = tt
few_bounds width (Some b) few h =
    let left = less width b.0 (or_left_false (nat_le width b.0) (nat_lt b.0 b.1) h) in
    let right = ltb-false b.0 b.1 (or_right_false (nat_le width b.0) (nat_lt b.0 b.1) h) in
    (omega (arith, left, few), omega (arith, left, right, few))

pub few_slice : (m : SeenModel) (name : List ℕ) (s : Slice) → AreNarrow m
    → width_fault m (Output name s) ≡ false → IfSome s.bounds (λ b. (b.0 < 2 ^ 32) × (b.1 < 2 ^ 32))
few_slice m name s narrow h = few_bounds (word_width m (unwrap_or (word_named m s.word) 0)) s.bounds
    (few_word m (unwrap_or (word_named m s.word) 0) narrow) h

-- ---- one line more

narrow_width : (width : ℕ) (more : Bool) → (no_width width || more) ≡ false → width ≤ 64
narrow_width width more h =
    ltb-false 64 width (or_right_false (width == 0) (nat_lt 64 width) (or_left_false (no_width width) more h))

pub small_after : (m : SeenModel) (l : SaidLine) → IsSmall m
    → limit_fault m l ≡ false → IsSmall (with_line m l)
small_after m (Input name width) small h =
    record {
      words = small.words;
      ins = omega (
        arith,
        length_push m.ins (record { name = name; width = width }),
        less 16 (length m.ins) (or_right_false (no_width width) (nat_le 16 (length m.ins)) h),
      );
      rows = small.rows;
      narrow = record {
        words = small.narrow.words;
        ins = All-push (λ d. d.width ≤ 64) m.ins
            (record { name = name; width = width }) small.narrow.ins (narrow_width width _ h);
        memory = small.narrow.memory;
      };
    }
small_after m (Word name width s) small h =
    let d : SeenWord = record { name = name; width = width; init = s.init; reset = s.reset } in
    record {
      words = omega (
        arith,
        length_push m.words d,
        less 8 (length m.words) (or_right_false (no_width width) (nat_le 8 (length m.words)) h),
      );
      ins = small.ins;
      rows = small.rows;
      narrow = record {
        words = All-push (λ d. d.width ≤ 64) m.words d small.narrow.words (narrow_width width _ h);
        ins = small.narrow.ins;
        memory = small.narrow.memory;
      };
    }
small_after m (Memory name depth width s) small h =
    record {
      words = small.words;
      ins = small.ins;
      rows = small.rows;
      narrow = record { words = small.narrow.words; ins = small.narrow.ins; memory = narrow_width width _ h };
    }
small_after m (Output name s) small h =
    record {
      words = small.words;
      ins = small.ins;
      rows = small.rows;
      narrow = record { words = small.narrow.words; ins = small.narrow.ins; memory = small.narrow.memory };
    }
small_after m (Change row) small h =
    record {
      words = small.words;
      ins = small.ins;
      rows = omega (arith, length_push m.change (row_said m row), less 64 (length m.change + length m.run) h);
      narrow = record { words = small.narrow.words; ins = small.narrow.ins; memory = small.narrow.memory };
    }
small_after m (Run row) small h =
    record {
      words = small.words;
      ins = small.ins;
      rows = omega (arith, length_push m.run (row_said m row), less 64 (length m.change + length m.run) h);
      narrow = record { words = small.narrow.words; ins = small.narrow.ins; memory = small.narrow.memory };
    }
small_after m End small h = small
