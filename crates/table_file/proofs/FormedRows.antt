-- Rows that aren't at fault are well formed.
use Rattle.std.proofs.Common.{◌≡◌, ◌≢◌, ℕ, zero, suc, ◌+◌, ◌-◌, ◌*◌, ◌/◌, ◌^◌, ◌<◌, ◌≤◌, Bool, true, false}
use Rattle.std.proofs.Common.{not, cond, List, [], ◌∷◌, length, map, Option, Some, None, All, get_or, refl}
use Rattle.std.proofs.Common.{ap, sym, ◌∙◌, subst, arith}
use Rattle.std.specs.Prelude.{◌==◌, ◌||◌, Contains, IfSome, is_some, option_map, unwrap_or, bit_and, min}
use Rattle.std.specs.Prelude.{if◌then◌else◌}
use Rattle.std.specs.Int.{bit_at}
use Rattle.std.specs.List.{list_any}
use Rattle.std.specs.Str.{bytes_eq}
use Rattle.std.proofs.lemmas.Bool.{eqb-true, not-false}
use Rattle.std.proofs.lemmas.List.{length-map}
use Rattle.std.proofs.lemmas.List.Elements.{All-nil, All-cons, All-head, All-tail}
use Rattle.std.proofs.lemmas.List.FromFn.{length-map-range_with_len}
use Rattle.std.proofs.lemmas.Nat.Bits.{bit_at_lowest, bit_at-suc, bit_at_and, same_from_bits}
use Rattle.ij_bits.specs.BitLists.{number_of, bits_of}
use Rattle.ij_bits.specs.Different.{AreDifferent}
use Rattle.ij_bits.proofs.Hex.{number_of-lt}
use Rattle.ij_text.specs.Numbers.{Written, InDecimal, InBits, bits_in}
use Rattle.table_lines.specs.Words.{is_one, value_in, care_in}
use Rattle.instruments.specs.declared.model.Operand.TheVariants.{Old}
use Rattle.instruments.specs.Seen.{SeenMemory, SeenModel}
use Rattle.instruments.specs.After.{memory_width, width_of}
use Rattle.instruments.specs.Models.{memory_names, IsOperand, IsPresent, IsCond, IsSource, IsIndex, IsAmount}
use Rattle.instruments.specs.Models.{IsSlot, IsNoCopy, IsSet, IsRow, IsRunRow, target}
use Rattle.table_lines.specs.Said.{SaidCond, SaidEntry, SaidSlot, ToWord, ToEntry, SaidAmount, Number, Copy}
use Rattle.table_lines.specs.Said.{Plus, Minus, FromEntry, SaidSet, SaidRow}
use Rattle.table_file.specs.Tables.{stands_in, has_twice, word_named, input_named, is_memory, word_or_input}
use Rattle.table_file.specs.Tables.{operand_named, cond_operand, known, operand_of, name_width, cond_width}
use Rattle.table_file.specs.Tables.{cond_said, slot_said, amount_said, set_said, row_said, no_operand}
use Rattle.table_file.specs.Tables.{no_entry, no_slot, no_amount, target as said_target, row_name_fault}
use Rattle.table_file.specs.Tables.{is_above}
use Rattle.table_file.specs.Tables.{slot_width, amount_wide, row_width_fault}
use Rattle.table_file.proofs.Naming.{IsNumber, number_of_name, there}
use Rattle.table_file.proofs.SaidRows.{IsSaidSet, IsSaidRow}
use Rattle.table_file.proofs.Within.{less}
use Rattle.ij_text.proofs.EqualTexts.{bytes_are, bytes_same}
use Rattle.ij_bits.proofs.Tests.{or_left_false, or_right_false}

-- ---- the number of a condition

long : (width : ℕ) (w : Written) → length (bits_in width w) ≤ width
long width (InDecimal n) =
    omega (arith, length-map (bits_of width n) (λ (bit : Bool). Some bit), bits_long width n)
  where
    bits_long : (width n : ℕ) → length (bits_of width n) ≡ width
    bits_long zero n = refl
    bits_long (suc width) n = ap suc (bits_long width (n / 2))
long width (InBits bits) = omega (arith, length-map-range_with_len (λ k. get_or bits k (Some false)) 0 width)

care_fits : (width : ℕ) (w : Written) → care_in width w < 2 ^ width
unfolding care_in
care_fits width w = number_of-lt (map is_some (bits_in width w)) width
    (omega (arith, long width w, length-map (bits_in width w) is_some))

-- a bit that is one counts
bit_less : (bits : List (Option Bool)) (i : ℕ)
    → bit_at (number_of (map is_one bits)) i ≤ bit_at (number_of (map is_some bits)) i
bit_less [] i = omega arith
bit_less (b ∷ bs) zero =
    let ones = number_of (map is_one bs) in
    let cares = number_of (map is_some bs) in
    lowest b ones cares
  where
    lowest : (b : Option Bool) (m n : ℕ)
        → bit_at ((if is_one b then 1 else 0) + 2 * m) 0 ≤ bit_at ((if is_some b then 1 else 0) + 2 * n) 0
    lowest None m n = omega (arith, bit_at_lowest (0 + 2 * m), bit_at_lowest (0 + 2 * n))
    lowest (Some true) m n = omega (arith, bit_at_lowest (1 + 2 * m), bit_at_lowest (1 + 2 * n))
    lowest (Some false) m n = omega (arith, bit_at_lowest (0 + 2 * m), bit_at_lowest (1 + 2 * n))
bit_less (b ∷ bs) (suc i) =
    let ones = number_of (map is_one bs) in
    let cares = number_of (map is_some bs) in
    omega (arith, higher (is_one b) ones i, higher (is_some b) cares i, bit_less bs i)
  where
    higher : (b : Bool) (n i : ℕ) → bit_at ((if b then 1 else 0) + 2 * n) (suc i) ≡ bit_at n i
    higher true n i =
        let half : (1 + 2 * n) / 2 ≡ n = omega arith in
        bit_at-suc (1 + 2 * n) i ∙ ap (λ k. bit_at k i) half
    higher false n i =
        let half : (0 + 2 * n) / 2 ≡ n = omega arith in
        bit_at-suc (0 + 2 * n) i ∙ ap (λ k. bit_at k i) half

least : (a b : ℕ) → a ≤ b → min a b ≡ a
least a b h = omega (arith, h)

value_counts : (width : ℕ) (w : Written) → bit_and (value_in width w) (care_in width w) ≡ value_in width w
unfolding value_in care_in
value_counts width w =
    let bits = bits_in width w in
    let value = number_of (map is_one bits) in
    let care = number_of (map is_some bits) in
    same_from_bits (bit_and value care) value
    (λ i. bit_at_and value care i ∙ least (bit_at value i) (bit_at care i) (bit_less bits i))

-- ---- operands

module _ (m : SeenModel) where
  count_of_names : length (map (λ d. d.name) m.words) ≡ length m.words
  count_of_names = length-map m.words (λ d. d.name)

  input_count : length (map (λ d. d.name) m.ins) ≡ length m.ins
  input_count = length-map m.ins (λ d. d.name)

  word_there : (name : List ℕ) → is_some (word_named m name) ≡ true
      → unwrap_or (word_named m name) 0 < length m.words
  word_there name h = omega (arith, (there name (map (λ d. d.name) m.words) h).within, count_of_names)

  word_within : (name : List ℕ) → IfSome (word_named m name) (λ k. k < length m.words)
  word_within name = one (word_named m name) (number_of_name name (map (λ d. d.name) m.words))
    where
      one : (o : Option ℕ) → IfSome o (IsNumber name (map (λ d. d.name) m.words))
          → IfSome o (λ k. k < length m.words)
      one None h = tt
      one (Some k) h = omega (arith, h.within, count_of_names)

  input_within : (name : List ℕ) → IfSome (input_named m name) (λ k. k < length m.ins)
  input_within name = one (input_named m name) (number_of_name name (map (λ d. d.name) m.ins))
    where
      one : (o : Option ℕ) → IfSome o (IsNumber name (map (λ d. d.name) m.ins))
          → IfSome o (λ k. k < length m.ins)
      one None h = tt
      one (Some k) h = omega (arith, h.within, input_count)

  one_operand : (w i : Option ℕ) → IfSome w (λ k. k < length m.words) → IfSome i (λ k. k < length m.ins)
      → is_some (word_or_input w i) ≡ true → IsOperand m (known (word_or_input w i))
  one_operand (Some k) i hw hi h = hw
  one_operand None (Some k) hw hi h = hi
  one_operand None None hw hi h = absurd cc

  operand_there : (name : List ℕ) → is_some (operand_named m name) ≡ true → IsOperand m (operand_of m name)
  operand_there name h =
      one_operand (word_named m name) (input_named m name) (word_within name) (input_within name) h

  present : (w i : Option ℕ) → IsPresent (known (word_or_input w i))
  present (Some k) i = tt
  present None (Some k) = tt
  present None None = tt

  operand_present : (name : List ℕ) → IsPresent (operand_of m name)
  operand_present name = present (word_named m name) (input_named m name)

  -- ---- conditions

  cond_there : (old : Bool) (name : List ℕ)
      → is_some (cond old (option_map Old (input_named m name)) (operand_named m name)) ≡ true
      → IsOperand m (known (cond old (option_map Old (input_named m name)) (operand_named m name)))
  cond_there true name h = one (input_named m name) (input_within name) h
    where
      one : (i : Option ℕ) → IfSome i (λ k. k < length m.ins) → is_some (option_map Old i) ≡ true
          → IsOperand m (known (option_map Old i))
      one None hi h = absurd cc
      one (Some k) hi h = hi
  cond_there false name h = operand_there name h

  one_cond : (c : SaidCond) → not (is_some (cond_operand m c)) ≡ false → IsCond m (cond_said m c)
  one_cond c h = record {
    of = cond_there c.old c.name (not-false (is_some (cond_operand m c)) h);
    care = care_fits (cond_width m c) c.number;
    value = value_counts (cond_width m c) c.number;
  }

  all_conds : (cs : List SaidCond) → list_any (λ c. not (is_some (cond_operand m c))) cs ≡ false
      → All (IsCond m) (map (cond_said m) cs)
  all_conds [] h = All-nil (IsCond m)
  all_conds (c ∷ cs) h =
      let here = or_left_false (not (is_some (cond_operand m c)))
      (list_any (λ c. not (is_some (cond_operand m c))) cs) h in
      let rest = or_right_false (not (is_some (cond_operand m c)))
      (list_any (λ c. not (is_some (cond_operand m c))) cs) h in
      All-cons (IsCond m) (cond_said m c) (map (cond_said m) cs) (one_cond c here) (all_conds cs rest)

  cond_present : (old : Bool) (name : List ℕ) → old ≡ false
      → IsPresent (known (cond old (option_map Old (input_named m name)) (operand_named m name)))
  cond_present true name h = absurd cc
  cond_present false name h = operand_present name

  all_present : (cs : List SaidCond) → All (λ c. c.old ≡ false) cs
      → All (λ c. IsPresent c.of) (map (cond_said m) cs)
  all_present [] h = All-nil (λ c. IsPresent c.of)
  all_present (c ∷ cs) h =
      All-cons (λ c. IsPresent c.of) (cond_said m c) (map (cond_said m) cs)
      (cond_present c.old c.name (All-head (λ c. c.old ≡ false) c cs h))
      (all_present cs (All-tail (λ c. c.old ≡ false) c cs h))

  -- ---- assignments

  memory_there : (d : Option SeenMemory) (name : List ℕ) → stands_in name (memory_names d) ≡ true → d ≢ None
  memory_there None name h = absurd cc
  memory_there (Some d) name h = λ e. absurd cc

  index : (e : SaidEntry) → no_entry m e ≡ false → IsIndex m (operand_of m e.index)
  index e h = record {
    there = operand_there e.index (not-false (is_some (operand_named m e.index))
        (or_right_false (not (is_memory m e.memory)) (no_operand m e.index) h));
    present = operand_present e.index;
    memory = memory_there m.memory e.memory (not-false (is_memory m e.memory)
        (or_left_false (not (is_memory m e.memory)) (no_operand m e.index) h));
  }

  one_slot : (s : SaidSlot) → no_slot m s ≡ false → IsSlot m (slot_said m s)
  one_slot (ToWord name) h = word_there name (not-false (is_some (word_named m name)) h)
  one_slot (ToEntry e) h = index e h

  same_width : (s : SaidSlot) → slot_width m s ≡ width_of m (slot_said m s)
  same_width (ToWord name) = refl
  same_width (ToEntry e) = refl

  source : (width : ℕ) (name : List ℕ) → no_operand m name ≡ false
      → not (name_width m name == width) ≡ false → IsSource m width (operand_of m name)
  source width name h w = record {
    there = operand_there name (not-false (is_some (operand_named m name)) h);
    present = operand_present name;
    as_wide = eqb-true (name_width m name) width (not-false (name_width m name == width) w);
  }

  one_amount : (width : ℕ) (a : SaidAmount) → no_amount m a ≡ false
      → amount_wide m width a ≡ false → IsAmount m width (amount_said m a)
  one_amount width (Number n) h w = less (2 ^ width) n w
  one_amount width (Copy name) h w = source width name h w
  one_amount width (Plus name n) h w = (
    source width name h (or_left_false (not (name_width m name == width)) (is_above width n) w),
    less (2 ^ width) n (or_right_false (not (name_width m name == width)) (is_above width n) w),
  )
  one_amount width (Minus name n) h w = (
    source width name h (or_left_false (not (name_width m name == width)) (is_above width n) w),
    less (2 ^ width) n (or_right_false (not (name_width m name == width)) (is_above width n) w),
  )
  one_amount width (FromEntry e) h w =
      (index e h, eqb-true (memory_width m.memory) width (not-false (memory_width m.memory == width) w))

  no_copy : (s : SaidSlot) (a : SaidAmount) → IsSaidSet (record { slot = s; amount = a })
      → IsNoCopy (slot_said m s) (amount_said m a)
  no_copy (ToWord name) (Number n) h = tt
  no_copy (ToWord name) (Copy other) h = tt
  no_copy (ToWord name) (Plus other n) h = tt
  no_copy (ToWord name) (Minus other n) h = tt
  no_copy (ToWord name) (FromEntry x) h = tt
  no_copy (ToEntry e) (Number n) h = tt
  no_copy (ToEntry e) (Copy other) h = tt
  no_copy (ToEntry e) (Plus other n) h = tt
  no_copy (ToEntry e) (Minus other n) h = tt
  no_copy (ToEntry e) (FromEntry x) h = absurd h

  one_set : (x : SaidSet) → (no_slot m x.slot || no_amount m x.amount) ≡ false
      → amount_wide m (slot_width m x.slot) x.amount ≡ false → IsSaidSet x → IsSet m (set_said m x)
  one_set x h w said = record {
    slot = one_slot x.slot (or_left_false (no_slot m x.slot) (no_amount m x.amount) h);
    amount = subst (λ width. IsAmount m width (amount_said m x.amount)) (same_width x.slot)
        (one_amount (slot_width m x.slot) x.amount
        (or_right_false (no_slot m x.slot) (no_amount m x.amount) h) w);
    no_copy = no_copy x.slot x.amount said;
  }

  abbrev Unnamed : SaidSet → Bool
  Unnamed x = no_slot m x.slot || no_amount m x.amount

  abbrev Unwide : SaidSet → Bool
  Unwide x = amount_wide m (slot_width m x.slot) x.amount

  all_sets : (xs : List SaidSet) → list_any Unnamed xs ≡ false → list_any Unwide xs ≡ false
      → All IsSaidSet xs → All (IsSet m) (map (set_said m) xs)
  all_sets [] h w said = All-nil (IsSet m)
  all_sets (x ∷ xs) h w said =
      All-cons (IsSet m) (set_said m x) (map (set_said m) xs)
      (one_set x (or_left_false (Unnamed x) (list_any Unnamed xs) h)
      (or_left_false (Unwide x) (list_any Unwide xs) w) (All-head IsSaidSet x xs said))
      (all_sets xs (or_right_false (Unnamed x) (list_any Unnamed xs) h)
      (or_right_false (Unwide x) (list_any Unwide xs) w) (All-tail IsSaidSet x xs said))

  -- ---- nothing is set twice

  only_name : (d : Option SeenMemory) (a b : List ℕ) → stands_in a (memory_names d) ≡ true
      → stands_in b (memory_names d) ≡ true → a ≡ b
  only_name None a b ha hb = absurd cc
  only_name (Some d) a b ha hb = bytes_are a d.name (or_not (bytes_eq a d.name) ha)
      ∙ sym (bytes_are b d.name (or_not (bytes_eq b d.name) hb))
    where
      or_not : (x : Bool) → (x || false) ≡ true → x ≡ true
      or_not true h = refl
      or_not false h = h

  some_same : (a b : ℕ) → Some a ≡ Some b → a ≡ b
  some_same a b e = ap (λ o. unwrap_or o 0) e

  same_target : (s t : SaidSlot) (a b : SaidAmount) → no_slot m s ≡ false → no_slot m t ≡ false
      → target (set_said m (record { slot = s; amount = a }))
      ≡ target (set_said m (record { slot = t; amount = b })) → said_target s ≡ said_target t
  same_target (ToWord x) (ToWord y) a b hs ht e =
      let names = map (λ d. d.name) m.words in
      let k = unwrap_or (word_named m x) 0 in
      let j = unwrap_or (word_named m y) 0 in
      sym (there x names (not-false (is_some (word_named m x)) hs)).at ∙ ap (λ i. get_or names i [])
      (some_same k j e) ∙ (there y names (not-false (is_some (word_named m y)) ht)).at
  same_target (ToWord x) (ToEntry y) a b hs ht e = absurd cc
  same_target (ToEntry x) (ToWord y) a b hs ht e = absurd cc
  same_target (ToEntry x) (ToEntry y) a b hs ht e =
      only_name m.memory x.memory y.memory (not-false (is_memory m x.memory)
      (or_left_false (not (is_memory m x.memory)) (no_operand m x.index) hs))
      (not-false (is_memory m y.memory)
      (or_left_false (not (is_memory m y.memory)) (no_operand m y.index) ht))

  impossible : (b : Bool) → b ≡ true → b ≡ false → ⊥
  impossible true h k = absurd cc
  impossible false h k = absurd cc

  apart : (x : SaidSet) (ys : List SaidSet) → no_slot m x.slot ≡ false → list_any Unnamed ys ≡ false
      → stands_in (said_target x.slot) (map (λ y. said_target y.slot) ys) ≡ false
      → Contains (map target (map (set_said m) ys)) (target (set_said m x)) → ⊥
  apart x [] hx hys out (k, lt, e) = absurd (omega (arith, lt))
  apart x (y ∷ ys) hx hys out (zero, lt, e) =
      let hy = or_left_false (no_slot m y.slot) (no_amount m y.amount)
      (or_left_false (Unnamed y) (list_any Unnamed ys) hys) in
      impossible (bytes_eq (said_target x.slot) (said_target y.slot)) (bytes_same (said_target x.slot)
      (said_target y.slot) (same_target x.slot y.slot x.amount y.amount hx hy (sym e)))
      (or_left_false (bytes_eq (said_target x.slot) (said_target y.slot))
      (stands_in (said_target x.slot) (map (λ y. said_target y.slot) ys)) out)
  apart x (y ∷ ys) hx hys out (suc k, lt, e) =
      apart x ys hx (or_right_false (Unnamed y) (list_any Unnamed ys) hys)
      (or_right_false (bytes_eq (said_target x.slot) (said_target y.slot))
      (stands_in (said_target x.slot) (map (λ y. said_target y.slot) ys)) out) (k, omega (arith, lt), e)

  once : (xs : List SaidSet) → list_any Unnamed xs ≡ false
      → has_twice (map (λ x. said_target x.slot) xs) ≡ false → AreDifferent (map target (map (set_said m) xs))
  once [] h twice = tt
  once (x ∷ xs) h twice =
      let names = map (λ y. said_target y.slot) xs in
      let hx = or_left_false (no_slot m x.slot) (no_amount m x.amount)
      (or_left_false (Unnamed x) (list_any Unnamed xs) h) in
      let rest = or_right_false (Unnamed x) (list_any Unnamed xs) h in (
        apart x xs hx rest (or_left_false (stands_in (said_target x.slot) names) (has_twice names) twice),
        once xs rest (or_right_false (stands_in (said_target x.slot) names) (has_twice names) twice),
      )

  -- ---- rows

  some_set : (xs : List SaidSet) → 1 ≤ length xs → map (set_said m) xs ≢ []
  some_set [] h = absurd (omega (arith, h))
  some_set (x ∷ xs) h = λ e. absurd cc

  pub formed_row : (change : Bool) (r : SaidRow) → IsSaidRow change r → row_name_fault m r ≡ false
      → row_width_fault m r ≡ false → IsRow m (row_said m r)
  formed_row change r said h w =
      let no_conds = list_any (λ c. not (is_some (cond_operand m c))) r.conds in
      let unnamed = list_any Unnamed r.sets in
      let twice = has_twice (map (λ x. said_target x.slot) r.sets) in
      let more = or_right_false no_conds (unnamed || twice) h in
      let named = or_left_false unnamed twice more in
      record {
        conds = all_conds r.conds (or_left_false no_conds (unnamed || twice) h);
        sets = all_sets r.sets named (or_right_false _ (list_any Unwide r.sets) w) said.sets;
        does = some_set r.sets said.does;
        once = once r.sets named (or_right_false unnamed twice more);
      }

  pub formed_run : (r : SaidRow) → IsSaidRow false r → IsRunRow (row_said m r)
  formed_run r said = all_present r.conds (said.present refl)
