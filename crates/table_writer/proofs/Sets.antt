-- Assignments, read again.
use Rattle.std.proofs.Common.{◌≡◌, ◌≢◌, ℕ, ◌^◌, ◌<◌, ◌≤◌, Bool, true, false, not, cond, List, [], ◌∷◌, ◌++◌}
use Rattle.std.proofs.Common.{Option, Some, None, codes, refl, ap, sym, ◌∙◌, subst, arith, rules}
use Rattle.std.specs.Prelude.{◌==◌, ◌&&◌, ◌||◌, IfSome, is_some, unwrap_or, decimal}
use Rattle.std.specs.List.{list_all}
use Rattle.std.specs.Char.{is_ascii_digit}
use Rattle.std.proofs.lemmas.Bool.Decides.{nat_tests}
use Rattle.std.proofs.lemmas.List.Elements.{All-weaker}
use Rattle.ij_text.specs.Numbers.{InDecimal, is_digit, is_rest_of_digits, value_of, decimal_from, said}
use Rattle.ij_text.specs.Numbers.{number_of_text}
use Rattle.ij_text.specs.Words.{begins_name, in_name, is_name}
use Rattle.ij_text.specs.Options.{or_else}
use Rattle.table_lines.specs.Words.{unless_too_wide, without_x, number as number_read, plain as plain_read}
use Rattle.table_lines.specs.Words.{decimal as decimal_read}
use Rattle.instruments.specs.declared.model.Operand.{Operand}
use Rattle.instruments.specs.declared.model.Operand.TheVariants.{Word, Input, Old}
use Rattle.instruments.specs.declared.model.Slot.{Slot}
use Rattle.instruments.specs.declared.model.Slot.TheVariants.{Word as TheWord, Entry as TheEntry}
use Rattle.instruments.specs.declared.model.Amount.{Amount}
use Rattle.instruments.specs.declared.model.Amount.TheVariants.{Number as ANumber, Copy as ACopy}
use Rattle.instruments.specs.declared.model.Amount.TheVariants.{Plus as APlus, Minus as AMinus}
use Rattle.instruments.specs.declared.model.Amount.TheVariants.{Entry as AnEntry}
use Rattle.instruments.specs.declared.model.Set.{Set}
use Rattle.instruments.specs.Seen.{SeenWord, SeenMemory, SeenModel}
use Rattle.instruments.specs.After.{width_of, memory_width}
use Rattle.instruments.specs.Models.{IsWidth, IsWord, IsMemory, IsOperand, IsPresent, IsSource, IsIndex}
use Rattle.instruments.specs.Models.{IsAmount, IsSlot, IsNoCopy, IsSet, word_width, operand_width}
use Rattle.instruments.specs.Models.{memory_names}
use Rattle.table_lines.specs.Said.{Words, is, if_there, SaidEntry, SaidSlot, ToWord, ToEntry, SaidAmount}
use Rattle.table_lines.specs.Said.{Number, Copy, Plus, Minus, FromEntry, SaidSet, entry_of, entry_in}
use Rattle.table_lines.specs.Said.{entry_slot, slot, number_amount, entry_amount, amount, plus_minus, set_of}
use Rattle.table_lines.specs.Said.{set_words}
use Rattle.table_file.specs.Tables.{stands_in, is_memory, known, name_width, slot_said, amount_said, set_said}
use Rattle.table_file.specs.Tables.{no_operand, no_entry, no_slot, no_amount, is_above, slot_width}
use Rattle.table_file.specs.Tables.{amount_wide}
use Rattle.bench_file.specs.Written.{word_name, memory_name, operand_text, entry_text, slot_text, amount_text}
use Rattle.bench_file.specs.Written.{set_text}
use Rattle.table_writer.specs.Pieces.{operand_name}
use Rattle.table_writer.proofs.Lexed.{first_true, is_letter, Reads, Parts, join, part, one_word}
use Rattle.table_writer.proofs.Named.{not_byte, last_of, digit_no_start, name_letters, name_some}
use Rattle.table_writer.proofs.Named.{decimal_letters, decimal_some, decimal_no_name, plain_decimal}
use Rattle.table_writer.proofs.Named.{decimal_decimal}
use Rattle.table_writer.proofs.Joined.{in_brackets, entry_again, brackets_no_name, brackets_some}
use Rattle.table_writer.proofs.Joined.{brackets_letters}
use Rattle.table_writer.proofs.Conds.{IsNamed, at_index, word_good, memory_good, operand_good, word_found}
use Rattle.table_writer.proofs.Conds.{operand_found, small_number, equals, no_comma, letters_no_comma}
use Rattle.std.proofs.lemmas.Bool.{lt-leb, and_from, or_from}
use Rattle.ij_text.proofs.EqualTexts.{bytes_same}
use Rattle.ij_bits.proofs.Tests.{not_both}

-- ---- a text that begins as a name isn't a number

no_digits : (radix : _) (b : ℕ) (bs : List ℕ) → is_digit radix b ≡ false → said radix (b ∷ bs) ≡ None
no_digits radix b bs h = ap (λ k. cond (k && is_rest_of_digits radix true bs) (Some (value_of radix (b ∷
    bs))) None) h

begins_no_digit : (b : ℕ) → begins_name b ≡ true → is_ascii_digit b ≡ false
begins_no_digit b h = one (is_ascii_digit b) refl
  where
    one : (k : Bool) → is_ascii_digit b ≡ k → k ≡ false
    one true is = absurd (not_both (begins_name b) h (digit_no_start b is))
    one false is = refl

begins_no_number : (b : ℕ) (bs : List ℕ) → begins_name b ≡ true → number_of_text (b ∷ bs) ≡ None
begins_no_number b [] h =
    ap (λ k. cond (k && true) (Some (InDecimal (decimal_from 0 (b ∷ [])))) None) (begins_no_digit b h)
begins_no_number b (c ∷ cs) h =
    let digit : is_ascii_digit b ≡ false = begins_no_digit b h in
    let zero : (b == 48) ≡ false = not_byte begins_name 48 refl b h in
    last_of ((b == 48) && (c == 98)) ((b == 48) && (c == 120)) _ _ _ None (ap (λ k. k && (c == 98)) zero)
    (ap (λ k. k && (c == 120)) zero) (search (no_digits, rules))

plain_none : (b : ℕ) (bs : List ℕ) → begins_name b ≡ true → plain_read (b ∷ bs) ≡ None
unfolding plain_read number_read
plain_none b bs h = ap (λ o. without_x (unless_too_wide o)) (begins_no_number b bs h)

brackets_no_plain : (name inside : List ℕ) → is_name name ≡ true → plain_read (in_brackets name inside) ≡ None
brackets_no_plain [] inside good = absurd cc
brackets_no_plain (b ∷ bs) inside good = plain_none b (bs ++ (codes "[" ++ (inside ++ codes "]")))
    (first_true (begins_name b) (list_all in_name bs) good)

-- ---- single words

pub record IsOne (text : List ℕ) : Type 0 where
  pub letters : list_all is_letter text ≡ true
  pub some : text ≢ []

pub one_name : (w : List ℕ) → is_name w ≡ true → IsOne w
one_name w good = record { letters = name_letters w good; some = name_some w good }

one_decimal : (n : ℕ) → n < 2 ^ 64 → IsOne (decimal n)
one_decimal n small = record { letters = decimal_letters n small; some = decimal_some n small }

pub reads_one : (w : List ℕ) → IsOne w → Reads w (w ∷ [])
reads_one w h = one_word w h.some h.letters

clean_one : (w : List ℕ) → IsOne w → no_comma w ≡ true
clean_one w h = letters_no_comma w h.letters

clean_last : (w : List ℕ) → IsOne w → list_all no_comma (w ∷ []) ≡ true
clean_last w h = and_from (no_comma w) true (clean_one w h) refl

-- ---- operands and entries

present_text : (m : SeenModel) (o : Operand) → IsPresent o → operand_text m o ≡ operand_name m o
present_text m (Word k) h = refl
present_text m (Input k) h = refl
present_text m (Old k) h = absurd h

source_one : (m : SeenModel) → IsNamed m → (o : Operand) → IsOperand m o
    → IsPresent o → IsOne (operand_text m o)
source_one m h o there present =
    subst IsOne (sym (present_text m o present)) (one_name (operand_name m o) (operand_good m h.good o there))

source_good : (m : SeenModel) → IsNamed m → (o : Operand) → IsOperand m o
    → IsPresent o → is_name (operand_text m o) ≡ true
source_good m h o there present = ap is_name (present_text m o present) ∙ operand_good m h.good o there

entry_is : (m : SeenModel) (o : Operand) → IsPresent o
    → entry_text m o ≡ in_brackets (memory_name m.memory) (operand_name m o)
entry_is m o present = ap (λ t. in_brackets (memory_name m.memory) t) (present_text m o present)

abbrev pub entry_back : SeenModel → Operand → SaidEntry
entry_back m o = record { memory = memory_name m.memory; index = operand_name m o }

entry_one : (m : SeenModel) → IsNamed m → (o : Operand) → IsIndex m o → IsOne (entry_text m o)
entry_one m h o i =
    let memory = memory_good m.memory h.good.memory i.memory in
    let index = operand_good m h.good o i.there in
    subst IsOne (sym (entry_is m o i.present))
    (record {
      letters = brackets_letters (memory_name m.memory) (operand_name m o) memory (name_letters
          (operand_name m o) index);
      some = brackets_some (memory_name m.memory) (operand_name m o) memory;
    })

entry_found : (m : SeenModel) → IsNamed m → (o : Operand) → IsIndex m o
    → entry_in true (entry_text m o) ≡ Some (entry_back m o)
entry_found m h o i =
    ap (entry_in true) (entry_is m o i.present)
    ∙ ap (λ e. if_there e (λ e. Some (entry_of e))) (entry_again (memory_name m.memory) (operand_name m o)
    (memory_good m.memory h.good.memory i.memory) (operand_good m h.good o i.there))

entry_no_name : (m : SeenModel) (o : Operand) → IsPresent o → is_name (entry_text m o) ≡ false
entry_no_name m o present = ap is_name (entry_is m o present)
    ∙ brackets_no_name (memory_name m.memory) (operand_name m o)

entry_no_plain : (m : SeenModel) → IsNamed m → (o : Operand)
    → IsIndex m o → plain_read (entry_text m o) ≡ None
entry_no_plain m h o i = ap plain_read (entry_is m o i.present) ∙ brackets_no_plain (memory_name m.memory)
    (operand_name m o) (memory_good m.memory h.good.memory i.memory)

-- ---- what is set

abbrev pub slot_back : SeenModel → Slot → SaidSlot
slot_back m (TheWord k) = ToWord (word_name m k)
slot_back m (TheEntry o) = ToEntry (entry_back m o)

slot_one : (m : SeenModel) → IsNamed m → (s : Slot) → IsSlot m s → IsOne (slot_text m s)
slot_one m h (TheWord k) there = one_name (word_name m k) (word_good m h.good k there)
slot_one m h (TheEntry o) i = entry_one m h o i

slot_again : (m : SeenModel) → IsNamed m → (s : Slot) → IsSlot m s
    → slot true (slot_text m s) ≡ Some (slot_back m s)
slot_again m h (TheWord k) there = ap (λ b. cond b (Some (ToWord (word_name m k)))
    (entry_slot (entry_in true (word_name m k)))) (word_good m h.good k there)
slot_again m h (TheEntry o) i =
    ap (λ b. cond b (Some (ToWord (entry_text m o))) (entry_slot (entry_in true (entry_text m o))))
    (entry_no_name m o i.present) ∙ ap entry_slot (entry_found m h o i)

memory_few : (o : Option SeenMemory) → IfSome o IsMemory → o ≢ None → memory_width o ≤ 64
memory_few None h some = absurd (some refl)
memory_few (Some d) h some = h.width.few

slot_few : (m : SeenModel) → IsNamed m → (s : Slot) → IsSlot m s → width_of m s ≤ 64
slot_few m h (TheWord k) there =
    let width : IsWidth (word_width m k) = at_index IsWidth (λ (d : SeenWord). d.width) m.words k 0
    (All-weaker IsWord (λ d. IsWidth d.width) (λ d w. w.width) m.words h.words) there in
    width.few
slot_few m h (TheEntry o) i = memory_few m.memory h.memory i.memory

-- ---- amounts

abbrev pub amount_words : SeenModel → Amount → Words
amount_words m (ANumber n) = decimal n ∷ []
amount_words m (ACopy o) = operand_text m o ∷ []
amount_words m (APlus o n) = operand_text m o ∷ codes "+" ∷ decimal n ∷ []
amount_words m (AMinus o n) = operand_text m o ∷ codes "-" ∷ decimal n ∷ []
amount_words m (AnEntry o) = entry_text m o ∷ []

abbrev pub amount_back : SeenModel → Amount → SaidAmount
amount_back m (ANumber n) = Number n
amount_back m (ACopy o) = Copy (operand_name m o)
amount_back m (APlus o n) = Plus (operand_name m o) n
amount_back m (AMinus o n) = Minus (operand_name m o) n
amount_back m (AnEntry o) = FromEntry (entry_back m o)

plus_sign : Parts (codes " + ") (codes "+" ∷ [])
plus_sign = record { all = record { plain = refl; reads = λ rest. refl }; apart = λ rest. refl }

minus_sign : Parts (codes " - ") (codes "-" ∷ [])
minus_sign = record { all = record { plain = refl; reads = λ rest. refl }; apart = λ rest. refl }

amount_reads : (m : SeenModel) → IsNamed m → (w : ℕ) → w ≤ 64 → (a : Amount) → IsAmount m w a
    → Reads (amount_text m a) (amount_words m a)
amount_reads m h w few (ANumber n) small = reads_one (decimal n) (one_decimal n (small_number w n few small))
amount_reads m h w few (ACopy o) s = reads_one (operand_text m o) (source_one m h o s.there s.present)
amount_reads m h w few (APlus o n) (s, small) =
    join (operand_text m o) (codes " + " ++ decimal n) (operand_text m o ∷ []) (codes "+" ∷ decimal n ∷ [])
    (reads_one (operand_text m o) (source_one m h o s.there s.present))
    (part (codes " + ") (decimal n) (codes "+" ∷ []) (decimal n ∷ []) plus_sign
    (reads_one (decimal n) (one_decimal n (small_number w n few small))))
amount_reads m h w few (AMinus o n) (s, small) =
    join (operand_text m o) (codes " - " ++ decimal n) (operand_text m o ∷ []) (codes "-" ∷ decimal n ∷ [])
    (reads_one (operand_text m o) (source_one m h o s.there s.present))
    (part (codes " - ") (decimal n) (codes "-" ∷ []) (decimal n ∷ []) minus_sign
    (reads_one (decimal n) (one_decimal n (small_number w n few small))))
amount_reads m h w few (AnEntry o) (i, wide) = reads_one (entry_text m o) (entry_one m h o i)

amount_clean : (m : SeenModel) → IsNamed m → (w : ℕ) → w ≤ 64 → (a : Amount) → IsAmount m w a
    → list_all no_comma (amount_words m a) ≡ true
amount_clean m h w few (ANumber n) small = clean_last (decimal n) (one_decimal n (small_number w n few small))
amount_clean m h w few (ACopy o) s = clean_last (operand_text m o) (source_one m h o s.there s.present)
amount_clean m h w few (APlus o n) (s, small) =
    and_from (no_comma (operand_text m o)) (list_all no_comma (decimal n ∷ []))
    (clean_one (operand_text m o) (source_one m h o s.there s.present))
    (clean_last (decimal n) (one_decimal n (small_number w n few small)))
amount_clean m h w few (AMinus o n) (s, small) =
    and_from (no_comma (operand_text m o)) (list_all no_comma (decimal n ∷ []))
    (clean_one (operand_text m o) (source_one m h o s.there s.present))
    (clean_last (decimal n) (one_decimal n (small_number w n few small)))
amount_clean m h w few (AnEntry o) (i, wide) = clean_last (entry_text m o) (entry_one m h o i)

-- ---- one assignment

abbrev pub set_words_of : SeenModel → Set → Words
set_words_of m x = slot_text m x.slot ∷ codes "=" ∷ amount_words m x.amount

abbrev pub the_set : SaidSlot → SaidAmount → SaidSet
the_set s a = record { slot = s; amount = a }

abbrev pub set_back : SeenModel → Set → SaidSet
set_back m x = the_set (slot_back m x.slot) (amount_back m x.amount)

one_amount : (a b : List ℕ) (s : SaidSlot) (n : SaidAmount) → slot true a ≡ Some s → amount true s b ≡ Some n
    → set_words true (a ∷ codes "=" ∷ b ∷ []) ≡ Some (the_set s n)
one_amount a b s n h k = ap (λ o. if_there o (λ s. set_of s (amount true s b))) h ∙ ap (set_of s) k

a_sum : (a b sign text : List ℕ) (s : SaidSlot) (n : SaidAmount) → is_name b ≡ true → slot true a ≡ Some s
    → plus_minus b sign (decimal_read text) ≡ Some n
    → set_words true (a ∷ codes "=" ∷ b ∷ sign ∷ text ∷ []) ≡ Some (the_set s n)
a_sum a b sign text s n good h k =
    ap (λ x. cond x (if_there (slot true a) (λ s. set_of s (plus_minus b sign (decimal_read text)))) None)
    good
    ∙ ap (λ o. if_there o (λ s. set_of s (plus_minus b sign (decimal_read text)))) h ∙ ap (set_of s) k

set_again : (m : SeenModel) → IsNamed m → (w : ℕ) → w ≤ 64 → (s : Slot) (a : Amount)
    → IsSlot m s → IsAmount m w a → IsNoCopy s a
    → set_words true (slot_text m s ∷ codes "=" ∷ amount_words m a)
    ≡ Some (the_set (slot_back m s) (amount_back m a))
set_again m h w few s (ANumber n) to small no_copy =
    let fits = small_number w n few small in
    one_amount (slot_text m s) (decimal n) (slot_back m s) (Number n) (slot_again m h s to)
    (ap (λ b. cond b (Some (Copy (decimal n))) (or_else (number_amount (plain_read (decimal n)))
    (entry_amount (slot_back m s) (entry_in true (decimal n))))) (decimal_no_name n fits)
    ∙ ap (λ p. or_else (number_amount p) (entry_amount (slot_back m s) (entry_in true (decimal n))))
    (plain_decimal n fits))
set_again m h w few s (ACopy o) to from no_copy =
    one_amount (slot_text m s) (operand_text m o) (slot_back m s)
    (Copy (operand_name m o)) (slot_again m h s to)
    (ap (λ b. cond b (Some (Copy (operand_text m o))) (or_else (number_amount (plain_read (operand_text m o)))
    (entry_amount (slot_back m s) (entry_in true (operand_text m o)))))
    (source_good m h o from.there from.present)
    ∙ ap (λ t. Some (Copy t)) (present_text m o from.present))
set_again m h w few s (APlus o n) to (from, small) no_copy =
    a_sum (slot_text m s) (operand_text m o) (codes "+") (decimal n) (slot_back m s)
    (Plus (operand_name m o) n) (source_good m h o from.there from.present) (slot_again m h s to)
    (ap (plus_minus (operand_text m o) (codes "+")) (decimal_decimal n (small_number w n few small))
    ∙ ap (λ t. Some (Plus t n)) (present_text m o from.present))
set_again m h w few s (AMinus o n) to (from, small) no_copy =
    a_sum (slot_text m s) (operand_text m o) (codes "-") (decimal n) (slot_back m s)
    (Minus (operand_name m o) n) (source_good m h o from.there from.present) (slot_again m h s to)
    (ap (plus_minus (operand_text m o) (codes "-")) (decimal_decimal n (small_number w n few small))
    ∙ ap (λ t. Some (Minus t n)) (present_text m o from.present))
set_again m h w few (TheWord k) (AnEntry o) to (i, wide) no_copy =
    one_amount (word_name m k) (entry_text m o) (ToWord (word_name m k))
    (FromEntry (entry_back m o)) (slot_again m h (TheWord k) to)
    (ap (λ b. cond b (Some (Copy (entry_text m o))) (or_else (number_amount (plain_read (entry_text m o)))
    (entry_amount (ToWord (word_name m k)) (entry_in true (entry_text m o)))))
    (entry_no_name m o i.present)
    ∙ ap (λ p. or_else (number_amount p)
    (entry_amount (ToWord (word_name m k)) (entry_in true (entry_text m o)))) (entry_no_plain m h o i)
    ∙ ap (entry_amount (ToWord (word_name m k))) (entry_found m h o i))
set_again m h w few (TheEntry x) (AnEntry o) to (i, wide) no_copy = absurd no_copy

-- ---- its names and widths

memory_there : (o : Option SeenMemory) → o ≢ None → stands_in (memory_name o) (memory_names o) ≡ true
memory_there None some = absurd (some refl)
memory_there (Some d) some = ap (λ k. k || false) (bytes_same d.name d.name refl)

source_known : (m : SeenModel) → IsNamed m → (o : Operand) → IsOperand m o → IsPresent o
    → no_operand m (operand_name m o) ≡ false
source_known m h o there present = ap (λ x. not (is_some x)) (operand_found m h.differ o there present)

entry_known : (m : SeenModel) → IsNamed m → (o : Operand) → IsIndex m o → no_entry m (entry_back m o) ≡ false
entry_known m h o i =
    or_from (not (is_memory m (memory_name m.memory))) (no_operand m (operand_name m o))
    (ap not (memory_there m.memory i.memory)) (source_known m h o i.there i.present)

slot_known : (m : SeenModel) → IsNamed m → (s : Slot) → IsSlot m s → no_slot m (slot_back m s) ≡ false
slot_known m h (TheWord k) there = ap (λ x. not (is_some x)) (word_found m h.differ k there)
slot_known m h (TheEntry o) i = entry_known m h o i

amount_known : (m : SeenModel) → IsNamed m → (w : ℕ) (a : Amount)
    → IsAmount m w a → no_amount m (amount_back m a) ≡ false
amount_known m h w (ANumber n) small = refl
amount_known m h w (ACopy o) s = source_known m h o s.there s.present
amount_known m h w (APlus o n) (s, small) = source_known m h o s.there s.present
amount_known m h w (AMinus o n) (s, small) = source_known m h o s.there s.present
amount_known m h w (AnEntry o) (i, wide) = entry_known m h o i

slot_is : (m : SeenModel) → IsNamed m → (s : Slot) → IsSlot m s → slot_said m (slot_back m s) ≡ s
slot_is m h (TheWord k) there = ap (λ x. TheWord (unwrap_or x 0)) (word_found m h.differ k there)
slot_is m h (TheEntry o) i = ap (λ x. TheEntry (known x)) (operand_found m h.differ o i.there i.present)

amount_is : (m : SeenModel) → IsNamed m → (w : ℕ) (a : Amount)
    → IsAmount m w a → amount_said m (amount_back m a) ≡ a
amount_is m h w (ANumber n) small = refl
amount_is m h w (ACopy o) s = ap (λ x. ACopy (known x)) (operand_found m h.differ o s.there s.present)
amount_is m h w (APlus o n) (s, small) =
    ap (λ x. APlus (known x) n) (operand_found m h.differ o s.there s.present)
amount_is m h w (AMinus o n) (s, small) =
    ap (λ x. AMinus (known x) n) (operand_found m h.differ o s.there s.present)
amount_is m h w (AnEntry o) (i, wide) =
    ap (λ x. AnEntry (known x)) (operand_found m h.differ o i.there i.present)

slot_wide : (m : SeenModel) → IsNamed m → (s : Slot) → IsSlot m s
    → slot_width m (slot_back m s) ≡ width_of m s
slot_wide m h (TheWord k) there = ap (λ x. word_width m (unwrap_or x 0)) (word_found m h.differ k there)
slot_wide m h (TheEntry o) i = refl

equal_test : (a b : ℕ) → a ≡ b → not (a == b) ≡ false
equal_test a b h = ap not (one a b h)
  where
    one : (a b : ℕ) → a ≡ b → (a == b) ≡ true
    one a b h = grind (arith, nat_tests)

source_wide : (m : SeenModel) → IsNamed m → (w : ℕ) (o : Operand) → IsSource m w o
    → not (name_width m (operand_name m o) == w) ≡ false
source_wide m h w o s = ap (λ x. not (operand_width m (known x) == w))
    (operand_found m h.differ o s.there s.present) ∙ equal_test (operand_width m o) w s.as_wide

amount_fits : (m : SeenModel) → IsNamed m → (w : ℕ) (a : Amount) → IsAmount m w a
    → amount_wide m w (amount_back m a) ≡ false
amount_fits m h w (ANumber n) small = lt-leb (2 ^ w) n small
amount_fits m h w (ACopy o) s = source_wide m h w o s
amount_fits m h w (APlus o n) (s, small) = or_from (not (name_width m (operand_name m o) == w)) (is_above w n)
    (source_wide m h w o s) (lt-leb (2 ^ w) n small)
amount_fits m h w (AMinus o n) (s, small) = or_from (not (name_width m (operand_name m o) == w))
    (is_above w n) (source_wide m h w o s) (lt-leb (2 ^ w) n small)
amount_fits m h w (AnEntry o) (i, wide) = equal_test (memory_width m.memory) w wide

-- an assignment, its words and what they say
pub record IsSetRead (m : SeenModel) (x : Set) : Type 0 where
  pub own : Reads (set_text m x) (set_words_of m x)
  pub clean : list_all no_comma (set_words_of m x) ≡ true
  pub said : set_words true (set_words_of m x) ≡ Some (set_back m x)
  pub names : (no_slot m (slot_back m x.slot) || no_amount m (amount_back m x.amount)) ≡ false
  pub widths : amount_wide m (slot_width m (slot_back m x.slot)) (amount_back m x.amount) ≡ false
  pub back : set_said m (set_back m x) ≡ x

abbrev pub the_plain_set : Slot → Amount → Set
the_plain_set s a = record { slot = s; amount = a }

pub set_read : (m : SeenModel) → IsNamed m → (x : Set) → IsSet m x → IsSetRead m x
set_read m h x is =
    let few = slot_few m h x.slot is.slot in
    let one = slot_one m h x.slot is.slot in
    record {
      own = join (slot_text m x.slot) (codes " = " ++ amount_text m x.amount) (slot_text m x.slot ∷ [])
          (codes "=" ∷ amount_words m x.amount) (reads_one (slot_text m x.slot) one)
          (part (codes " = ") (amount_text m x.amount) (codes "=" ∷ []) (amount_words m x.amount) equals
          (amount_reads m h (width_of m x.slot) few x.amount is.amount));
      clean = and_from (no_comma (slot_text m x.slot)) (list_all no_comma (amount_words m x.amount))
          (clean_one (slot_text m x.slot) one) (amount_clean m h (width_of m x.slot) few x.amount is.amount);
      said = set_again m h (width_of m x.slot) few x.slot x.amount is.slot is.amount is.no_copy;
      names = or_from (no_slot m (slot_back m x.slot)) (no_amount m (amount_back m x.amount))
          (slot_known m h x.slot is.slot) (amount_known m h (width_of m x.slot) x.amount is.amount);
      widths = ap (λ w. amount_wide m w (amount_back m x.amount)) (slot_wide m h x.slot is.slot)
          ∙ amount_fits m h (width_of m x.slot) x.amount is.amount;
      back = ap (λ s. the_plain_set s (amount_said m (amount_back m x.amount))) (slot_is m h x.slot is.slot)
          ∙ ap (the_plain_set x.slot) (amount_is m h (width_of m x.slot) x.amount is.amount);
    }
