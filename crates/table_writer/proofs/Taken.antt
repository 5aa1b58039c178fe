-- Lines of a block that are read again.
use Rattle.std.proofs.Common.{◌≡◌, ℕ, suc, ◌+◌, ◌-◌, ◌^◌, ◌<◌, ◌≤◌, Bool, true, false, not, cond, nat_le}
use Rattle.std.proofs.Common.{nat_lt, List, [], ◌∷◌, ◌++◌, length, map, Option, Some, None, codes, refl, ap}
use Rattle.std.proofs.Common.{sym, ◌∙◌, subst, arith, append_assoc, append-nil}
use Rattle.std.specs.Prelude.{◌==◌, ◌&&◌, ◌||◌, is_some, unwrap_or, IfSome, decimal}
use Rattle.std.specs.List.{list_any}
use Rattle.std.proofs.lemmas.Bool.{eqb-true, le-ltb, lt-leb, or_from}
use Rattle.std.proofs.lemmas.Bool.Decides.{nat_tests}
use Rattle.ij_text.specs.Words.{is_name}
use Rattle.table_lines.specs.Words.{Slice, slice, decimal as decimal_read, plain as plain_read, is_wide}
use Rattle.table_lines.specs.Words.{value_in, care_in}
use Rattle.instruments.specs.declared.model.Operand.{Operand}
use Rattle.instruments.specs.declared.model.Operand.TheVariants.{Word as AWord, Input as AnInput, Old}
use Rattle.instruments.specs.Seen.{SeenWord, SeenMemory, SeenPort, SeenOut, SeenRow, SeenModel}
use Rattle.instruments.specs.Models.{IsWidth, IsBelow, IsWord, IsMemory, IsOut, word_width, operand_width}
use Rattle.instruments.specs.Models.{names}
use Rattle.table_lines.specs.Said.{Words, if_there, SaidLine, Input, Word, Memory, Output, Change, Run}
use Rattle.table_lines.specs.Said.{SaidCond, SaidSlot, ToWord, ToEntry, SaidAmount, Number, Copy, Plus, Minus}
use Rattle.table_lines.specs.Said.{FromEntry, SaidSet, SaidRow, Starts, starts, starts_of, with_reset}
use Rattle.table_lines.specs.Said.{change_line, run_line, line}
use Rattle.table_file.specs.Tables.{stands_in, word_named, known, cond_operand, operand_of, cond_width}
use Rattle.table_file.specs.Tables.{cond_said, slot_said, amount_said, set_said, row_said, no_slot, no_amount}
use Rattle.table_file.specs.Tables.{has_twice, target, row_name_fault, is_above, reset_above, starts_above}
use Rattle.table_file.specs.Tables.{bounds_outside, slot_width, amount_wide, row_width_fault, no_width}
use Rattle.table_file.specs.Tables.{name_fault, width_fault, limit_fault, out_said}
use Rattle.bench_file.specs.Written.{word_name, reset_text, input_text, word_text, memory_text, bounds_text}
use Rattle.bench_file.specs.Written.{out_text, row_text}
use Rattle.table_writer.proofs.Lexed.{Always, Parts, IsEnd, IsLine, at_end, line_last, part_end, line_end}
use Rattle.table_writer.proofs.Lexed.{always_line}
use Rattle.table_writer.proofs.Named.{name_word, decimal_word, decimal_decimal, plain_decimal}
use Rattle.table_writer.proofs.Joined.{in_brackets, bounds, bounds_letters, brackets_some, brackets_letters}
use Rattle.table_writer.proofs.Joined.{slice_again, whole_again}
use Rattle.table_writer.proofs.Conds.{the_cond, IsNamed, small_number, equals, word_good, word_found}
use Rattle.table_writer.proofs.Sets.{the_plain_set, IsOne, one_name, reads_one}
use Rattle.table_writer.proofs.Rowed.{row_back, IsRowRead, the_seen_row}
use Rattle.ij_bits.proofs.Lists.{map_same, any_same}

-- a line, what it says, and that it isn't at fault
pub record IsTaken (m : SeenModel) (text : List ℕ) (l : SaidLine) : Type 0 where
  pub w : List ℕ
  pub ws : Words
  pub own : IsLine text (w ∷ ws)
  pub says : line true (w ∷ ws) ≡ Some l
  pub names : name_fault m l ≡ false
  pub widths : width_fault m l ≡ false
  pub limits : limit_fault m l ≡ false

-- ---- numbers

not_zero : (n : ℕ) → 1 ≤ n → (n == 0) ≡ false
not_zero n h = grind (arith, nat_tests)

width_ok : (w : ℕ) → IsWidth w → no_width w ≡ false
width_ok w h = or_from (w == 0) (nat_lt 64 w) (not_zero w h.some) (le-ltb 64 w h.few)

short : (w : ℕ) → w ≤ 64 → w < 2 ^ 64
short w h = omega (arith, h)

starts_ok : (w init : ℕ) (reset : Option ℕ) → IsBelow w init → IfSome reset (IsBelow w)
    → starts_above w (record { init = init; reset = reset }) ≡ false
starts_ok w init reset small h =
    or_from (is_above w init) (reset_above w reset) (lt-leb (2 ^ w) init small) (one reset h)
  where
    one : (o : Option ℕ) → IfSome o (IsBelow w) → reset_above w o ≡ false
    one None h = refl
    one (Some n) h = lt-leb (2 ^ w) n h

few_reset : (w : ℕ) → w ≤ 64 → (o : Option ℕ) → IfSome o (IsBelow w) → IfSome o (λ n. n < 2 ^ 64)
few_reset w few None h = tt
few_reset w few (Some n) h = small_number w n few h

-- ---- separators

gap : Parts (codes " ") []
gap = record { all = record { plain = refl; reads = λ rest. refl }; apart = λ rest. refl }

init_mark : Parts (codes " init ") (codes "init" ∷ [])
init_mark = record { all = record { plain = refl; reads = λ rest. refl }; apart = λ rest. refl }

reset_mark : Parts (codes " reset ") (codes "reset" ∷ [])
reset_mark = record { all = record { plain = refl; reads = λ rest. refl }; apart = λ rest. refl }

in_word : Always (codes "in ") (codes "in" ∷ [])
in_word = record { plain = refl; reads = λ rest. refl }

word_word : Always (codes "word ") (codes "word" ∷ [])
word_word = record { plain = refl; reads = λ rest. refl }

mem_word : Always (codes "mem ") (codes "mem" ∷ [])
mem_word = record { plain = refl; reads = λ rest. refl }

out_word : Always (codes "out ") (codes "out" ∷ [])
out_word = record { plain = refl; reads = λ rest. refl }

-- ---- inputs

pub input_taken : (m : SeenModel) (d : SeenPort) → is_name d.name ≡ true → IsWidth d.width
    → stands_in d.name (names m) ≡ false → length m.ins < 16 → IsTaken m (input_text d) (Input d.name d.width)
unfolding line
input_taken m d good width fresh few =
    let fits = short d.width width.few in
    let end = decimal d.width ++ codes "\n" in
    record {
      w = codes "in";
      ws = d.name ∷ decimal d.width ∷ [];
      own = always_line (codes "in ") (d.name ++ (codes " " ++ end))
          (codes "in" ∷ []) (d.name ∷ decimal d.width ∷ []) in_word
          (line_end d.name (codes " " ++ end) (d.name ∷ []) (decimal d.width ∷ []) (name_word d.name good)
          (part_end (codes " ") end [] (decimal d.width ∷ []) gap
          (line_last (decimal d.width) (decimal d.width ∷ []) (decimal_word d.width fits))));
      says = ap (λ k. cond k (if_there (decimal_read (decimal d.width)) (λ w. Some (Input d.name w))) None)
          good ∙ ap (λ o. if_there o (λ w. Some (Input d.name w))) (decimal_decimal d.width fits);
      names = fresh;
      widths = refl;
      limits = or_from (no_width d.width) (nat_le 16 (length m.ins))
          (width_ok d.width width) (lt-leb 16 (length m.ins) few);
    }

-- ---- words and the memory

abbrev the_starts : ℕ → Option ℕ → Starts
the_starts init reset = record { init = init; reset = reset }

abbrev reset_words : Option ℕ → Words
reset_words None = []
reset_words (Some n) = codes "reset" ∷ decimal n ∷ []

reset_end : (o : Option ℕ) → IfSome o (λ n. n < 2 ^ 64) → IsEnd (reset_text o ++ codes "\n") (reset_words o)
reset_end None h = at_end
reset_end (Some n) h = part_end (codes " reset ") (decimal n ++ codes "\n") (codes "reset" ∷ [])
    (decimal n ∷ []) reset_mark (line_last (decimal n) (decimal n ∷ []) (decimal_word n h))

starts_end : (init : ℕ) (o : Option ℕ) → init < 2 ^ 64 → IfSome o (λ n. n < 2 ^ 64)
    → IsEnd (codes " init " ++ (decimal init ++ (reset_text o ++ codes "\n")))
    (codes "init" ∷ decimal init ∷ reset_words o)
starts_end init o small h =
    part_end (codes " init ") (decimal init ++ (reset_text o ++ codes "\n")) (codes "init" ∷ [])
    (decimal init ∷ reset_words o) init_mark
    (line_end (decimal init) (reset_text o ++ codes "\n") (decimal init ∷ []) (reset_words o)
    (decimal_word init small) (reset_end o h))

starts_again : (init : ℕ) (o : Option ℕ) → init < 2 ^ 64 → IfSome o (λ n. n < 2 ^ 64)
    → starts (codes "init" ∷ decimal init ∷ reset_words o) ≡ Some (the_starts init o)
starts_again init None small h = ap (λ i. starts_of i None) (plain_decimal init small)
starts_again init (Some n) small h = ap (λ i. with_reset i (plain_read (decimal n)))
    (plain_decimal init small) ∙ ap (with_reset (Some init)) (plain_decimal n h)

pub word_taken : (m : SeenModel) (d : SeenWord) → is_name d.name ≡ true → IsWord d
    → stands_in d.name (names m) ≡ false → length m.words < 8
    → IsTaken m (word_text d) (Word d.name d.width (the_starts d.init d.reset))
unfolding line
word_taken m d good is fresh few =
    let fits = short d.width is.width.few in
    let small = small_number d.width d.init is.width.few is.init in
    let reset = few_reset d.width is.width.few d.reset is.reset in
    let ss = codes "init" ∷ decimal d.init ∷ reset_words d.reset in
    let end = codes " init " ++ (decimal d.init ++ (reset_text d.reset ++ codes "\n")) in
    record {
      w = codes "word";
      ws = d.name ∷ decimal d.width ∷ ss;
      own = always_line (codes "word ") (d.name ++ (codes " " ++ (decimal d.width ++ end)))
          (codes "word" ∷ []) (d.name ∷ decimal d.width ∷ ss) word_word
          (line_end d.name (codes " " ++ (decimal d.width ++ end)) (d.name ∷ [])
          (decimal d.width ∷ ss) (name_word d.name good)
          (part_end (codes " ") (decimal d.width ++ end) [] (decimal d.width ∷ ss) gap
          (line_end (decimal d.width) end (decimal d.width ∷ []) ss (decimal_word d.width fits)
          (starts_end d.init d.reset small reset))));
      says = ap (λ k. cond k (if_there (decimal_read (decimal d.width))
          (λ w. if_there (starts ss) (λ s. Some (Word d.name w s)))) None) good
          ∙ ap (λ o. if_there o (λ w. if_there (starts ss) (λ s. Some (Word d.name w s))))
          (decimal_decimal d.width fits)
          ∙ ap (λ o. if_there o (λ s. Some (Word d.name d.width s)))
          (starts_again d.init d.reset small reset);
      names = fresh;
      widths = starts_ok d.width d.init d.reset is.init is.reset;
      limits = or_from (no_width d.width) (nat_le 8 (length m.words))
          (width_ok d.width is.width) (lt-leb 8 (length m.words) few);
    }

pub memory_taken : (m : SeenModel) (d : SeenMemory) → is_name d.name ≡ true → IsMemory d
    → stands_in d.name (names m) ≡ false → m.memory ≡ None
    → IsTaken m (memory_text (Some d)) (Memory d.name d.depth d.width (the_starts d.init d.reset))
unfolding line
memory_taken m d good is fresh none =
    let fits = short d.width is.width.few in
    let deep : d.depth < 2 ^ 64 = deep_fits d.depth is.few in
    let small = small_number d.width d.init is.width.few is.init in
    let reset = few_reset d.width is.width.few d.reset is.reset in
    let ss = codes "init" ∷ decimal d.init ∷ reset_words d.reset in
    let end = codes " init " ++ (decimal d.init ++ (reset_text d.reset ++ codes "\n")) in
    record {
      w = codes "mem";
      ws = d.name ∷ decimal d.depth ∷ decimal d.width ∷ ss;
      own = always_line (codes "mem ")
          (d.name ++ (codes " " ++ (decimal d.depth ++ (codes " " ++ (decimal d.width ++ end)))))
          (codes "mem" ∷ []) (d.name ∷ decimal d.depth ∷ decimal d.width ∷ ss) mem_word
          (line_end d.name (codes " " ++ (decimal d.depth ++ (codes " " ++ (decimal d.width ++ end))))
          (d.name ∷ []) (decimal d.depth ∷ decimal d.width ∷ ss) (name_word d.name good)
          (part_end (codes " ") (decimal d.depth ++ (codes " " ++ (decimal d.width ++ end))) []
          (decimal d.depth ∷ decimal d.width ∷ ss) gap
          (line_end (decimal d.depth) (codes " " ++ (decimal d.width ++ end)) (decimal d.depth ∷ [])
          (decimal d.width ∷ ss) (decimal_word d.depth deep)
          (part_end (codes " ") (decimal d.width ++ end) [] (decimal d.width ∷ ss) gap
          (line_end (decimal d.width) end (decimal d.width ∷ []) ss (decimal_word d.width fits)
          (starts_end d.init d.reset small reset))))));
      says = ap (λ k. cond k (if_there (decimal_read (decimal d.depth)) (λ e. if_there (decimal_read
          (decimal d.width)) (λ w. if_there (starts ss) (λ s. Some (Memory d.name e w s))))) None) good
          ∙ ap (λ o. if_there o (λ e. if_there (decimal_read (decimal d.width))
          (λ w. if_there (starts ss) (λ s. Some (Memory d.name e w s))))) (decimal_decimal d.depth deep)
          ∙ ap (λ o. if_there o (λ w. if_there (starts ss) (λ s. Some (Memory d.name d.depth w s))))
          (decimal_decimal d.width fits)
          ∙ ap (λ o. if_there o (λ s. Some (Memory d.name d.depth d.width s)))
          (starts_again d.init d.reset small reset);
      names = fresh;
      widths = starts_ok d.width d.init d.reset is.init is.reset;
      limits = or_from (no_width d.width)
          (d.depth == 0 || (nat_lt 256 d.depth || is_some m.memory)) (width_ok d.width is.width)
          (or_from (d.depth == 0) (nat_lt 256 d.depth || is_some m.memory) (not_zero d.depth is.some) (or_from
          (nat_lt 256 d.depth) (is_some m.memory) (le-ltb 256 d.depth is.few) (ap is_some none)));
    }
  where
    deep_fits : (n : ℕ) → n ≤ 256 → n < 2 ^ 64
    deep_fits n h = omega (arith, h)

-- ---- outputs

-- a slice of a word, read again
record IsSliceRead (text : List ℕ) (s : Slice) : Type 0 where
  one : IsOne text
  said : slice text ≡ Some s

abbrev the_slice : List ℕ → Option (ℕ × ℕ) → Slice
the_slice word bounds = record { word = word; bounds = bounds }

whole_read : (word : List ℕ) → is_name word ≡ true → IsSliceRead (word ++ []) (the_slice word None)
whole_read word good = record {
  one = subst IsOne (sym (append-nil word)) (one_name word good);
  said = ap slice (append-nil word) ∙ whole_again word good;
}

part_read : (word : List ℕ) (left right : ℕ) → is_name word ≡ true → left < 2 ^ 64 → right < 2 ^ 64
    → IsSliceRead (word ++ (codes "[" ++ (decimal left ++ (codes ":" ++ (decimal right ++ codes "]")))))
    (the_slice word (Some (left, right)))
part_read word left right good l r =
    let same : word ++ (codes "[" ++ (decimal left ++ (codes ":" ++ (decimal right ++ codes "]"))))
    ≡ in_brackets word (bounds left right) =
    ap (λ t. word ++ (codes "[" ++ t))
    (sym (append_assoc (decimal left) (codes ":" ++ decimal right) (codes "]"))) in
    record {
      one = subst IsOne (sym same) (record {
        letters = brackets_letters word (bounds left right) good
            (bounds_letters left right l r);
        some = brackets_some word (bounds left right) good;
      });
      said = ap slice same ∙ slice_again word left right good l r;
    }

abbrev bounds_of : ℕ → ℕ → ℕ → Option (ℕ × ℕ)
bounds_of width left right = cond ((suc left == width) && (right == 0)) None (Some (left, right))

slice_read : (word : List ℕ) (width left right : ℕ) → is_name word ≡ true → left < 2 ^ 64 → right < 2 ^ 64
    → IsSliceRead (word ++ bounds_text width left right) (the_slice word (bounds_of width left right))
slice_read word width left right good l r = one ((suc left == width) && (right == 0))
  where
    one : (k : Bool) → IsSliceRead
        (word ++ cond k [] (codes "[" ++ (decimal left ++ (codes ":" ++ (decimal right ++ codes "]")))))
        (the_slice word (cond k None (Some (left, right))))
    one true = whole_read word good
    one false = part_read word left right good l r

slice_line : (word bounds : List ℕ) → IsOne (word ++ bounds)
    → IsLine (word ++ (bounds ++ codes "\n")) ((word ++ bounds) ∷ [])
slice_line word bounds one = record {
  front = word ++ bounds;
  is = sym (append_assoc word bounds (codes "\n"));
  own = reads_one (word ++ bounds) one;
}

bounds_within : (width left right : ℕ) → left < width → right ≤ left
    → bounds_outside width (bounds_of width left right) ≡ false
bounds_within width left right within order = one ((suc left == width) && (right == 0))
  where
    one : (k : Bool) → bounds_outside width (cond k None (Some (left, right))) ≡ false
    one true = refl
    one false = or_from (nat_le width left) (nat_lt left right)
        (lt-leb width left within) (le-ltb left right order)

-- the word's number and the bounds come back
abbrev the_out : List ℕ → ℕ → ℕ → ℕ → SeenOut
the_out name word left right = record { name = name; word = word; left = left; right = right }

pub out_back : (m : SeenModel) → IsNamed m → (d : SeenOut) → d.word < length m.words
    → out_said m d.name (word_name m d.word) (bounds_of (word_width m d.word) d.left d.right) ≡ d
out_back m h d there = one ((suc d.left == word_width m d.word) && (d.right == 0)) (λ e. whole e)
  where
    first_of : (a b : Bool) → (a && b) ≡ true → a ≡ true
    first_of true b e = refl
    first_of false b e = absurd cc

    second_of : (a b : Bool) → (a && b) ≡ true → b ≡ true
    second_of true b e = e
    second_of false b e = absurd cc

    whole : ((suc d.left == word_width m d.word) && (d.right == 0)) ≡ true
        → (d.left ≡ word_width m d.word - 1) × (d.right ≡ 0)
    whole e =
        let l = eqb-true (suc d.left) (word_width m d.word)
        (first_of (suc d.left == word_width m d.word) (d.right == 0) e) in
        let r = eqb-true d.right 0 (second_of (suc d.left == word_width m d.word) (d.right == 0) e) in
        (omega (arith, l), r)

    one : (k : Bool) → (k ≡ true → (d.left ≡ word_width m d.word - 1) × (d.right ≡ 0))
        → out_said m d.name (word_name m d.word) (cond k None (Some (d.left, d.right))) ≡ d
    one true is =
        ap (λ o. the_out d.name (unwrap_or o 0) (word_width m (unwrap_or o 0) - 1) 0)
        (word_found m h.differ d.word there)
        ∙ ap (λ l. the_out d.name d.word l 0) (sym (is refl).0)
        ∙ ap (λ r. the_out d.name d.word d.left r) (sym (is refl).1)
    one false is = ap (λ o. the_out d.name (unwrap_or o 0) d.left d.right)
        (word_found m h.differ d.word there)

pub out_taken : (m : SeenModel) → IsNamed m → (d : SeenOut) → is_name d.name ≡ true → IsOut m d
    → d.word < length m.words → word_width m d.word ≤ 64
    → stands_in d.name (map (λ out. out.name) m.outs) ≡ false → length m.outs < 16
    → IsTaken m (out_text m d)
    (Output d.name (the_slice (word_name m d.word) (bounds_of (word_width m d.word) d.left d.right)))
unfolding line
out_taken m h d good is there width fresh few =
    let word = word_name m d.word in
    let text = bounds_text (word_width m d.word) d.left d.right in
    let left : d.left < 2 ^ 64 = of_width d.left (word_width m d.word) is.within width in
    let right : d.right < 2 ^ 64 = omega (arith, is.order, left) in
    let read = slice_read word (word_width m d.word) d.left d.right
    (word_good m h.good d.word there) left right in
    let found = word_found m h.differ d.word there in
    record {
      w = codes "out";
      ws = d.name ∷ codes "=" ∷ (word ++ text) ∷ [];
      own = always_line (codes "out ") (d.name ++ (codes " = " ++ (word ++ (text ++ codes "\n"))))
          (codes "out" ∷ []) (d.name ∷ codes "=" ∷ (word ++ text) ∷ []) out_word
          (line_end d.name (codes " = " ++ (word ++ (text ++ codes "\n"))) (d.name ∷ [])
          (codes "=" ∷ (word ++ text) ∷ []) (name_word d.name good)
          (part_end (codes " = ") (word ++ (text ++ codes "\n")) (codes "=" ∷ [])
          ((word ++ text) ∷ []) equals (slice_line word text read.one)));
      says = ap (λ k. cond (k && true) (if_there (slice (word ++ text)) (λ s. Some (Output d.name s))) None)
          good ∙ ap (λ o. if_there o (λ s. Some (Output d.name s))) read.said;
      names = or_from (stands_in d.name (map (λ (out : SeenOut). out.name) m.outs))
          (not (is_some (word_named m word))) fresh (ap (λ o. not (is_some o)) found);
      widths = ap (λ o. bounds_outside (word_width m (unwrap_or o 0))
          (bounds_of (word_width m d.word) d.left d.right)) found
          ∙ bounds_within (word_width m d.word) d.left d.right is.within is.order;
      limits = lt-leb 16 (length m.outs) few;
    }
  where
    of_width : (n w : ℕ) → n < w → w ≤ 64 → n < 2 ^ 64
    of_width n w within few = let fits = short w few in omega (arith, within, fits)

-- ---- rows, whatever rows come before

abbrev pub with_rows : SeenModel → List SeenRow → List SeenRow → SeenModel
with_rows m c r = record m { change = c; run = r }

module _ (m : SeenModel) (c r : List SeenRow) where
  no_slot_as : (s : SaidSlot) → no_slot (with_rows m c r) s ≡ no_slot m s
  no_slot_as (ToWord name) = refl
  no_slot_as (ToEntry e) = refl

  no_amount_as : (a : SaidAmount) → no_amount (with_rows m c r) a ≡ no_amount m a
  no_amount_as (Number n) = refl
  no_amount_as (Copy name) = refl
  no_amount_as (Plus name n) = refl
  no_amount_as (Minus name n) = refl
  no_amount_as (FromEntry e) = refl

  operand_as : (o : Operand) → operand_width (with_rows m c r) o ≡ operand_width m o
  operand_as (AWord k) = refl
  operand_as (AnInput k) = refl
  operand_as (Old k) = refl

  slot_width_as : (s : SaidSlot) → slot_width (with_rows m c r) s ≡ slot_width m s
  slot_width_as (ToWord name) = refl
  slot_width_as (ToEntry e) = refl

  amount_width_as : (w : ℕ) (a : SaidAmount) → amount_wide (with_rows m c r) w a ≡ amount_wide m w a
  amount_width_as w (Number n) = refl
  amount_width_as w (Copy name) = ap (λ k. not (k == w)) (operand_as (operand_of m name))
  amount_width_as w (Plus name n) = ap (λ k. not (k == w) || is_above w n) (operand_as (operand_of m name))
  amount_width_as w (Minus name n) = ap (λ k. not (k == w) || is_above w n) (operand_as (operand_of m name))
  amount_width_as w (FromEntry e) = refl

  slot_said_as : (s : SaidSlot) → slot_said (with_rows m c r) s ≡ slot_said m s
  slot_said_as (ToWord name) = refl
  slot_said_as (ToEntry e) = refl

  amount_said_as : (a : SaidAmount) → amount_said (with_rows m c r) a ≡ amount_said m a
  amount_said_as (Number n) = refl
  amount_said_as (Copy name) = refl
  amount_said_as (Plus name n) = refl
  amount_said_as (Minus name n) = refl
  amount_said_as (FromEntry e) = refl

  set_names_as : (x : SaidSet) → (no_slot (with_rows m c r) x.slot || no_amount (with_rows m c r) x.amount)
      ≡ (no_slot m x.slot || no_amount m x.amount)
  set_names_as x = ap (λ k. k || no_amount (with_rows m c r) x.amount) (no_slot_as x.slot)
      ∙ ap (λ k. no_slot m x.slot || k) (no_amount_as x.amount)

  set_widths_as : (x : SaidSet)
      → amount_wide (with_rows m c r) (slot_width (with_rows m c r) x.slot) x.amount
      ≡ amount_wide m (slot_width m x.slot) x.amount
  set_widths_as x = ap (λ w. amount_wide (with_rows m c r) w x.amount) (slot_width_as x.slot)
      ∙ amount_width_as (slot_width m x.slot) x.amount

  set_said_as : (x : SaidSet) → set_said (with_rows m c r) x ≡ set_said m x
  set_said_as x = ap (λ s. the_plain_set s (amount_said (with_rows m c r) x.amount)) (slot_said_as x.slot)
      ∙ ap (the_plain_set (slot_said m x.slot)) (amount_said_as x.amount)

  cond_widths_as : (x : SaidCond)
      → is_wide (cond_width (with_rows m c r) x) x.number ≡ is_wide (cond_width m x) x.number
  cond_widths_as x = ap (λ w. is_wide w x.number) (operand_as (known (cond_operand m x)))

  cond_said_as : (x : SaidCond) → cond_said (with_rows m c r) x ≡ cond_said m x
  cond_said_as x = ap (λ w. the_cond (known (cond_operand m x)) (value_in w x.number) (care_in w x.number))
      (operand_as (known (cond_operand m x)))

  row_names_as : (x : SaidRow) → row_name_fault (with_rows m c r) x ≡ row_name_fault m x
  row_names_as x =
      ap (λ k. list_any (λ (y : SaidCond). not (is_some (cond_operand m y))) x.conds ||
      (k || has_twice (map (λ (y : SaidSet). target y.slot) x.sets)))
      (any_same (λ (y : SaidSet). no_slot (with_rows m c r) y.slot || no_amount (with_rows m c r) y.amount)
      (λ (y : SaidSet). no_slot m y.slot || no_amount m y.amount) set_names_as x.sets)

  row_widths_as : (x : SaidRow) → row_width_fault (with_rows m c r) x ≡ row_width_fault m x
  row_widths_as x =
      ap (λ k. k || list_any (λ (y : SaidSet). amount_wide (with_rows m c r)
      (slot_width (with_rows m c r) y.slot) y.amount) x.sets)
      (any_same (λ (y : SaidCond). is_wide (cond_width (with_rows m c r) y) y.number)
      (λ (y : SaidCond). is_wide (cond_width m y) y.number) cond_widths_as x.conds)
      ∙ ap (λ k. list_any (λ (y : SaidCond). is_wide (cond_width m y) y.number) x.conds || k)
      (any_same (λ (y : SaidSet). amount_wide (with_rows m c r) (slot_width (with_rows m c r) y.slot)
      y.amount) (λ (y : SaidSet). amount_wide m (slot_width m y.slot) y.amount) set_widths_as x.sets)

  pub row_said_as : (x : SaidRow) → row_said (with_rows m c r) x ≡ row_said m x
  row_said_as x =
      ap (λ l. the_seen_row l (map (set_said (with_rows m c r)) x.sets))
      (map_same (cond_said (with_rows m c r)) (cond_said m) cond_said_as x.conds)
      ∙ ap (the_seen_row (map (cond_said m) x.conds))
      (map_same (set_said (with_rows m c r)) (set_said m) set_said_as x.sets)

  pub change_taken : (x : SeenRow) → IsRowRead m true (codes "change") x → length c + length r < 64
      → IsTaken (with_rows m c r) (row_text m (codes "change") x) (Change (row_back m x))
  unfolding line
  change_taken x h few = record {
    w = codes "change";
    ws = h.ws;
    own = h.line;
    says = ap change_line h.said;
    names = row_names_as (row_back m x) ∙ h.names;
    widths = row_widths_as (row_back m x) ∙ h.widths;
    limits = lt-leb 64 (length c + length r) few;
  }

  pub run_taken : (x : SeenRow) → IsRowRead m false (codes "run") x → length c + length r < 64
      → IsTaken (with_rows m c r) (row_text m (codes "run") x) (Run (row_back m x))
  unfolding line
  run_taken x h few = record {
    w = codes "run";
    ws = h.ws;
    own = h.line;
    says = ap run_line h.said;
    names = row_names_as (row_back m x) ∙ h.names;
    widths = row_widths_as (row_back m x) ∙ h.widths;
    limits = lt-leb 64 (length c + length r) few;
  }
