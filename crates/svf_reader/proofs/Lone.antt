-- A text of hexadecimal digits alone is one word.
use Rattle.std.proofs.Common.{◌≡◌, ◌≤◌, ℕ, zero, suc, Bool, true, false, List, [], ◌∷◌, ◌++◌, Option, Some}
use Rattle.std.proofs.Common.{None, length, take, drop, refl, ap, sym, ◌∙◌, arith, append-nil}
use Rattle.std.specs.Prelude.{◌==◌, cond}
use Rattle.std.specs.List.{list_all}
use Rattle.std.specs.Char.{is_ascii_hexdigit}
use Rattle.std.proofs.lemmas.Bool.Decides.{nat_tests}
use Rattle.ij_text.specs.Bytes.{is_blank}
use Rattle.svf_reader.specs.Texts.{first, opens, plain_from, plain, is_parenthesis, words}
use Rattle.svf_reader.specs.Commands.{is_close, after_hex, hex_digits}
use Rattle.svf_reader.specs.declared.bytes.Class.TheVariants.{Word}
use Rattle.svf_reader.specs.Reading.{run_length, word_length, words_of}
use Rattle.svf_reader.specs.Passed.{ends_gap}
use Rattle.svf_reader.specs.Seen.{digits_of}
use Rattle.svf_reader.proofs.Again.{AreInWord, word_cut, no_close}
use Rattle.svf_reader.proofs.Lexing.{next_word_is}
use Rattle.svf_reader.proofs.Passing.{no_gap_here}
use Rattle.std.proofs.lemmas.Bool.{and_parts}

record IsApart (b : ℕ) : Type 0 where
  blank : is_blank b ≡ false
  mark : is_parenthesis b ≡ false
  comment : (next : ℕ) → opens b next ≡ false

apart : (b : ℕ) → is_ascii_hexdigit b ≡ true → IsApart b
apart b h = record {
  blank = grind (arith, nat_tests);
  mark = grind (arith, nat_tests);
  comment = λ next. grind (arith, nat_tests);
}

digits_in_word : (w : List ℕ) → list_all is_ascii_hexdigit w ≡ true → AreInWord is_parenthesis w
digits_in_word [] h = tt
digits_in_word (b ∷ bs) h =
    let both = and_parts (is_ascii_hexdigit b) (list_all is_ascii_hexdigit bs) h in
    let is = apart b both.0 in
    (is.blank, is.mark, digits_in_word bs both.1)

digits_plain : (w : List ℕ) → list_all is_ascii_hexdigit w ≡ true → plain w ≡ w
digits_plain [] h = refl
digits_plain (b ∷ bs) h =
    let both = and_parts (is_ascii_hexdigit b) (list_all is_ascii_hexdigit bs) h in
    let is = apart b both.0 in
    ap (λ k. cond k 32 b ∷ plain_from k bs) (is.comment (first bs))
    ∙ ap (λ (l : List ℕ). b ∷ l) (digits_plain bs both.1)

pub digits_not_close : (w : List ℕ) → list_all is_ascii_hexdigit w ≡ true → is_close w ≡ false
digits_not_close [] h = refl
digits_not_close (b ∷ bs) h = no_close b bs (digits_in_word (b ∷ bs) h).1

-- the digits of digits alone
pub digits_alone : (w : List ℕ) → list_all is_ascii_hexdigit w ≡ true → digits_of w ≡ w
unfolding words_of
digits_alone [] h = refl
digits_alone (b ∷ bs) h =
    let w = b ∷ bs in
    let one : words w ≡ w ∷ [] = ap words (sym (append-nil w))
    ∙ word_cut is_parenthesis b bs [] (digits_in_word w h) refl in
    ap (λ l. hex_digits (words l)) (digits_plain w h)
    ∙ ap hex_digits one
    ∙ ap (λ k. cond k [] (w ++ [])) (digits_not_close w h)
    ∙ append-nil w

-- digits that stand together, and their `)`
pub after_alone : (w c : List ℕ) (ws : List (List ℕ)) → list_all is_ascii_hexdigit w ≡ true
    → is_close c ≡ true → after_hex false (w ∷ c ∷ ws) ≡ Some ws
after_alone w c ws all close =
    ap (λ k. cond k None (cond (list_all is_ascii_hexdigit w) (after_hex true (c ∷ ws)) None))
    (digits_not_close w all)
    ∙ ap (λ k. cond k (after_hex true (c ∷ ws)) None) all
    ∙ ap (λ k. cond k (let o : Option (List (List ℕ)) = Some ws in
    o) (cond (list_all is_ascii_hexdigit c) (after_hex true ws) None)) close

pub hex_alone : (w c : List ℕ) (ws : List (List ℕ)) → list_all is_ascii_hexdigit w ≡ true
    → is_close c ≡ true → hex_digits (w ∷ c ∷ ws) ≡ digits_of w
hex_alone w c ws all close =
    ap (λ k. cond k [] (w ++ hex_digits (c ∷ ws))) (digits_not_close w all)
    ∙ ap (λ k. w ++ cond k [] (c ++ hex_digits ws)) close
    ∙ append-nil w
    ∙ sym (digits_alone w all)

-- without digits before there is no text
pub none_after : (w : List ℕ) (ws : List (List ℕ))
    → list_all is_ascii_hexdigit w ≡ false → after_hex false (w ∷ ws) ≡ None
none_after w ws all = cases (is_close w)
  where
    cases : (close : Bool)
        → cond close None (cond (list_all is_ascii_hexdigit w) (after_hex true ws) None) ≡ None
    cases true = refl
    cases false = ap (λ k. cond k (after_hex true ws) None) all

-- ---- digits at the front, and a `)` right after them

hex_ends : (b : ℕ) → is_ascii_hexdigit b ≡ true → ends_gap b ≡ true
hex_ends b h = grind (arith, nat_tests)

close_ends : (b : ℕ) → (b == 41) ≡ true → ends_gap b ≡ true
close_ends b h = grind (arith, nat_tests)

close_mark : (b : ℕ) → (b == 41) ≡ true → is_parenthesis b ≡ true
close_mark b h = grind (arith, nat_tests)

close_is : (b : ℕ) → (b == 41) ≡ true → b ≡ 41
close_is b h = grind (arith, nat_tests)

close_word : (after : List ℕ) → (first after == 41) ≡ true
    → words_of after ≡ (41 ∷ []) ∷ words_of (drop 1 after)
close_word [] h = absurd (cc)
close_word (x ∷ xs) h =
    let gap = no_gap_here (x ∷ xs) x refl (close_ends x h) in
    let long : 1 ≡ word_length (x ∷ xs) =
    sym (ap (λ k. cond k 1 (run_length Word false (x ∷ xs))) (close_mark x h)) in
    let front = next_word_is (x ∷ xs) 1 (omega arith) (sym gap) long in
    front.is ∙ ap (λ (y : ℕ). (y ∷ []) ∷ words_of xs) (close_is x h)

digits_word : (text : List ℕ) (n : ℕ) → n ≡ run_length Word false text → 1 ≤ length (take n text)
    → list_all is_ascii_hexdigit (take n text) ≡ true → words_of text ≡ take n text ∷ words_of (drop n text)
digits_word text zero is some all = absurd (omega arith)
digits_word [] (suc m) is some all = absurd (omega arith)
digits_word (b ∷ bs) (suc m) is some all =
    let digit = (and_parts (is_ascii_hexdigit b) (list_all is_ascii_hexdigit (take m bs)) all).0 in
    let gap = no_gap_here (b ∷ bs) b refl (hex_ends b digit) in
    let long : suc m ≡ word_length (b ∷ bs) =
    is ∙ sym (ap (λ k. cond k 1 (run_length Word false (b ∷ bs))) (apart b digit).mark) in
    (next_word_is (b ∷ bs) (suc m) (omega arith) (sym gap) long).is

pub digits_front : (text digits after rest : List ℕ) (n : ℕ) → n ≡ run_length Word false text
    → digits ≡ take n text → after ≡ drop n text → rest ≡ drop 1 after → 1 ≤ length digits
    → list_all is_ascii_hexdigit digits ≡ true → (first after == 41) ≡ true
    → words_of text ≡ digits ∷ (41 ∷ []) ∷ words_of rest
digits_front text digits after rest n is front back last some all close =
    let long : 1 ≤ length (take n text) = omega (arith, some, ap length front) in
    let hex : list_all is_ascii_hexdigit (take n text)
    ≡ true = ap (list_all is_ascii_hexdigit) (sym front) ∙ all in
    digits_word text n is long hex
    ∙ ap (λ (w : List ℕ). w ∷ words_of (drop n text)) (sym front)
    ∙ ap (λ (r : List ℕ). digits ∷ words_of r) (sym back)
    ∙ ap (λ (ws : List (List ℕ)). digits ∷ ws) (close_word after close)
    ∙ ap (λ (r : List ℕ). digits ∷ (41 ∷ []) ∷ words_of r) (sym last)
