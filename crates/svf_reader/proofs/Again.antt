-- Written texts, byte by byte: what they are as words.
use Rattle.std.proofs.Common.{◌≡◌, ℕ, zero, suc, ◌+◌, ◌-◌, ◌/◌, ◌≤◌, Bool, true, false, not, cond, List, []}
use Rattle.std.proofs.Common.{◌∷◌, ◌++◌, length, refl, ap, sym, ◌∙◌, subst, arith, Option, Some, None, inl}
use Rattle.std.proofs.Common.{inr}
use Rattle.std.specs.Prelude.{◌==◌, ◌&&◌, ◌||◌, ◌⊎◌}
use Rattle.std.specs.List.{list_all}
use Rattle.std.specs.Char.{is_ascii_hexdigit}
use Rattle.std.specs.Str.{bytes_eq}
use Rattle.ij_bits.specs.Hex.{hex_digit}
use Rattle.svf_writer.specs.Written.{next_column, hex_lines, hex_text}
use Rattle.ij_text.specs.Bytes.{is_blank}
use Rattle.ij_text.specs.Parts.{before, longer}
use Rattle.svf_reader.specs.Texts.{first, in_comment, plain_from, plain, texts, is_parenthesis, in_word}
use Rattle.svf_reader.specs.Texts.{goes_on}
use Rattle.svf_reader.specs.Texts.{cut, words}
use Rattle.svf_reader.specs.Commands.{is_close, after_hex, hex_digits}
use Rattle.svf_reader.proofs.Digits.{is_quiet, IsDigit, a_digit, hex_list}

-- ---- texts without comments and ends of commands

not_first : (b next : ℕ) → is_quiet b ≡ true → in_comment false b next ≡ false
not_first b next h = cases (b == 33) (b == 47) (b == 59) (next == 47) h
  where
    cases : (p q r s : Bool) → not (p || (q || r)) ≡ true → (p || (q && s)) ≡ false
    cases true q r s h = absurd (cc)
    cases false true r s h = absurd (cc)
    cases false false r s h = refl

not_end : (b : ℕ) → is_quiet b ≡ true → (b == 59) ≡ false
not_end b h = cases (b == 33) (b == 47) (b == 59) h
  where
    cases : (p q r : Bool) → not (p || (q || r)) ≡ true → r ≡ false
    cases true q r h = absurd (cc)
    cases false true r h = absurd (cc)
    cases false false true h = absurd (cc)
    cases false false false h = refl

abbrev pub AreQuiet : List ℕ → Type 0
AreQuiet [] = Unit {0}
AreQuiet (b ∷ bs) = (is_quiet b ≡ true) × AreQuiet bs

pub quiet_both : (xs ys : List ℕ) → AreQuiet xs → AreQuiet ys → AreQuiet (xs ++ ys)
quiet_both [] ys hx hy = hy
quiet_both (x ∷ xs) ys hx hy = (hx.0, quiet_both xs ys hx.1 hy)

plain_quiet : (xs rest : List ℕ) → AreQuiet xs → plain (xs ++ rest) ≡ xs ++ plain rest
plain_quiet [] rest h = refl
plain_quiet (b ∷ bs) rest h =
    ap (λ k. cond k 32 b ∷ plain_from k (bs ++ rest)) (not_first b (first (bs ++ rest)) h.0)
    ∙ ap (λ (l : List ℕ). b ∷ l) (plain_quiet bs rest h.1)

texts_quiet : (xs ys : List ℕ) → AreQuiet xs → texts (xs ++ (59 ∷ ys)) ≡ xs ∷ texts ys
texts_quiet [] ys h = refl
texts_quiet (b ∷ bs) ys h =
    ap (λ k. cond k ([] ∷ texts (bs ++ (59 ∷ ys))) (before b (texts (bs ++ (59 ∷ ys))))) (not_end b h.0)
    ∙ ap (before b) (texts_quiet bs ys h.1)

-- a command's text, its `;` and what follows
pub command_cut : (body rest : List ℕ) → AreQuiet body
    → texts (plain (body ++ (59 ∷ rest))) ≡ body ∷ texts (plain rest)
command_cut body rest h = ap texts (plain_quiet body (59 ∷ rest) h) ∙ texts_quiet body (plain rest) h

-- ---- words

abbrev pub AreInWord : (ℕ → Bool) → List ℕ → Type 0
AreInWord alone [] = Unit {0}
AreInWord alone (b ∷ bs) = (is_blank b ≡ false) × (alone b ≡ false) × AreInWord alone bs

goes_in : (alone : ℕ → Bool) (b : ℕ) → is_blank b ≡ false → alone b ≡ false → in_word alone b ≡ true
goes_in alone b hb ha = ap (λ k. not (k || alone b)) hb ∙ ap not ha

byte_in : (alone : ℕ → Bool) (b : ℕ) (bs : List ℕ) → is_blank b ≡ false → alone b ≡ false
    → cut alone (b ∷ bs) ≡ longer (goes_on alone bs) b (cut alone bs)
byte_in alone b bs hb ha =
    ap (λ k. cond k (cut alone bs)
    (cond (alone b) ((b ∷ []) ∷ cut alone bs) (longer (goes_on alone bs) b (cut alone bs)))) hb
    ∙ ap (λ k. cond k ((b ∷ []) ∷ cut alone bs) (longer (goes_on alone bs) b (cut alone bs))) ha

-- a word that what follows doesn't go on
pub word_cut : (alone : ℕ → Bool) (b : ℕ) (bs rest : List ℕ) → AreInWord alone (b ∷ bs)
    → goes_on alone rest ≡ false → cut alone ((b ∷ bs) ++ rest) ≡ (b ∷ bs) ∷ cut alone rest
word_cut alone b [] rest h stops =
    byte_in alone b rest h.0 h.1 ∙ ap (λ g. longer g b (cut alone rest)) stops
word_cut alone b (c ∷ cs) rest h stops =
    byte_in alone b ((c ∷ cs) ++ rest) h.0 h.1
    ∙ ap (λ g. longer g b (cut alone ((c ∷ cs) ++ rest))) (goes_in alone c h.2.0 h.2.1)
    ∙ ap (λ ws. longer true b ws) (word_cut alone c cs rest h.2 stops)

-- ---- hexadecimal texts

-- a digit, or the end of a line
abbrev pub IsHexByte : ℕ → Type 0
IsHexByte b = (b ≡ 10) ⊎ ((v : ℕ) × IsDigit b v)

abbrev pub AreHex : List ℕ → Type 0
AreHex [] = Unit {0}
AreHex (b ∷ bs) = IsHexByte b × AreHex bs

-- the bytes but the ends of lines
abbrev pub squeezed : List ℕ → List ℕ
squeezed [] = []
squeezed (b ∷ bs) = cond (b == 10) (squeezed bs) (b ∷ squeezed bs)

pub no_close : (b : ℕ) (bs : List ℕ) → is_parenthesis b ≡ false → is_close (b ∷ bs) ≡ false
no_close b bs h = cases (b == 40) (b == 41) h
  where
    cases : (p q : Bool) → (p || q) ≡ false → (q && bytes_eq bs []) ≡ false
    cases true q h = absurd (cc)
    cases false true h = absurd (cc)
    cases false false h = refl

mark_of_word : (b : ℕ) → in_word is_parenthesis b ≡ true → is_parenthesis b ≡ false
mark_of_word b h = cases (is_blank b) (is_parenthesis b) h
  where
    cases : (p q : Bool) → not (p || q) ≡ true → q ≡ false
    cases true q h = absurd (cc)
    cases false true h = absurd (cc)
    cases false false h = refl

blank_of_word : (b : ℕ) → in_word is_parenthesis b ≡ true → is_blank b ≡ false
blank_of_word b h = cases (is_blank b) (is_parenthesis b) h
  where
    cases : (p q : Bool) → not (p || q) ≡ true → p ≡ false
    cases true q h = absurd (cc)
    cases false q h = refl

longer_first : (g : Bool) (b : ℕ) (ws : List (List ℕ))
    → (w : List ℕ) × (vs : List (List ℕ)) × (longer g b ws ≡ (b ∷ w) ∷ vs)
longer_first false b ws = ([], ws, refl)
longer_first true b [] = ([], [], refl)
longer_first true b (w ∷ ws) = (w, ws, refl)

-- the first word, where the text goes on, is none that closes
first_word : (xs : List ℕ) → goes_on is_parenthesis xs ≡ true
    → (w : List ℕ) × (ws : List (List ℕ)) × (words xs ≡ w ∷ ws) × (is_close w ≡ false)
first_word [] h = absurd (cc)
first_word (c ∷ xs) h =
    let mark = mark_of_word c h in
    let first = longer_first (goes_on is_parenthesis xs) c (words xs) in (
      c ∷ first.0,
      first.1,
      byte_in is_parenthesis c xs (blank_of_word c h) mark ∙ first.2,
      no_close c
          first.0 mark,
    )

-- a hexadecimal text, its `)` and what follows
pub record HexRead (text : List (List ℕ)) (digits : List ℕ) (rest : List (List ℕ)) : Type 0 where
  pub digits_are : hex_digits text ≡ digits
  pub after : after_hex true text ≡ Some rest

-- a word of digits
digits_word : (some : Bool) (w : List ℕ) (ws rest : List (List ℕ))
    → is_close w ≡ false → list_all is_ascii_hexdigit w ≡ true
    → after_hex true ws ≡ Some rest → after_hex some (w ∷ ws) ≡ Some rest
digits_word some w ws rest close all h =
    ap (λ k. cond k (cond some (let o : Option (List (List ℕ)) = Some ws in o) None)
    (cond (list_all is_ascii_hexdigit w) (after_hex true ws) None)) close
    ∙ ap (λ k. cond k (after_hex true ws) None) all ∙ h

-- and back
word_digits : (w : List ℕ) (ws rest : List (List ℕ)) (all : Bool) → is_close w ≡ false
    → list_all is_ascii_hexdigit w ≡ all → after_hex true (w ∷ ws) ≡ Some rest
    → (all ≡ true) × (after_hex true ws ≡ Some rest)
word_digits w ws rest true close ea h = (
  refl,
  sym (ap (λ k. cond k (let o : Option (List (List ℕ)) = Some ws in
      o) (cond (list_all is_ascii_hexdigit w) (after_hex true ws) None)) close
      ∙ ap (λ k. cond k (after_hex true ws) None) ea) ∙ h,
)
word_digits w ws rest false close ea h =
    absurd (let e : None ≡ Some rest = sym (ap (λ k. cond k (let o : Option (List (List ℕ)) = Some ws in
    o) (cond (list_all is_ascii_hexdigit w) (after_hex true ws) None)) close
    ∙ ap (λ k. cond k (after_hex true ws) None) ea) ∙ h in cc)

word_value : (w : List ℕ) (ws : List (List ℕ)) → is_close w ≡ false → hex_digits (w ∷ ws) ≡ w ++ hex_digits ws
word_value w ws close = ap (λ k. cond k [] (w ++ hex_digits ws)) close

-- a digit before, at either start
digit_front : (b v : ℕ) (xs : List ℕ) (g : Bool) (digits : List ℕ) (rest : List (List ℕ)) → IsDigit b v
    → goes_on is_parenthesis xs ≡ g → HexRead (words xs) digits rest
    → (hex_digits (words (b ∷ xs)) ≡ b ∷ digits)
    × ((some : Bool) → after_hex some (words (b ∷ xs)) ≡ Some rest)
digit_front b v xs false digits rest is eg read =
    let here : words (b ∷ xs) ≡ (b ∷ []) ∷ words xs =
    byte_in is_parenthesis b xs is.blank is.mark ∙ ap (λ g. longer g b (words xs)) eg in
    let close = no_close b [] is.mark in
    let all : list_all is_ascii_hexdigit (b ∷ []) ≡ true = ap (λ k. k && true) is.hex in (
      ap hex_digits here ∙ word_value (b ∷ []) (words xs) close ∙ ap (λ (l : List ℕ). b ∷ l) read.digits_are,
      (λ some. ap (after_hex some) here ∙ digits_word some (b ∷ []) (words xs) rest close all read.after),
    )
digit_front b v xs true digits rest is eg read =
    let first = first_word xs eg in
    let w = first.0 in
    let ws = first.1 in
    let here : words (b ∷ xs) ≡ (b ∷ w) ∷ ws = byte_in is_parenthesis b xs is.blank is.mark
    ∙ ap (λ g. longer g b (words xs)) eg ∙ ap (λ l. longer true b l) first.2 in
    let close = no_close b w is.mark in
    let part = word_digits w ws rest (list_all is_ascii_hexdigit w) first.3 refl
    (ap (after_hex true) (sym first.2) ∙ read.after) in
    let all : list_all is_ascii_hexdigit (b ∷ w)
    ≡ true = ap (λ k. k && list_all is_ascii_hexdigit w) is.hex ∙ part.0 in (
      ap hex_digits here ∙ word_value (b ∷ w) ws close ∙ ap (λ (l : List ℕ). b ∷ l)
          (sym (word_value w ws first.3) ∙ ap hex_digits (sym first.2) ∙ read.digits_are),
      (λ some. ap (after_hex some) here ∙ digits_word some (b ∷ w) ws rest close all part.1),
    )

hex_read : (h t : List ℕ) → AreHex h → HexRead (words (h ++ (41 ∷ t))) (squeezed h) (words t)
hex_read [] t hex = record { digits_are = refl; after = refl }
hex_read (b ∷ bs) t (inl e, hex) =
    subst (λ (c : ℕ). HexRead (words (c ∷ (bs ++ (41 ∷ t)))) (squeezed (c ∷ bs)) (words t)) (sym e)
    (let read = hex_read bs t hex in record { digits_are = read.digits_are; after = read.after })
hex_read (b ∷ bs) t (inr (v, is), hex) =
    let front = digit_front b v (bs ++ (41 ∷ t)) (goes_on is_parenthesis (bs ++ (41 ∷ t))) (squeezed bs)
    (words t) is refl (hex_read bs t hex) in
    record {
      digits_are = front.0 ∙ sym (ap (λ k. cond k (squeezed bs) (b ∷ squeezed bs)) is.end);
      after = front.1 true;
    }

-- ---- the text of bits

lines_hex : (bits : List Bool) (d column : ℕ) (at : Bool)
    → (column == 64) ≡ at → AreHex (hex_lines bits d column)
lines_hex bits zero column at e = tt
lines_hex bits (suc d) column true e =
    subst (λ (k : Bool). AreHex ((elim k as (λ _. List ℕ) [
      | true ↦ 10 ∷ hex_digit bits d ∷ []
      | false ↦ hex_digit bits d ∷ []
    ]) ++ hex_lines bits d (next_column column))) (sym e) (
      inl refl,
      (inr (_, a_digit bits d), lines_hex bits d (next_column column) (next_column column == 64) refl),
    )
lines_hex bits (suc d) column false e =
    subst (λ (k : Bool). AreHex ((elim k as (λ _. List ℕ) [
      | true ↦ 10 ∷ hex_digit bits d ∷ []
      | false ↦ hex_digit bits d ∷ []
    ]) ++ hex_lines bits d (next_column column))) (sym e)
    (inr (_, a_digit bits d), lines_hex bits d (next_column column) (next_column column == 64) refl)

one_squeezed : (b v : ℕ) (bs : List ℕ) → IsDigit b v → squeezed (b ∷ bs) ≡ b ∷ squeezed bs
one_squeezed b v bs is = ap (λ k. cond k (squeezed bs) (b ∷ squeezed bs)) is.end

lines_squeezed : (bits : List Bool) (d column : ℕ) (at : Bool) → (column == 64) ≡ at
    → squeezed (hex_lines bits d column) ≡ hex_list bits d
lines_squeezed bits zero column at e = refl
lines_squeezed bits (suc d) column true e =
    ap (λ (k : Bool). squeezed ((elim k as (λ _. List ℕ) [
      | true ↦ 10 ∷ hex_digit bits d ∷ []
      | false ↦ hex_digit bits d ∷ []
    ]) ++ hex_lines bits d (next_column column))) e
    ∙ one_squeezed (hex_digit bits d) _ (hex_lines bits d (next_column column)) (a_digit bits d)
    ∙ ap (λ (l : List ℕ). hex_digit bits d ∷ l)
    (lines_squeezed bits d (next_column column) (next_column column == 64) refl)
lines_squeezed bits (suc d) column false e =
    ap (λ (k : Bool). squeezed ((elim k as (λ _. List ℕ) [
      | true ↦ 10 ∷ hex_digit bits d ∷ []
      | false ↦ hex_digit bits d ∷ []
    ]) ++ hex_lines bits d (next_column column))) e
    ∙ one_squeezed (hex_digit bits d) _ (hex_lines bits d (next_column column)) (a_digit bits d)
    ∙ ap (λ (l : List ℕ). hex_digit bits d ∷ l)
    (lines_squeezed bits d (next_column column) (next_column column == 64) refl)

hex_quiet : (h : List ℕ) → AreHex h → AreQuiet h
hex_quiet [] hex = tt
hex_quiet (b ∷ bs) (inl e, hex) = (ap is_quiet e, hex_quiet bs hex)
hex_quiet (b ∷ bs) (inr (v, is), hex) = (is.quiet, hex_quiet bs hex)

-- a text of some bits in parentheses
pub record PartRead (text : List (List ℕ)) (digits : List ℕ) (rest : List (List ℕ)) : Type 0 where
  pub digits_are : hex_digits text ≡ digits
  pub after : after_hex false text ≡ Some rest

pub text_quiet : (bits : List Bool) → AreQuiet (hex_text bits)
unfolding hex_text
text_quiet bits = hex_quiet (hex_lines bits ((length bits + 3) / 4) 0)
    (lines_hex bits ((length bits + 3) / 4) 0 false refl)

lines_read : (bits : List Bool) (d e : ℕ) (t : List ℕ) → d ≡ suc e
    → PartRead (words (hex_lines bits d 0 ++ (41 ∷ t))) (hex_list bits d) (words t)
lines_read bits d e t is =
    let rest = hex_lines bits e 1 in
    let read = hex_read rest t (lines_hex bits e 1 false refl) in
    let front = digit_front (hex_digit bits e) _ (rest ++ (41 ∷ t)) (goes_on is_parenthesis (rest ++ (41 ∷
    t)))
    (squeezed rest) (words t) (a_digit bits e) refl read in
    subst (λ (k : ℕ). PartRead (words (hex_lines bits k 0 ++ (41 ∷ t))) (hex_list bits k) (words t)) (sym is)
    (record {
      digits_are = front.0 ∙ ap (λ (l : List ℕ). hex_digit bits e ∷ l)
          (lines_squeezed bits e 1 false refl);
      after = front.1 false;
    })

pub text_read : (bits : List Bool) (t : List ℕ) → 1 ≤ length bits
    → PartRead (words (hex_text bits ++ (41 ∷ t))) (hex_list bits ((length bits + 3) / 4)) (words t)
unfolding hex_text
text_read bits t some =
    let more : (length bits + 3) / 4 ≡ suc ((length bits - 1) / 4) = omega arith in
    lines_read bits ((length bits + 3) / 4) ((length bits - 1) / 4) t more
