-- A token ends where a blank follows it.
use Rattle.std.proofs.Common.{◌≡◌, ◌==◌, ◌<◌, ◌≤◌, ◌+◌, ◌-◌, ℕ, zero, suc, Bool, true, false, cond, List, []}
use Rattle.std.proofs.Common.{◌∷◌, ◌++◌, length, take, Option, Some, None, refl, ap, ◌∙◌, arith}
use Rattle.std.proofs.Common.{length-append}
use Rattle.std.specs.Prelude.{◌||◌, ◌&&◌}
use Rattle.std.specs.Char.{is_ascii_digit}
use Rattle.std.proofs.Math.Seq.{take-append-add}
use Rattle.std.proofs.lemmas.List.{take_at}
use Rattle.ij_text.specs.Words.{in_name, begins_name}
use Rattle.ij_text.specs.Bytes.{is_blank}
use Rattle.icl_lexer.specs.declared.token.PieceKind.{PieceKind}
use Rattle.icl_lexer.specs.declared.token.PieceKind.TheVariants.{Gap, Is}
use Rattle.icl_lexer.specs.declared.token.TokenKind.{TokenKind}
use Rattle.icl_lexer.specs.declared.token.TokenKind.TheVariants.{Word, Decimal, Sized, Quoted, Param, Mark}
use Rattle.icl_lexer.specs.Pieces.{kind_of, size, in_decimal, in_digits, in_line, run, ends, base, digits}
use Rattle.icl_lexer.specs.Pieces.{dollar, quoted, slash, block, is_mark, is_base, is_digit_x}
use Rattle.icl_lexer.specs.Cutting.{IsPiece, opens_comment}
use Rattle.icl_printer.specs.Layout.{blank_of, ends_line}
use Rattle.icl_printer.proofs.Bytes.{is_of, run_never, block_never}

-- a blank that comes after a token
pub record IsAfter (b : ℕ) : Type 0 where
  pub gap : (bs : List ℕ) → kind_of (b ∷ bs) ≡ ends Gap bs
  pub in_a_word : in_name b ≡ false
  pub in_a_decimal : in_decimal b ≡ false
  pub in_some_digits : in_digits b ≡ false
  pub quote : (b == 39) ≡ false
  pub stroke : (b == 47) ≡ false
  pub star : (b == 42) ≡ false

line_end : IsAfter 10
line_end = record {
  gap = λ bs. refl;
  in_a_word = refl;
  in_a_decimal = refl;
  in_some_digits = refl;
  quote = refl;
  stroke = refl;
  star = refl;
}

space : IsAfter 32
space = record {
  gap = λ bs. refl;
  in_a_word = refl;
  in_a_decimal = refl;
  in_some_digits = refl;
  quote = refl;
  stroke = refl;
  star = refl;
}

pub blank_is : (k : TokenKind) (text : List ℕ) → IsAfter (blank_of k text)
blank_is Mark [] = space
blank_is Mark (c ∷ []) = by_cases (ends_line c)
  where
    by_cases : (e : Bool) → IsAfter (cond e 10 32)
    by_cases true = line_end
    by_cases false = space
blank_is Mark (c ∷ d ∷ text) = space
blank_is Word text = space
blank_is Decimal text = space
blank_is Sized text = space
blank_is Quoted text = space
blank_is Param text = space

abbrev is_token : PieceKind → Bool
is_token Gap = false
is_token (Is k) = true

-- ---- what is a piece of its own is none with a blank after it

module _ (b : ℕ) (is : IsAfter b) (more : List ℕ) (k : TokenKind) where
  cond_stops : (c : Bool) (x y x' y' : Option PieceKind) → (x ≡ Some (Is k) → x' ≡ None)
      → (y ≡ Some (Is k) → y' ≡ None) → cond c x y ≡ Some (Is k) → cond c x' y' ≡ None
  cond_stops true x y x' y' f g h = f h
  cond_stops false x y x' y' f g h = g h

  nothing_stops : (x : Option PieceKind) → None ≡ Some (Is k) → x ≡ None
  nothing_stops x h = absurd (cc)

  no_stops : (x y : Option PieceKind) → is_of is_token x ≡ false → x ≡ Some (Is k) → y ≡ None
  no_stops x y never h = absurd (let there : is_of is_token x ≡ true = ap (is_of is_token) h in cc)

  ends_stops : (q : PieceKind) (bs : List ℕ) → ends q bs ≡ Some (Is k) → ends q (bs ++ b ∷ more) ≡ None
  ends_stops q [] h = refl
  ends_stops q (x ∷ bs) h = refl

  run_stops : (class : ℕ → Bool) → class b ≡ false → (q : PieceKind) (bs : List ℕ)
      → run class q bs ≡ Some (Is k) → run class q (bs ++ b ∷ more) ≡ None
  run_stops class out q [] h = ap (λ c. cond c (run class q more) None) out
  run_stops class out q (x ∷ bs) h = cond_stops (class x) (run class q bs) None
      (run class q (bs ++ b ∷ more)) None (run_stops class out q bs) (nothing_stops None) h

  digits_stops : (bs : List ℕ) → digits bs ≡ Some (Is k) → digits (bs ++ b ∷ more) ≡ None
  digits_stops [] h = absurd (cc)
  digits_stops (x ∷ bs) h =
      cond_stops (is_digit_x x) (run in_digits (Is Sized) bs) None (run in_digits (Is Sized) (bs ++ b ∷ more))
      None (run_stops in_digits is.in_some_digits (Is Sized) bs) (nothing_stops None) h

  base_stops : (bs : List ℕ) → base bs ≡ Some (Is k) → base (bs ++ b ∷ more) ≡ None
  base_stops [] h = absurd (cc)
  base_stops (x ∷ bs) h = cond_stops (is_base x) (digits bs) None (digits (bs ++ b ∷ more)) None
      (digits_stops bs) (nothing_stops None) h

  size_stops : (class : ℕ → Bool) → class b ≡ false → (q : TokenKind) (bs : List ℕ)
      → size class q bs ≡ Some (Is k) → size class q (bs ++ b ∷ more) ≡ None
  size_stops class out q [] h = ap (λ c. cond c (size class q more) (cond (b == 39) (base more) None)) out
      ∙ ap (λ c. cond c (base more) None) is.quote
  size_stops class out q (x ∷ bs) h =
      cond_stops (class x) (size class q bs) (cond (x == 39) (base bs) None) (size class q (bs ++ b ∷ more))
      (cond (x == 39) (base (bs ++ b ∷ more)) None)
      (size_stops class out q bs) (cond_stops (x == 39) (base bs) None
      (base (bs ++ b ∷ more)) None (base_stops bs) (nothing_stops None)) h

  dollar_stops : (bs : List ℕ) → dollar bs ≡ Some (Is k) → dollar (bs ++ b ∷ more) ≡ None
  dollar_stops [] h = absurd (cc)
  dollar_stops (x ∷ bs) h = cond_stops (begins_name x) (size in_name Param bs) None (size in_name Param
      (bs ++ b ∷ more)) None (size_stops in_name is.in_a_word Param bs) (nothing_stops None) h

  quoted_stops : (escaped : Bool) (bs : List ℕ) → quoted escaped bs ≡ Some (Is k)
      → quoted escaped (bs ++ b ∷ more) ≡ None
  quoted_stops escaped [] h = absurd (cc)
  quoted_stops true (x ∷ bs) h = quoted_stops false bs h
  quoted_stops false (x ∷ bs) h =
      cond_stops (x == 34) (ends (Is Quoted) bs) (quoted (x == 92) bs) (ends (Is Quoted) (bs ++ b ∷ more))
      (quoted (x == 92) (bs ++ b ∷ more)) (ends_stops (Is Quoted) bs) (quoted_stops (x == 92) bs) h

  slash_stops : (bs : List ℕ) → slash bs ≡ Some (Is k) → slash (bs ++ b ∷ more) ≡ None
  slash_stops [] h = ap (λ c. cond c (run in_line Gap more) (cond (b == 42) (block false more) None))
      is.stroke ∙ ap (λ c. cond c (block false more) None) is.star
  slash_stops (x ∷ bs) h =
      cond_stops (x == 47) (run in_line Gap bs) (cond (x == 42) (block false bs) None)
      (run in_line Gap (bs ++ b ∷ more)) (cond (x == 42) (block false (bs ++ b ∷ more)) None)
      (no_stops (run in_line Gap bs) (run in_line Gap (bs ++ b ∷ more))
      (run_never is_token in_line Gap refl bs))
      (cond_stops (x == 42) (block false bs) None (block false (bs ++ b ∷ more)) None (no_stops (block false
      bs) (block false (bs ++ b ∷ more)) (block_never is_token refl false bs)) (nothing_stops None)) h

  pub token_stops : (text : List ℕ) → kind_of text ≡ Some (Is k) → kind_of (text ++ b ∷ more) ≡ None
  token_stops [] h = absurd (cc)
  token_stops (x ∷ bs) h =
      cond_stops (is_blank x) (ends Gap bs) _ (ends Gap (bs ++ b ∷ more)) _ (ends_stops Gap bs)
      (cond_stops (begins_name x) (run in_name (Is Word) bs) _ (run in_name (Is Word) (bs ++ b ∷ more)) _
      (run_stops in_name is.in_a_word (Is Word) bs)
      (cond_stops (is_ascii_digit x) (size in_decimal Decimal bs) _
      (size in_decimal Decimal (bs ++ b ∷ more)) _ (size_stops in_decimal is.in_a_decimal Decimal bs)
      (cond_stops (x == 36) (dollar bs) _ (dollar (bs ++ b ∷ more)) _ (dollar_stops bs)
      (cond_stops (x == 39) (base bs) _ (base (bs ++ b ∷ more)) _ (base_stops bs)
      (cond_stops (x == 34) (quoted false bs) _ (quoted false (bs ++ b ∷ more)) _ (quoted_stops false bs)
      (cond_stops (x == 47) (slash bs) _ (slash (bs ++ b ∷ more)) _ (slash_stops bs)
      (cond_stops (is_mark x) (ends (Is Mark) bs) None (ends (Is Mark) (bs ++ b ∷ more)) None
      (ends_stops (Is Mark) bs) (nothing_stops None))))))))
      h

-- ---- pieces

no_mark_comment : (a b : ℕ) (rest : List ℕ) → IsAfter b → opens_comment (a ∷ b ∷ rest) ≡ false
no_mark_comment a b rest is = ap (λ c. a == 47 && (c || b == 42)) is.stroke
    ∙ ap (λ c. a == 47 && c) is.star ∙ and_false (a == 47)
  where
    and_false : (c : Bool) → (c && false) ≡ false
    and_false true = refl
    and_false false = refl

no_comment : (text : List ℕ) (b : ℕ) (rest : List ℕ) (k : TokenKind) → IsAfter b → kind_of text ≡ Some (Is k)
    → opens_comment (text ++ b ∷ rest) ≡ true → 1 < length text
no_comment [] b rest k is h o = absurd (cc)
no_comment (a ∷ []) b rest k is h o = absurd (let never = no_mark_comment a b rest is in cc)
no_comment (a ∷ c ∷ text) b rest k is h o = omega arith

pub token_piece : (text : List ℕ) (k : TokenKind) (b : ℕ) (rest : List ℕ) → IsAfter b
    → kind_of text ≡ Some (Is k) → IsPiece (text ++ b ∷ rest) (Is k) (length text)
token_piece text k b rest is h = record {
  within = omega (arith, length-append text (b ∷ rest));
  one = ap kind_of (take_at text (b ∷ rest) (length text) refl) ∙ h;
  longest = λ n above fits.
      let m = n - length text - 1 in
      let count : n ≡ length text + suc m = omega arith in
      ap (λ i. kind_of (take i (text ++ b ∷ rest))) count
      ∙ ap kind_of (take-append-add text (b ∷ rest) (suc m)) ∙ token_stops b is (take m rest) k text h;
  no_comment = no_comment text b rest k is h;
}

longer_gap : (b : ℕ) (rest : List ℕ) (n : ℕ) → IsAfter b → 1 < n
    → n ≤ length (b ∷ rest) → kind_of (take n (b ∷ rest)) ≡ None
longer_gap b [] n is above fits = absurd (omega arith)
longer_gap b (x ∷ rest) zero is above fits = absurd (omega arith)
longer_gap b (x ∷ rest) (suc zero) is above fits = absurd (omega arith)
longer_gap b (x ∷ rest) (suc (suc m)) is above fits = is.gap (x ∷ take m rest)

no_gap_comment : (b : ℕ) (rest : List ℕ) → IsAfter b → opens_comment (b ∷ rest) ≡ true → 1 < 1
no_gap_comment b [] is h = absurd (cc)
no_gap_comment b (x ∷ rest) is h = absurd
    (let never : opens_comment (b ∷ x ∷ rest) ≡ false = ap (λ c. c && (x == 47 || x == 42)) is.stroke in cc)

pub blank_piece : (b : ℕ) (rest : List ℕ) → IsAfter b → IsPiece (b ∷ rest) Gap 1
blank_piece b rest is = record {
  within = omega arith;
  one = is.gap [];
  longest = λ n above fits. longer_gap b rest n is above fits;
  no_comment = no_gap_comment b rest is;
}
