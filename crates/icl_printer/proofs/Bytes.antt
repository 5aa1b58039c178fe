-- What the bytes of a decimal, a quoted text and a parameter are.
use Rattle.std.proofs.Common.{◌≡◌, ◌==◌, ◌<◌, ◌≤◌, ◌+◌, ◌-◌, ◌*◌, ◌/◌, ◌%◌, ◌^◌, ℕ, zero, suc, Bool, true}
use Rattle.std.proofs.Common.{false, cond, nat_lt, List, [], ◌∷◌, ◌++◌, length, take, drop, Option, Some}
use Rattle.std.proofs.Common.{None, refl, ap, ◌∙◌, arith, decimal, length-append}
use Rattle.std.specs.Prelude.{slice_range}
use Rattle.std.specs.Char.{is_ascii_digit}
use Rattle.std.proofs.lemmas.Bool.{ltb-false, le-ltb, eqb-true}
use Rattle.std.proofs.lemmas.List.{take_at}
use Rattle.std.proofs.lemmas.Fmt.{decimal_by_steps}
use Rattle.icl_lexer.specs.declared.token.PieceKind.{PieceKind}
use Rattle.icl_lexer.specs.declared.token.PieceKind.TheVariants.{Gap, Is}
use Rattle.icl_lexer.specs.declared.token.TokenKind.{TokenKind}
use Rattle.icl_lexer.specs.declared.token.TokenKind.TheVariants.{Word, Decimal, Sized, Quoted, Param, Mark}
use Rattle.icl_lexer.specs.Pieces.{kind_of, size, in_decimal, in_digits, in_line, run, ends, base, digits}
use Rattle.icl_lexer.specs.Pieces.{dollar, quoted, slash, block, is_mark, is_base, is_digit_x}
use Rattle.ij_text.specs.Numbers.{decimal_from, small}
use Rattle.ij_text.specs.Words.{in_name, begins_name}
use Rattle.ij_text.specs.Bytes.{is_blank}
use Rattle.icl_lexer.specs.Tokens.{decimal_of}

-- ---- decimals

kind_of_digit : (v : ℕ) → v < 10 → (bs : List ℕ) → kind_of ((48 + v) ∷ bs) ≡ size in_decimal Decimal bs
kind_of_digit zero h bs = refl
kind_of_digit (suc zero) h bs = refl
kind_of_digit (suc (suc zero)) h bs = refl
kind_of_digit (suc (suc (suc zero))) h bs = refl
kind_of_digit (suc (suc (suc (suc zero)))) h bs = refl
kind_of_digit (suc (suc (suc (suc (suc zero))))) h bs = refl
kind_of_digit (suc (suc (suc (suc (suc (suc zero)))))) h bs = refl
kind_of_digit (suc (suc (suc (suc (suc (suc (suc zero))))))) h bs = refl
kind_of_digit (suc (suc (suc (suc (suc (suc (suc (suc zero)))))))) h bs = refl
kind_of_digit (suc (suc (suc (suc (suc (suc (suc (suc (suc zero))))))))) h bs = refl
kind_of_digit (suc (suc (suc (suc (suc (suc (suc (suc (suc (suc v)))))))))) h bs = absurd (omega arith)

-- a digit is no `_`
pub record IsDigit (b v : ℕ) : Type 0 where
  pub inside : in_decimal b ≡ true
  pub line : (b == 95) ≡ false
  pub value : b - 48 ≡ v

a_digit : (v : ℕ) → v < 10 → IsDigit (48 + v) v
a_digit zero h = record { inside = refl; line = refl; value = refl }
a_digit (suc zero) h = record { inside = refl; line = refl; value = refl }
a_digit (suc (suc zero)) h = record { inside = refl; line = refl; value = refl }
a_digit (suc (suc (suc zero))) h = record { inside = refl; line = refl; value = refl }
a_digit (suc (suc (suc (suc zero)))) h = record { inside = refl; line = refl; value = refl }
a_digit (suc (suc (suc (suc (suc zero))))) h = record { inside = refl; line = refl; value = refl }
a_digit (suc (suc (suc (suc (suc (suc zero)))))) h = record { inside = refl; line = refl; value = refl }
a_digit (suc (suc (suc (suc (suc (suc (suc zero))))))) h = record { inside = refl; line = refl; value = refl }
a_digit (suc (suc (suc (suc (suc (suc (suc (suc zero)))))))) h =
    record { inside = refl; line = refl; value = refl }
a_digit (suc (suc (suc (suc (suc (suc (suc (suc (suc zero))))))))) h =
    record { inside = refl; line = refl; value = refl }
a_digit (suc (suc (suc (suc (suc (suc (suc (suc (suc (suc v)))))))))) h = absurd (omega arith)

push_digit : (m : ℕ) (xs : List ℕ) (b v : ℕ) → IsDigit b v
    → decimal_from m (xs ++ b ∷ []) ≡ 10 * decimal_from m xs + v
push_digit m [] b v is = ap (λ c. cond c m (10 * m + (b - 48))) is.line ∙ ap (λ k. 10 * m + k) is.value
push_digit m (x ∷ xs) b v is = push_digit (cond (x == 95) m (10 * m + (x - 48))) xs b v is

abbrev pub AreDigits : List ℕ → Type 0
AreDigits [] = Unit {0}
AreDigits (b ∷ bs) = (in_decimal b ≡ true) × AreDigits bs

digits_push : (xs : List ℕ) (b v : ℕ) → IsDigit b v → AreDigits xs → AreDigits (xs ++ b ∷ [])
digits_push [] b v is h = (is.inside, tt)
digits_push (x ∷ xs) b v is h = (h.0, digits_push xs b v is h.1)

all_digits : (xs : List ℕ) → AreDigits xs → size in_decimal Decimal xs ≡ Some (Is Decimal)
all_digits [] h = refl
all_digits (x ∷ xs) h =
    ap (λ c. cond c (size in_decimal Decimal xs) (cond (x == 39) (base xs) None)) h.0 ∙ all_digits xs h.1

pub record IsPrinted (n : ℕ) (text : List ℕ) : Type 0 where
  pub first : ℕ
  pub rest : List ℕ
  pub is : text ≡ (48 + first) ∷ rest
  pub digit : first < 10
  pub others : AreDigits rest
  pub value : decimal_from 0 text ≡ n

one_printed : (n : ℕ) → n < 10 → IsPrinted n ((48 + n) ∷ [])
one_printed n h = record {
  first = n;
  rest =
      [];
  is = refl;
  digit = h;
  others = tt;
  value = push_digit 0 [] (48 + n) n (a_digit n h) ∙ omega arith;
}

more_printed : (n : ℕ) (ds : List ℕ) → 10 ≤ n → IsPrinted (n / 10) ds
    → IsPrinted n (ds ++ ((48 + n % 10) ∷ []))
more_printed n ds h w =
    let last = a_digit (n % 10) (omega arith) in
    record {
      first = w.first;
      rest = w.rest ++ ((48 + n % 10) ∷ []);
      is = ap (λ (xs : List ℕ). xs ++ ((48 + n % 10) ∷ [])) w.is;
      digit = w.digit;
      others = digits_push w.rest (48 + n % 10) (n % 10) last w.others;
      value = push_digit 0 ds (48 + n % 10) (n % 10) last ∙ omega (arith, w.value);
    }

pub written : (n : ℕ) → n < 2 ^ 64 → IsPrinted n (decimal n)
written n h = decimal_by_steps IsPrinted one_printed more_printed n h

pub decimal_kind : (n : ℕ) → n ≤ 4294967295 → kind_of (decimal n) ≡ Some (Is Decimal)
decimal_kind n h = let w = written n (omega arith) in
    ap kind_of w.is ∙ kind_of_digit w.first w.digit w.rest ∙ all_digits w.rest w.others

pub decimal_again : (n : ℕ) → n ≤ 4294967295 → decimal_of (decimal n) ≡ Some n
decimal_again n h =
    let w = written n (omega arith) in
    ap small w.value ∙ ap (λ c. cond c None (Some n)) (le-ltb 4294967295 n h)

pub small_is : (n m : ℕ) → small n ≡ Some m → m ≤ 4294967295
small_is n m e = by_cases (nat_lt 4294967295 n) refl e
  where
    by_cases : (b : Bool) → nat_lt 4294967295 n ≡ b → cond b None (Some n) ≡ Some m → m ≤ 4294967295
    by_cases true is e = absurd (cc)
    by_cases false is e = let same : n ≡ m = cc in omega (arith, same, ltb-false 4294967295 n is)

-- ---- quoted texts

pub inside_quotes : (t : List ℕ) → slice_range (34 ∷ (t ++ 34 ∷ [])) 1 (length (34 ∷ (t ++ 34 ∷ [])) - 1) ≡ t
inside_quotes t =
    let count : length (34 ∷ (t ++ 34 ∷ [])) - 1 - 1 ≡ length t = omega (arith, length-append t (34 ∷ [])) in
    ap (λ n. take n (t ++ 34 ∷ [])) count ∙ take_at t (34 ∷ []) (length t) refl

-- ---- which piece it can be

abbrev pub is_of : (PieceKind → Bool) → Option PieceKind → Bool
is_of p None = false
is_of p (Some k) = p k

module _ (p : PieceKind → Bool) where
  cond_never : (c : Bool) (x y : Option PieceKind) → is_of p x ≡ false
      → is_of p y ≡ false → is_of p (cond c x y) ≡ false
  cond_never true x y a b = a
  cond_never false x y a b = b

  pub run_never : (class : ℕ → Bool) (k : PieceKind) → p k ≡ false
      → (bs : List ℕ) → is_of p (run class k bs) ≡ false
  run_never class k never [] = never
  run_never class k never (b ∷ bs) =
      cond_never (class b) (run class k bs) None (run_never class k never bs) refl

  ends_never : (k : PieceKind) → p k ≡ false → (bs : List ℕ) → is_of p (ends k bs) ≡ false
  ends_never k never [] = never
  ends_never k never (b ∷ bs) = refl

  digits_never : p (Is Sized) ≡ false → (bs : List ℕ) → is_of p (digits bs) ≡ false
  digits_never never [] = refl
  digits_never never (b ∷ bs) = cond_never (is_digit_x b) (run in_digits (Is Sized) bs) None
      (run_never in_digits (Is Sized) never bs) refl

  base_never : p (Is Sized) ≡ false → (bs : List ℕ) → is_of p (base bs) ≡ false
  base_never never [] = refl
  base_never never (b ∷ bs) = cond_never (is_base b) (digits bs) None (digits_never never bs) refl

  size_never : (class : ℕ → Bool) (k : TokenKind) → p (Is k) ≡ false → p (Is Sized) ≡ false
      → (bs : List ℕ) → is_of p (size class k bs) ≡ false
  size_never class k a b [] = a
  size_never class k a b (c ∷ bs) =
      cond_never (class c) (size class k bs) (cond (c == 39) (base bs) None) (size_never class k a b bs)
      (cond_never (c == 39) (base bs) None (base_never b bs) refl)

  dollar_never : p (Is Param) ≡ false → p (Is Sized) ≡ false → (bs : List ℕ) → is_of p (dollar bs) ≡ false
  dollar_never a b [] = refl
  dollar_never a b (c ∷ bs) =
      cond_never (begins_name c) (size in_name Param bs) None (size_never in_name Param a b bs) refl

  quoted_never : p (Is Quoted) ≡ false → (escaped : Bool) (bs : List ℕ) → is_of p (quoted escaped bs) ≡ false
  quoted_never never escaped [] = refl
  quoted_never never true (b ∷ bs) = quoted_never never false bs
  quoted_never never false (b ∷ bs) = cond_never (b == 34) (ends (Is Quoted) bs) (quoted (b == 92) bs)
      (ends_never (Is Quoted) never bs) (quoted_never never (b == 92) bs)

  pub block_never : p Gap ≡ false → (star : Bool) (bs : List ℕ) → is_of p (block star bs) ≡ false
  block_never never star [] = refl
  block_never never true (b ∷ bs) = cond_never (b == 47) (ends Gap bs) (block (b == 42) bs)
      (ends_never Gap never bs) (block_never never (b == 42) bs)
  block_never never false (b ∷ bs) = block_never never (b == 42) bs

  slash_never : p (Is Mark) ≡ false → p Gap ≡ false → (bs : List ℕ) → is_of p (slash bs) ≡ false
  slash_never a b [] = a
  slash_never a b (c ∷ bs) =
      cond_never (c == 47) (run in_line Gap bs)
      (cond (c == 42) (block false bs) None) (run_never in_line Gap b bs)
      (cond_never (c == 42) (block false bs) None (block_never b false bs) refl)

  not_here : (c : Bool) (x y : Option PieceKind) → is_of p x ≡ false
      → is_of p (cond c x y) ≡ true → is_of p y ≡ true
  not_here true x y never h = absurd (cc)
  not_here false x y never h = h

  here_only : (c : Bool) (x y : Option PieceKind) → is_of p y ≡ false
      → is_of p (cond c x y) ≡ true → (c ≡ true) × (is_of p x ≡ true)
  here_only true x y never h = (refl, h)
  here_only false x y never h = absurd (cc)

abbrev is_quoted : PieceKind → Bool
is_quoted (Is Quoted) = true
is_quoted k = false

abbrev is_param : PieceKind → Bool
is_param (Is Param) = true
is_param k = false

last_quote : (b : ℕ) (xs : List ℕ) → b ≡ 34 → is_of is_quoted (ends (Is Quoted) xs) ≡ true → b ∷ xs ≡ 34 ∷ []
last_quote b [] is h = ap (λ n. n ∷ []) is
last_quote b (x ∷ xs) is h = absurd (cc)

-- some bytes and a `"`
abbrev EndsQuoted : List ℕ → Type 0
EndsQuoted bs = (mid : List ℕ) × (bs ≡ mid ++ 34 ∷ [])

more_quoted : (b : ℕ) (bs : List ℕ) → EndsQuoted bs → EndsQuoted (b ∷ bs)
more_quoted b bs r = (b ∷ r.0, ap (λ (xs : List ℕ). b ∷ xs) r.1)

closed_at : (b : ℕ) (bs : List ℕ) (c : Bool) → (b == 34) ≡ c
    → (is_of is_quoted (quoted (b == 92) bs) ≡ true → EndsQuoted bs)
    → is_of is_quoted (cond c (ends (Is Quoted) bs) (quoted (b == 92) bs)) ≡ true → EndsQuoted (b ∷ bs)
closed_at b bs true e later h = ([], last_quote b bs (eqb-true b 34 e) h)
closed_at b bs false e later h = more_quoted b bs (later h)

-- quoted text up to the `"` that ends it
closed : (escaped : Bool) (bs : List ℕ) → is_of is_quoted (quoted escaped bs) ≡ true → EndsQuoted bs
closed escaped [] h = absurd (cc)
closed true (b ∷ bs) h = more_quoted b bs (closed false bs h)
closed false (b ∷ bs) h = closed_at b bs (b == 34) refl (λ k. closed (b == 92) bs k) h

pub quoted_text : (text : List ℕ) → kind_of text ≡ Some (Is Quoted)
    → (mid : List ℕ) × (text ≡ 34 ∷ (mid ++ 34 ∷ []))
quoted_text [] h = absurd (cc)
quoted_text (b ∷ bs) h =
    let q = is_quoted in
    let h0 : is_of q (kind_of (b ∷ bs)) ≡ true = ap (is_of q) h in
    let h1 = not_here q (is_blank b) (ends Gap bs) _ (ends_never q Gap refl bs) h0 in
    let h2 = not_here q (begins_name b) (run in_name (Is Word) bs) _
    (run_never q in_name (Is Word) refl bs) h1 in
    let h3 = not_here q (is_ascii_digit b) (size in_decimal Decimal bs) _
    (size_never q in_decimal Decimal refl refl bs) h2 in
    let h4 = not_here q (b == 36) (dollar bs) _ (dollar_never q refl refl bs) h3 in
    let h5 = not_here q (b == 39) (base bs) _ (base_never q refl bs) h4 in
    let others = cond_never q (b == 47) (slash bs)
    (cond (is_mark b) (ends (Is Mark) bs) None) (slash_never q refl refl bs)
    (cond_never q (is_mark b) (ends (Is Mark) bs) None (ends_never q (Is Mark) refl bs) refl) in
    let h6 = here_only q (b == 34) (quoted false bs) _ others h5 in
    let r = closed false bs h6.1 in
    (r.0, ap (λ (xs : List ℕ). b ∷ xs) r.1 ∙ ap (λ n. n ∷ (r.0 ++ 34 ∷ [])) (eqb-true b 34 h6.0))

pub param_text : (text : List ℕ) → kind_of text ≡ Some (Is Param) → text ≡ 36 ∷ drop 1 text
param_text [] h = absurd (cc)
param_text (b ∷ bs) h =
    let q = is_param in
    let h0 : is_of q (kind_of (b ∷ bs)) ≡ true = ap (is_of q) h in
    let h1 = not_here q (is_blank b) (ends Gap bs) _ (ends_never q Gap refl bs) h0 in
    let h2 = not_here q (begins_name b) (run in_name (Is Word) bs) _
    (run_never q in_name (Is Word) refl bs) h1 in
    let h3 = not_here q (is_ascii_digit b) (size in_decimal Decimal bs) _
    (size_never q in_decimal Decimal refl refl bs) h2 in
    let marks = cond_never q (b == 47) (slash bs)
    (cond (is_mark b) (ends (Is Mark) bs) None) (slash_never q refl refl bs)
    (cond_never q (is_mark b) (ends (Is Mark) bs) None (ends_never q (Is Mark) refl bs) refl) in
    let texts = cond_never q (b == 34) (quoted false bs) (cond (b == 47) (slash bs)
    (cond (is_mark b) (ends (Is Mark) bs) None)) (quoted_never q refl false bs) marks in
    let others = cond_never q (b == 39) (base bs) (cond (b == 34) (quoted false bs) (cond (b == 47) (slash bs)
    (cond (is_mark b) (ends (Is Mark) bs) None))) (base_never q refl bs) texts in
    let h4 = here_only q (b == 36) (dollar bs) _ others h3 in
    ap (λ n. n ∷ bs) (eqb-true b 36 h4.0)
