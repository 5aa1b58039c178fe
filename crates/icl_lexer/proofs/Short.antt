-- Pieces that their first byte tells: blanks, marks and words.
use Rattle.std.proofs.Common.{◌≡◌, ◌==◌, ◌∷◌, [], ◌&&◌, ◌+◌, ◌<◌, ◌≤◌, ℕ, zero, suc, Bool, true, false, cond}
use Rattle.std.proofs.Common.{List, length, take, drop, get_or, Option, Some, None, refl, sym, subst, ◌∙◌}
use Rattle.std.proofs.Common.{arith}
use Rattle.std.proofs.lemmas.Bool.{eqb-true, cond-true, cond-false}
use Rattle.ij_text.specs.Bytes.{is_blank}
use Rattle.ij_text.specs.Words.{begins_name, in_name}
use Rattle.icl_lexer.specs.declared.token.TokenKind.TheVariants.{Word}
use Rattle.icl_lexer.specs.declared.token.PieceKind.{PieceKind}
use Rattle.icl_lexer.specs.declared.token.PieceKind.TheVariants.{Gap, Is}
use Rattle.icl_lexer.specs.Pieces.{kind_of, ends, run}
use Rattle.icl_lexer.specs.Matches.{run_len}
use Rattle.icl_lexer.specs.Cutting.{IsPiece, opens_comment}

abbrev gap : Option PieceKind
gap = Some Gap

-- no byte may follow a `/` that is a whole piece; but it begins a comment
no_slash : (kind : PieceKind) → ((bs : List ℕ) → ends kind bs ≡ kind_of (47 ∷ bs)) → ⊥
no_slash kind h = absurd (let no : None ≡ gap = h (47 ∷ []) in cc)

begins_slash : (b : ℕ) (rest : List ℕ) → opens_comment (b ∷ rest) ≡ true → b ≡ 47
begins_slash b [] h = absurd cc
begins_slash b (c ∷ rest) h = eqb-true b 47 (first (b == 47) _ h)
  where
    first : (x y : Bool) → x && y ≡ true → x ≡ true
    first true y h = refl
    first false y h = absurd cc

-- a byte that no byte may follow is a piece
pub whole_piece : (b : ℕ) (rest : List ℕ) (kind : PieceKind)
    → ((bs : List ℕ) → ends kind bs ≡ kind_of (b ∷ bs)) → IsPiece (b ∷ rest) kind 1
whole_piece b rest kind h = record {
  within = omega arith;
  one = sym (h []);
  longest = longest rest;
  no_comment = λ opens. absurd (no_slash kind
      (subst (λ x. (bs : List ℕ) → ends kind bs ≡ kind_of (x ∷ bs)) (begins_slash b rest opens) h));
}
  where
    longest : (rest : List ℕ) (n : ℕ) → 1 < n → n ≤ suc (length rest) → kind_of (take n (b ∷ rest)) ≡ None
    longest rest zero lt le = absurd (omega (arith, lt))
    longest rest (suc zero) lt le = absurd (omega (arith, lt))
    longest [] (suc (suc n)) lt le = absurd (omega (arith, le))
    longest (c ∷ rest) (suc (suc n)) lt le = sym (h (c ∷ take n rest))

module _ (class : ℕ → Bool) (k : PieceKind) where
  run_took : (bs : List ℕ) → run class k (take (run_len class bs) bs) ≡ Some k
  run_took [] = refl
  run_took (b ∷ bs) = at (class b) refl (run_took bs)
    where
      at : (c : Bool) → class b ≡ c → run class k (take (run_len class bs) bs) ≡ Some k
          → run class k (take (cond c (suc (run_len class bs)) 0) (b ∷ bs)) ≡ Some k
      at true e h = cond-true (class b) (run class k (take (run_len class bs) bs)) None e ∙ h
      at false e h = refl

  run_stops : (bs : List ℕ) (m : ℕ) → run_len class bs < m → m ≤ length bs → run class k (take m bs) ≡ None
  run_stops [] m lt le = absurd (omega (arith, lt, le))
  run_stops (b ∷ bs) zero lt le = absurd (omega (arith, lt))
  run_stops (b ∷ bs) (suc m) lt le =
      at (class b) refl (λ shorter. run_stops bs m shorter (omega (arith, le))) lt
    where
      at : (c : Bool) → class b ≡ c → (run_len class bs < m → run class k (take m bs) ≡ None)
          → cond c (suc (run_len class bs)) 0 < suc m → run class k (take (suc m) (b ∷ bs)) ≡ None
      at true e h lt = cond-true (class b) (run class k (take m bs)) None e ∙ h (omega (arith, lt))
      at false e h lt = cond-false (class b) (run class k (take m bs)) None e

pub run_len_le : (class : ℕ → Bool) (bs : List ℕ) → run_len class bs ≤ length bs
run_len_le class [] = omega arith
run_len_le class (b ∷ bs) = at (class b) (run_len_le class bs)
  where
    at : (c : Bool) → run_len class bs ≤ length bs → cond c (suc (run_len class bs)) 0 ≤ suc (length bs)
    at true h = omega (arith, h)
    at false h = omega arith

-- a run from the n-th byte on: one more byte, or its end
pub run_more : (class : ℕ → Bool) (text : List ℕ) (n : ℕ) → n < length text → class (get_or text n 0) ≡ true
    → run_len class (drop n text) ≡ suc (run_len class (drop (suc n) text))
run_more class [] n lt h = absurd (omega (arith, lt))
run_more class (b ∷ bs) zero lt h = cond-true (class b) (suc (run_len class bs)) 0 h
run_more class (b ∷ bs) (suc n) lt h = run_more class bs n (omega (arith, lt)) h

pub run_ended : (class : ℕ → Bool) (text : List ℕ) (n : ℕ) → n < length text
    → class (get_or text n 0) ≡ false → run_len class (drop n text) ≡ 0
run_ended class [] n lt h = absurd (omega (arith, lt))
run_ended class (b ∷ bs) zero lt h = cond-false (class b) (suc (run_len class bs)) 0 h
run_ended class (b ∷ bs) (suc n) lt h = run_ended class bs n (omega (arith, lt)) h

pub run_out : (class : ℕ → Bool) (text : List ℕ) (n : ℕ) → length text ≤ n → run_len class (drop n text) ≡ 0
run_out class [] zero h = refl
run_out class [] (suc n) h = refl
run_out class (b ∷ bs) zero h = absurd (omega (arith, h))
run_out class (b ∷ bs) (suc n) h = run_out class bs n (omega (arith, h))

no_slash_word : ((bs : List ℕ) → run in_name (Is Word) bs ≡ kind_of (47 ∷ bs)) → ⊥
no_slash_word h = absurd (let no : None ≡ gap = h (47 ∷ []) in cc)

-- a byte that begins a word, and the bytes of names after it, are a piece
pub word_piece : (b : ℕ) (rest : List ℕ) → ((bs : List ℕ) → run in_name (Is Word) bs ≡ kind_of (b ∷ bs))
    → IsPiece (b ∷ rest) (Is Word) (suc (run_len in_name rest))
word_piece b rest h = record {
  within = let le = run_len_le in_name rest in omega (arith, le);
  one = sym (h (take (run_len in_name rest) rest)) ∙ run_took in_name (Is Word) rest;
  longest = longest;
  no_comment = λ opens. absurd (no_slash_word (subst (λ x. (bs : List ℕ)
      → run in_name (Is Word) bs ≡ kind_of (x ∷ bs)) (begins_slash b rest opens) h));
}
  where
    longest : (n : ℕ) → suc (run_len in_name rest) < n
        → n ≤ suc (length rest) → kind_of (take n (b ∷ rest)) ≡ None
    longest zero lt le = absurd (omega (arith, lt))
    longest (suc n) lt le = sym (h (take n rest))
        ∙ run_stops in_name (Is Word) rest n (omega (arith, lt)) (omega (arith, le))

-- the same for a text with a byte
pub whole_at : (text : List ℕ) (kind : PieceKind) → 1 ≤ length text
    → ((bs : List ℕ) → ends kind bs ≡ kind_of (get_or text 0 0 ∷ bs)) → IsPiece text kind 1
whole_at [] kind some h = absurd (omega (arith, some))
whole_at (b ∷ rest) kind some h = whole_piece b rest kind h

pub word_at : (text : List ℕ) (n : ℕ) → 1 ≤ length text
    → ((bs : List ℕ) → run in_name (Is Word) bs ≡ kind_of (get_or text 0 0 ∷ bs))
    → n ≡ run_len in_name (drop 1 text) → IsPiece text (Is Word) (1 + n)
word_at [] n some h is = absurd (omega (arith, some))
word_at (b ∷ rest) n some h is = subst (λ len. IsPiece (b ∷ rest) (Is Word) len)
    (let e : suc (run_len in_name rest) ≡ 1 + n = omega (arith, is) in e) (word_piece b rest h)

-- a text that begins with a blank
pub blank_at : (text : List ℕ) → 1 ≤ length text → is_blank (get_or text 0 0) ≡ true → IsPiece text Gap 1
blank_at text some blank =
    whole_at text Gap some (λ bs. sym (cond-true (is_blank (get_or text 0 0)) (ends Gap bs) _ blank))

-- a text that begins with a word
pub name_at : (text : List ℕ) (n : ℕ) → 1 ≤ length text → is_blank (get_or text 0 0) ≡ false
    → begins_name (get_or text 0 0) ≡ true → n ≡ run_len in_name (drop 1 text)
    → IsPiece text (Is Word) (1 + n)
name_at text n some no_blank begins is = word_at text n some (λ bs. sym (
    cond-false (is_blank (get_or text 0 0)) (ends Gap bs) _ no_blank
    ∙ cond-true (begins_name (get_or text 0 0)) (run in_name (Is Word) bs) _ begins
    )) is
