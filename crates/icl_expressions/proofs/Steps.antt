-- One round of a loop that reads parts.
use Rattle.std.proofs.Common.{◌≡◌, ◌<◌, ◌≤◌, ℕ, zero, suc, Bool, true, false, cond, List, [], ◌∷◌, ◌++◌}
use Rattle.std.proofs.Common.{length, Result, Ok, Err, refl, sym, ap, ◌∙◌, arith, length-append}
use Rattle.ij_text.specs.Reading.{Stop as Unfit, read_on, read_parts, read_repeat}
use Rattle.ij_text.proofs.Combinators.{Reads, ok_is, err_is}
use Rattle.ij_text.specs.declared.Place.{Place}
use Rattle.icl_lexer.specs.declared.words.Limit.{Limit}
use Rattle.icl_lexer.specs.Seen.{SeenToken}
use Rattle.icl_lexer.specs.Grammar.{Of}
use Rattle.icl_expressions.specs.declared.stop.ReadStop.{ReadStop}
use Rattle.icl_expressions.specs.declared.stop.ReadStop.TheVariants.{Memory, At}
use Rattle.icl_expressions.specs.Seen.{Fails}
use Rattle.icl_expressions.specs.Reading.{Reading, Shrinks, begins, gives, read_put, read_mark, read_after}
use Rattle.icl_expressions.proofs.Symbols.{mark_reads}

abbrev pub Outcome : Type 0 → Type 0
Outcome A = Result (A × List SeenToken) (Unfit Limit)

-- a part that was put into a state, and what is read from there
put_ok : {A S : Type 0} (make : A → S) (f : S → List SeenToken
    → Outcome S) (o : Outcome A) (x : S × List SeenToken) → read_on (λ a. gives (make a)) o ≡ Ok x
    → read_on (λ a rest. f (make a) rest) o ≡ f x.0 x.1
put_ok {A} {S} make f (Ok y) x h = ap (λ (z : S × List SeenToken). f z.0 z.1)
    (ok_is {A = S × List SeenToken} {E = Unfit Limit} (make y.0, y.1) x h)
put_ok make f (Err n) x h = absurd cc

abbrev pub failed : {A : Type 0} → Unfit Limit → Outcome A
failed n = Err n

put_err : {A S T : Type 0} (make : A → S) (f : S → List SeenToken → Outcome T) (o : Outcome A)
    (stop : ReadStop)
    → Fails stop (read_on (λ a. gives (make a)) o) → Fails stop (read_on (λ a rest. f (make a) rest) o)
put_err make f o Memory h = tt
put_err make f (Ok y) (At n why) h = absurd cc
put_err {A} {S} {T} make f (Err m) (At n why) h = ap (λ (k : Unfit Limit). failed {A = T} k)
    (err_is {A = S × List SeenToken} {E = Unfit Limit} m (n, why) h)

-- where a part isn't read, what follows isn't either
pub fails_on : {A B : Type 0} (f : A → Reading B) (stop : ReadStop) (o : Outcome A)
    → Fails stop o → Fails stop (read_on f o)
fails_on f Memory o h = tt
fails_on {A} {B} f (At n why) (Ok y) h = absurd cc
fails_on {A} {B} f (At n why) (Err m) h = ap (λ (k : Unfit Limit). failed {A = B} k)
    (err_is {A = A × List SeenToken} {E = Unfit Limit} m (n, why) h)

-- ---- parts take tokens

-- what reads a symbol of one token at least takes one
pub reads_shrink : {A : Type 0} {S : Of A} {first more : SeenToken → Bool} {r : Reading A}
    → Reads S first more false r → Shrinks r
reads_shrink {A} {S} {first} {more} {r} law ts rest a h = by_front (law.sound ts rest a h)
  where
    by_front : (front : List SeenToken) × (ts ≡ front ++ rest) × (S.derives front a) → length rest < length ts
    by_front ([], e, d) = let no : false ≡ true = law.nulls a d in absurd cc
    by_front (t ∷ front, e, d) =
        let k : length ts ≡ suc (length (front ++ rest)) = ap length e in
        omega (arith, k, length-append front rest)

-- a part after a mark
pub after_shrinks : {A : Type 0} (c : ℕ) (r : Reading A) → Shrinks r → Shrinks (read_after c r)
after_shrinks {A} c r shrinks ts rest a h = by_mark (read_mark c ts) refl h
  where
    by_mark : (o : Outcome Place) → read_mark c ts ≡ o
        → read_on (λ m. r) o ≡ Ok (a, rest) → length rest < length ts
    by_mark (Ok x) e h =
        let mark : length x.1 < length ts = reads_shrink (mark_reads c) ts x.1 x.0 e in
        let part : length rest < length x.1 = shrinks x.1 rest a h in omega (arith, mark, part)
    by_mark (Err n) e h = absurd cc

-- ---- rounds

module _ {A S : Type 0} (next : S → A → S) (first : SeenToken → Bool) (r : S
    → Reading A) (shrinks : (s : S) → Shrinks (r s)) where
  abbrev parts : S → Reading S
  parts s ts = read_repeat first r next s ts

  same_on : (f g : A → Reading S) (o : Outcome A)
      → ((a : A) (rest : List SeenToken) → o ≡ Ok (a, rest) → f a rest ≡ g a rest) → read_on f o ≡ read_on g o
  same_on f g (Ok x) again = again x.0 x.1 refl
  same_on f g (Err n) again = refl

  -- any fuel does that is at least the number of tokens
  fuel : (n m : ℕ) (s : S) (ts : List SeenToken) → length ts ≤ n → length ts ≤ m
      → read_parts first r next n s ts ≡ read_parts first r next m s ts
  fuel zero zero s ts h k = refl
  fuel zero (suc m) s [] h k = refl
  fuel zero (suc m) s (t ∷ ts) h k = absurd (omega (arith, h))
  fuel (suc n) zero s [] h k = refl
  fuel (suc n) zero s (t ∷ ts) h k = absurd (omega (arith, k))
  fuel (suc n) (suc m) s [] h k = refl
  fuel (suc n) (suc m) s (t ∷ ts) h k =
      ap (λ o. cond (first t) o (Ok (s, t ∷ ts)))
      (same_on (λ a rest. read_parts first r next n (next s a) rest)
      (λ a rest. read_parts first r next m (next s a) rest) (r s (t ∷ ts))
      (λ a rest e. let less : length rest < suc (length ts) = shrinks s (t ∷ ts) rest a e in
      fuel n m (next s a) rest (omega (arith, less, h)) (omega (arith, less, k))))

  round : (s : S) (t : SeenToken) (ts : List SeenToken) → first t ≡ true
      → parts s (t ∷ ts) ≡ read_on (λ a rest. parts (next s a) rest) (r s (t ∷ ts))
  round s t ts h =
      ap (λ b. cond b (read_on (λ a rest. read_parts first r next (length ts) (next s a) rest) (r s (t ∷ ts)))
      (Ok (s, t ∷ ts))) h
      ∙ same_on (λ a rest. read_parts first r next (length ts) (next s a) rest)
      (λ a rest. parts (next s a) rest) (r s (t ∷ ts))
      (λ a rest e. let less : length rest < suc (length ts) = shrinks s (t ∷ ts) rest a e in
      fuel (length ts) (length rest) (next s a) rest (omega (arith, less)) (omega arith))

  pub go_on : (s : S) (ts : List SeenToken) (x : S × List SeenToken) → begins first ts ≡ true
      → read_put (r s) next s ts ≡ Ok x → parts x.0 x.1 ≡ parts s ts
  go_on s [] x h e = absurd cc
  go_on s (t ∷ ts) x h e = sym (round s t ts h ∙ put_ok (λ a. next s a) parts (r s (t ∷ ts)) x e)

  pub round_fails : (s : S) (ts : List SeenToken) (stop : ReadStop) → begins first ts ≡ true
      → Fails stop (read_put (r s) next s ts) → Fails stop (parts s ts)
  round_fails s [] stop h k = absurd cc
  round_fails s (t ∷ ts) Memory h k = tt
  round_fails s (t ∷ ts) (At n why) h k =
      round s t ts h ∙ put_err (λ a. next s a) parts (r s (t ∷ ts)) (At n why) k

  pub ends : (s : S) (ts : List SeenToken) → begins first ts ≡ false → parts s ts ≡ Ok (s, ts)
  ends s [] h = refl
  ends s (t ∷ ts) h = rw h refl
