-- The readers of lists of parts read their symbols.
use Rattle.std.proofs.Common.{◌≡◌, ℕ, Bool, true, false, List, [], ◌∷◌, refl}
use Rattle.std.specs.Prelude.{◌||◌}
use Rattle.ij_text.specs.Symbol.{give, ◌>>=◌, repeat, appended}
use Rattle.ij_text.specs.Reading.{read_repeat, read_in_turn}
use Rattle.ij_text.proofs.Combinators.{Reads, turn_reads, wider_reads}
use Rattle.ij_text.proofs.Laws.{repeat_reads}
use Rattle.icl_lexer.specs.Seen.{SeenToken, is_mark}
use Rattle.icl_lexer.specs.Grammar.{Of, mark, parted, ended_by}
use Rattle.icl_expressions.specs.Reading.{Reading, gives, any, no_close, read_mark, read_after, read_ended}
use Rattle.icl_expressions.specs.Reading.{more_parted, read_parted}
use Rattle.icl_expressions.proofs.Tokens.{nothing}
use Rattle.icl_expressions.proofs.Symbols.{then_reads, mark_reads, made_reads}
use Rattle.std.proofs.lemmas.Bool.{or_from}
use Rattle.ij_bits.proofs.Tests.{or_right_false}

-- ---- parts with a mark between them

pub after_reads : {A : Type 0} (c : ℕ) {S : Of A} {first more : SeenToken → Bool} {r : Reading A}
    → Reads S first more false r → Reads (mark c >>= λ m. S) (is_mark c) more false (read_after c r)
after_reads {A} c {S} {first} {more} {r} law =
    then_reads (λ m. S) first more false (λ m. r) (mark_reads c) (λ m. law) (λ t h. refl)

module _ {A : Type 0} (c : ℕ) {S : Of A} {first more : SeenToken → Bool} {r : Reading A}
    (law : Reads S first more false r) (apart : (t : SeenToken) → is_mark c t ≡ true → more t ≡ false) where
  pub more_parted_reads : (xs : List A) → Reads (repeat (λ (ys : List A). mark c >>= λ m. S) appended xs)
      (is_mark c) (λ t. is_mark c t || more t) true (more_parted c r xs)
  more_parted_reads = repeat_reads (λ (ys : List A). mark c >>= λ m. S) appended (is_mark c) more
      (λ ys. read_after c r) (λ ys. after_reads c law) apart

  pub parted_reads : Reads (parted c S) first (λ t. is_mark c t || more t) false (read_parted c r)
  parted_reads =
      wider_reads
      (then_reads (λ a. repeat (λ (xs : List A). mark c >>= λ m. S) appended (a ∷ [])) (is_mark c)
      (λ t. is_mark c t || more t) true (λ a. more_parted c r (a ∷ [])) law
      (λ a. more_parted_reads (a ∷ [])) apart)
      first (λ t. is_mark c t || more t) (λ t h. h)
      (λ t h. or_from _ _ h (or_right_false (is_mark c t) (more t) h))

-- ---- parts up to a `}`

pub closed : (t : SeenToken) → is_mark 125 t ≡ true → no_close t || false ≡ false
closed t h = rw h refl

module _ {A S : Type 0} (part : S → Of A) (next : S → A → S) (r : S → Reading A) (law : (s : S)
    → Reads (part s) no_close nothing false (r s)) where
  pub parts_reads : (s : S)
      → Reads (repeat part next s) no_close (λ t. no_close t || false) true (read_repeat no_close r next s)
  parts_reads = repeat_reads part next no_close nothing r law (λ t h. refl)

  -- parts, and what begins with their `}`
  pub parts_then_reads : {B : Type 0} (s : S) (then' : S → Of B) (rt : S → Reading B)
      → ((s : S) → Reads (then' s) (is_mark 125) nothing false (rt s)) → Reads
      (repeat part next s >>= then') any nothing false (read_in_turn (read_repeat no_close r next s) rt)
  parts_then_reads {B} s then' rt laws =
      wider_reads
      (turn_reads (repeat part next s) then' no_close (λ t. no_close t || false)
      (is_mark 125) nothing true false (read_repeat no_close r next s) rt (parts_reads s) laws closed)
      any nothing (λ t h. refl) (λ t h. refl)

-- a part before a mark
pub ended_reads : {A : Type 0} (c : ℕ) {S : Of A} {first more : SeenToken → Bool} {r : Reading A}
    → Reads S first more false r → ((t : SeenToken) → is_mark c t ≡ true → more t ≡ false)
    → Reads (ended_by c S) any nothing false (read_ended c r)
ended_reads {A} c {S} {first} {more} {r} law apart =
    wider_reads
    (then_reads (λ a. mark c >>= λ e. give a) (is_mark c) nothing false
    (λ a. read_in_turn (read_mark c) (λ e. gives a)) law (λ a. made_reads (λ e. a) (mark_reads c)) apart)
    any nothing (λ t h. refl) (λ t h. refl)
