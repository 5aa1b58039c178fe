-- Runs of bytes, pieces and words.
use Rattle.std.proofs.Common.{◌≡◌, ℕ, suc, ◌≤◌, Bool, true, false, not, cond, List, [], ◌∷◌, length, take}
use Rattle.std.proofs.Common.{drop, get_or, refl, ap, sym, ◌∙◌, arith}
use Rattle.std.specs.Prelude.{◌==◌, ◌||◌}
use Rattle.ij_text.specs.Bytes.{is_line_blank}
use Rattle.ij_text.specs.Parts.{before, longer, split}
use Rattle.table_lines.specs.declared.bytes.Class.{Class}
use Rattle.table_lines.specs.declared.bytes.Class.TheVariants.{Blank, Word, Shown, Until}
use Rattle.table_lines.specs.Lines.{without_comment, is_mark, in_word, goes_on, words, blanks}
use Rattle.table_lines.specs.Reading.{in_class, run_length}

-- ---- one byte more

pub run_on : (class : Class) (text rest : List ℕ) (b : ℕ) → text ≡ b ∷ rest → in_class class b ≡ true
    → run_length class text ≡ suc (run_length class rest)
run_on class text rest b is goes =
    ap (run_length class) is ∙ ap (λ k. cond k (suc (run_length class rest)) 0) goes

pub run_stops : (class : Class) (text rest : List ℕ) (b : ℕ) → text ≡ b ∷ rest
    → in_class class b ≡ false → run_length class text ≡ 0
run_stops class text rest b is stops =
    ap (run_length class) is ∙ ap (λ k. cond k (suc (run_length class rest)) 0) stops

-- ---- pieces

abbrev after : ℕ → List ℕ → List (List ℕ)
after at [] = []
after at (c ∷ more) = split at more

split_byte : (at b : ℕ) (bs : List ℕ) (same : Bool) → (b == at) ≡ same
    → split at bs ≡ take (run_length (Until at) bs) bs ∷ after at (drop (run_length (Until at) bs) bs)
    → split at (b ∷ bs) ≡ take (run_length (Until at) (b ∷ bs)) (b ∷ bs)
    ∷ after at (drop (run_length (Until at) (b ∷ bs)) (b ∷ bs))
split_byte at b bs true is more =
    ap (λ k. cond k ([] ∷ split at bs) (before b (split at bs))) is
    ∙ sym (ap (λ k. take (cond (not k) (suc (run_length (Until at) bs)) 0) (b ∷ bs)
    ∷ after at (drop (cond (not k) (suc (run_length (Until at) bs)) 0) (b ∷ bs))) is)
split_byte at b bs false is more =
    ap (λ k. cond k ([] ∷ split at bs) (before b (split at bs))) is
    ∙ ap (before b) more
    ∙ sym (ap (λ k. take (cond (not k) (suc (run_length (Until at) bs)) 0) (b ∷ bs)
    ∷ after at (drop (cond (not k) (suc (run_length (Until at) bs)) 0) (b ∷ bs))) is)

split_run : (at : ℕ) (text : List ℕ) → split at text
    ≡ take (run_length (Until at) text) text ∷ after at (drop (run_length (Until at) text) text)
split_run at [] = refl
split_run at (b ∷ bs) = split_byte at b bs (b == at) refl (split_run at bs)

pub last_piece : (at : ℕ) (text : List ℕ) (n : ℕ) → n ≡ run_length (Until at) text
    → drop n text ≡ [] → split at text ≡ take n text ∷ []
last_piece at text n is none =
    split_run at text ∙ ap (λ k. take k text ∷ after at (drop k text)) (sym is)
    ∙ ap (λ r. take n text ∷ after at r) none

after_one : (at : ℕ) (rest : List ℕ) → 1 ≤ length rest → after at rest ≡ split at (drop 1 rest)
after_one at [] some = absurd (omega (arith, some))
after_one at (c ∷ more) some = refl

pub first_piece : (at : ℕ) (text : List ℕ) (n : ℕ) → n ≡ run_length (Until at) text → 1 ≤ length (drop n text)
    → split at text ≡ take n text ∷ split at (drop 1 (drop n text))
first_piece at text n is some =
    split_run at text ∙ ap (λ k. take k text ∷ after at (drop k text)) (sym is)
    ∙ ap (λ r. take n text ∷ r) (after_one at (drop n text) some)

-- ---- comments and blanks

shown_byte : (b : ℕ) (bs : List ℕ) (k : Bool) → without_comment bs ≡ take (run_length Shown bs) bs
    → cond k [] (b ∷ without_comment bs) ≡ take (cond (not k) (suc (run_length Shown bs)) 0) (b ∷ bs)
shown_byte b bs true e = refl
shown_byte b bs false e = ap (λ r. b ∷ r) e

pub shown_is : (text : List ℕ) → without_comment text ≡ take (run_length Shown text) text
shown_is [] = refl
shown_is (b ∷ bs) = shown_byte b bs (b == 35) (shown_is bs)

pub blanks_are : (text : List ℕ) → blanks text ≡ run_length Blank text
blanks_are [] = refl
blanks_are (b ∷ bs) = ap (λ n. cond (is_line_blank b) (suc n) 0) (blanks_are bs)

blank_byte : (b : ℕ) (bs : List ℕ) (k : Bool) (other : List (List ℕ))
    → words bs ≡ words (drop (run_length Blank bs) bs) → is_line_blank b ≡ k
    → cond k (words bs) other ≡ words (b ∷ bs)
    → words (b ∷ bs) ≡ words (drop (cond k (suc (run_length Blank bs)) 0) (b ∷ bs))
blank_byte b bs true other e is whole = sym whole ∙ e
blank_byte b bs false other e is whole = refl

pub after_blanks_is : (text : List ℕ) → words text ≡ words (drop (run_length Blank text) text)
after_blanks_is [] = refl
after_blanks_is (b ∷ bs) =
    blank_byte b bs (is_line_blank b) (cond (is_mark b) ((b ∷ []) ∷ words bs)
    (longer (goes_on bs) b (words bs))) (after_blanks_is bs) refl refl

blanks_end : (b : ℕ) (bs : List ℕ) (k : Bool) → is_line_blank b ≡ k
    → run_length Blank (drop (run_length Blank bs) bs) ≡ 0
    → run_length Blank (drop (cond k (suc (run_length Blank bs)) 0) (b ∷ bs)) ≡ 0
blanks_end b bs true is more = more
blanks_end b bs false is more = ap (λ k. cond k (suc (run_length Blank bs)) 0) is

pub no_more_blanks : (text : List ℕ) → run_length Blank (drop (run_length Blank text) text) ≡ 0
no_more_blanks [] = refl
no_more_blanks (b ∷ bs) = blanks_end b bs (is_line_blank b) refl (no_more_blanks bs)

-- ---- words

pub of_word : {A : Type 0} (x y : Bool) (p q r : A) → not (x || y) ≡ true → cond x p (cond y q r) ≡ r
of_word true y p q r h = absurd (cc)
of_word false true p q r h = absurd (cc)
of_word false false p q r h = refl

abbrev Begins : List ℕ → Type 0
Begins text = words text ≡ take (run_length Word text) text ∷ words (drop (run_length Word text) text)

-- a byte before another one
next_byte : (b c : ℕ) (cs : List ℕ) (k : Bool) → in_word c ≡ k → in_word b ≡ true
    → words (b ∷ c ∷ cs) ≡ longer (in_word c) b (words (c ∷ cs))
    → (in_word c ≡ true → Begins (c ∷ cs)) → Begins (b ∷ c ∷ cs)
next_byte b c cs true is h first more =
    let n = run_length Word (c ∷ cs) in
    first ∙ ap (λ k. longer k b (words (c ∷ cs))) is ∙ ap (longer true b) (more is)
    ∙ sym (ap (λ k. take (cond k (suc n) 0) (b ∷ c ∷ cs) ∷ words (drop (cond k (suc n) 0) (b ∷ c ∷ cs))) h)
next_byte b c cs false is h first more =
    let n = run_length Word (c ∷ cs) in
    let stops : n ≡ 0 = ap (λ k. cond k (suc (run_length Word cs)) 0) is in
    first ∙ ap (λ k. longer k b (words (c ∷ cs))) is
    ∙ sym (ap (λ k. take (cond k (suc n) 0) (b ∷ c ∷ cs) ∷ words (drop (cond k (suc n) 0) (b ∷ c ∷ cs))) h
    ∙ ap (λ m. (b ∷ take m (c ∷ cs)) ∷ words (drop m (c ∷ cs))) stops)

begins : (b : ℕ) (bs : List ℕ) → in_word b ≡ true → Begins (b ∷ bs)
begins b [] h =
    of_word (is_line_blank b) (is_mark b) (words []) ((b ∷ []) ∷ words []) (longer false b (words [])) h
    ∙ sym (ap (λ k. take (cond k 1 0) (b ∷ []) ∷ words (drop (cond k 1 0) (b ∷ []))) h)
begins b (c ∷ cs) h =
    next_byte b c cs (in_word c) refl h (of_word (is_line_blank b) (is_mark b) (words (c ∷ cs))
    ((b ∷ []) ∷ words (c ∷ cs)) (longer (in_word c) b (words (c ∷ cs))) h) (λ e. begins c cs e)

no_suc : (k : Bool) (n : ℕ) → cond k (suc n) 0 ≡ 0 → k ≡ false
no_suc true n e = absurd (cc)
no_suc false n e = refl

neither : (x y : Bool) → x ≡ false → y ≡ false → not (x || y) ≡ true
neither true y e f = absurd (cc)
neither false true e f = absurd (cc)
neither false false e f = refl

-- a word that is no mark, after all blanks
pub word_front : (text : List ℕ) (n : ℕ) → 1 ≤ length text → run_length Blank text ≡ 0
    → is_mark (get_or text 0 0) ≡ false → n ≡ run_length Word text
    → words text ≡ take n text ∷ words (drop n text)
word_front [] n some no_blank no_mark long = absurd (omega (arith, some))
word_front (x ∷ xs) n some no_blank no_mark long =
    begins x xs (neither (is_line_blank x) (is_mark x)
    (no_suc (is_line_blank x) (run_length Blank xs) no_blank) no_mark)
    ∙ ap (λ k. take k (x ∷ xs) ∷ words (drop k (x ∷ xs))) (sym long)
