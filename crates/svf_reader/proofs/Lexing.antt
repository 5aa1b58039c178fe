-- Gaps and words at the front of a text.
use Rattle.std.proofs.Common.{◌≡◌, ℕ, zero, suc, ◌+◌, ◌<◌, ◌≤◌, Bool, true, false, not, cond, List, [], ◌∷◌}
use Rattle.std.proofs.Common.{length, take, drop, refl, ap, sym, ◌∙◌, subst, arith, get_or}
use Rattle.std.specs.Prelude.{◌==◌, ◌&&◌, ◌||◌}
use Rattle.std.proofs.lemmas.List.{drop_more}
use Rattle.std.proofs.lemmas.Bool.Decides.{nat_tests}
use Rattle.svf_reader.specs.declared.bytes.Class.{Class}
use Rattle.svf_reader.specs.declared.bytes.Class.TheVariants.{Gap, Word, Run}
use Rattle.ij_text.specs.Bytes.{is_blank}
use Rattle.ij_text.specs.Parts.{longer}
use Rattle.svf_reader.specs.Texts.{first, in_comment, plain_from, plain, is_parenthesis, is_any, in_word}
use Rattle.svf_reader.specs.Texts.{goes_on}
use Rattle.svf_reader.specs.Texts.{cut, after_bytes, after_word}
use Rattle.svf_reader.specs.Reading.{in_class, run_length, word_length, words_of, runs_of}

-- ---- one step of a run

pub run_on : (class : Class) (inside hidden : Bool) (text rest : List ℕ) (b : ℕ) → text ≡ b ∷ rest
    → hidden ≡ in_comment inside b (first rest) → in_class class hidden b ≡ true
    → run_length class inside text ≡ suc (run_length class hidden rest)
run_on class inside hidden text rest b e h t =
    ap (run_length class inside) e
    ∙ ap (λ k. cond (in_class class k b) (suc (run_length class k rest)) 0) (sym h)
    ∙ ap (λ k. cond k (suc (run_length class hidden rest)) 0) t

pub run_stops : (class : Class) (inside hidden : Bool) (text rest : List ℕ) (b : ℕ) → text ≡ b ∷ rest
    → hidden ≡ in_comment inside b (first rest)
    → in_class class hidden b ≡ false → run_length class inside text ≡ 0
run_stops class inside hidden text rest b e h t =
    ap (run_length class inside) e
    ∙ ap (λ k. cond (in_class class k b) (suc (run_length class k rest)) 0) (sym h)
    ∙ ap (λ k. cond k (suc (run_length class hidden rest)) 0) t

-- the bytes from an index on, where a byte is there
pub byte_there : (text : List ℕ) (n b : ℕ) → n < length text
    → b ≡ first (drop n text) → drop n text ≡ b ∷ drop (n + 1) text
byte_there text n b within is =
    let more = drop_more text n 0 within in
    let byte : get_or text n 0 ≡ b = sym (is ∙ ap first more) in
    more ∙ ap (λ (x : ℕ). x ∷ drop (n + 1) text) byte

-- ---- gaps

ends_a_line : (b : ℕ) → not (b == 10) ≡ false → is_blank b ≡ true
ends_a_line b h = grind (arith, nat_tests)

-- what skips blanks skips a gap
module _ (A : Type 0) (f : List ℕ → A) (skips : (b : ℕ) (bs : List ℕ)
    → is_blank b ≡ true → f (b ∷ bs) ≡ f bs) where
  gap_at : (inside : Bool) (b : ℕ) (bs : List ℕ) (h k : Bool)
      → in_comment inside b (first bs) ≡ h → is_blank b ≡ k
      → f (plain_from true bs) ≡ f (plain (drop (run_length Gap true bs) bs))
      → f (plain_from false bs) ≡ f (plain (drop (run_length Gap false bs) bs))
      → f (plain_from inside (b ∷ bs)) ≡ f (plain (drop (run_length Gap inside (b ∷ bs)) (b ∷ bs)))
  gap_at inside b bs true k eh ek at_true at_false =
      subst (λ h. f (cond h 32 b ∷ plain_from h bs)
      ≡ f (plain (drop (cond (h || is_blank b) (suc (run_length Gap h bs)) 0) (b ∷ bs)))) (sym eh)
      (skips 32 (plain_from true bs) refl ∙ at_true)
  gap_at inside b bs false true eh ek at_true at_false =
      subst (λ h. f (cond h 32 b ∷ plain_from h bs)
      ≡ f (plain (drop (cond (h || is_blank b) (suc (run_length Gap h bs)) 0) (b ∷ bs)))) (sym eh)
      (subst (λ k. f (b ∷ plain bs) ≡ f (plain (drop (cond k (suc (run_length Gap false bs)) 0) (b ∷ bs))))
      (sym ek) (skips b (plain bs) ek ∙ at_false))
  gap_at true b bs false false eh ek at_true at_false = absurd (let e = ends_a_line b eh in cc)
  gap_at false b bs false false eh ek at_true at_false =
      let none : run_length Gap false (b ∷ bs)
      ≡ 0 = ap (λ h. cond (h || is_blank b) (suc (run_length Gap h bs)) 0) eh
      ∙ ap (λ k. cond k (suc (run_length Gap false bs)) 0) ek in
      ap (λ n. f (plain (drop n (b ∷ bs)))) (sym none)

  pub gap_skipped : (inside : Bool) (text : List ℕ)
      → f (plain_from inside text) ≡ f (plain (drop (run_length Gap inside text) text))
  gap_skipped inside [] = refl
  gap_skipped inside (b ∷ bs) = gap_at inside b bs (in_comment inside b (first bs)) (is_blank b) refl refl
      (gap_skipped true bs) (gap_skipped false bs)

pub gap_words : (alone : ℕ → Bool) (inside : Bool) (text : List ℕ)
    → cut alone (plain_from inside text) ≡ cut alone (plain (drop (run_length Gap inside text) text))
gap_words alone inside text =
    gap_skipped (List (List ℕ)) (cut alone) (λ b bs e. ap (λ k. cond k (cut alone bs) (cond (alone b)
    ((b ∷ []) ∷ cut alone bs) (longer (goes_on alone bs) b (cut alone bs)))) e) inside text

-- after a gap no gap begins
gap_stops_at : (inside : Bool) (b : ℕ) (bs : List ℕ) (h k : Bool)
    → in_comment inside b (first bs) ≡ h → is_blank b ≡ k
    → run_length Gap false (drop (run_length Gap true bs) bs) ≡ 0
    → run_length Gap false (drop (run_length Gap false bs) bs) ≡ 0
    → run_length Gap false (drop (run_length Gap inside (b ∷ bs)) (b ∷ bs)) ≡ 0
gap_stops_at inside b bs true k eh ek at_true at_false =
    subst (λ h. run_length Gap false (drop (cond (h || is_blank b) (suc (run_length Gap h bs)) 0) (b ∷ bs))
    ≡ 0) (sym eh) at_true
gap_stops_at inside b bs false true eh ek at_true at_false =
    subst (λ h. run_length Gap false (drop (cond (h || is_blank b) (suc (run_length Gap h bs)) 0) (b ∷ bs))
    ≡ 0) (sym eh)
    (subst (λ k. run_length Gap false (drop (cond k (suc (run_length Gap false bs)) 0) (b ∷ bs)) ≡ 0)
    (sym ek) at_false)
gap_stops_at true b bs false false eh ek at_true at_false = absurd (let e = ends_a_line b eh in cc)
gap_stops_at false b bs false false eh ek at_true at_false =
    let none : run_length Gap false (b ∷ bs)
    ≡ 0 = ap (λ h. cond (h || is_blank b) (suc (run_length Gap h bs)) 0) eh
    ∙ ap (λ k. cond k (suc (run_length Gap false bs)) 0) ek in
    ap (λ n. run_length Gap false (drop n (b ∷ bs))) none ∙ none

pub gap_stops : (inside : Bool) (text : List ℕ)
    → run_length Gap false (drop (run_length Gap inside text) text) ≡ 0
gap_stops inside [] = refl
gap_stops inside (b ∷ bs) = gap_stops_at inside b bs (in_comment inside b (first bs)) (is_blank b) refl refl
    (gap_stops true bs) (gap_stops false bs)

-- where no gap begins the first byte is neither in a comment nor blank
pub no_gap : (b : ℕ) (bs : List ℕ) (h k : Bool) → in_comment false b (first bs) ≡ h → is_blank b ≡ k
    → run_length Gap false (b ∷ bs) ≡ 0 → (h ≡ false) × (k ≡ false)
no_gap b bs true k eh ek none =
    absurd (let e = ap (λ h. cond (h || is_blank b) (suc (run_length Gap h bs)) 0) (sym eh) ∙ none in cc)
no_gap b bs false true eh ek none =
    absurd (let e = ap (λ k. cond k (suc (run_length Gap false bs)) 0) (sym ek)
    ∙ ap (λ h. cond (h || is_blank b) (suc (run_length Gap h bs)) 0) (sym eh) ∙ none in cc)
no_gap b bs false false eh ek none = (refl, refl)

-- ---- words

module _ (class : Class) (alone : ℕ → Bool) (of_word : (h : Bool) (b : ℕ)
    → in_class class h b ≡ (not h && in_word alone b)) where
  -- whether the first word goes on
  goes_at : (b : ℕ) (bs : List ℕ) (h k : Bool) → in_comment false b (first bs) ≡ h → in_word alone b ≡ k
      → (n : ℕ) → run_length class false (b ∷ bs) ≡ n → (n ≡ 0 → goes_on alone (plain (b ∷ bs)) ≡ false)
      × ((m : ℕ) → n ≡ suc m → goes_on alone (plain (b ∷ bs)) ≡ true)
  goes_at b bs true k eh ek n en =
      let run : run_length class false (b ∷ bs)
      ≡ 0 = run_stops class false true (b ∷ bs) bs b refl (sym eh) (of_word true b) in (
        (λ z. ap (λ h. in_word alone (cond h 32 b)) eh),
        (λ m e. absurd (let f : 0 ≡ suc m = sym run ∙ en ∙ e in cc)),
      )
  goes_at b bs false true eh ek n en =
      let run : run_length class false (b ∷ bs) ≡ suc (run_length class false bs) =
      run_on class false false (b ∷ bs) bs b refl (sym eh) (of_word false b ∙ ek) in (
        (λ z. absurd (let f : suc (run_length class false bs) ≡ 0 = sym run ∙ en ∙ z in cc)),
        (λ m e. ap (λ h. in_word alone (cond h 32 b)) eh ∙ ek),
      )
  goes_at b bs false false eh ek n en =
      let run : run_length class false (b ∷ bs)
      ≡ 0 = run_stops class false false (b ∷ bs) bs b refl (sym eh) (of_word false b ∙ ek) in (
        (λ z. ap (λ h. in_word alone (cond h 32 b)) eh ∙ ek),
        (λ m e. absurd (let f : 0 ≡ suc m = sym run ∙ en ∙ e in cc)),
      )

  goes : (text : List ℕ) (n : ℕ) → run_length class false text ≡ n
      → (n ≡ 0 → goes_on alone (plain text) ≡ false)
      × ((m : ℕ) → n ≡ suc m → goes_on alone (plain text) ≡ true)
  goes [] n e = ((λ z. refl), (λ m f. absurd (let g : 0 ≡ suc m = e ∙ f in cc)))
  goes (b ∷ bs) n e = goes_at b bs (in_comment false b (first bs)) (in_word alone b) refl refl n e

  word_byte : (b : ℕ) (k l : Bool) → is_blank b ≡ k → alone b ≡ l
      → in_word alone b ≡ true → (k ≡ false) × (l ≡ false)
  word_byte b true l ek el w = absurd (let e = ap (λ k. not (k || alone b)) (sym ek) ∙ w in cc)
  word_byte b false true ek el w =
      absurd (let e = ap (λ l. not l) (sym el) ∙ ap (λ k. not (k || alone b)) (sym ek) ∙ w in cc)
  word_byte b false false ek el w = (refl, refl)

  -- a byte of a word before
  first_byte : (b : ℕ) (bs : List ℕ) → in_comment false b (first bs) ≡ false → in_word alone b ≡ true
      → cut alone (plain (b ∷ bs)) ≡ longer (goes_on alone (plain bs)) b (cut alone (plain bs))
  first_byte b bs eh ew =
      let is = word_byte b (is_blank b) (alone b) refl refl ew in
      let rest = cut alone (plain bs) in
      let more = longer (goes_on alone (plain bs)) b rest in
      ap (λ h. cut alone (cond h 32 b ∷ plain_from h bs)) eh
      ∙ ap (λ k. cond k rest (cond (alone b) ((b ∷ []) ∷ rest) more)) is.0
      ∙ ap (λ l. cond l ((b ∷ []) ∷ rest) more) is.1

  -- the test of a byte that a run goes on after
  run_byte : (b : ℕ) (bs : List ℕ) (h k : Bool) (n : ℕ) → in_comment false b (first bs) ≡ h
      → in_word alone b ≡ k → run_length class false (b ∷ bs) ≡ suc n
      → (h ≡ false) × (k ≡ true) × (run_length class false bs ≡ n)
  run_byte b bs true k n eh ek e =
      absurd (let f : 0 ≡ suc n =
      sym (run_stops class false true (b ∷ bs) bs b refl (sym eh) (of_word true b)) ∙ e in cc)
  run_byte b bs false true n eh ek e = (
    refl,
    refl,
    (let f : suc (run_length class false bs) ≡ suc n =
        sym (run_on class false false (b ∷ bs) bs b refl (sym eh) (of_word false b ∙ ek)) ∙ e in cc),
  )
  run_byte b bs false false n eh ek e =
      absurd (let f : 0 ≡ suc n =
      sym (run_stops class false false (b ∷ bs) bs b refl (sym eh) (of_word false b ∙ ek)) ∙ e in cc)

  pub run_word : (text : List ℕ) (n : ℕ) → run_length class false text ≡ suc n
      → cut alone (plain text) ≡ take (suc n) text ∷ cut alone (plain (drop (suc n) text))
  run_word [] n e = absurd (cc)
  run_word (b ∷ bs) zero e =
      let is = run_byte b bs (in_comment false b (first bs)) (in_word alone b) 0 refl refl e in
      first_byte b bs is.0 is.1
      ∙ ap (λ g. longer g b (cut alone (plain bs))) ((goes bs 0 is.2).0 refl)
  run_word (b ∷ bs) (suc m) e =
      let is = run_byte b bs (in_comment false b (first bs)) (in_word alone b) (suc m) refl refl e in
      first_byte b bs is.0 is.1
      ∙ ap (λ g. longer g b (cut alone (plain bs))) ((goes bs (suc m) is.2).1 m refl)
      ∙ ap (λ ws. longer true b ws) (run_word bs m is.2)

  -- where no gap begins, and the byte is none by itself, a word is there
  pub run_there : (text : List ℕ) → 1 ≤ length text → run_length Gap false text ≡ 0
      → alone (first text) ≡ false → (n : ℕ) × (run_length class false text ≡ suc n)
  run_there [] some none other = absurd (omega arith)
  run_there (b ∷ bs) some none other =
      let is = no_gap b bs (in_comment false b (first bs)) (is_blank b) refl refl none in
      let word : in_word alone b ≡ true = ap (λ k. not (k || alone b)) is.1 ∙ ap not other in (
        run_length class false bs,
        run_on class false false (b ∷ bs) bs b refl (sym is.0) (of_word false b ∙ word),
      )

-- a parenthesis
mark_word : (text : List ℕ) → 1 ≤ length text → run_length Gap false text ≡ 0 → is_parenthesis (first text)
    ≡ true
    → cut is_parenthesis (plain text) ≡ take 1 text ∷ cut is_parenthesis (plain (drop 1 text))
mark_word [] some none mark = absurd (omega arith)
mark_word (b ∷ bs) some none mark =
    let is = no_gap b bs (in_comment false b (first bs)) (is_blank b) refl refl none in
    let rest = cut is_parenthesis (plain bs) in
    let more = longer (goes_on is_parenthesis (plain bs)) b rest in
    ap (λ h. cut is_parenthesis (cond h 32 b ∷ plain_from h bs)) is.0
    ∙ ap (λ k. cond k rest (cond (is_parenthesis b) ((b ∷ []) ∷ rest) more)) is.1
    ∙ ap (λ l. cond l ((b ∷ []) ∷ rest) more) mark

pub record Front (text : List ℕ) (of : List ℕ → List (List ℕ)) (n : ℕ) : Type 0 where
  pub is : of text ≡ take n text ∷ of (drop n text)
  pub some : 1 ≤ n

next_word_at : (text : List ℕ) (m : Bool) (n : ℕ) → 1 ≤ length text → run_length Gap false text ≡ 0
    → is_parenthesis (first text) ≡ m → n ≡ cond m 1 (run_length Word false text) → Front text words_of n
unfolding words_of
next_word_at text true n some none mark is =
    subst (λ k. Front text words_of k) (sym is)
    (record { is = mark_word text some none mark; some = omega arith })
next_word_at text false n some none mark is =
    let there = run_there Word is_parenthesis (λ h b. refl) text some none mark in
    subst (λ k. Front text words_of k) (sym (is ∙ there.1))
    (record { is = run_word Word is_parenthesis (λ h b. refl) text there.0 there.1; some = omega arith })

pub next_word_is : (text : List ℕ) (n : ℕ) → 1 ≤ length text → run_length Gap false text ≡ 0
    → n ≡ word_length text → Front text words_of n
next_word_is text n some none is = next_word_at text (is_parenthesis (first text)) n some none refl is

pub next_run_is : (text : List ℕ) (n : ℕ) → 1 ≤ length text → run_length Gap false text ≡ 0
    → n ≡ run_length Run false text → Front text runs_of n
unfolding runs_of
next_run_is text n some none is =
    let there = run_there Run is_any (λ h b. refl) text some none refl in
    subst (λ k. Front text runs_of k) (sym (is ∙ there.1))
    (record { is = run_word Run is_any (λ h b. refl) text there.0 there.1; some = omega arith })

pub word_gap : (text : List ℕ) → words_of text ≡ words_of (drop (run_length Gap false text) text)
unfolding words_of
word_gap text = gap_words is_parenthesis false text

pub run_gap : (text : List ℕ) → runs_of text ≡ runs_of (drop (run_length Gap false text) text)
unfolding runs_of
run_gap text = gap_words is_any false text

pub no_words : words_of [] ≡ []
unfolding words_of
no_words = refl

pub no_runs : runs_of [] ≡ []
unfolding runs_of
no_runs = refl

-- ---- after the first word

pub skip_gap : (text : List ℕ)
    → after_word (plain text) ≡ after_word (plain (drop (run_length Gap false text) text))
skip_gap text =
    gap_skipped (List ℕ) after_word
    (λ b bs e. ap (λ k. cond k (after_word bs) (cond (is_parenthesis b) bs (after_bytes bs))) e) false text

bytes_at : (b : ℕ) (bs : List ℕ) (h k : Bool) → in_comment false b (first bs) ≡ h → in_word is_parenthesis b
    ≡ k
    → after_bytes (plain bs) ≡ plain (drop (run_length Word false bs) bs)
    → after_bytes (plain (b ∷ bs)) ≡ plain (drop (run_length Word false (b ∷ bs)) (b ∷ bs))
bytes_at b bs true k eh ek rest =
    subst (λ h. after_bytes (cond h 32 b ∷ plain_from h bs)
    ≡ plain (drop (cond (not h && in_word is_parenthesis b) (suc (run_length Word h bs)) 0) (b ∷ bs))) (sym
    eh)
    (sym (ap (λ h. cond h 32 b ∷ plain_from h bs) eh))
bytes_at b bs false true eh ek rest =
    subst (λ h. after_bytes (cond h 32 b ∷ plain_from h bs)
    ≡ plain (drop (cond (not h && in_word is_parenthesis b) (suc (run_length Word h bs)) 0) (b ∷ bs))) (sym
    eh)
    (subst (λ k. cond k (after_bytes (plain bs)) (b ∷ plain bs)
    ≡ plain (drop (cond k (suc (run_length Word false bs)) 0) (b ∷ bs))) (sym ek) rest)
bytes_at b bs false false eh ek rest =
    subst (λ h. after_bytes (cond h 32 b ∷ plain_from h bs)
    ≡ plain (drop (cond (not h && in_word is_parenthesis b) (suc (run_length Word h bs)) 0) (b ∷ bs))) (sym
    eh)
    (subst (λ k. cond k (after_bytes (plain bs)) (b ∷ plain bs)
    ≡ plain (drop (cond k (suc (run_length Word false bs)) 0) (b ∷ bs))) (sym ek)
    (sym (ap (λ h. cond h 32 b ∷ plain_from h bs) eh)))

after_bytes_is : (text : List ℕ) → after_bytes (plain text) ≡ plain (drop (run_length Word false text) text)
after_bytes_is [] = refl
after_bytes_is (b ∷ bs) =
    bytes_at b bs (in_comment false b (first bs)) (in_word is_parenthesis b) refl refl (after_bytes_is bs)

-- where no gap begins, after a mark and after a longer word
after_front : (b : ℕ) (bs : List ℕ) (m : Bool) → is_parenthesis b ≡ m → in_comment false b (first bs) ≡ false
    → is_blank b ≡ false → cond m (plain bs) (after_bytes (plain bs))
    ≡ plain (drop (cond m 1 (run_length Word false (b ∷ bs))) (b ∷ bs))
after_front b bs true em eh eb = refl
after_front b bs false em eh eb =
    let goes : run_length Word false (b ∷ bs) ≡ suc (run_length Word false bs) =
    run_on Word false false (b ∷ bs) bs b refl (sym eh) (ap (λ k. not (k || is_parenthesis b)) eb ∙ ap not
    em) in
    after_bytes_is bs ∙ ap (λ n. plain (drop n (b ∷ bs))) (sym goes)

pub after_is : (text : List ℕ) (n : ℕ) → run_length Gap false text ≡ 0 → n ≡ word_length text
    → after_word (plain text) ≡ plain (drop n text)
after_is [] n none is = ap (λ k. plain (drop k (let l : List ℕ = [] in l))) (sym is)
after_is (b ∷ bs) n none is =
    let free = no_gap b bs (in_comment false b (first bs)) (is_blank b) refl refl none in
    ap (λ h. after_word (cond h 32 b ∷ plain_from h bs)) free.0
    ∙ ap (λ k. cond k (after_word (plain bs)) (cond (is_parenthesis b) (plain bs) (after_bytes (plain bs))))
    free.1
    ∙ after_front b bs (is_parenthesis b) refl free.0 free.1
    ∙ ap (λ k. plain (drop k (b ∷ bs))) (sym is)
