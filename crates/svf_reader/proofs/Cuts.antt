-- A text and its first command.
use Rattle.std.proofs.Common.{◌≡◌, ℕ, zero, suc, ◌<◌, Bool, true, false, not, cond, List, [], ◌∷◌, length}
use Rattle.std.proofs.Common.{take, drop, refl, ap, sym, ◌∙◌, arith}
use Rattle.std.specs.Prelude.{◌==◌, ◌||◌, ◌++◌}
use Rattle.std.proofs.lemmas.Bool.Decides.{nat_tests}
use Rattle.svf_reader.specs.declared.bytes.Class.TheVariants.{Gap, Command}
use Rattle.ij_text.specs.Bytes.{is_blank}
use Rattle.ij_text.specs.Parts.{before}
use Rattle.svf_reader.specs.Texts.{first, in_comment, plain_from, plain, blanks, texts}
use Rattle.svf_reader.specs.Reading.{run_length}

-- ---- the blanks at the front

blanks_at : (h : Bool) (b : ℕ) (m n : ℕ) → m ≡ n
    → cond (is_blank (cond h 32 b)) (suc m) 0 ≡ cond (h || is_blank b) (suc n) 0
blanks_at true b m n e = ap suc e
blanks_at false b m n e = ap (λ k. cond (is_blank b) (suc k) 0) e

pub blanks_are : (inside : Bool) (text : List ℕ)
    → blanks (plain_from inside text) ≡ run_length Gap inside text
blanks_are inside [] = refl
blanks_are inside (b ∷ bs) =
    let h = in_comment inside b (first bs) in
    blanks_at h b (blanks (plain_from h bs)) (run_length Gap h bs) (blanks_are h bs)

pub plain_length : (inside : Bool) (text : List ℕ) → length (plain_from inside text) ≡ length text
plain_length inside [] = refl
plain_length inside (b ∷ bs) = ap suc (plain_length (in_comment inside b (first bs)) bs)

-- ---- up to the `;`

is_end : (b : ℕ) → not (b == 59) ≡ false → b ≡ 59
is_end b h = grind (arith, nat_tests)

no_run : (k l : Bool) (n : ℕ) → cond (k || l) (suc n) 0 ≡ 0 → (k ≡ false) × (l ≡ false)
no_run true l n e = absurd (cc)
no_run false true n e = absurd (cc)
no_run false false n e = (refl, refl)

before_end : (inside : Bool) (b : ℕ) → in_comment inside b 0 ≡ in_comment inside b 59
before_end true b = refl
before_end false b = refl

same_next : (inside h : Bool) (b : ℕ) (bs : List ℕ) (m : ℕ) → run_length Command h bs ≡ m → m < length bs
    → in_comment inside b (first (take m bs)) ≡ in_comment inside b (first bs)
same_next inside h b [] m e within = absurd (omega arith)
same_next inside h b (c ∷ cs) zero e within =
    let k = in_comment h c (first cs) in
    let none = no_run k (not (c == 59)) (run_length Command k cs) e in
    before_end inside b ∙ ap (in_comment inside b) (sym (is_end c none.1))
same_next inside h b (c ∷ cs) (suc m) e within = refl

-- a byte that belongs to a command
shown : (h : Bool) (b : ℕ) (rest : List ℕ) → (h || not (b == 59)) ≡ true
    → texts (cond h 32 b ∷ rest) ≡ before (cond h 32 b) (texts rest)
shown true b rest t = refl
shown false b rest t =
    let other : (b == 59) ≡ false = grind (arith, nat_tests) in
    ap (λ k. cond k ([] ∷ texts rest) (before b (texts rest))) other

cut_at : (inside : Bool) (b : ℕ) (bs : List ℕ) (h t : Bool) (n : ℕ) → in_comment inside b (first bs) ≡ h
    → (h || not (b == 59)) ≡ t → cond t (suc (run_length Command h bs)) 0 ≡ n → n < suc (length bs)
    → ((m : ℕ) → run_length Command h bs ≡ m → m < length bs
    → texts (plain_from h bs) ≡ plain_from h (take m bs) ∷ texts (plain (drop (suc m) bs)))
    → texts (cond h 32 b ∷ plain_from h bs)
    ≡ plain_from inside (take n (b ∷ bs)) ∷ texts (plain (drop (suc n) (b ∷ bs)))
cut_at inside b bs h false n eh et en within more =
    let none = no_run h (not (b == 59)) 0 (ap (λ k. cond k 1 0) et) in
    let last : (b == 59) ≡ true = grind (arith, nat_tests) in
    let at_none : texts (cond false 32 b ∷ plain_from false bs) ≡ [] ∷ texts (plain bs) =
    ap (λ k. cond k ([] ∷ texts (plain bs)) (before b (texts (plain bs)))) last in
    ap (λ k. texts (cond k 32 b ∷ plain_from k bs)) none.0 ∙ at_none
    ∙ ap (λ k. plain_from inside (take k (b ∷ bs)) ∷ texts (plain (drop (suc k) (b ∷ bs)))) en
cut_at inside b bs h true zero eh et en within more = absurd (cc)
cut_at inside b bs h true (suc m) eh et en within more =
    let run : run_length Command h bs ≡ m = cc in
    let short : m < length bs = omega arith in
    let same : in_comment inside b (first (take m bs)) ≡ h = same_next inside h b bs m run short ∙ eh in
    shown h b (plain_from h bs) et
    ∙ ap (before (cond h 32 b)) (more m run short)
    ∙ ap (λ k. (cond k 32 b ∷ plain_from k (take m bs)) ∷ texts (plain (drop (suc m) bs))) (sym same)

pub cut_is : (inside : Bool) (text : List ℕ) (n : ℕ) → run_length Command inside text ≡ n → n < length text
    → texts (plain_from inside text) ≡ plain_from inside (take n text) ∷ texts (plain (drop (suc n) text))
cut_is inside [] n e within = absurd (omega arith)
cut_is inside (b ∷ bs) n e within =
    cut_at inside b bs (in_comment inside b (first bs)) (in_comment inside b (first bs) || not (b == 59)) n
    refl refl e within (λ m f w. cut_is (in_comment inside b (first bs)) bs m f w)

-- what comes after it is a `;`
whole_at : (b : ℕ) (bs : List ℕ) (h t : Bool) (n : ℕ) → (h || not (b == 59)) ≡ t
    → cond t (suc (run_length Command h bs)) 0 ≡ n → n < suc (length bs)
    → ((m : ℕ) → run_length Command h bs ≡ m → m < length bs → bs ≡ take m bs ++ 59 ∷ drop (suc m) bs)
    → (b ∷ bs) ≡ take n (b ∷ bs) ++ 59 ∷ drop (suc n) (b ∷ bs)
whole_at b bs h false n et en within more =
    let none = no_run h (not (b == 59)) 0 (ap (λ k. cond k 1 0) et) in
    ap (λ k. k ∷ bs) (is_end b none.1) ∙ ap (λ k. take k (b ∷ bs) ++ 59 ∷ drop (suc k) (b ∷ bs)) en
whole_at b bs h true zero et en within more = absurd (cc)
whole_at b bs h true (suc m) et en within more =
    let run : run_length Command h bs ≡ m = cc in
    let short : m < length bs = omega arith in
    ap (λ k. b ∷ k) (more m run short)

pub whole_is : (inside : Bool) (text : List ℕ) (n : ℕ) → run_length Command inside text ≡ n → n < length text
    → text ≡ take n text ++ 59 ∷ drop (suc n) text
whole_is inside [] n e within = absurd (omega arith)
whole_is inside (b ∷ bs) n e within =
    whole_at b bs (in_comment inside b (first bs)) (in_comment inside b (first bs) || not (b == 59)) n refl e
    within (λ m f w. whole_is (in_comment inside b (first bs)) bs m f w)

last_at : (inside : Bool) (b : ℕ) (bs : List ℕ) (h t : Bool) → (h || not (b == 59)) ≡ t
    → cond t (suc (run_length Command h bs)) 0 ≡ suc (length bs)
    → (run_length Command h bs ≡ length bs → texts (plain_from h bs) ≡ plain_from h bs ∷ [])
    → texts (cond h 32 b ∷ plain_from h bs) ≡ (cond h 32 b ∷ plain_from h bs) ∷ []
last_at inside b bs h false et en more = absurd (cc)
last_at inside b bs h true et en more =
    let run : run_length Command h bs ≡ length bs = cc in
    shown h b (plain_from h bs) et ∙ ap (before (cond h 32 b)) (more run)

pub last_is : (inside : Bool) (text : List ℕ) → run_length Command inside text ≡ length text
    → texts (plain_from inside text) ≡ plain_from inside text ∷ []
last_is inside [] e = refl
last_is inside (b ∷ bs) e =
    last_at inside b bs (in_comment inside b (first bs)) (in_comment inside b (first bs) || not (b == 59))
    refl e (λ f. last_is (in_comment inside b (first bs)) bs f)
