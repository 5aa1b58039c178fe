-- What is written is read: lines, numbers, codes and digits.
use Rattle.std.proofs.Common.{◌≡◌, ℕ, zero, suc, ◌+◌, ◌-◌, ◌*◌, ◌/◌, ◌%◌, ◌^◌, ◌<◌, ◌≤◌, Bool, true, false}
use Rattle.std.proofs.Common.{cond, List, [], ◌∷◌, ◌++◌, length, map, refl, ap, sym, ◌∙◌, subst, arith}
use Rattle.std.proofs.Common.{append_assoc}
use Rattle.std.specs.Prelude.{◌==◌, codes, decimal}
use Rattle.std.specs.List.{flat_map}
use Rattle.std.proofs.lemmas.Bool.Decides.{nat_tests}
use Rattle.std.proofs.lemmas.Fmt.{decimal_by_steps}
use Rattle.net_wave.specs.Codes.{code, code_digits}
use Rattle.net_wave.specs.Moments.{Change, Moment, change_text, counted, digits_text, moment_text, time_text}
use Rattle.net_wave.specs.Moments.{trimmed}
use Rattle.net_wave.specs.Reader.{Event, At, Told, Other, event, events, number_from, padded, put_first}
use Rattle.net_wave.specs.Reader.{split, vector, words, zeros}
use Rattle.ij_bits.proofs.Tests.{number_self}

-- ---- bytes that aren't there

abbrev pub Lacks : ℕ → List ℕ → Type 0
Lacks b [] = Unit {0}
Lacks b (x ∷ xs) = ((x == b) ≡ false) × Lacks b xs

pub lacks_both : (b : ℕ) (xs ys : List ℕ) → Lacks b xs → Lacks b ys → Lacks b (xs ++ ys)
lacks_both b [] ys h g = g
lacks_both b (x ∷ xs) ys h g = (h.0, lacks_both b xs ys h.1 g)

pub above : (b x : ℕ) → b < x → (x == b) ≡ false
above b x h = grind (arith, nat_tests)

-- ---- splitting

pub split_front : (b : ℕ) (l xs : List ℕ) → Lacks b l → split b (l ++ b ∷ xs) ≡ l ∷ split b xs
split_front b [] xs h = ap (λ (t : Bool). cond t ([] ∷ split b xs) (put_first b (split b xs))) (number_self b)
split_front b (x ∷ l) xs h =
    ap (λ (t : Bool). cond t ([] ∷ split b (l ++ b ∷ xs)) (put_first x (split b (l ++ b ∷ xs)))) h.0
    ∙ ap (put_first x) (split_front b l xs h.1)

split_none : (b : ℕ) (l : List ℕ) → Lacks b l → split b l ≡ l ∷ []
split_none b [] h = refl
split_none b (x ∷ l) h =
    ap (λ (t : Bool). cond t ([] ∷ split b l) (put_first x (split b l))) h.0
    ∙ ap (put_first x) (split_none b l h.1)

-- a line more
pub line_read : (l xs : List ℕ) → Lacks 10 l → events (l ++ 10 ∷ xs) ≡ event l ∷ events xs
line_read l xs h = ap (map event) (split_front 10 l xs h)

-- ---- numbers

number_more : (n d : ℕ) (ds : List ℕ) → number_from n (ds ++ d ∷ []) ≡ 10 * number_from n ds + (d - 48)
number_more n d [] = refl
number_more n d (x ∷ ds) = number_more (10 * n + (x - 48)) d ds

abbrev Numeral : ℕ → List ℕ → Type 0
Numeral n ds = (number_from 0 ds ≡ n) × Lacks 10 ds

one_digit : (n : ℕ) → n < 10 → Numeral n ((48 + n) ∷ [])
one_digit n h = (omega arith, (above 10 (48 + n) (omega arith), tt))

more_digits : (n : ℕ) (ds : List ℕ) → 10 ≤ n → Numeral (n / 10) ds → Numeral n (ds ++ ((48 + n % 10) ∷ []))
more_digits n ds h is = (
  number_more 0 (48 + n % 10) ds ∙ omega (arith, is.0),
  lacks_both 10 ds ((48 + n % 10) ∷ []) is.1 (above 10 (48 + n % 10) (omega arith), tt),
)

pub numeral : (n : ℕ) → n < 2 ^ 64 → Numeral n (decimal n)
numeral n h = decimal_by_steps Numeral one_digit more_digits n h

-- ---- codes

pub code_lacks : (b : ℕ) → b < 33 → (k n : ℕ) → Lacks b (code_digits k n)
code_lacks b h zero n = tt
code_lacks b h (suc k) n =
    (above b (33 + n % 94) (omega (arith, h)), rest (n / 94 == 0) (code_lacks b h k (n / 94 - 1)))
  where
    rest : (t : Bool) → Lacks b (code_digits k (n / 94 - 1))
        → Lacks b (cond t [] (code_digits k (n / 94 - 1)))
    rest true g = tt
    rest false g = g

-- ---- digits

-- 0, 1 (48, 49) and x (120)
abbrev pub IsDigit : ℕ → Type 0
IsDigit d = ((d == 35) ≡ false) × ((d == 36) ≡ false) × ((d == 98) ≡ false)
    × ((d == 10) ≡ false) × ((d == 32) ≡ false)

abbrev pub AreDigits : List ℕ → Type 0
AreDigits [] = Unit {0}
AreDigits (d ∷ ds) = IsDigit d × AreDigits ds

feeds : (ds : List ℕ) → AreDigits ds → Lacks 10 ds
feeds [] h = tt
feeds (d ∷ ds) h = (h.0.3, feeds ds h.1)

blanks : (ds : List ℕ) → AreDigits ds → Lacks 32 ds
blanks [] h = tt
blanks (d ∷ ds) h = (h.0.4, blanks ds h.1)

trimmed_digits : (ds : List ℕ) → AreDigits ds → AreDigits (trimmed ds)
trimmed_digits [] h = tt
trimmed_digits (d ∷ []) h = h
trimmed_digits (d ∷ e ∷ ds) h = cases (d == 48) (trimmed_digits (e ∷ ds) h.1)
  where
    cases : (t : Bool) → AreDigits (trimmed (e ∷ ds)) → AreDigits (cond t (trimmed (e ∷ ds)) (d ∷ e ∷ ds))
    cases true g = g
    cases false g = h

trimmed_short : (ds : List ℕ) → length (trimmed ds) ≤ length ds
trimmed_short [] = omega arith
trimmed_short (d ∷ []) = omega arith
trimmed_short (d ∷ e ∷ ds) = cases (d == 48) (trimmed_short (e ∷ ds))
  where
    cases : (t : Bool) → length (trimmed (e ∷ ds)) ≤ length (e ∷ ds)
        → length (cond t (trimmed (e ∷ ds)) (d ∷ e ∷ ds)) ≤ length (d ∷ e ∷ ds)
    cases true g = omega (arith, g)
    cases false g = omega arith

none_padded : (ds : List ℕ) (n : ℕ) → n ≡ 0 → zeros n ++ ds ≡ ds
none_padded ds n e = ap (λ k. zeros k ++ ds) e

-- what was written is not nothing
trimmed_some : (d : ℕ) (ds : List ℕ) → 1 ≤ length (trimmed (d ∷ ds))
trimmed_some d [] = omega arith
trimmed_some d (e ∷ es) = either (d == 48) (trimmed_some e es)
  where
    either : (t : Bool) → 1 ≤ length (trimmed (e ∷ es)) → 1 ≤ length (cond t (trimmed (e ∷ es)) (d ∷ e ∷ es))
    either true h = h
    either false h = omega arith

padded_some : (n : ℕ) (l : List ℕ) → 1 ≤ length l → padded n l ≡ zeros (n - length l) ++ l
padded_some n [] h = absurd (omega (arith, h))
padded_some n (x ∷ xs) h = refl

-- zeros that were left out are there again
pub padded_again : (ds : List ℕ) → padded (length ds) (trimmed ds) ≡ ds
padded_again [] = refl
padded_again (d ∷ []) = none_padded (d ∷ []) (1 - 1) (omega arith)
padded_again (d ∷ e ∷ ds) = cases (d == 48) refl (padded_again (e ∷ ds))
  where
    cases : (t : Bool) → (d == 48) ≡ t → padded (length (e ∷ ds)) (trimmed (e ∷ ds)) ≡ e ∷ ds
        → padded (length (d ∷ e ∷ ds)) (cond t (trimmed (e ∷ ds)) (d ∷ e ∷ ds)) ≡ d ∷ e ∷ ds
    cases true is before =
        let m = length (trimmed (e ∷ ds)) in
        let more : length (d ∷ e ∷ ds) - m
        ≡ suc (length (e ∷ ds) - m) = omega (arith, trimmed_short (e ∷ ds)) in
        let zero_is : d ≡ 48 = grind (arith, nat_tests) in
        let some : 1 ≤ length (trimmed (e ∷ ds)) = trimmed_some e ds in
        padded_some (length (d ∷ e ∷ ds)) (trimmed (e ∷ ds)) some ∙ ap (λ k. zeros k ++ trimmed (e ∷ ds)) more
        ∙ ap (λ l. 48 ∷ l) (sym (padded_some (length (e ∷ ds)) (trimmed (e ∷ ds)) some) ∙ before)
        ∙ ap (λ x. x ∷ e ∷ ds) (sym zero_is)
    cases false is before = none_padded (d ∷ e ∷ ds) (length (d ∷ e ∷ ds) - length (d ∷ e ∷ ds)) (omega arith)

-- ---- one change

abbrev pub told : Change → Event
told c = Told (code c.number) (trimmed c.digits)

one_only : (ds : List ℕ) → (length ds == 1) ≡ true → (d : ℕ) × (ds ≡ d ∷ [])
one_only [] e = absurd (cc)
one_only (d ∷ []) e = (d, refl)
one_only (d ∷ f ∷ ds) e =
    absurd (let wrong : suc (suc (length ds)) ≡ 1 = grind (arith, nat_tests) in omega (arith, wrong))

scalar : (d n : ℕ) → IsDigit d → event (d ∷ code n) ≡ Told (code n) (d ∷ [])
scalar d n h =
    ap (λ (t : Bool). cond t (At (number_from 0 (code n)))
    (cond (d == 36) Other (cond (d == 98) (vector (words (code n))) (Told (code n) (d ∷ []))))) h.0
    ∙ ap (λ (t : Bool). cond t Other (cond (d == 98) (vector (words (code n))) (Told (code n) (d ∷ [])))) h.1
    ∙ ap (λ (t : Bool). cond t (vector (words (code n))) (Told (code n) (d ∷ []))) h.2

several : (ds cs : List ℕ) → Lacks 32 ds → Lacks 32 cs → event (98 ∷ (ds ++ 32 ∷ cs)) ≡ Told cs ds
several ds cs h g = ap vector (split_front 32 ds cs h ∙ ap (λ l. ds ∷ l) (split_none 32 cs g))

-- the text of a change, without its line feed
abbrev line_of : Change → List ℕ
line_of c = digits_text c.digits ++ code c.number

line_lacks : (c : Change) → AreDigits c.digits → Lacks 10 (line_of c)
line_lacks c h = lacks_both 10 (digits_text c.digits) (code c.number) (cases (length c.digits == 1))
    (code_lacks 10 (omega arith) 10 c.number)
  where
    cases : (t : Bool) → Lacks 10 (cond t c.digits (codes "b" ++ (trimmed c.digits ++ codes " ")))
    cases true = feeds c.digits h
    cases false = (
      refl,
      lacks_both 10 (trimmed c.digits) (codes " ")
          (feeds (trimmed c.digits) (trimmed_digits c.digits h)) (refl, tt),
    )

line_is : (c : Change) → AreDigits c.digits → event (line_of c) ≡ told c
line_is c h = cases (length c.digits == 1) refl
  where
    cases : (t : Bool) → (length c.digits == 1) ≡ t
        → event (cond t c.digits (codes "b" ++ (trimmed c.digits ++ codes " ")) ++ code c.number) ≡ told c
    cases true e =
        let one = one_only c.digits e in
        ap (λ (l : List ℕ). event (l ++ code c.number)) one.1
        ∙ scalar one.0 c.number (let there : AreDigits (one.0 ∷ []) = subst AreDigits one.1 h in there.0)
        ∙ ap (λ (l : List ℕ). Told (code c.number) (trimmed l)) (sym one.1)
    cases false e =
        ap (λ (l : List ℕ). event (98 ∷ l)) (append_assoc (trimmed c.digits) (codes " ") (code c.number))
        ∙ several (trimmed c.digits) (code c.number) (blanks (trimmed c.digits) (trimmed_digits c.digits h))
        (code_lacks 32 (omega arith) 10 c.number)

pub change_read : (c : Change) (xs : List ℕ) → AreDigits c.digits
    → events (change_text c ++ xs) ≡ told c ∷ events xs
change_read c xs h =
    ap events (append_assoc (digits_text c.digits) (code c.number ++ codes "\n") xs
    ∙ ap (λ l. digits_text c.digits ++ l) (append_assoc (code c.number) (codes "\n") xs)
    ∙ sym (append_assoc (digits_text c.digits) (code c.number) (10 ∷ xs)))
    ∙ line_read (line_of c) xs (line_lacks c h)
    ∙ ap (λ e. e ∷ events xs) (line_is c h)

abbrev pub AllDigits : List Change → Type 0
AllDigits [] = Unit {0}
AllDigits (c ∷ cs) = AreDigits c.digits × AllDigits cs

pub changes_read : (cs : List Change) (xs : List ℕ) → AllDigits cs
    → events (flat_map change_text cs ++ xs) ≡ map told cs ++ events xs
changes_read [] xs h = refl
changes_read (c ∷ cs) xs h =
    ap events (append_assoc (change_text c) (flat_map change_text cs) xs)
    ∙ change_read c (flat_map change_text cs ++ xs) h.0
    ∙ ap (λ l. told c ∷ l) (changes_read cs xs h.1)

pub time_read : (t : ℕ) (xs : List ℕ) → events (time_text t ++ xs) ≡ At (counted t) ∷ events xs
time_read t xs =
    let n = counted t in
    let small : n < 2 ^ 64 = omega arith in
    let is = numeral n small in
    ap (λ l. events (35 ∷ l)) (append_assoc (decimal n) (codes "\n") xs)
    ∙ line_read (35 ∷ decimal n) xs (refl, is.1)
    ∙ ap (λ m. At m ∷ events xs) is.0

-- words of the format around the first values
abbrev pub front : Bool → List Event
front first = cond first (Other ∷ []) []

word_read : (first : Bool) (l xs : List ℕ) → Lacks 10 l → event l ≡ Other
    → events (cond first (l ++ 10 ∷ []) [] ++ xs) ≡ front first ++ events xs
word_read true l xs h e = ap events (append_assoc l (10 ∷ []) xs)
    ∙ line_read l xs h ∙ ap (λ x. x ∷ events xs) e
word_read false l xs h e = refl

pub moment_read : (m : Moment) (xs : List ℕ) → AllDigits m.changes → events (moment_text m ++ xs)
    ≡ At (counted m.time) ∷ (front m.first ++ (map told m.changes ++ (front m.first ++ events xs)))
moment_read m xs h =
    let a = time_text m.time in
    let b = cond m.first (codes "$dumpvars\n") [] in
    let c = flat_map change_text m.changes in
    let d = cond m.first (codes "$end\n") [] in
    ap events (append_assoc a (b ++ (c ++ d)) xs
    ∙ ap (λ l. a ++ l) (append_assoc b (c ++ d) xs ∙ ap (λ l. b ++ l) (append_assoc c d xs)))
    ∙ time_read m.time (b ++ (c ++ (d ++ xs)))
    ∙ ap (λ l. At (counted m.time) ∷ l)
    (word_read m.first (codes "$dumpvars") (c ++ (d ++ xs)) (
      refl,
      (refl, (refl, (refl, (refl, (refl, (refl, (refl, (refl, tt)))))))),
    ) refl
    ∙ ap (λ l. front m.first ++ l) (changes_read m.changes (d ++ xs) h ∙ ap (λ l. map told m.changes ++ l)
    (word_read m.first (codes "$end") xs (refl, (refl, (refl, (refl, tt)))) refl)))
