-- Binary digits without zeros at the left, from the lowest on.
use Rattle.std.proofs.Common.{◌≡◌, ℕ, zero, suc, ◌+◌, ◌/◌, ◌%◌, ◌^◌, ◌<◌, ◌≤◌, ◌⊎◌, inl, inr, Bool, true}
use Rattle.std.proofs.Common.{false, not, cond, List, [], ◌∷◌, ◌++◌, length, get_or, drop, set, refl, ap, sym}
use Rattle.std.proofs.Common.{◌∙◌, subst, arith, append_assoc, add-one}
use Rattle.std.specs.Prelude.{◌==◌, ◌||◌}
use Rattle.std.proofs.Math.Nat.{div-div-eq-div-mul, div-eq_of_lt, pow-succ', two-pow-succ}
use Rattle.std.proofs.Math.Seq.{drop-cons}
use Rattle.std.proofs.lemmas.Bool.{cases_lt}
use Rattle.std.proofs.lemmas.Bool.Decides.{nat_tests}
use Rattle.std.proofs.lemmas.List.{drop-set-lt}
use Rattle.report.specs.Registers.{digit}
use Rattle.net_wave.specs.Moments.{trimmed}
use Rattle.net_wave.specs.Values.{is_odd_at, number_digits}
use Rattle.net_wave.proofs.Counting.{last_same}

-- ---- the lowest digit

lowest : (n : ℕ) → digit (is_odd_at n 0) ≡ 48 + n % 2
lowest n = elim (cases_lt (n % 2) 1) [
  | inl none ↦
      let is : (n / 2 ^ 0) % 2 ≡ 0 = omega (arith, none) in
      let test : ((n / 2 ^ 0) % 2 == 1) ≡ false = grind (arith, nat_tests) in
      let here : 48 ≡ 48 + n % 2 = omega (arith, none) in
      ap digit test ∙ here
  | inr one ↦
      let is : (n / 2 ^ 0) % 2 ≡ 1 = omega (arith, one) in
      let test : ((n / 2 ^ 0) % 2 == 1) ≡ true = grind (arith, nat_tests) in
      let here : 49 ≡ 48 + n % 2 = omega (arith, one) in
      ap digit test ∙ here
]

halved : (n i : ℕ) → is_odd_at n (suc i) ≡ is_odd_at (n / 2) i
halved n i =
    let same : n / 2 ^ suc i ≡ n / 2 / 2 ^ i =
    ap (λ (d : ℕ). n / d) (pow-succ' 2 i) ∙ sym (div-div-eq-div-mul n 2 (2 ^ i)) in
    ap (λ (q : ℕ). q % 2 == 1) same

pub lower : (w n : ℕ) → number_digits (suc w) n ≡ number_digits w (n / 2) ++ (48 + n % 2) ∷ []
lower zero n = ap (λ (d : ℕ). d ∷ []) (lowest n)
lower (suc w) n =
    ap (λ (l : List ℕ). digit (is_odd_at n (suc w)) ∷ l) (lower w n)
    ∙ ap (λ (b : Bool). digit b ∷ (number_digits w (n / 2) ++ (48 + n % 2) ∷ [])) (halved n w)

-- ---- zeros at the left

zero_high : (n i : ℕ) → n < 2 → digit (is_odd_at n (suc i)) ≡ 48
zero_high n i h =
    let half : n / 2 ≡ 0 = omega (arith, h) in
    let none : (n / 2) / 2 ^ i ≡ 0 = ap (λ (q : ℕ). q / 2 ^ i) half ∙ zeros (2 ^ i) in
    let test : ((n / 2) / 2 ^ i % 2 == 1) ≡ false = ap (λ (q : ℕ). q % 2 == 1) none in
    ap digit (halved n i ∙ test)
  where
    zeros : (d : ℕ) → 0 / d ≡ 0
    zeros zero = refl
    zeros (suc d) = div-eq_of_lt (omega arith)

trim_small : (w n : ℕ) → n < 2 → trimmed (number_digits (suc w) n) ≡ (48 + n) ∷ []
trim_small zero n h =
    let same : 48 + n % 2 ≡ 48 + n = omega (arith, h) in ap (λ (d : ℕ). d ∷ []) (lowest n ∙ same)
trim_small (suc w) n h =
    ap (λ (d : ℕ). trimmed (d ∷ number_digits (suc w) n)) (zero_high n w h) ∙ trim_small w n h

-- whether there is another digit than 0
abbrev marked : List ℕ → Bool
marked [] = false
marked (x ∷ xs) = not (x == 48) || marked xs

marked_more : (xs : List ℕ) (y : ℕ) → marked xs ≡ true → marked (xs ++ y ∷ []) ≡ true
marked_more [] y h = absurd (cc)
marked_more (x ∷ xs) y h = cases (marked_more xs y) (not (x == 48)) refl
  where
    cases : (marked xs ≡ true → marked (xs ++ y ∷ []) ≡ true) → (b : Bool) → not (x == 48) ≡ b
        → (not (x == 48) || marked (xs ++ y ∷ [])) ≡ true
    cases later true e = ap (λ (b : Bool). b || marked (xs ++ y ∷ [])) e
    cases later false e =
        let rest : marked xs ≡ true = ap (λ (b : Bool). b || marked xs) (sym e) ∙ h in
        ap (λ (b : Bool). b || marked (xs ++ y ∷ [])) e ∙ later rest

marked_end : (xs : List ℕ) → marked (xs ++ 49 ∷ []) ≡ true
marked_end [] = refl
marked_end (x ∷ xs) = cases (marked_end xs) (not (x == 48)) refl
  where
    cases : marked (xs ++ 49 ∷ []) ≡ true → (b : Bool) → not (x == 48) ≡ b
        → (not (x == 48) || marked (xs ++ 49 ∷ [])) ≡ true
    cases later true e = ap (λ (b : Bool). b || marked (xs ++ 49 ∷ [])) e
    cases later false e = ap (λ (b : Bool). b || marked (xs ++ 49 ∷ [])) e ∙ later

trim_end : (xs : List ℕ) (d : ℕ) → marked xs ≡ true → trimmed (xs ++ d ∷ []) ≡ trimmed xs ++ d ∷ []
trim_end [] d h = absurd (cc)
trim_end (x ∷ []) d h = cases (x == 48) refl
  where
    cases : (b : Bool) → (x == 48) ≡ b → cond (x == 48) (d ∷ []) (x ∷ d ∷ []) ≡ x ∷ d ∷ []
    cases true e =
        absurd (let wrong : false ≡ true = ap (λ (b : Bool). not b || false) (sym e) ∙ h in cc)
    cases false e = ap (λ (b : Bool). cond b (d ∷ []) (x ∷ d ∷ [])) e
trim_end (x ∷ y ∷ ys) d h = cases (trim_end (y ∷ ys) d) (x == 48) refl
  where
    cases : (marked (y ∷ ys) ≡ true → trimmed (y ∷ (ys ++ d ∷ [])) ≡ trimmed (y ∷ ys) ++ d ∷ [])
        → (b : Bool) → (x == 48) ≡ b
        → cond (x == 48) (trimmed (y ∷ (ys ++ d ∷ []))) (x ∷ y ∷ (ys ++ d ∷ []))
        ≡ cond (x == 48) (trimmed (y ∷ ys)) (x ∷ y ∷ ys) ++ d ∷ []
    cases later true e =
        let rest : marked (y ∷ ys) ≡ true = ap (λ (b : Bool). not b || marked (y ∷ ys)) (sym e) ∙ h in
        ap (λ (b : Bool). cond b (trimmed (y ∷ (ys ++ d ∷ []))) (x ∷ y ∷ (ys ++ d ∷ []))) e
        ∙ later rest
        ∙ sym (ap (λ (b : Bool). cond b (trimmed (y ∷ ys)) (x ∷ y ∷ ys) ++ d ∷ []) e)
    cases later false e =
        ap (λ (b : Bool). cond b (trimmed (y ∷ (ys ++ d ∷ []))) (x ∷ y ∷ (ys ++ d ∷ []))) e
        ∙ sym (ap (λ (b : Bool). cond b (trimmed (y ∷ ys)) (x ∷ y ∷ ys) ++ d ∷ []) e)

pub half_small : (w n : ℕ) → n < 2 ^ suc w → n / 2 < 2 ^ w
half_small w n h = let twice = two-pow-succ w in omega (arith, h, twice)

some_one : (w m : ℕ) → 1 ≤ m → m < 2 ^ w → marked (number_digits w m) ≡ true
some_one zero m some h = absurd (omega (arith, some, h))
some_one (suc w) m some h = ap marked (lower w m)
    ∙ cases (λ more. some_one w (m / 2) more (half_small w m h)) (cases_lt (m / 2) 1)
  where
    cases : (1 ≤ m / 2 → marked (number_digits w (m / 2)) ≡ true) → (m / 2 < 1) ⊎ (1 ≤ m / 2)
        → marked (number_digits w (m / 2) ++ (48 + m % 2) ∷ []) ≡ true
    cases later (inl none) =
        let one : 48 + m % 2 ≡ 49 = omega (arith, none, some) in
        ap (λ (d : ℕ). marked (number_digits w (m / 2) ++ d ∷ [])) one ∙ marked_end (number_digits w (m / 2))
    cases later (inr more) = marked_more (number_digits w (m / 2)) (48 + m % 2) (later more)

trim_more : (w n : ℕ) → 2 ≤ n → n < 2 ^ suc w
    → trimmed (number_digits (suc w) n) ≡ trimmed (number_digits w (n / 2)) ++ (48 + n % 2) ∷ []
trim_more w n more h =
    ap trimmed (lower w n) ∙ trim_end (number_digits w (n / 2)) (48 + n % 2)
    (some_one w (n / 2) (omega (arith, more)) (half_small w n h))

-- as many digits as a number has, however many are written
pub trim_alike : (w v n : ℕ) → n < 2 ^ suc w → n < 2 ^ suc v
    → trimmed (number_digits (suc w) n) ≡ trimmed (number_digits (suc v) n)
trim_alike zero v n h g = trim_small zero n (omega (arith, h)) ∙ sym (trim_small v n (omega (arith, h)))
trim_alike (suc w) zero n h g = trim_small (suc w) n (omega (arith, g))
    ∙ sym (trim_small zero n (omega (arith, g)))
trim_alike (suc w) (suc v) n h g =
    cases (trim_alike w v (n / 2) (half_small (suc w) n h) (half_small (suc v) n g)) (cases_lt n 2)
  where
    cases : trimmed (number_digits (suc w) (n / 2)) ≡ trimmed (number_digits (suc v) (n / 2)) → (n < 2)
        ⊎ (2 ≤ n) → trimmed (number_digits (suc (suc w)) n) ≡ trimmed (number_digits (suc (suc v)) n)
    cases later (inl small) = trim_small (suc w) n small ∙ sym (trim_small (suc v) n small)
    cases later (inr more) =
        trim_more (suc w) n more h ∙ ap (λ (l : List ℕ). l ++ (48 + n % 2) ∷ []) later
        ∙ sym (trim_more (suc v) n more g)

-- ---- numbers that have the same digits

pub same_number : (w n m : ℕ) → n < 2 ^ w → m < 2 ^ w → number_digits w n ≡ number_digits w m → n ≡ m
same_number zero n m h g e = omega (arith, h, g)
same_number (suc w) n m h g e =
    let ends = last_same (number_digits w (n / 2)) (number_digits w (m / 2)) (48 + n % 2)
    (48 + m % 2) (sym (lower w n) ∙ e ∙ lower w m) in
    let half = same_number w (n / 2) (m / 2) (half_small w n h) (half_small w m g) ends.0 in
    omega (arith, half, ends.1)

-- ---- digits that are put before a place of a line

pub put_next : (all line next : List ℕ) (left i j d half : ℕ) → i ≡ j + 1 → i < length line → 2 ≤ left
    → left < 2 ^ i → get_or line i 0 ≡ 48 + left % 2 → half ≡ left / 2 → d ≡ 48 + half % 2
    → next ≡ set line j d → all ≡ trimmed (number_digits i left) ++ drop (i + 1) line
    → all ≡ trimmed (number_digits j half) ++ drop (j + 1) next
put_next all line next left i j d half place h more small here by_two is put so_far =
    let up : i ≡ suc j = omega (arith, place) in
    let digits_is : trimmed (number_digits i left)
    ≡ trimmed (number_digits j (left / 2)) ++ (48 + left % 2) ∷ [] =
    ap (λ (w : ℕ). trimmed (number_digits w left)) up
    ∙ trim_more j left more (subst (λ (w : ℕ). left < 2 ^ w) up small) in
    let rest : (48 + left % 2) ∷ drop (i + 1) line ≡ drop i line =
    ap (λ (y : ℕ). y ∷ drop (i + 1) line) (sym here)
    ∙ ap (λ (k : ℕ). get_or line i 0 ∷ drop k line) (add-one i) ∙ sym (drop-cons line i 0 h) in
    let kept : drop (j + 1) next ≡ drop i line =
    ap (drop (j + 1)) put ∙ drop-set-lt (j + 1) line j d (omega arith)
    ∙ ap (λ (k : ℕ). drop k line) (sym place) in
    so_far
    ∙ ap (λ (l : List ℕ). l ++ drop (i + 1) line) digits_is
    ∙ append_assoc (trimmed (number_digits j (left / 2))) ((48 + left % 2) ∷ []) (drop (i + 1) line)
    ∙ ap (λ (l : List ℕ). trimmed (number_digits j (left / 2)) ++ l) (rest ∙ sym kept)
    ∙ ap (λ (n : ℕ). trimmed (number_digits j n) ++ drop (j + 1) next) (sym by_two)

pub put_small : (left half i j : ℕ) → i ≡ j + 1 → left < 2 ^ i → half ≡ left / 2 → half < 2 ^ j
put_small left half i j place small by_two =
    let up : i ≡ suc j = omega (arith, place) in
    subst (λ (h : ℕ). h < 2 ^ j) (sym by_two) (half_small j left (subst (λ (w : ℕ). left < 2 ^ w) up small))

pub room_left : (i left : ℕ) → 2 ≤ left → left < 2 ^ i → 2 ≤ i
room_left zero left more small = absurd (omega (arith, more, small))
room_left (suc zero) left more small = absurd (omega (arith, more, small))
room_left (suc (suc i)) left more small = omega arith

pub put_all : (all line : List ℕ) (left i : ℕ) → 1 ≤ i → i < length line
    → left < 2 → get_or line i 0 ≡ 48 + left % 2
    → all ≡ trimmed (number_digits i left) ++ drop (i + 1) line → drop i line ≡ all
put_all all line left zero some h small here so_far = absurd (omega (arith, some))
put_all all line left (suc j) some h small here so_far =
    let i = suc j in
    let same : 48 + left % 2 ≡ 48 + left = omega (arith, small) in
    drop-cons line i 0 h
    ∙ ap (λ (y : ℕ). y ∷ drop (suc i) line) (here ∙ same)
    ∙ ap (λ (k : ℕ). (48 + left) ∷ drop k line) (sym (add-one i))
    ∙ ap (λ (l : List ℕ). l ++ drop (i + 1) line) (sym (trim_small j left small))
    ∙ sym so_far
