-- Decimal digits, counted up in place.
use Rattle.std.proofs.Common.{◌≡◌, ◌≢◌, ℕ, zero, suc, ◌+◌, ◌/◌, ◌%◌, ◌^◌, ◌<◌, ◌≤◌, inl, inr, min, List, []}
use Rattle.std.proofs.Common.{◌∷◌, ◌++◌, length, get_or, take, drop, set, decimal, refl, ap, sym, ◌∙◌, arith}
use Rattle.std.proofs.Common.{append_assoc, add-one, length-append}
use Rattle.std.proofs.Math.ListN.{replicate, length-set}
use Rattle.std.proofs.Math.Seq.{split_at}
use Rattle.std.proofs.lemmas.Bool.{cases_lt}
use Rattle.std.proofs.lemmas.Fmt.{decimal_digit, decimal_nonempty, decimal_step}
use Rattle.std.proofs.lemmas.Grind.{get_or-set_at}
use Rattle.std.proofs.lemmas.List.{drop-set-lt, get_or-take, take-set}

-- lists with one last element each
pub last_same : {T : Type 0} (xs ys : List T) (x y : T) → xs ++ x ∷ [] ≡ ys ++ y ∷ [] → (xs ≡ ys) × (x ≡ y)
last_same [] [] x y e = (refl, cc)
last_same [] (b ∷ []) x y e = absurd (cc)
last_same [] (b ∷ c ∷ cs) x y e = absurd (cc)
last_same (a ∷ []) [] x y e = absurd (cc)
last_same (a ∷ c ∷ cs) [] x y e = absurd (cc)
last_same (a ∷ xs) (b ∷ bs) x y e =
    let more = last_same xs bs x y (cc) in
    let first : a ≡ b = cc in
    let rest = more.0 in
    (cc, more.1)

one_more : (m x : ℕ) → x ∷ replicate m x ≡ replicate m x ++ x ∷ []
one_more zero x = refl
one_more (suc m) x = ap (λ (l : List ℕ). x ∷ l) (one_more m x)

ends_with : (front : List ℕ) (d m x : ℕ)
    → front ++ d ∷ replicate (suc m) x ≡ (front ++ d ∷ replicate m x) ++ x ∷ []
ends_with front d m x =
    ap (λ (l : List ℕ). front ++ d ∷ l) (one_more m x) ∙ sym (append_assoc front (d ∷ replicate m x) (x ∷ []))

-- the digit before some nines counts up
count_digit : (m n d x : ℕ) (front : List ℕ) → n + 1 < 2 ^ 64 → d ≢ 57 → x ≡ min (d + 1) 255
    → decimal n ≡ front ++ d ∷ replicate m 57 → decimal (n + 1) ≡ front ++ x ∷ replicate m 48
count_digit zero n d x front small other next is = elim (cases_lt n 10) [
  | inl one ↦
      let ends = last_same [] front (48 + n) d (sym (decimal_digit n one) ∙ is) in
      let here : x ≡ 48 + (n + 1) = omega (arith, ends.1, next, other) in
      let fits : n + 1 < 10 = omega (arith, ends.1, other, one) in
      decimal_digit (n + 1) fits ∙ ap (λ (y : ℕ). y ∷ []) (sym here) ∙ ap (λ (l : List ℕ). l ++ x ∷ []) ends.0
  | inr more ↦
      let ends = last_same (decimal (n / 10)) front (48 + n % 10) d
      (sym (decimal_step n more (omega (arith, small))) ∙ is) in
      let here : 48 + (n + 1) % 10 ≡ x = omega (arith, ends.1, next, other) in
      let same : (n + 1) / 10 ≡ n / 10 = omega (arith, ends.1, other) in
      decimal_step (n + 1) (omega (arith, more)) small
      ∙ ap (λ (q : ℕ). decimal q ++ (48 + (n + 1) % 10) ∷ []) same
      ∙ ap (λ (y : ℕ). decimal (n / 10) ++ y ∷ []) here
      ∙ ap (λ (l : List ℕ). l ++ x ∷ []) ends.0
]
count_digit (suc m) n d x front small other next is = elim (cases_lt n 10) [
  | inl one ↦
      let ends = last_same [] (front ++ d ∷ replicate m 57) (48 + n) 57
      (sym (decimal_digit n one) ∙ is ∙ ends_with front d m 57) in
      absurd (let long = ap length ends.0 in omega (arith, long, length-append front (d ∷ replicate m 57)))
  | inr more ↦
      let ends = last_same (decimal (n / 10)) (front ++ d ∷ replicate m 57) (48 + n % 10) 57
      (sym (decimal_step n more (omega (arith, small))) ∙ is ∙ ends_with front d m 57) in
      let nine : n % 10 ≡ 9 = omega (arith, ends.1) in
      let up : (n + 1) / 10 ≡ n / 10 + 1 = omega (arith, nine) in
      let zero_digit : (n + 1) % 10 ≡ 0 = omega (arith, nine) in
      let higher = count_digit m (n / 10) d x front (omega (arith, small)) other next ends.0 in
      decimal_step (n + 1) (omega (arith, more)) small
      ∙ ap (λ (r : ℕ). decimal ((n + 1) / 10) ++ (48 + r) ∷ []) zero_digit
      ∙ ap (λ (q : ℕ). decimal q ++ 48 ∷ []) up
      ∙ ap (λ (l : List ℕ). l ++ 48 ∷ []) higher
      ∙ sym (ends_with front x m 48)
]

-- nines alone become a one before zeros
count_nines : (m n : ℕ) → n + 1 < 2 ^ 64 → decimal n ≡ replicate m 57 → decimal (n + 1) ≡ 49 ∷ replicate m 48
count_nines zero n small is =
    absurd (let long = ap length is in omega (arith, long, decimal_nonempty n (omega (arith, small))))
count_nines (suc m) n small is = elim (cases_lt n 10) [
  | inl one ↦
      let ends = last_same [] (replicate m 57) (48 + n) 57 (sym (decimal_digit n one) ∙ is ∙ one_more m 57) in
      let nine : n ≡ 9 = omega (arith, ends.1) in
      none m (sym ends.0) n nine
  | inr more ↦
      let ends = last_same (decimal (n / 10)) (replicate m 57) (48 + n % 10) 57
      (sym (decimal_step n more (omega (arith, small))) ∙ is ∙ one_more m 57) in
      let nine : n % 10 ≡ 9 = omega (arith, ends.1) in
      let up : (n + 1) / 10 ≡ n / 10 + 1 = omega (arith, nine) in
      let zero_digit : (n + 1) % 10 ≡ 0 = omega (arith, nine) in
      let higher = count_nines m (n / 10) (omega (arith, small)) ends.0 in
      decimal_step (n + 1) (omega (arith, more)) small
      ∙ ap (λ (r : ℕ). decimal ((n + 1) / 10) ++ (48 + r) ∷ []) zero_digit
      ∙ ap (λ (q : ℕ). decimal q ++ 48 ∷ []) up
      ∙ ap (λ (l : List ℕ). l ++ 48 ∷ []) higher
      ∙ ap (λ (l : List ℕ). 49 ∷ l) (sym (one_more m 48))
]
  where
    ten : decimal 10 ≡ 49 ∷ 48 ∷ []
    ten = decimal_step 10 (omega arith) (omega arith)
        ∙ ap (λ (l : List ℕ). l ++ 48 ∷ []) (decimal_digit 1 (omega arith))

    none : (m : ℕ) → replicate {A = ℕ} m 57 ≡ [] → (n : ℕ) → n ≡ 9
        → decimal (n + 1) ≡ 49 ∷ replicate (suc m) 48
    none zero e n nine = ap (λ (k : ℕ). decimal (k + 1)) nine ∙ ten
    none (suc m) e n nine = absurd (cc)

-- ---- a list of digits, changed from its end on

counted_here : (old new : List ℕ) (i k n d x : ℕ) → i < length old → length new ≡ length old
    → drop (suc i) old ≡ replicate k 57 → drop (suc i) new ≡ replicate k 48 → take i new ≡ take i old
    → d ≡ get_or old i 0 → x ≡ get_or new i 0 → d ≢ 57 → x ≡ min (d + 1) 255
    → n + 1 < 2 ^ 64 → old ≡ decimal n → new ≡ decimal (n + 1)
counted_here old new i k n d x h same nines zeros front was now other next small is =
    let cut : old ≡ take i old ++ d ∷ replicate k 57 =
    split_at old i 0 h
    ∙ ap (λ (y : ℕ). take i old ++ y ∷ drop (suc i) old) (sym was)
    ∙ ap (λ (l : List ℕ). take i old ++ d ∷ l) nines in
    let cut_new : new ≡ take i old ++ x ∷ replicate k 48 =
    split_at new i 0 (omega (arith, h, same))
    ∙ ap (λ (y : ℕ). take i new ++ y ∷ drop (suc i) new) (sym now)
    ∙ ap (λ (l : List ℕ). take i new ++ x ∷ l) zeros
    ∙ ap (λ (l : List ℕ). l ++ x ∷ replicate k 48) front in
    cut_new ∙ sym (count_digit k n d x (take i old) small other next (sym is ∙ cut))

-- after a first byte, which stays: a digit before nines, and nines alone
pub counted_up : (old line new : List ℕ) (i k n x : ℕ) → 1 ≤ i → i < length old → length line ≡ length old
    → drop (i + 1) old ≡ replicate k 57 → drop (i + 1) line ≡ replicate k 48
    → take (i + 1) line ≡ take (i + 1) old → new ≡ set line i x
    → get_or line i 0 ≢ 57 → x ≡ min (get_or line i 0 + 1) 255
    → n + 1 < 2 ^ 64 → old ≡ 35 ∷ decimal n → new ≡ 35 ∷ decimal (n + 1)
counted_up [] line new i k n x some h same nines zeros front put other next small is = absurd (cc)
counted_up (a ∷ ds) [] new i k n x some h same nines zeros front put other next small is =
    absurd (omega (arith, same))
counted_up (a ∷ ds) (b ∷ es) new zero k n x some h same nines zeros front put other next small is =
    absurd (omega (arith, some))
counted_up (a ∷ ds) (b ∷ es) new (suc j) k n x some h same nines zeros front put other next small is =
    let up : suc j + 1 ≡ suc (suc j) = add-one (suc j) in
    let fits : j < length ds = omega (arith, h) in
    let as_many : length es ≡ length ds = omega (arith, same) in
    let both : take (suc (suc j)) (b ∷ es) ≡ take (suc (suc j)) (a ∷ ds) =
    ap (λ (m : ℕ). take m (b ∷ es)) (sym up) ∙ front ∙ ap (λ (m : ℕ). take m (a ∷ ds)) up in
    let heads : take (suc j) es ≡ take (suc j) ds = ap (drop 1) both in
    let first : b ≡ a = ap (λ (l : List ℕ). get_or l 0 0) both in
    let before : drop (suc j) ds ≡ replicate k 57 = ap (λ (m : ℕ). drop m (a ∷ ds)) (sym up) ∙ nines in
    let after : drop (suc j) es ≡ replicate k 48 = ap (λ (m : ℕ). drop m (b ∷ es)) (sym up) ∙ zeros in
    let digits : ds ≡ decimal n = ap (drop 1) is in
    let hash : a ≡ 35 = ap (λ (l : List ℕ). get_or l 0 0) is in
    let here : get_or es j 0 ≡ get_or ds j 0 =
    sym (get_or-take (suc j) es j 0 (omega arith)) ∙ ap (λ (l : List ℕ). get_or l j 0) heads
    ∙ get_or-take (suc j) ds j 0 (omega arith) in
    let shorter : take j (set es j x) ≡ take j ds =
    take-set es j x ∙ sym (take_less j es) ∙ ap (take j) heads ∙ take_less j ds in
    let all = counted_here ds (set es j x) j k n (get_or es j 0) x fits (length-set es j x ∙ as_many) before
    (drop-set-lt (suc j) es j x (omega arith) ∙ after) shorter here
    (sym (get_or-set_at es j j x 0 refl (omega (arith, fits, as_many)))) other next small digits in
    put ∙ ap (λ (c : ℕ). c ∷ set es j x) (first ∙ hash) ∙ ap (λ (l : List ℕ). 35 ∷ l) all
  where
    take_less : (m : ℕ) (l : List ℕ) → take m (take (suc m) l) ≡ take m l
    take_less zero l = refl
    take_less (suc m) [] = refl
    take_less (suc m) (y ∷ ys) = ap (λ (t : List ℕ). y ∷ t) (take_less m ys)

pub counted_over : (old line new : List ℕ) (k n : ℕ) → drop 1 old ≡ replicate k 57
    → drop 1 line ≡ replicate k 48 → take 1 line ≡ take 1 old → new ≡ take 1 line ++ 49 ∷ drop 1 line
    → n + 1 < 2 ^ 64 → old ≡ 35 ∷ decimal n → new ≡ 35 ∷ decimal (n + 1)
counted_over old line new k n nines zeros front put small is =
    let all : decimal n ≡ replicate k 57 = sym (ap (drop 1) is) ∙ nines in
    put
    ∙ ap (λ (l : List ℕ). l ++ 49 ∷ drop 1 line) (front ∙ ap (take 1) is)
    ∙ ap (λ (l : List ℕ). 35 ∷ 49 ∷ l) zeros
    ∙ ap (λ (l : List ℕ). 35 ∷ l) (sym (count_nines k n small all))
