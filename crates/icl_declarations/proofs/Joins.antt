-- Concatenations, from the right.
use Rattle.std.proofs.Common.{◌≡◌, ◌+◌, ◌-◌, ◌<◌, ◌≤◌, ℕ, zero, suc, true, false, nat_lt, List, [], ◌∷◌, ◌++◌}
use Rattle.std.proofs.Common.{length, map, get_or, take, drop, refl, sym, ap, ◌∙◌, arith, length-append}
use Rattle.std.proofs.Common.{length-take, append_assoc}
use Rattle.std.proofs.lemmas.Bool.{lt-ltb, le-ltb}
use Rattle.icl_declarations.specs.Widths.{joined}
use Rattle.std.proofs.lemmas.List.{take_more}

module _ {X A : Type 0} (see : X → List A) where
  abbrev pub joins : List X → List A
  joins xs = joined (map see xs)

  split : (xs : List X) (i : ℕ) (x : X) → i < length xs → x ≡ get_or xs i x → drop i xs ≡ x ∷ drop (suc i) xs
  split [] i x lt e = absurd (omega (arith, lt))
  split (y ∷ xs) zero x lt e = ap (λ z. z ∷ xs) (sym e)
  split (y ∷ xs) (suc i) x lt e = split xs i x (omega (arith, lt)) e

  -- one part more, from the right
  pub one_more : (xs : List X) (i : ℕ) (x : X) → i < length xs → x ≡ get_or xs i x
      → joins (drop i xs) ≡ joins (drop (suc i) xs) ++ see x
  one_more xs i x lt e = ap joins (split xs i x lt e)

  pub next_part : (xs : List X) (i n : ℕ) (x : X) (bits more : List A) → n ≡ length xs → i < n
      → x ≡ get_or xs (n - 1 - i) x → bits ≡ joins (drop (n - i) xs)
      → more ≡ bits ++ see x → more ≡ joins (drop (n - (i + 1)) xs)
  next_part xs i n x bits more e lt is h g =
      let same : n - (i + 1) ≡ n - 1 - i = omega arith in
      let next : suc (n - 1 - i) ≡ n - i = omega (arith, lt) in
      g ∙ ap (λ l. l ++ see x) (h ∙ ap (λ k. joins (drop k xs)) (sym next))
      ∙ sym (one_more xs (n - 1 - i) x (omega (arith, lt, e)) is) ∙ ap (λ k. joins (drop k xs)) (sym same)

  -- lengths
  pub one_longer : (xs : List X) (i : ℕ) (x : X) → i < length xs → x ≡ get_or xs i x
      → length (joins (drop i xs)) ≡ length (joins (drop (i + 1) xs)) + length (see x)
  one_longer xs i x lt e =
      let n : i + 1 ≡ suc i = omega arith in
      rw n (ap length (one_more xs i x lt e) ∙ length-append (joins (drop (suc i) xs)) (see x))

  pub shorter : (xs : List X) (k : ℕ) → length (joins (drop k xs)) ≤ length (joins xs)
  shorter xs zero = omega arith
  shorter [] (suc k) = omega arith
  shorter (x ∷ xs) (suc k) =
      let rest = shorter xs k in
      let both = length-append (joins xs) (see x) in
      omega (arith, rest, both)

  none_left : (xs : List X) (k : ℕ) → length xs ≤ k → length (joins (drop k xs)) ≡ 0
  none_left [] zero le = refl
  none_left [] (suc k) le = refl
  none_left (x ∷ xs) zero le = absurd (omega (arith, le))
  none_left (x ∷ xs) (suc k) le = none_left xs k (omega (arith, le))

  pub too_long : (xs : List X) (i width left : ℕ) (x : X) → i < length xs → x ≡ get_or xs i x
      → width + length (joins (drop i xs)) ≡ left + length (joins xs) → left < length (see x)
      → true ≡ nat_lt width (length (joins xs))
  too_long xs i width left x lt e h g =
      let one = one_longer xs i x lt e in
      sym (lt-ltb width (length (joins xs)) (omega (arith, one, h, g)))

  pub long_enough : (xs : List X) (k width left : ℕ) → length xs ≤ k
      → width + length (joins (drop k xs)) ≡ left + length (joins xs)
      → false ≡ nat_lt width (length (joins xs))
  long_enough xs k width left le h =
      let none = none_left xs k le in
      sym (le-ltb width (length (joins xs)) (omega (arith, none, h)))

  pub nothing_yet : (xs : List X) (n : ℕ) → n ≡ length xs → joins (drop (n - 0) xs) ≡ []
  nothing_yet xs n e = let z : n - 0 ≡ n = omega arith in rw z (all xs n e)
    where
      all : (ys : List X) (m : ℕ) → m ≡ length ys → joins (drop m ys) ≡ []
      all [] zero h = refl
      all [] (suc m) h = absurd (omega (arith, h))
      all (y ∷ ys) zero h = absurd (omega (arith, h))
      all (y ∷ ys) (suc m) h = all ys m (omega (arith, h))

  pub all_joined : (xs : List X) (n k : ℕ) → n ≤ k → joins (drop (n - k) xs) ≡ joins xs
  all_joined xs n k le = let z : n - k ≡ 0 = omega (arith, le) in rw z refl

module _ {X A : Type 0} (see : X → List A) where
  -- no more than all
  pub fits_more : (xs : List X) (i n : ℕ) (x : X) (bits : List A) → n ≡ length xs → i < n
      → x ≡ get_or xs (n - 1 - i) x → bits ≡ joins see (drop (n - i) xs)
      → length bits + length (see x) ≤ length (joins see xs)
  fits_more xs i n x bits e lt is h =
      let next : suc (n - 1 - i) ≡ n - i = omega (arith, lt) in
      let long = ap length (h ∙ ap (λ k. joins see (drop k xs)) (sym next)) in
      let here = ap length (one_more see xs (n - 1 - i) x (omega (arith, lt, e)) is) in
      let both = length-append (joins see (drop (suc (n - 1 - i)) xs)) (see x) in
      let all = shorter see xs (n - 1 - i) in
      omega (arith, long, here, both, all)

-- ---- bits of one part, one more of them

take_whole : {A : Type 0} (xs : List A) (k : ℕ) → length xs ≤ k → take k xs ≡ xs
take_whole [] zero le = refl
take_whole [] (suc k) le = refl
take_whole (x ∷ xs) zero le = absurd (omega (arith, le))
take_whole (x ∷ xs) (suc k) le = ap (λ l. x ∷ l) (take_whole xs k (omega (arith, le)))

module _ {A : Type 0} (old xs bits : List A) (k : ℕ) (h : bits ≡ old ++ take k xs) where
  pub bit_more : (b d : A) (more : List A) → k < length xs → b ≡ get_or xs k d
      → more ≡ bits ++ b ∷ [] → more ≡ old ++ take (k + 1) xs
  bit_more b d more lt e g =
      g ∙ ap (λ l. l ++ b ∷ []) h ∙ append_assoc old (take k xs) (b ∷ [])
      ∙ ap (λ c. old ++ (take k xs ++ c ∷ [])) e ∙ ap (λ l. old ++ l) (sym (take_more xs k d lt))

  pub all_bits : length xs ≤ k → bits ≡ old ++ xs
  all_bits le = h ∙ ap (λ l. old ++ l) (take_whole xs k le)

  pub room : k < length xs → length bits ≤ length old + k
  room lt =
      let long = ap length h in
      let both = length-append old (take k xs) in
      let part = length-take k xs in
      omega (arith, long, both, part)
