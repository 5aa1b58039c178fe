-- Bits that are found by their marks.
use Rattle.std.proofs.Common.{◌≡◌, ℕ, zero, suc, ◌<◌, ◌≤◌, ◌+◌, ◌==◌, Bool, true, false, cond, List, [], ◌∷◌}
use Rattle.std.proofs.Common.{◌++◌, length, get_or, map, set, Some, None, refl, sym, ap, ◌∙◌, subst, arith}
use Rattle.std.specs.Prelude.{All, nat_lt, ◌&&◌, ◌||◌}
use Rattle.std.specs.List.{list_any, position, position_or_len}
use Rattle.std.proofs.lemmas.Bool.{eqb-true, ltb-true, ltb-false, lt-ltb, le-ltb}
use Rattle.std.proofs.lemmas.List.{get_or-map, get_or_append_left, get_or_push, length-append, length-map}
use Rattle.std.proofs.lemmas.List.Quantifiers.{position-Some}
use Rattle.std.proofs.lemmas.List.Sums.{fails_before_first, position_or_len_is}
use Rattle.net_graph.specs.declared.net.BitId.{BitId}
use Rattle.net_graph.specs.declared.net.Net.{Net}
use Rattle.net_graph.specs.Path.{same_place}
use Rattle.net_graph.proofs.Places.{place_is}
use Rattle.net_graph.specs.MarkLaws.{BitsStay, OthersStay, SetIsThere}
use Rattle.net_graph.specs.Marks.{HasMark, Marks, mark_at, set_mark}
use Rattle.net_graph.specs.Numbered.{AreNumbered, first_bit, first_bits}

-- nothing is at no position
pub no_position : {A : Type 0} (p : A → Bool) (xs : List A)
    → None ≡ position p xs → length xs ≤ position_or_len p xs
no_position p xs e = by_test (nat_lt (position_or_len p xs) (length xs)) refl e
  where
    by_test : (t : Bool) → nat_lt (position_or_len p xs) (length xs) ≡ t
        → None ≡ cond t (Some (position_or_len p xs)) None → length xs ≤ position_or_len p xs
    by_test true h e = absurd cc
    by_test false h e = ltb-false (position_or_len p xs) (length xs) h

-- ---- where an item is that is looked for by its bit

module _ {A : Type 0} (bit : A → BitId) where
  found_at : (net : Net) (marks : Marks) (xs : List A) (b : BitId) (i : ℕ) (d : A)
      → AreNumbered net marks (map bit xs) → i < length xs
      → same_place (bit (get_or xs i d)) b ≡ true → mark_at marks b ≡ i + 1
  found_at net marks xs b i d numbered h e =
      ap (mark_at marks) (sym (place_is (bit (get_or xs i d)) b e))
      ∙ ap (mark_at marks) (sym (get_or-map bit xs i d b h))
      ∙ numbered.places i b (simp length-map h)

  others_before : (net : Net) (marks : Marks) (xs : List A) (b : BitId) (i k : ℕ) (d : A)
      → AreNumbered net marks (map bit xs) → k < length xs → (mark_at marks b ≡ k + 1 → ⊥) → (t : Bool)
      → same_place (bit (get_or xs k d)) b ≡ t → t ≡ false
  others_before net marks xs b i k d numbered h other true e =
      absurd (other (found_at net marks xs b k d numbered h e))
  others_before net marks xs b i k d numbered h other false e = refl

  pub is_found : (net : Net) (marks : Marks) (xs : List A) (b : BitId) (i : ℕ) (d : A)
      → AreNumbered net marks (map bit xs) → i < length xs → mark_at marks b ≡ i + 1
      → same_place (bit (get_or xs i d)) b ≡ true → Some i ≡ position (λ x. same_place (bit x) b) xs
  is_found net marks xs b i d numbered h m e =
      let first : position_or_len (λ x. same_place (bit x) b) xs ≡ i =
      position_or_len_is (λ x. same_place (bit x) b) xs i d (omega (arith, h))
      (λ k l. others_before net marks xs b i k d numbered (omega (arith, h, l))
      (λ n. omega (arith, m, n, l)) (same_place (bit (get_or xs k d)) b) refl) (λ l. e) in
      sym (ap (λ n. cond (nat_lt n (length xs)) (Some n) None) first
      ∙ ap (λ t. cond t (Some i) None) (lt-ltb i (length xs) h))

  pub isnt_found : (net : Net) (marks : Marks) (xs : List A) (b : BitId) (d : A)
      → AreNumbered net marks (map bit xs)
      → ((i : ℕ) → i < length xs → mark_at marks b ≡ i + 1 → same_place (bit (get_or xs i d)) b ≡ false)
      → None ≡ position (λ x. same_place (bit x) b) xs
  isnt_found net marks xs b d numbered none =
      let first : position_or_len (λ x. same_place (bit x) b) xs ≡ length xs =
      position_or_len_is (λ x. same_place (bit x) b) xs (length xs) d (omega arith)
      (λ k l. by_test k l (same_place (bit (get_or xs k d)) b) refl) (λ l. absurd (omega (arith, l))) in
      sym (ap (λ n. cond (nat_lt n (length xs)) (Some n) None) first
      ∙ ap (λ t. cond t (Some (length xs)) None) (le-ltb (length xs) (length xs) (omega arith)))
    where
      by_test : (k : ℕ) → k < length xs → (t : Bool) → same_place (bit (get_or xs k d)) b ≡ t
          → same_place (bit (get_or xs k d)) b ≡ false
      by_test k l true e = none k l (found_at net marks xs b k d numbered l e)
      by_test k l false e = e

  pub isnt_there : (net : Net) (marks : Marks) (xs : List A) (b : BitId) (i : ℕ) (d : A)
      → AreNumbered net marks (map bit xs) → mark_at marks b ≡ i + 1
      → same_place (bit (get_or xs i d)) b ≡ false → None ≡ position (λ x. same_place (bit x) b) xs
  isnt_there net marks xs b i d numbered m e =
      isnt_found net marks xs b d numbered (λ k h n. let same : k ≡ i = omega (arith, m, n) in
      ap (λ j. same_place (bit (get_or xs j d)) b) same ∙ e)

  pub isnt_marked : (net : Net) (marks : Marks) (xs : List A) (b : BitId) → AreNumbered net marks (map bit xs)
      → ((i : ℕ) → i < length xs → mark_at marks b ≡ i + 1 → ⊥)
      → None ≡ position (λ x. same_place (bit x) b) xs
  isnt_marked net marks [] b numbered none = refl
  isnt_marked net marks (x ∷ xs) b numbered none =
      isnt_found net marks (x ∷ xs) b x numbered (λ i h m. absurd (none i h m))

  -- an item in place of one of the same bit
  pub same_bits : (xs : List A) (i : ℕ) (x : A) → i < length xs
      → same_place (bit (get_or xs i x)) (bit x) ≡ true → map bit (set xs i x) ≡ map bit xs
  same_bits [] i x h e = absurd (omega (arith, h))
  same_bits (v ∷ vs) zero x h e = ap (λ b. b ∷ map bit vs) (sym (place_is (bit v) (bit x) e))
  same_bits (v ∷ vs) (suc i) x h e = ap (λ bs. bit v ∷ bs) (same_bits vs i x (omega (arith, h)) e)

  pub kept_at : (xs : List A) (i : ℕ) (x : A)
      → Some i ≡ position (λ v. same_place (bit v) (bit x)) xs → map bit (set xs i x) ≡ map bit xs
  kept_at xs i x e =
      let at = position-Some (λ v. same_place (bit v) (bit x)) xs i x (sym e) in same_bits xs i x at.0 at.1

  pub bits_more : (xs : List A) (x : A) → map bit (xs ++ x ∷ []) ≡ map bit xs ++ bit x ∷ []
  bits_more [] x = refl
  bits_more (v ∷ vs) x = ap (λ bs. bit v ∷ bs) (bits_more vs x)

  pub others_differ : (xs : List A) (x : A) → None ≡ position (λ v. same_place (bit v) (bit x)) xs
      → All (λ c. same_place c (bit x) ≡ false) (map bit xs)
  others_differ xs x e k d h =
      let long = no_position (λ v. same_place (bit v) (bit x)) xs e in
      let l : k < length xs = simp length-map at h in
      ap (λ c. same_place c (bit x)) (get_or-map bit xs k x d l)
      ∙ fails_before_first (λ v. same_place (bit v) (bit x)) xs k x (omega (arith, l, long))

-- ---- one bit more

pub one_more : SetIsThere → OthersStay → BitsStay → (net : Net) (marks now : Marks) (b : BitId) (n : ℕ)
    → HasMark marks b → now ≡ set_mark marks b n → (bits : List BitId) → AreNumbered net marks bits
    → n ≡ length bits + 1 → All (λ c. same_place c b ≡ false) bits → AreNumbered net now (bits ++ b ∷ [])
one_more there others stay net marks now b n h e bits numbered long differ = record {
  places = λ i c l. ap (λ m. mark_at m (get_or (bits ++ b ∷ []) i c)) e
      ∙ by_place i c (omega (arith, l, length-append bits (b ∷ []))) (nat_lt i (length bits)) refl;
  there = λ c k. let P : Marks → Type 0 = λ m. HasMark m c in
      subst P (sym e) (stay marks b c n (numbered.there c k));
}
  where
    by_place : (i : ℕ) (c : BitId) → i ≤ length bits → (t : Bool) → nat_lt i (length bits) ≡ t
        → mark_at (set_mark marks b n) (get_or (bits ++ b ∷ []) i c) ≡ i + 1
    by_place i c l true t =
        let k = ltb-true i (length bits) t in
        ap (mark_at (set_mark marks b n)) (get_or_append_left bits (b ∷ []) c i k)
        ∙ others marks b (get_or bits i c) n (differ i c k) ∙ numbered.places i c k
    by_place i c l false t =
        let k = ltb-false i (length bits) t in
        let same : i ≡ length bits = omega (arith, k, l) in
        ap (mark_at (set_mark marks b n)) (get_or_push bits b c i (sym same))
        ∙ there marks b n h ∙ long ∙ ap (λ m. m + 1) (sym same)

-- ---- registers

pub in_there : (rs : List ℕ) (i r d : ℕ) → i < length rs
    → (get_or rs i d == r) ≡ true → list_any (λ q. q == r) rs ≡ true
in_there [] i r d h e = absurd (omega (arith, h))
in_there (q ∷ qs) zero r d h e = ap (λ t. t || list_any (λ p. p == r) qs) e
in_there (q ∷ qs) (suc i) r d h e =
    ap (λ t. (q == r) || t) (in_there qs i r d (omega (arith, h)) e) ∙ or_true (q == r)
  where
    or_true : (t : Bool) → (t || true) ≡ true
    or_true true = refl
    or_true false = refl

not_in : (rs : List ℕ) (r d : ℕ) → ((i : ℕ) → i < length rs → (get_or rs i d == r) ≡ false)
    → list_any (λ q. q == r) rs ≡ false
not_in [] r d none = refl
not_in (q ∷ qs) r d none = ap (λ t. t || list_any (λ p. p == r) qs) (none 0 (omega arith))
    ∙ not_in qs r d (λ i h. none (suc i) (omega (arith, h)))

isnt_in : (net : Net) (marks : Marks) (rs : List ℕ) (r d : ℕ) → AreNumbered net marks (first_bits rs)
    → ((i : ℕ) → i < length rs → mark_at marks (first_bit r) ≡ i + 1 → (get_or rs i d == r) ≡ false)
    → list_any (λ q. q == r) rs ≡ false
isnt_in net marks rs r d numbered none = not_in rs r d (λ i h. by_test i h (get_or rs i d == r) refl)
  where
    by_test : (i : ℕ) → i < length rs → (t : Bool) → (get_or rs i d == r) ≡ t → (get_or rs i d == r) ≡ false
    by_test i h true e =
        none i h
        (ap (λ q. mark_at marks (first_bit q)) (sym (eqb-true (get_or rs i d) r e))
        ∙ ap (mark_at marks) (sym (get_or-map first_bit rs i d (first_bit r) h))
        ∙ numbered.places i (first_bit r) (simp length-map h))
    by_test i h false e = e

pub in_some : (net : Net) (marks : Marks) (rs : List ℕ) (r i : ℕ) → AreNumbered net marks (first_bits rs)
    → i < length rs → mark_at marks (first_bit r) ≡ i + 1 → (get_or rs i 0 == r) ≡ list_any (λ q. q == r) rs
in_some net marks rs r i numbered h m = by_test (get_or rs i 0 == r) refl
  where
    by_test : (t : Bool) → (get_or rs i 0 == r) ≡ t → (get_or rs i 0 == r) ≡ list_any (λ q. q == r) rs
    by_test true e = e ∙ sym (in_there rs i r 0 h e)
    by_test false e = e ∙ sym (isnt_in net marks rs r 0 numbered (λ k l n.
        let same : k ≡ i = omega (arith, m, n) in ap (λ j. get_or rs j 0 == r) same ∙ e))

pub in_none : (net : Net) (marks : Marks) (rs : List ℕ) (r : ℕ) → AreNumbered net marks (first_bits rs)
    → ((i : ℕ) → i < length rs → mark_at marks (first_bit r) ≡ i + 1 → ⊥) → false ≡ list_any (λ q. q == r) rs
in_none net marks rs r numbered none = sym (isnt_in net marks rs r 0 numbered (λ i h m. absurd (none i h m)))

pub registers_differ : (rs : List ℕ) (r : ℕ) → list_any (λ q. q == r) rs ≡ false
    → All (λ c. same_place c (first_bit r) ≡ false) (first_bits rs)
registers_differ [] r e k d h = absurd (omega (arith, h))
registers_differ (q ∷ qs) r e zero d h = first (q == r) e
  where
    first : (t : Bool) → (t || list_any (λ p. p == r) qs) ≡ false → (t && true) ≡ false
    first true f = absurd cc
    first false f = refl
registers_differ (q ∷ qs) r e (suc k) d h = registers_differ qs r (rest (q == r) e) k d (omega (arith, h))
  where
    rest : (t : Bool) → (t || list_any (λ p. p == r) qs) ≡ false → list_any (λ p. p == r) qs ≡ false
    rest true f = absurd cc
    rest false f = f
