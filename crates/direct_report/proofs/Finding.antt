-- The reads of one bit, in a list that reads each bit once.
use Rattle.std.proofs.Common.{◌≡◌, ◌<◌, ◌≤◌, ℕ, zero, suc, Bool, true, false, cond, List, [], ◌∷◌, ◌++◌}
use Rattle.std.proofs.Common.{length, take, get_or, refl, sym, ap, ◌∙◌, subst, arith, Contains}
use Rattle.std.specs.Prelude.{◌||◌, map, filter}
use Rattle.std.specs.List.{list_any}
use Rattle.ij_bits.specs.Different.{AreDifferent}
use Rattle.net_graph.specs.declared.net.BitId.{BitId}
use Rattle.net_graph.specs.declared.step.ReadBit.{ReadBit}
use Rattle.net_graph.specs.Path.{same_place}
use Rattle.net_graph.proofs.Places.{place_is}
use Rattle.direct_report.specs.Marked.{marked}
use Rattle.std.proofs.lemmas.Bool.{cond-false}
use Rattle.ij_bits.proofs.Contained.{first_in, later_in}

abbrev pub bits_in : List ReadBit → List BitId
bits_in reads = map (λ r. r.bit) reads

abbrev pub at : BitId → ReadBit → Bool
at b r = same_place b r.bit

none_more : (r : ReadBit) (rs : List ReadBit) (b : BitId) (p : Bool) → at b r ≡ p
    → (Contains (bits_in (r ∷ rs)) b → ⊥) → filter (at b) rs ≡ [] → filter (at b) (r ∷ rs) ≡ []
none_more r rs b true e h rest = absurd
    (h (subst (λ (x : BitId). Contains (x ∷ bits_in rs) b) (place_is b r.bit e) (first_in b (bits_in rs))))
none_more r rs b false e h rest = cond-false (at b r) (r ∷ filter (at b) rs) (filter (at b) rs) e ∙ rest

-- a bit that isn't read has no reads
pub none_at : (reads : List ReadBit) (b : BitId) → (Contains (bits_in reads) b → ⊥) → filter (at b) reads ≡ []
none_at [] b h = refl
none_at (r ∷ rs) b h =
    none_more r rs b (at b r) refl h (none_at rs b (λ k. h (later_in r.bit b (bits_in rs) k)))

bit_there : (xs : List ReadBit) (j : ℕ) (e : ReadBit) → j < length xs
    → Contains (bits_in xs) (get_or xs j e).bit
bit_there [] j e m = absurd (omega (arith, m))
bit_there (x ∷ xs) zero e m = first_in x.bit (bits_in xs)
bit_there (x ∷ xs) (suc j) e m =
    later_in x.bit (get_or xs j e).bit (bits_in xs) (bit_there xs j e (omega (arith, m)))

-- a read isn't of a bit that was read before it
pub new_at : (reads : List ReadBit) (i : ℕ) (d : ReadBit) → AreDifferent (bits_in reads) → i < length reads
    → Contains (bits_in (take i reads)) (get_or reads i d).bit → ⊥
new_at [] i d a l h = absurd (omega (arith, l))
new_at (r ∷ rs) zero d a l h = let k = h.1 in absurd (omega (arith, k))
new_at (r ∷ rs) (suc i) d a l (zero, k, e) =
    a.0 (subst (λ (x : BitId). Contains (bits_in rs) x) (sym e) (bit_there rs i d (omega (arith, l))))
new_at (r ∷ rs) (suc i) d a l (suc k, m, e) = new_at rs i d a.1 (omega (arith, l)) (k, omega (arith, m), e)

once_more : (r : ReadBit) (rs : List ReadBit) (b : BitId) (p : Bool) → at b r ≡ p
    → AreDifferent (bits_in (r ∷ rs)) → length (filter (at b) rs) ≤ 1 → length (filter (at b) (r ∷ rs)) ≤ 1
once_more r rs b true e a rest =
    let none : filter (at b) rs ≡ [] =
    none_at rs b (subst (λ (x : BitId). Contains (bits_in rs) x → ⊥) (sym (place_is b r.bit e)) a.0) in
    let is : filter (at b) (r ∷ rs) ≡ r ∷ [] =
    ap (λ (p : Bool). cond p (r ∷ filter (at b) rs) (filter (at b) rs)) e
    ∙ ap (λ (xs : List ReadBit). r ∷ xs) none in
    omega (arith, ap length is)
once_more r rs b false e a rest =
    omega (arith, ap length (cond-false (at b r) (r ∷ filter (at b) rs) (filter (at b) rs) e), rest)

-- at most one read is of a bit
pub once_at : (reads : List ReadBit) (b : BitId)
    → AreDifferent (bits_in reads) → length (filter (at b) reads) ≤ 1
once_at [] b a = omega arith
once_at (r ∷ rs) b a = once_more r rs b (at b r) refl a (once_at rs b a.1)

-- ---- marks

-- a mark leads to the same read in a longer list
pub still_marked : (xs ys : List ReadBit) (m : ℕ) → m ≤ length xs → marked (xs ++ ys) m ≡ marked xs m
still_marked xs ys zero l = refl
still_marked [] ys (suc k) l = absurd (omega (arith, l))
still_marked (x ∷ xs) ys (suc zero) l = refl
still_marked (x ∷ xs) ys (suc (suc k)) l = still_marked xs ys (suc k) (omega (arith, l))

-- the last one has its place
pub last_marked : (xs : List ReadBit) (r : ReadBit) → marked (xs ++ r ∷ []) (suc (length xs)) ≡ r ∷ []
last_marked [] r = refl
last_marked (x ∷ xs) r = last_marked xs r

-- a mark leads to a read, unless it is 0
pub mark_is_none : (xs : List ReadBit) (m : ℕ) → m ≤ length xs → marked xs m ≡ [] → m ≡ 0
mark_is_none xs zero l e = refl
mark_is_none [] (suc k) l e = absurd (omega (arith, l))
mark_is_none (x ∷ xs) (suc zero) l e = let n = ap length e in absurd (omega (arith, n))
mark_is_none (x ∷ xs) (suc (suc k)) l e =
    let n = mark_is_none xs (suc k) (omega (arith, l)) e in absurd (omega (arith, n))

none_pass : {A : Type 0} (p : A → Bool) (x : A) (xs : List A) (t : Bool) → p x ≡ t
    → list_any p (x ∷ xs) ≡ false → (list_any p xs ≡ false → filter p xs ≡ []) → filter p (x ∷ xs) ≡ []
none_pass p x xs true e f rest =
    let g : (true || list_any p xs) ≡ false = sym (ap (λ (u : Bool). u || list_any p xs) e) ∙ f in absurd cc
none_pass p x xs false e f rest =
    cond-false (p x) (x ∷ filter p xs) (filter p xs) e
    ∙ rest (sym (ap (λ (u : Bool). u || list_any p xs) e) ∙ f)

pub none_passes : {A : Type 0} (p : A → Bool) (xs : List A) → list_any p xs ≡ false → filter p xs ≡ []
none_passes p [] e = refl
none_passes p (x ∷ xs) e = none_pass p x xs (p x) refl e (λ f. none_passes p xs f)
