-- Where something of a name is, and lists of different names.
use Rattle.std.proofs.Common.{◌≡◌, ℕ, zero, suc, ◌+◌, ◌<◌, Bool, true, false, cond, List, [], ◌∷◌, ◌++◌}
use Rattle.std.proofs.Common.{length, map, Some, get_or, refl, ap, sym, ◌∙◌, subst, arith}
use Rattle.std.specs.Prelude.{Contains, unwrap_or}
use Rattle.std.specs.Str.{bytes_eq}
use Rattle.std.proofs.lemmas.Slice.Eq.{bytes_eq-Decides}
use Rattle.std.proofs.lemmas.List.Elements.{Contains-append_right}
use Rattle.ij_bits.specs.Different.{AreDifferent}
use Rattle.table_file.specs.Tables.{named_from, named}
use Rattle.ij_bits.proofs.Contained.{map_in}

module _ {A : Type 0} (f : A → List ℕ) where
  record IsPlace (j : ℕ) (ys : List A) (x : A) : Type 0 where
    k : ℕ
    is : named_from j (f x) (map f ys) ≡ Some (j + k)
    within : k < length ys
    at : (d : A) → get_or ys k d ≡ x

  one_later : (j : ℕ) (y : A) (ys : List A) (x : A) → AreDifferent (map f (y ∷ ys)) → Contains ys x
      → IsPlace (j + 1) ys x → (b : Bool) → bytes_eq (f x) (f y) ≡ b → IsPlace j (y ∷ ys) x
  one_later j y ys x apart inside rest true same =
      absurd (apart.0
      (subst (Contains (map f ys)) ((bytes_eq-Decides (f x) (f y)).0 same) (map_in f ys x inside)))
  one_later j y ys x apart inside rest false other =
      let next : j + 1 + rest.k ≡ j + suc rest.k = omega arith in
      record {
        k = suc rest.k;
        is = ap (λ b. cond b (Some j) (named_from (j + 1) (f x) (map f ys))) other
            ∙ rest.is ∙ ap (λ n. Some n) next;
        within = omega (arith, rest.within);
        at = λ d. rest.at d;
      }

  found : (j : ℕ) (ys : List A) (x : A) → AreDifferent (map f ys) → Contains ys x → IsPlace j ys x
  found j [] x apart (k, lt, e) = absurd (omega (arith, lt))
  found j (y ∷ ys) x apart (zero, lt, e) =
      let same = (bytes_eq-Decides (f x) (f y)).1 (ap f (sym e)) in
      let none : j ≡ j + 0 = omega arith in
      record {
        k = 0;
        is = ap (λ b. cond b (Some j) (named_from (j + 1) (f x) (map f ys))) same ∙ ap (λ n. Some n) none;
        within = omega arith;
        at = λ d. e;
      }
  found j (y ∷ ys) x apart (suc k, lt, e) =
      let inside : Contains ys x = (k, omega (arith, lt), e) in
      one_later j y ys x apart inside (found (j + 1) ys x apart.1 inside) (bytes_eq (f x) (f y)) refl

  -- the number of a name that something has
  pub record IsAt (ys : List A) (x : A) : Type 0 where
    pub within : unwrap_or (named (f x) (map f ys)) 0 < length ys
    pub at : (d : A) → get_or ys (unwrap_or (named (f x) (map f ys)) 0) d ≡ x

  pub place : (ys : List A) (x : A) → AreDifferent (map f ys) → Contains ys x → IsAt ys x
  place ys x apart there =
      let here = found 0 ys x apart there in
      let start : 0 + here.k ≡ here.k = omega arith in
      let number : unwrap_or (named (f x) (map f ys)) 0 ≡ here.k = ap (λ o. unwrap_or o 0) here.is ∙ start in
      record {
        within = omega (arith, number, here.within);
        at = λ d. ap (λ i. get_or ys i d) number ∙ here.at d;
      }

-- ---- lists of different things

pub second_apart : {A : Type 0} (xs ys : List A) → AreDifferent (xs ++ ys) → AreDifferent ys
second_apart [] ys h = h
second_apart (x ∷ xs) ys h = second_apart xs ys h.1

pub not_both : {A : Type 0} (xs ys : List A) (z : A)
    → AreDifferent (xs ++ ys) → Contains xs z → Contains ys z → ⊥
not_both [] ys z h (k, lt, e) c = absurd (omega (arith, lt))
not_both (x ∷ xs) ys z h (zero, lt, e) c =
    h.0 (subst (Contains (xs ++ ys)) (sym e) (Contains-append_right xs ys z c))
not_both (x ∷ xs) ys z h (suc k, lt, e) c = not_both xs ys z h.1 (k, omega (arith, lt), e) c
