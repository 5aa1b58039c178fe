-- Tables of parts.
use Rattle.std.proofs.Common.{◌≡◌, ℕ, Bool, true, false, cond, List, [], ◌∷◌, Option, Some, None, refl}
use Rattle.std.specs.Str.{bytes_eq}
use Rattle.std.specs.Map.{lookup}
use Rattle.ij_text.specs.Options.{or_else}
use Rattle.indexmap.specs.IndexMap.{insert_entry}

-- a name that isn't there goes last
module _ {K : Type 0} (name_of : K → List ℕ) where
  abbrev pub at : List (K × ℕ) → List ℕ → Option ℕ
  at es name = lookup (λ k. bytes_eq name (name_of k)) es

  pub added : (es : List (K × ℕ)) (k : K) (v : ℕ) → at es (name_of k) ≡ None → (n : List ℕ)
      → at (insert_entry (λ a b. bytes_eq (name_of a) (name_of b)) es k v) n
      ≡ or_else (at es n) (cond (bytes_eq n (name_of k)) (Some v) None)
  added [] k v h n = refl
  added (e ∷ es) k v h n = by_test (bytes_eq (name_of k) (name_of e.0)) h (λ g. added es k v g n)
    where
      one : (b : Bool) → at (insert_entry (λ a c. bytes_eq (name_of a) (name_of c)) es k v) n
          ≡ or_else (at es n) (cond (bytes_eq n (name_of k)) (Some v) None)
          → cond b (Some e.1) (at (insert_entry (λ a c. bytes_eq (name_of a) (name_of c)) es k v) n)
          ≡ or_else (cond b (Some e.1) (at es n)) (cond (bytes_eq n (name_of k)) (Some v) None)
      one true g = refl
      one false g = g

      by_test : (b : Bool) → cond b (Some e.1) (at es (name_of k)) ≡ None
          → (at es (name_of k) ≡ None → at (insert_entry (λ a c. bytes_eq (name_of a) (name_of c)) es k v) n
          ≡ or_else (at es n) (cond (bytes_eq n (name_of k)) (Some v) None))
          → at (cond b ((e.0, v) ∷ es) (e ∷ insert_entry (λ a c. bytes_eq (name_of a) (name_of c)) es k v)) n
          ≡ or_else (at (e ∷ es) n) (cond (bytes_eq n (name_of k)) (Some v) None)
      by_test true g again = absurd cc
      by_test false g again = one (bytes_eq n (name_of e.0)) (again g)
