-- The parameters of a table, by name.
use Rattle.std.proofs.Common.{◌≡◌, ℕ, Bool, true, false, cond, List, [], ◌∷◌, map, Option, Some, None, refl}
use Rattle.std.proofs.Common.{ap}
use Rattle.std.specs.Str.{bytes_eq}
use Rattle.std.specs.Option.{option_map}
use Rattle.std.specs.Map.{lookup}
use Rattle.indexmap.specs.IndexMap.{insert_entry}
use Rattle.icl_declarations.specs.Values.{Given, ParamValue, param_value, with_param}

-- one view after another
pub map_twice : {A B C : Type 0} (g : A → B) (f : B → C) (o : Option A)
    → option_map (λ x. f (g x)) o ≡ option_map f (option_map g o)
map_twice g f None = refl
map_twice g f (Some x) = refl

module _ {K V : Type 0} (name_of : K → List ℕ) (see : V → ParamValue) where
  abbrev pub given : List (K × V) → List Given
  given es = map (λ (e : K × V). record { name = name_of e.0; value = see e.1 }) es

  pub found : (name : List ℕ) (es : List (K × V))
      → option_map see (lookup (λ k. bytes_eq name (name_of k)) es) ≡ param_value (given es) name
  found name [] = refl
  found name (e ∷ es) = by_test (bytes_eq name (name_of e.0)) (found name es)
    where
      by_test : (b : Bool)
          → option_map see (lookup (λ k. bytes_eq name (name_of k)) es) ≡ param_value (given es) name
          → option_map see (cond b (Some e.1) (lookup (λ k. bytes_eq name (name_of k)) es))
          ≡ cond b (Some (see e.1)) (param_value (given es) name)
      by_test true again = refl
      by_test false again = again

  pub put : (es : List (K × V)) (k : K) (v : V)
      → given (insert_entry (λ a b. bytes_eq (name_of a) (name_of b)) es k v)
      ≡ with_param (given es) (name_of k) (see v)
  put [] k v = refl
  put (e ∷ es) k v = by_test (bytes_eq (name_of k) (name_of e.0)) (put es k v)
    where
      by_test : (b : Bool) → given (insert_entry (λ a c. bytes_eq (name_of a) (name_of c)) es k v)
          ≡ with_param (given es) (name_of k) (see v)
          → given (cond b ((e.0, v) ∷ es) (e ∷ insert_entry (λ a c. bytes_eq (name_of a) (name_of c)) es k v))
          ≡ cond b (record { name = name_of e.0; value = see v } ∷ given es)
          (record { name = name_of e.0; value = see e.1 } ∷ with_param (given es) (name_of k) (see v))
      by_test true again = refl
      by_test false again =
          ap (λ (gs : List Given). record { name = name_of e.0; value = see e.1 } ∷ gs) again
