-- Lists that are walked from the front, item by item.
use Rattle.std.proofs.Common.{◌≡◌, ℕ, suc, ◌+◌, ◌-◌, ◌≤◌, Bool, true, false, cond, List, [], ◌∷◌, ◌++◌}
use Rattle.std.proofs.Common.{length, take, get_or, map, refl, sym, ap, ◌∙◌, append_assoc, arith}
use Rattle.std.specs.Prelude.{filter}
use Rattle.ij_bits.specs.Room.{Listed}
use Rattle.pdl_parser.specs.Views.{bytes_of}
use Rattle.pdl_expand.specs.Expansion.{but_last, last}

-- an item more, if it passes
pub passed : {A : Type 0} (p : A → Bool) (part rest all : List A) (x : A) → part ++ filter p (x ∷ rest) ≡ all
    → p x ≡ true → (part ++ x ∷ []) ++ filter p rest ≡ all
passed p part rest all x e t = append_assoc part (x ∷ []) (filter p rest)
    ∙ ap (λ b. part ++ cond b (x ∷ filter p rest) (filter p rest)) (sym t) ∙ e

-- ---- paths

pub front_of_path : (path : List (Listed ℕ))
    → map bytes_of (take (length path - 1) path) ≡ but_last (map bytes_of path)
front_of_path [] = refl
front_of_path (n ∷ []) = refl
front_of_path (n ∷ m ∷ ns) =
    ap (λ k. map bytes_of (take k (n ∷ m ∷ ns)))
    (let e : length (n ∷ m ∷ ns) - 1 ≡ suc (length (m ∷ ns) - 1) = omega arith in e)
    ∙ ap (λ (l : List (List ℕ)). bytes_of n ∷ l) (front_of_path (m ∷ ns))

pub last_of_path : (path : List (Listed ℕ)) (name : Listed ℕ) → 1 ≤ length path
    → name ≡ get_or path (length path - 1) name → name.items ≡ last (map bytes_of path)
last_of_path [] name h is = absurd (omega (arith, h))
last_of_path (n ∷ []) name h is = ap bytes_of is
last_of_path (n ∷ m ∷ ns) name h is =
    last_of_path (m ∷ ns) name (omega arith)
    (is ∙ ap (λ k. get_or (n ∷ m ∷ ns) k name)
    (let e : length (n ∷ m ∷ ns) - 1 ≡ suc (length (m ∷ ns) - 1) = omega arith in e))
