-- Paths by their texts.
use Rattle.std.proofs.Common.{◌≡◌, ℕ, suc, ◌+◌, Bool, true, false, not, cond, List, [], ◌∷◌, length, map}
use Rattle.std.proofs.Common.{Option, Some, None, nat_lt, refl, ap, sym, ◌∙◌, arith, position}
use Rattle.std.specs.Prelude.{◌==◌, ◌&&◌, ◌||◌, is_some, Ok, Err}
use Rattle.std.specs.List.{list_any, position_or_len}
use Rattle.std.specs.Str.{bytes_eq}
use Rattle.std.proofs.lemmas.Bool.Decides.{nat_tests}
use Rattle.ij_text.specs.Numbering.{number_in}
use Rattle.ij_text.specs.declared.Place.{Place}
use Rattle.ij_text.specs.Parts.{before, split}
use Rattle.instruments.specs.Seen.{SeenModel}
use Rattle.table_file.specs.declared.fault.TableFault.TheVariants.{TableTwice}
use Rattle.table_file.specs.Tables.{SeenTable, same_path, has_table, new_block, empty}
use Rattle.std.proofs.Math.Bool.{and_assoc}

-- ---- the pieces of a text tell it

dot_and_other : (x y : ℕ) → (x == 46) ≡ true → (y == 46) ≡ false → (x == y) ≡ false
dot_and_other x y h k = grind (arith, nat_tests)

other_and_dot : (x y : ℕ) → (x == 46) ≡ false → (y == 46) ≡ true → (x == y) ≡ false
other_and_dot x y h k = grind (arith, nat_tests)

two_dots : (x y : ℕ) → (x == 46) ≡ true → (y == 46) ≡ true → (x == y) ≡ true
two_dots x y h k = grind (arith, nat_tests)

-- a first piece that isn't empty
nothing_before : (b : ℕ) (ts : List (List ℕ)) → same_path ([] ∷ []) (before b ts) ≡ false
nothing_before b [] = refl
nothing_before b (t ∷ ts) = refl

front_of_nothing : (b : ℕ) (ts : List (List ℕ)) → same_path (before b ts) ([] ∷ []) ≡ false
front_of_nothing b [] = refl
front_of_nothing b (t ∷ ts) = refl

dot_before : (b : ℕ) (ss ts : List (List ℕ)) → same_path ([] ∷ ss) (before b ts) ≡ false
dot_before b ss [] = refl
dot_before b ss (t ∷ ts) = refl

front_of_dot : (b : ℕ) (ss ts : List (List ℕ)) → same_path (before b ss) ([] ∷ ts) ≡ false
front_of_dot b [] ts = refl
front_of_dot b (s ∷ ss) ts = refl

-- texts of at least one piece
abbrev IsSome : List (List ℕ) → Type 0
IsSome [] = ⊥
IsSome (t ∷ ts) = Unit {0}

some_piece : (text : List ℕ) → IsSome (split 46 text)
some_piece [] = tt
some_piece (b ∷ bs) = one (b == 46) (split 46 bs)
  where
    one : (same : Bool) (ts : List (List ℕ)) → IsSome (cond same ([] ∷ ts) (before b ts))
    one true ts = tt
    one false [] = tt
    one false (t ∷ ts) = tt

both_before : (x y : ℕ) (ss ts : List (List ℕ)) → IsSome ss → IsSome ts
    → same_path (before x ss) (before y ts) ≡ ((x == y) && same_path ss ts)
both_before x y [] ts no_ss some = absurd no_ss
both_before x y (s ∷ ss) [] some no_ts = absurd no_ts
both_before x y (s ∷ ss) (t ∷ ts) some more = and_assoc (x == y) (bytes_eq s t) (same_path ss ts)

not_nothing : (ts : List (List ℕ)) → IsSome ts → same_path [] ts ≡ false
not_nothing [] no_ts = absurd no_ts
not_nothing (t ∷ ts) some = refl

nothing_not : (ts : List (List ℕ)) → IsSome ts → same_path ts [] ≡ false
nothing_not [] no_ts = absurd no_ts
nothing_not (t ∷ ts) some = refl

empty_first : (y : ℕ) (same : Bool) (ts : List (List ℕ)) → IsSome ts
    → same_path ([] ∷ []) (cond same ([] ∷ ts) (before y ts)) ≡ false
empty_first y true ts some = not_nothing ts some
empty_first y false ts some = nothing_before y ts

empty_second : (x : ℕ) (same : Bool) (ss : List (List ℕ)) → IsSome ss
    → same_path (cond same ([] ∷ ss) (before x ss)) ([] ∷ []) ≡ false
empty_second x true ss some = nothing_not ss some
empty_second x false ss some = front_of_nothing x ss

one_byte_more : (x y : ℕ) (xs ys : List ℕ) (ss ts : List (List ℕ)) (p q : Bool) → (x == 46) ≡ p
    → (y == 46) ≡ q → IsSome ss → IsSome ts → same_path ss ts ≡ bytes_eq xs ys
    → same_path (cond p ([] ∷ ss) (before x ss)) (cond q ([] ∷ ts) (before y ts))
    ≡ ((x == y) && bytes_eq xs ys)
one_byte_more x y xs ys ss ts true true p-is q-is some_s some_t same =
    same ∙ ap (λ b. b && bytes_eq xs ys) (sym (two_dots x y p-is q-is))
one_byte_more x y xs ys ss ts true false p-is q-is some_s some_t same =
    dot_before y ss ts ∙ ap (λ b. b && bytes_eq xs ys) (sym (dot_and_other x y p-is q-is))
one_byte_more x y xs ys ss ts false true p-is q-is some_s some_t same =
    front_of_dot x ss ts ∙ ap (λ b. b && bytes_eq xs ys) (sym (other_and_dot x y p-is q-is))
one_byte_more x y xs ys ss ts false false p-is q-is some_s some_t same =
    both_before x y ss ts some_s some_t ∙ ap (λ b. (x == y) && b) same

pub same_split : (a b : List ℕ) → same_path (split 46 a) (split 46 b) ≡ bytes_eq a b
same_split [] [] = refl
same_split [] (y ∷ ys) = empty_first y (y == 46) (split 46 ys) (some_piece ys)
same_split (x ∷ xs) [] = empty_second x (x == 46) (split 46 xs) (some_piece xs)
same_split (x ∷ xs) (y ∷ ys) = one_byte_more x y xs ys (split 46 xs) (split 46 ys) (x == 46)
    (y == 46) refl refl (some_piece xs) (some_piece ys) (same_split xs ys)

-- ---- a path that is there

any_of_paths : (path : List (List ℕ)) (ts : List SeenTable)
    → has_table path ts ≡ list_any (same_path path) (map (λ t. t.path) ts)
any_of_paths path [] = refl
any_of_paths path (t ∷ ts) = ap (λ b. same_path path t.path || b) (any_of_paths path ts)

any_of_texts : (text : List ℕ) (texts : List (List ℕ))
    → list_any (same_path (split 46 text)) (map (split 46) texts) ≡ list_any (bytes_eq text) texts
any_of_texts text [] = refl
any_of_texts text (t ∷ ts) = ap (λ b. b || list_any (same_path (split 46 text)) (map (split 46) ts))
    (same_split text t) ∙ ap (λ b. bytes_eq text t || b) (any_of_texts text ts)

-- a position, or none
there : {A : Type 0} (b : Bool) (n : A) → is_some (cond b (Some n) None) ≡ b
there true n = refl
there false n = refl

first_place : {A : Type 0} (p : A → Bool) (xs : List A)
    → nat_lt (position_or_len p xs) (length xs) ≡ list_any p xs
first_place p [] = refl
first_place {A} p (x ∷ xs) = one (p x) (first_place p xs)
  where
    one : (b : Bool) → nat_lt (position_or_len p xs) (length xs) ≡ list_any p xs
        → nat_lt (cond (not b) (1 + position_or_len p xs) 0) (suc (length xs)) ≡ (b || list_any p xs)
    one true h = grind (arith, nat_tests)
    one false h = grind (arith, nat_tests)

number_there : (text : List ℕ) (texts : List (List ℕ))
    → is_some (number_in texts text) ≡ list_any (bytes_eq text) texts
number_there text texts = there (nat_lt (position_or_len (bytes_eq text) texts) (length texts))
    (position_or_len (bytes_eq text) texts) ∙ first_place (bytes_eq text) texts

pub stands_there : (text : List ℕ) (texts : List (List ℕ)) (ts : List SeenTable)
    → map (λ t. t.path) ts ≡ map (split 46) texts
    → has_table (split 46 text) ts ≡ is_some (number_in texts text)
stands_there text texts ts listed =
    any_of_paths (split 46 text) ts ∙ ap (list_any (same_path (split 46 text))) listed
    ∙ any_of_texts text texts ∙ sym (number_there text texts)

-- ---- a block begins

pub taken : (at : Place) (ts : List SeenTable) (texts names : List (List ℕ)) (text : List ℕ)
    (said : Option (List (List ℕ))) → map (λ t. t.path) ts ≡ map (split 46) texts
    → said ≡ Some names → names ≡ split 46 text → is_some (number_in texts text) ≡ true
    → new_block at ts said ≡ Err (TableTwice at)
taken at ts texts names text said listed is pieces there =
    ap (new_block at ts) (is ∙ ap (λ p. Some p) pieces)
    ∙ ap (λ b. cond b (Err (TableTwice at))
    (Ok (record { path = split 46 text; at = at; rank = 0; model = empty })))
    (stands_there text texts ts listed ∙ there)

pub fresh : (at : Place) (ts : List SeenTable) (texts names path : List (List ℕ)) (text : List ℕ)
    (said : Option (List (List ℕ))) (m : SeenModel) → map (λ t. t.path) ts ≡ map (split 46) texts
    → said ≡ Some names → names ≡ split 46 text → is_some (number_in texts text) ≡ false → path ≡ names
    → m ≡ empty → new_block at ts said ≡ Ok (record { path = path; at = at; rank = 0; model = m })
fresh at ts texts names path text said m listed is pieces there same none =
    ap (new_block at ts) (is ∙ ap (λ p. Some p) pieces)
    ∙ ap (λ b. cond b (Err (TableTwice at))
    (Ok (record { path = split 46 text; at = at; rank = 0; model = empty })))
    (stands_there text texts ts listed ∙ there)
    ∙ ap (λ (p : List (List ℕ)). Ok (record { path = p; at = at; rank = 0; model = empty }))
    (sym (same ∙ pieces))
    ∙ ap (λ (n : SeenModel). Ok (record { path = path; at = at; rank = 0; model = n })) (sym none)
