-- The parts of a cell, by number and by name.
use Rattle.std.proofs.Common.{◌≡◌, ◌+◌, ◌<◌, ℕ, zero, suc, Bool, true, false, cond, List, [], ◌∷◌, length}
use Rattle.std.proofs.Common.{get_or, drop, Option, Some, None, refl, sym, subst, arith}
use Rattle.std.specs.Prelude.{◌&&◌, filter, find}
use Rattle.std.specs.Str.{bytes_eq}
use Rattle.icl_lexer.specs.Values.{SeenItem}
use Rattle.icl_declarations.specs.declared.ranges.Bounds.{Bounds}
use Rattle.icl_declarations.specs.Parts.{is_part, is_signal}
use Rattle.icl_declarations.specs.Ranges.{one_bit}
use Rattle.icl_declarations.specs.Scopes.{part_from}
use Rattle.icl_references.specs.Names.{Member, members_from}

abbrev pub parts_in : List SeenItem → List SeenItem
parts_in items = filter (λ item. is_part item.what) items

-- the next part
pub next_member : (n k : ℕ) (x : SeenItem) (xs : List SeenItem) (bs : List Bounds)
    → members_from n (x ∷ xs) (drop k bs) ≡ record { part = n; item = x; bounds = get_or bs k one_bit }
    ∷ members_from (suc n) xs (drop (suc k) bs)
next_member n zero x xs [] = refl
next_member n zero x xs (b ∷ bs) = refl
next_member n (suc k) x xs [] = refl
next_member n (suc k) x xs (b ∷ bs) = next_member n k x xs bs

-- ---- by name

-- what is found is at its number, counted from the first one
pub record IsFound (o : Option Member) (ms : List Member) (n k : ℕ) : Type 0 where
  pub place : ℕ
  pub number : k ≡ n + place
  pub there : place < length ms
  pub is : (d : Member) → o ≡ Some (get_or ms place d)

abbrev pub Finds : Option ℕ → Option Member → List Member → ℕ → Type 0
Finds None o ms n = o ≡ None
Finds (Some k) o ms n = IsFound o ms n k

module _ (name : List ℕ) where
  abbrev pub is_named : Member → Bool
  is_named m = is_signal m.item.what && bytes_eq name m.item.name

  after : (n : ℕ) (m : Member) (ms : List Member) (k : Option ℕ) → is_named m ≡ false
      → Finds k (find is_named ms) ms (suc n) → Finds k (find is_named (m ∷ ms)) (m ∷ ms) n
  after n m ms None e h = rw e h
  after n m ms (Some k) e h = record {
    place = suc h.place;
    number = let f = h.number in omega (arith, f);
    there = let f = h.there in omega (arith, f);
    is = λ d. rw e (h.is d);
  }

  first : (n : ℕ) (m : Member) (ms : List Member) → is_named m ≡ true
      → Finds (Some n) (find is_named (m ∷ ms)) (m ∷ ms) n
  first n m ms e = record { place = 0; number = omega arith; there = omega arith; is = λ d. rw e refl }

  by_name : (n : ℕ) (m : Member) (ms : List Member) (k : Option ℕ) (b : Bool) → is_named m ≡ b
      → Finds k (find is_named ms) ms (suc n) → Finds (cond b (Some n) k) (find is_named (m ∷ ms)) (m ∷ ms) n
  by_name n m ms k true e h = first n m ms e
  by_name n m ms k false e h = after n m ms k e h

  pub finds : (n : ℕ) (items : List SeenItem) (bs : List Bounds) → Finds (part_from n is_signal items name)
      (find is_named (members_from n (parts_in items) bs)) (members_from n (parts_in items) bs) n
  finds n [] bs = refl
  finds n (item ∷ items) bs = by_part (is_part item.what) (finds (suc n) items (drop 1 bs)) (finds n items bs)
    where
      by_part : (b : Bool)
          → Finds (part_from (suc n) is_signal items name)
          (find is_named (members_from (suc n) (parts_in items) (drop 1 bs)))
          (members_from (suc n) (parts_in items) (drop 1 bs)) (suc n)
          → Finds (part_from n is_signal items name)
          (find is_named (members_from n (parts_in items) bs)) (members_from n (parts_in items) bs) n
          → Finds (cond b (cond (is_signal item.what && bytes_eq name item.name) (Some n)
          (part_from (suc n) is_signal items name)) (part_from n is_signal items name))
          (find is_named (members_from n (cond b (item ∷ parts_in items) (parts_in items)) bs))
          (members_from n (cond b (item ∷ parts_in items) (parts_in items)) bs) n
      by_part true h g =
          let m : Member = record { part = n; item = item; bounds = get_or bs 0 one_bit } in
          let P : List Member → Type 0 = λ l. Finds
          (cond (is_named m) (Some n) (part_from (suc n) is_signal items name)) (find is_named l) l n in
          subst P (sym (next_member n 0 item (parts_in items) bs)) (by_name n m (members_from (suc n)
          (parts_in items) (drop 1 bs)) (part_from (suc n) is_signal items name) (is_named m) refl h)
      by_part false h g = g
