-- What tables say of rounds that join.
use Rattle.std.proofs.Common.{◌≡◌, ℕ, ◌+◌, ◌<◌, ◌==◌, Bool, true, false, cond, List, [], ◌∷◌, ◌++◌, length}
use Rattle.std.proofs.Common.{get_or, map, take, refl, sym, ap, ◌∙◌}
use Rattle.std.specs.Prelude.{not, ◌&&◌, ◌||◌, flat_map}
use Rattle.std.specs.List.{list_any}
use Rattle.std.proofs.lemmas.List.Folds.{list_any-append, list_any_more}
use Rattle.net_graph.specs.declared.branch.Branch.{Branch}
use Rattle.net_graph.specs.declared.net.BitId.{BitId}
use Rattle.net_graph.specs.Path.{same_place}
use Rattle.net_graph.specs.SeenSteps.{SeenGroup}
use Rattle.pdl_targets.specs.Rounds.{Places, clash, exclude}
use Rattle.merge_order.specs.Merge.{both, can_join, clashes_with, names, part_ways, share_bit}
use Rattle.merge_order.specs.Tables.{SameRows, rows_around}
use Rattle.std.proofs.Math.Bool.{or_comm}
use Rattle.ij_bits.proofs.Tests.{or_four, number_turned}

-- ---- one of a list

module _ {A : Type 0} where
  any_same : (p q : A → Bool) → ((x : A) → p x ≡ q x) → (xs : List A) → list_any p xs ≡ list_any q xs
  any_same p q same [] = refl
  any_same p q same (x ∷ xs) = ap (λ t. t || list_any p xs) (same x)
      ∙ ap (λ t. q x || t) (any_same p q same xs)

  any_or : (p q : A → Bool) (xs : List A) → list_any (λ x. p x || q x) xs ≡ (list_any p xs || list_any q xs)
  any_or p q [] = refl
  any_or p q (x ∷ xs) = ap (λ t. (p x || q x) || t) (any_or p q xs)
      ∙ or_four (p x) (q x) (list_any p xs) (list_any q xs)

  any_none : (xs : List A) → list_any (λ x. false) xs ≡ false
  any_none [] = refl
  any_none (x ∷ xs) = any_none xs

module _ {A B : Type 0} where
  any_map : (p : B → Bool) (f : A → B) (xs : List A) → list_any p (map f xs) ≡ list_any (λ x. p (f x)) xs
  any_map p f [] = refl
  any_map p f (x ∷ xs) = ap (λ t. p (f x) || t) (any_map p f xs)

  pub any_flat : (p : B → Bool) (f : A → List B) (xs : List A)
      → list_any p (flat_map f xs) ≡ list_any (λ x. list_any p (f x)) xs
  any_flat p f [] = refl
  any_flat p f (x ∷ xs) = list_any-append p (f x) (flat_map f xs)
      ∙ ap (λ t. list_any p (f x) || t) (any_flat p f xs)

  any_turned : (p : A → B → Bool) (xs : List A) (ys : List B)
      → list_any (λ x. list_any (p x) ys) xs ≡ list_any (λ y. list_any (λ x. p x y) xs) ys
  any_turned p [] ys = sym (any_none ys)
  any_turned p (x ∷ xs) ys = ap (λ t. list_any (p x) ys || t) (any_turned p xs ys)
      ∙ sym (any_or (p x) (λ y. list_any (λ z. p z y) xs) ys)

-- one more of those that are put in at a place
pub any_step_there : {A : Type 0} (there : Bool) (p : A
    → Bool) (xs : List A) (i : ℕ) (d : A) (before current now : Bool) → i < length xs
    → current ≡ (there && list_any p (take i xs) || before) → now ≡ (there && p (get_or xs i d) || current)
    → now ≡ (there && list_any p (take (i + 1) xs) || before)
any_step_there true p xs i d before current now within so_far here =
    here
    ∙ ap (λ t. p (get_or xs i d) || t) so_far
    ∙ turned (p (get_or xs i d)) (list_any p (take i xs)) before
    ∙ ap (λ t. t || before) (sym (list_any_more p xs i d within))
  where
    turned : (a b c : Bool) → (a || (b || c)) ≡ ((b || a) || c)
    turned true true c = refl
    turned true false c = refl
    turned false true c = refl
    turned false false c = refl
any_step_there false p xs i d before current now within so_far here = here ∙ so_far

-- writes, and then reads, at a place
pub both_put : (there w r old middle now : Bool) → middle ≡ (there && w || old)
    → now ≡ (there && r || middle) → now ≡ (there && (w || r) || old)
both_put true w r old middle now one two = two ∙ ap (λ t. r || t) one ∙ turned w r old
  where
    turned : (a b c : Bool) → (b || (a || c)) ≡ ((a || b) || c)
    turned true true c = refl
    turned true false c = refl
    turned false true c = refl
    turned false false c = refl
both_put false w r old middle now one two = two ∙ one

-- ---- one bit that a round names

abbrev some_bit : (BitId → Bool) → SeenGroup → Bool
some_bit p g = list_any (λ w. p w.bit) g.writes || list_any (λ r. p r.bit) g.reads

abbrev bits_of : SeenGroup → List BitId
bits_of g = map (λ w. w.bit) g.writes ++ map (λ r. r.bit) g.reads

some_is : (p : BitId → Bool) (g : SeenGroup) → list_any p (bits_of g) ≡ some_bit p g
some_is p g =
    list_any-append p (map (λ w. w.bit) g.writes) (map (λ r. r.bit) g.reads)
    ∙ ap (λ t. t || list_any p (map (λ r. r.bit) g.reads)) (any_map p (λ w. w.bit) g.writes)
    ∙ ap (λ t. list_any (λ w. p w.bit) g.writes || t) (any_map p (λ r. r.bit) g.reads)

some_same : (p q : BitId → Bool) → ((b : BitId) → p b ≡ q b) → (g : SeenGroup) → some_bit p g ≡ some_bit q g
some_same p q same g = sym (some_is p g) ∙ any_same p q same (bits_of g) ∙ some_is q g

some_both : (p : BitId → Bool) (g h : SeenGroup) → some_bit p (both g h) ≡ (some_bit p g || some_bit p h)
some_both p g h =
    ap (λ t. t || list_any (λ r. p r.bit) (g.reads ++ h.reads))
    (list_any-append (λ w. p w.bit) g.writes h.writes)
    ∙ ap (λ t. (list_any (λ w. p w.bit) g.writes || list_any (λ w. p w.bit) h.writes) || t)
    (list_any-append (λ r. p r.bit) g.reads h.reads)
    ∙ or_four (list_any (λ w. p w.bit) g.writes) (list_any (λ w. p w.bit) h.writes)
    (list_any (λ r. p r.bit) g.reads) (list_any (λ r. p r.bit) h.reads)

-- ---- the same rows

pub same_as : (xs ys zs : List Branch) → xs ≡ ys → SameRows ys zs → SameRows xs zs
same_as xs ys zs is same test = ap (list_any test) is ∙ same test

-- ---- one bit that both name

place_turned : (a b : BitId) → same_place a b ≡ same_place b a
place_turned a b = ap (λ t. t && (a.pos == b.pos)) (number_turned a.reg b.reg)
    ∙ ap (λ t. (b.reg == a.reg) && t) (number_turned a.pos b.pos)

name_is : (g : SeenGroup) (b : BitId) → names g b ≡ list_any (λ c. same_place c b) (bits_of g)
name_is g b = sym (some_is (same_place b) g)
    ∙ any_same (same_place b) (λ c. same_place c b) (place_turned b) (bits_of g)

share_turned : (g h : SeenGroup) → some_bit (names g) h ≡ share_bit g h
share_turned g h =
    sym (some_is (names g) h)
    ∙ any_same (names g) (λ b. list_any (λ c. same_place c b) (bits_of g)) (name_is g) (bits_of h)
    ∙ any_turned (λ b c. same_place c b) (bits_of h) (bits_of g)
    ∙ any_same (λ c. list_any (same_place c) (bits_of h)) (names h)
    (λ c. some_is (same_place c) h) (bits_of g)
    ∙ some_is (names h) g

-- ---- registers of both that can't be on one path

module _ (places : Places) where
  any_around : (p : Branch → Bool) (g : SeenGroup)
      → list_any p (rows_around places g) ≡ some_bit (λ b. list_any p (places b.reg)) g
  any_around p g =
      list_any-append p (flat_map (λ w. places w.bit.reg) g.writes) (flat_map (λ r. places r.bit.reg) g.reads)
      ∙ ap (λ t. t || list_any p (flat_map (λ r. places r.bit.reg) g.reads))
      (any_flat p (λ w. places w.bit.reg) g.writes)
      ∙ ap (λ t. list_any (λ w. list_any p (places w.bit.reg)) g.writes || t)
      (any_flat p (λ r. places r.bit.reg) g.reads)

  clashes_is : (h : SeenGroup) (q : ℕ)
      → list_any (λ a. list_any (exclude a) (rows_around places h)) (places q) ≡ clashes_with places h q
  clashes_is h q =
      any_same (λ a. list_any (exclude a) (rows_around places h))
      (λ a. list_any (λ d. list_any (exclude a) (places d.reg)) (bits_of h))
      (λ a. any_around (exclude a) h ∙ sym (some_is (λ d. list_any (exclude a) (places d.reg)) h)) (places q)
      ∙ any_turned (λ a d. list_any (exclude a) (places d.reg)) (places q) (bits_of h)
      ∙ some_is (λ d. clash places q d.reg) h

  parts_turned : (g h : SeenGroup) → list_any (λ b. list_any (λ a. exclude a b) (rows_around places g))
      (rows_around places h) ≡ part_ways places g h
  parts_turned g h =
      any_turned (λ b a. exclude a b) (rows_around places h) (rows_around places g)
      ∙ any_around (λ a. list_any (exclude a) (rows_around places h)) g
      ∙ some_same (λ c. list_any (λ a. list_any (exclude a) (rows_around places h)) (places c.reg))
      (λ c. clashes_with places h c.reg) (λ c. clashes_is h c.reg) g

  -- ---- tables

  -- what is told of one join tells whether a round can join it
  pub takes_told : (shut closed : Bool) (has : BitId → Bool) (out : Branch
      → Bool) (g h : SeenGroup) (around : List Branch) → SameRows around (rows_around places h)
      → shut ≡ closed → ((b : BitId) → has b ≡ names g b)
      → ((b : Branch) → out b ≡ list_any (λ a. exclude a b) (rows_around places g))
      → not ((shut || some_bit has h) || list_any out around) ≡ (not closed && can_join places g h)
  takes_told shut closed has out g h around same shuts bits rows =
      parted shut (some_bit has h) (list_any out around)
      ∙ ap (λ t. not t && (not (some_bit has h) && not (list_any out around))) shuts
      ∙ ap (λ t. not closed && (not t && not (list_any out around)))
      (some_same has (names g) bits h ∙ share_turned g h)
      ∙ ap (λ t. not closed && (not (share_bit g h) && not t))
      (same out ∙ any_same out (λ b. list_any (λ a. exclude a b) (rows_around places g)) rows
      (rows_around places h) ∙ parts_turned g h)
    where
      parted : (a b c : Bool) → not ((a || b) || c) ≡ (not a && (not b && not c))
      parted true b c = refl
      parted false true c = refl
      parted false false c = refl

  -- a bit, where a join may have got one round more
  pub bit_told : (there : Bool) (g h : SeenGroup) (b : BitId) (old now : Bool) → old ≡ names g b
      → now ≡ (there && names h b || old) → now ≡ names (cond there (both g h) g) b
  bit_told true g h b old now told put = put ∙ ap (λ t. names h b || t) told
      ∙ or_comm (names h b) (names g b) ∙ sym (some_both (same_place b) g h)
  bit_told false g h b old now told put = put ∙ told

  -- a row, where a join may have got one round more
  pub row_told : (there : Bool) (g h : SeenGroup) (around : List Branch) (b : Branch) (old now : Bool)
      → SameRows around (rows_around places h)
      → old ≡ list_any (λ a. exclude a b) (rows_around places g)
      → now ≡ (there && list_any (λ a. exclude a b) around || old)
      → now ≡ list_any (λ a. exclude a b) (rows_around places (cond there (both g h) g))
  row_told true g h around b old now same told put =
      let p = λ (a : Branch). exclude a b in
      put
      ∙ ap (λ t. t || old) (same p)
      ∙ ap (λ t. list_any p (rows_around places h) || t) told
      ∙ or_comm (list_any p (rows_around places h)) (list_any p (rows_around places g))
      ∙ ap (λ t. t || list_any p (rows_around places h)) (any_around p g)
      ∙ ap (λ t. some_bit (λ c. list_any p (places c.reg)) g || t) (any_around p h)
      ∙ sym (some_both (λ c. list_any p (places c.reg)) g h)
      ∙ sym (any_around p (both g h))
  row_told false g h around b old now same told put = put ∙ told
