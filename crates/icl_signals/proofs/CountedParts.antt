-- How many stand before a part is its number among those of its kind.
use Rattle.std.proofs.Common.{◌≡◌, ◌+◌, ◌==◌, ◌++◌, ◌&&◌, ℕ, zero, suc, Bool, true, false, List, [], ◌∷◌, map}
use Rattle.std.proofs.Common.{length, get_or, Option, Some, None, refl, sym, ap, subst, ◌∙◌, arith}
use Rattle.std.proofs.Common.{append_assoc, length-append}
use Rattle.std.specs.Prelude.{filter, flat_map, position, slice_get, unwrap_or}
use Rattle.std.specs.List.{AllByRecursion, enumerate_from, position_from}
use Rattle.std.proofs.lemmas.Bool.{eq-eqb, ne_eqb}
use Rattle.std.proofs.lemmas.Iterator.Adapters.{position_from-zero}
use Rattle.std.proofs.lemmas.List.Elements.{filter-append}
use Rattle.icl_elab.specs.WellFormed.{is_instrument}
use Rattle.icl_references.specs.Roles.{PartOf, CellOf, part_of, part_at}
use Rattle.icl_signals.specs.declared.parts.Kind.{Kind}
use Rattle.icl_signals.specs.declared.parts.Kind.TheVariants.{Output}
use Rattle.icl_signals.specs.Moves.{Entry, entry_of, entries_in}
use Rattle.icl_signals.specs.Connecting.{is_same, entries_that, number_among, instrument_number, parts_that}
use Rattle.icl_signals.specs.Connecting.{output_number}
use Rattle.icl_signals.specs.Kinds.{test_of, is_of, one_if, before, with_all, numbers_from, number_at}
use Rattle.std.proofs.lemmas.Option.{same_Some}
use Rattle.ij_bits.proofs.Lists.{get_mapped}

-- ---- the first that passes a test

pub record IsAfter {A : Type 0} (test : A → Bool) (xs : List A) (n : ℕ) : Type 0 where
  pub front : List A
  pub here : A
  pub back : List A
  pub is : xs ≡ front ++ here ∷ back
  pub none : AllByRecursion (λ x. test x ≡ false) front
  pub hit : test here ≡ true
  pub long : length front ≡ n

first_hit : {A : Type 0} (test : A → Bool) (i : ℕ) (front back : List A) (x : A)
    → AllByRecursion (λ y. test y ≡ false) front → test x ≡ true
    → position_from test i (front ++ x ∷ back) ≡ Some (i + length front)
first_hit test i [] back x n h = rw h (let e : i ≡ i + 0 = omega arith in ap (λ k. Some k) e)
first_hit test i (y ∷ front) back x n h =
    let e : i + 1 + length front ≡ i + suc (length front) = omega arith in
    rw n.0 (first_hit test (i + 1) front back x n.1 h ∙ ap (λ k. Some k) e)

pub number_is : {A : Type 0} (test : A → Bool) (xs : List A) (n : ℕ)
    → IsAfter test xs n → unwrap_or (position test xs) 0 ≡ n
number_is test xs n b =
    let long : 0 + length b.front ≡ n = omega (arith, b.long) in
    ap (λ o. unwrap_or o 0) (position_from-zero test xs ∙ ap (position_from test 0) b.is
    ∙ first_hit test 0 b.front b.back b.here b.none b.hit) ∙ long

after_none : {A : Type 0} (test : A → Bool) (ys xs : List A) (n : ℕ) → AllByRecursion (λ y. test y ≡ false) ys
    → IsAfter test xs n → IsAfter test (ys ++ xs) (length ys + n)
after_none {A} test ys xs n h b =
    record {
      front = ys ++ b.front;
      here = b.here;
      back = b.back;
      is = ap (λ l. ys ++ l) b.is ∙ sym (append_assoc ys b.front (b.here ∷ b.back));
      none = both ys h;
      hit = b.hit;
      long = length-append ys b.front ∙ ap (λ k. length ys + k) b.long;
    }
  where
    both : (zs : List A) → AllByRecursion (λ y. test y ≡ false) zs
        → AllByRecursion (λ y. test y ≡ false) (zs ++ b.front)
    both [] g = b.none
    both (z ∷ zs) g = (g.0, both zs g.1)

in_first : {A : Type 0} (test : A → Bool) (xs ys : List A) (n : ℕ)
    → IsAfter test xs n → IsAfter test (xs ++ ys) n
in_first test xs ys n b =
    record {
      front = b.front;
      here = b.here;
      back = b.back ++ ys;
      is = ap (λ l. l ++ ys) b.is
          ∙ append_assoc b.front (b.here ∷ b.back) ys;
      none = b.none;
      hit = b.hit;
      long = b.long;
    }

-- ---- parts of one cell

same_here : (cell s : ℕ) → (cell == cell && s == s + 0) ≡ true
same_here cell s = let e : s ≡ s + 0 = omega arith in rw (eq-eqb cell cell refl, eq-eqb s (s + 0) e) refl

not_later : (cell s j : ℕ) → (cell == cell && s == s + suc j) ≡ false
not_later cell s j = rw (eq-eqb cell cell refl, ne_eqb s (s + suc j) (λ e. omega (arith, e))) refl

not_in_cell : (a s k p q : ℕ) → a ≡ s → (a == s + suc k && q == p) ≡ false
not_in_cell a s k p q e = rw (ne_eqb a (s + suc k) (λ f. omega (arith, e, f))) refl

pub record PartAfter (kind : Kind) (cell part n at : ℕ) (es : List Entry) : Type 0 where
  pub m : ℕ
  pub count : n + m ≡ at
  pub after : IsAfter (is_same cell part) es m

abbrev of_cell : Kind → ℕ → ℕ → List PartOf → List Entry
of_cell kind cell s ps = filter (λ e. test_of kind e.what.role) (map (entry_of cell) (enumerate_from s ps))

part_after : (kind : Kind) (cell s n : ℕ) (ps : List PartOf) (j : ℕ) (x : PartOf)
    → slice_get ps j ≡ Some x → is_of kind x ≡ true
    → PartAfter kind cell (s + j) n (get_or (before (is_of kind) n ps) j 0) (of_cell kind cell s ps)
part_after kind cell s n [] j x h t = absurd cc
part_after kind cell s n (p ∷ ps) zero x h t =
    let e : is_of kind p ≡ true = ap (is_of kind) (same_Some p x h) ∙ t in
    record {
      m = 0;
      count = omega arith;
      after = record {
        front = [];
        here = entry_of cell (s, p);
        back =
            of_cell kind cell (s + 1) ps;
        is = rw e refl;
        none = tt;
        hit = same_here cell s;
        long = refl;
      };
    }
part_after kind cell s n (p ∷ ps) (suc j) x h t =
    by_test (λ m. part_after kind cell (s + 1) m ps j x h t) (is_of kind p) refl
  where
    next : s + 1 + j ≡ s + suc j
    next = omega arith

    by_test : ((m : ℕ) → PartAfter kind cell (s + 1 + j) m (get_or (before (is_of kind) m ps) j 0)
        (of_cell kind cell (s + 1) ps)) → (b : Bool) → is_of kind p ≡ b → PartAfter kind cell (s + suc j) n
        (get_or (before (is_of kind) n (p ∷ ps)) (suc j) 0) (of_cell kind cell s (p ∷ ps))
    by_test later true e =
        let r = later (n + 1) in
        let b = subst (λ k. IsAfter (is_same cell k) (of_cell kind cell (s + 1) ps) r.m) next r.after in
        let count : n + suc r.m ≡ get_or (before (is_of kind) (n + 1) ps) j 0 = omega (arith, r.count) in
        record {
          m = suc r.m;
          count = count ∙ ap (λ k. get_or (before (is_of kind) (n + one_if k) ps) j 0) (sym e);
          after = record {
            front = entry_of cell (s, p) ∷ b.front;
            here = b.here;
            back = b.back;
            is = rw e (ap (λ l. entry_of cell (s, p) ∷ l) b.is);
            none =
                (not_later cell s j, b.none);
            hit = b.hit;
            long = ap (λ k. suc k) b.long;
          };
        }
    by_test later false e =
        let r = later (n + 0) in
        let b = subst (λ k. IsAfter (is_same cell k) (of_cell kind cell (s + 1) ps) r.m) next r.after in
        let count : n + r.m ≡ get_or (before (is_of kind) (n + 0) ps) j 0 = omega (arith, r.count) in
        record {
          m = r.m;
          count = count ∙ ap (λ k. get_or (before (is_of kind) (n + one_if k) ps) j 0) (sym e);
          after = record {
            front = b.front;
            here = b.here;
            back = b.back;
            is = rw e b.is;
            none = b.none;
            hit = b.hit;
            long = b.long;
          };
        }

-- ---- parts of all cells

count_is : (kind : Kind) (cell s n : ℕ) (ps : List PartOf)
    → with_all (is_of kind) n ps ≡ n + length (of_cell kind cell s ps)
count_is kind cell s n [] = omega arith
count_is kind cell s n (p ∷ ps) = by_test (λ m. count_is kind cell (s + 1) m ps) (is_of kind p) refl
  where
    by_test : ((m : ℕ) → with_all (is_of kind) m ps ≡ m + length (of_cell kind cell (s + 1) ps)) → (b : Bool)
        → is_of kind p ≡ b → with_all (is_of kind) n (p ∷ ps) ≡ n + length (of_cell kind cell s (p ∷ ps))
    by_test later true e = rw e (let r = later (n + 1) in omega (arith, r))
    by_test later false e = rw e (let r = later (n + 0) in omega (arith, r))

others : (kind : Kind) (s k part i : ℕ) (ps : List PartOf)
    → AllByRecursion (λ e. is_same (s + suc k) part e ≡ false) (of_cell kind s i ps)
others kind s k part i [] = tt
others kind s k part i (p ∷ ps) = by_test (others kind s k part (i + 1) ps) (is_of kind p) refl
  where
    by_test : AllByRecursion (λ e. is_same (s + suc k) part e ≡ false) (of_cell kind s (i + 1) ps)
        → (b : Bool) → is_of kind p ≡ b
        → AllByRecursion (λ e. is_same (s + suc k) part e ≡ false) (of_cell kind s i (p ∷ ps))
    by_test later true e = rw e (not_in_cell s s k part i refl, later)
    by_test later false e = rw e later

abbrev of_cells : Kind → ℕ → List CellOf → List Entry
of_cells kind s cells = filter (λ e. test_of kind e.what.role) (flat_map entries_in (enumerate_from s cells))

cell_after : (kind : Kind) (s n : ℕ) (cells : List CellOf) (k part : ℕ) (c : CellOf) (x : PartOf)
    → slice_get cells k ≡ Some c → slice_get c.parts part ≡ Some x → is_of kind x ≡ true
    → PartAfter kind (s + k) part n
    (get_or (get_or (numbers_from kind n cells) k []) part 0) (of_cells kind s cells)
cell_after kind s n [] k part c x h g t = absurd cc
cell_after kind s n (d ∷ cells) zero part c x h g t =
    let r = part_after kind s 0 n d.parts part x
    (ap (λ (z : CellOf). slice_get z.parts part) (same_Some d c h) ∙ g) t in
    let cell : s ≡ s + 0 = omega arith in
    let at : 0 + part ≡ part = omega arith in
    let b = subst (λ z. IsAfter (is_same z part) (of_cell kind s 0 d.parts) r.m) cell
    (subst (λ z. IsAfter (is_same s z) (of_cell kind s 0 d.parts) r.m) at r.after) in
    record {
      m = r.m;
      count = r.count;
      after = subst (λ l. IsAfter (is_same (s + 0) part) l r.m)
          (sym (filter-append (λ e. test_of kind e.what.role) (entries_in (s, d))
          (flat_map entries_in (enumerate_from (s + 1) cells))))
          (in_first (is_same (s + 0) part) (of_cell kind s 0 d.parts) (of_cells kind (s + 1) cells) r.m b);
    }
cell_after kind s n (d ∷ cells) (suc k) part c x h g t =
    let r = cell_after kind (s + 1) (with_all (is_of kind) n d.parts) cells k part c x h g t in
    let cell : s + 1 + k ≡ s + suc k = omega arith in
    let b = subst (λ z. IsAfter (is_same z part) (of_cells kind (s + 1) cells) r.m) cell r.after in
    record {
      m = length (of_cell kind s 0 d.parts) + r.m;
      count = omega (arith, r.count, count_is kind s 0 n d.parts);
      after = subst (λ l. IsAfter (is_same (s + suc k) part) l (length (of_cell kind s 0 d.parts) + r.m))
          (sym (filter-append (λ e. test_of kind e.what.role) (entries_in (s, d))
          (flat_map entries_in (enumerate_from (s + 1) cells))))
          (after_none (is_same (s + suc k) part) (of_cell kind s 0 d.parts)
          (of_cells kind (s + 1) cells) r.m (others kind s k part 0 d.parts) b);
    }

pub number_at_is : (kind : Kind) (cells : List CellOf) (cell part : ℕ) (x : PartOf)
    → part_at cells cell part ≡ Some x → is_of kind x ≡ true
    → number_at (numbers_from kind 0 cells) cell part ≡ number_among (test_of kind) cells cell part
number_at_is kind cells cell part x h t = by_cell (slice_get cells cell) refl h
  where
    by_cell : (o : Option CellOf) → slice_get cells cell ≡ o → part_of o part ≡ Some x
        → number_at (numbers_from kind 0 cells) cell part ≡ number_among (test_of kind) cells cell part
    by_cell None e g = absurd cc
    by_cell (Some c) e g =
        let r = cell_after kind 0 0 cells cell part c x e g t in
        let same : 0 + cell ≡ cell = omega arith in
        let b = subst (λ z. IsAfter (is_same z part) (of_cells kind 0 cells) r.m) same r.after in
        let m : r.m ≡ number_at (numbers_from kind 0 cells) cell part = omega (arith, r.count) in
        sym (number_is (is_same cell part) (entries_that (test_of kind) cells) r.m b ∙ m)

-- ---- one list, by its numbers

pub record NumberAfter {A : Type 0} (at n count : ℕ) (qs : List (ℕ × A)) : Type 0 where
  pub m : ℕ
  pub count_is : n + m ≡ count
  pub after : IsAfter (λ q. q.0 == at) qs m

item_after : {A : Type 0} (test : A → Bool) (s n : ℕ) (xs : List A) (j : ℕ) (x : A)
    → slice_get xs j ≡ Some x → test x ≡ true
    → NumberAfter (s + j) n (get_or (before test n xs) j 0) (filter (λ q. test q.1) (enumerate_from s xs))
item_after test s n [] j x h t = absurd cc
item_after test s n (y ∷ xs) zero x h t =
    let e : test y ≡ true = ap test (same_Some y x h) ∙ t in
    let same : s ≡ s + 0 = omega arith in
    record {
      m = 0;
      count_is = omega arith;
      after = record {
        front = [];
        here = (s, y);
        back = filter (λ q. test q.1) (enumerate_from (s + 1) xs);
        is = rw e refl;
        none = tt;
        hit = eq-eqb s (s + 0) same;
        long = refl;
      };
    }
item_after {A} test s n (y ∷ xs) (suc j) x h t =
    by_test (λ m. item_after test (s + 1) m xs j x h t) (test y) refl
  where
    rest : List (ℕ × A)
    rest = filter (λ q. test q.1) (enumerate_from (s + 1) xs)

    next : s + 1 + j ≡ s + suc j
    next = omega arith

    later : (s == s + suc j) ≡ false
    later = ne_eqb s (s + suc j) (λ e. omega (arith, e))

    by_test : ((m : ℕ) → NumberAfter (s + 1 + j) m (get_or (before test m xs) j 0) rest) → (b : Bool)
        → test y ≡ b → NumberAfter (s + suc j) n (get_or (before test n (y ∷ xs)) (suc j) 0)
        (filter (λ q. test q.1) (enumerate_from s (y ∷ xs)))
    by_test more true e =
        let r = more (n + 1) in
        let b = subst (λ k. IsAfter (λ q. q.0 == k) rest r.m) next r.after in
        let count : n + suc r.m ≡ get_or (before test (n + 1) xs) j 0 = omega (arith, r.count_is) in
        record {
          m = suc r.m;
          count_is = count ∙ ap (λ k. get_or (before test (n + one_if k) xs) j 0) (sym e);
          after = record {
            front = (s, y) ∷ b.front;
            here = b.here;
            back = b.back;
            is = rw e (ap (λ l. (s, y) ∷ l) b.is);
            none =
                (later, b.none);
            hit = b.hit;
            long = ap (λ k. suc k) b.long;
          };
        }
    by_test more false e =
        let r = more (n + 0) in
        let b = subst (λ k. IsAfter (λ q. q.0 == k) rest r.m) next r.after in
        let count : n + r.m ≡ get_or (before test (n + 0) xs) j 0 = omega (arith, r.count_is) in
        record {
          m = r.m;
          count_is = count ∙ ap (λ k. get_or (before test (n + one_if k) xs) j 0) (sym e);
          after = record {
            front = b.front;
            here = b.here;
            back = b.back;
            is = rw e b.is;
            none = b.none;
            hit = b.hit;
            long = b.long;
          };
        }

pub item_number : {A : Type 0} (test : A → Bool) (xs : List A) (j : ℕ) (x : A)
    → slice_get xs j ≡ Some x → test x ≡ true
    → unwrap_or (position (λ (q : ℕ × A). q.0 == j) (filter (λ q. test q.1) (enumerate_from 0 xs))) 0
    ≡ get_or (before test 0 xs) j 0
item_number {A} test xs j x h t =
    let r = item_after test 0 0 xs j x h t in
    let same : 0 + j ≡ j = omega arith in
    let b = subst (λ z. IsAfter (λ (q : ℕ × A). q.0 == z) (filter (λ q. test q.1) (enumerate_from 0 xs)) r.m)
    same r.after in
    number_is (λ q. q.0 == j) (filter (λ q. test q.1) (enumerate_from 0 xs)) r.m b
    ∙ (omega (arith, r.count_is))

-- a test beforehand
pub tested_before : {A : Type 0} (test : A → Bool) (n : ℕ) (xs : List A)
    → before (λ b. b) n (map test xs) ≡ before test n xs
tested_before test n [] = refl
tested_before test n (x ∷ xs) = ap (λ l. n ∷ l) (tested_before test (n + one_if (test x)) xs)

pub output_number_is : (cells : List CellOf) (cell part : ℕ) (c : CellOf) (x : PartOf)
    → slice_get cells cell ≡ Some c → slice_get c.parts part ≡ Some x → is_of Output x ≡ true
    → number_at (map (λ d. before (is_of Output) 0 d.parts) cells) cell part ≡ output_number cells cell part
output_number_is cells cell part c x h g t =
    ap (λ row. get_or row part 0) (get_mapped (λ d. before (is_of Output) 0 d.parts) [] cells cell c h)
    ∙ sym (ap (λ l. unwrap_or (position (λ p. p.0 == part) l) 0) (get_mapped (parts_that (test_of Output))
    [] cells cell c h) ∙ item_number (is_of Output) c.parts part x g t)

pub instrument_number_is : (cells : List CellOf) (cell : ℕ) (c : CellOf)
    → slice_get cells cell ≡ Some c → is_instrument c ≡ true
    → get_or (before (λ b. b) 0 (map is_instrument cells)) cell 0 ≡ instrument_number cells cell
instrument_number_is cells cell c h t = ap (λ l. get_or l cell 0) (tested_before is_instrument 0 cells)
    ∙ sym (item_number is_instrument cells cell c h t)
