-- The groups of an iApply: their registers don't clash, and none is empty.
use Rattle.std.proofs.Common.{◌≡◌, ◌≢◌, ⊎_elim, ℕ, zero, suc, Bool, true, false, cond, List, [], ◌∷◌, ◌++◌}
use Rattle.std.proofs.Common.{length, map, refl, sym, ap, ◌∙◌, subst, arith}
use Rattle.std.specs.Prelude.{◌==◌, ◌||◌, ◌&&◌, not, Contains, filter, flat_map}
use Rattle.std.specs.List.{list_any}
use Rattle.std.proofs.lemmas.Bool.{eqb-true, eq-eqb, or_left, or_right, or_parts, cases_Bool, or_cases}
use Rattle.std.proofs.lemmas.List.Elements.{All-append, All-map, All-weaker, All-contains, filter_passes}
use Rattle.std.proofs.lemmas.List.Elements.{Contains-append_cases}
use Rattle.net_graph.specs.declared.branch.Branch.{Branch}
use Rattle.net_graph.specs.declared.step.WriteBit.{WriteBit}
use Rattle.net_graph.specs.declared.step.ReadBit.{ReadBit}
use Rattle.net_graph.specs.Groups.{IsEmpty, registers_of}
use Rattle.net_graph.specs.SeenSteps.{SeenGroup}
use Rattle.net_graph.specs.Path.{is_in}
use Rattle.pdl_targets.specs.Rounds.{Places, exclude, clash, clashes, rounds, part_on}
use Rattle.pdl_targets.specs.Laws.{AreApart, IsInOrder, AreItsRegisters, AreTogether, HaveOneRow}
use Rattle.pdl_targets.specs.Laws.{GroupsAreTogether, GroupsNeedOneRow, NoGroupIsEmpty}
use Rattle.pdl_targets.proofs.Apart.{have_registers, are_apart}
use Rattle.pdl_targets.proofs.Mentioned.{is_in_last}
use Rattle.pdl_targets.proofs.Greedy.{is_after, keep_the_order}
use Rattle.ij_bits.proofs.Tests.{or_four, number_turned}
use Rattle.ij_bits.proofs.Lists.{any_same, any_false}

-- ---- clashes, either way

exclude_back : (a b : Branch) → exclude a b ≡ exclude b a
exclude_back a b = ap (λ t. t && not (a.row == b.row)) (number_turned a.mux b.mux)
    ∙ ap (λ t. (b.mux == a.mux) && not t) (number_turned a.row b.row)

any_or : {X : Type 0} (f g : X → Bool) (xs : List X)
    → list_any (λ x. f x || g x) xs ≡ (list_any f xs || list_any g xs)
any_or f g [] = refl
any_or f g (x ∷ xs) = ap (λ t. (f x || g x) || t) (any_or f g xs)
    ∙ or_four (f x) (g x) (list_any f xs) (list_any g xs)

any_none : {X : Type 0} (xs : List X) → false ≡ list_any (λ x. false) xs
any_none [] = refl
any_none (x ∷ xs) = any_none xs

pub any_swapped : (e : Branch → Branch → Bool) (xs ys : List Branch)
    → list_any (λ a. list_any (e a) ys) xs ≡ list_any (λ b. list_any (λ a. e a b) xs) ys
any_swapped e [] ys = any_none ys
any_swapped e (x ∷ xs) ys = ap (λ t. list_any (e x) ys || t) (any_swapped e xs ys)
    ∙ sym (any_or (e x) (λ b. list_any (λ a. e a b) xs) ys)

module _ (places : Places) where
  pub clash_back : (q r : ℕ) → clash places q r ≡ clash places r q
  clash_back q r =
      any_swapped exclude (places q) (places r)
      ∙ any_same (λ b. list_any (λ a. exclude a b) (places q)) (λ b. list_any (exclude b) (places q))
      (λ b. any_same (λ a. exclude a b) (exclude b) (λ a. exclude_back a b) (places q)) (places r)

  -- ---- registers of a round

  no_clash : (front : List ℕ) (r p : ℕ) → clashes places front r ≡ false
      → is_in front p ≡ true → clash places p r ≡ false
  no_clash [] r p h i = absurd cc
  no_clash (t ∷ ts) r p h i =
      let parts = or_parts (clash places t r) (clashes places ts r) h in
      ⊎_elim (λ e. subst (λ n. clash places n r ≡ false) (eqb-true t p e) parts.0)
      (λ j. no_clash ts r p parts.1 j) (or_cases (t == p) (is_in ts p) i)

  before : (front rs : List ℕ) (p r : ℕ) → AreApart places front rs → is_in front p ≡ true
      → is_in rs r ≡ true → clash places p r ≡ false
  before front [] p r h i j = absurd cc
  before front (s ∷ ss) p r h i j =
      ⊎_elim (λ e. subst (λ n. clash places p n ≡ false) (eqb-true s r e) (no_clash front s p h.0 i))
      (λ k. before (front ++ s ∷ []) ss p r h.1 (is_in_last front s p ∙ or_left (is_in front p) (s == p) i) k)
      (or_cases (s == r) (is_in ss r) j)

  two_of : (front rs : List ℕ) (q r : ℕ) → AreApart places front rs → is_in rs q ≡ true
      → is_in rs r ≡ true → q ≢ r → clash places q r ≡ false
  two_of front [] q r h i j other = absurd cc
  two_of front (s ∷ ss) q r h i j other =
      ⊎_elim (λ e. ⊎_elim (λ f. absurd (other (sym (eqb-true s q e) ∙ eqb-true s r f)))
      (λ k. before (front ++ s ∷ []) ss q r h.1
      (is_in_last front s q ∙ or_right (is_in front q) (s == q) e) k) (or_cases (s == r) (is_in ss r) j))
      (λ k. ⊎_elim (λ f. clash_back q r ∙ before (front ++ s ∷ []) ss r q h.1
      (is_in_last front s r ∙ or_right (is_in front r) (s == r) f) k)
      (λ l. two_of (front ++ s ∷ []) ss q r h.1 k l other) (or_cases (s == r) (is_in ss r) j))
      (or_cases (s == q) (is_in ss q) i)

  -- ---- rows

  after_flat : (qs : List ℕ) (a : Branch) → Contains (flat_map places qs) a
      → (q : ℕ) × Contains qs q × Contains (places q) a
  after_flat [] a h = absurd (omega (arith, h.1))
  after_flat (q ∷ qs) a h =
      ⊎_elim (λ here. (q, (zero, omega arith, refl), here)) (λ there. let rest = after_flat qs a there in
      (rest.0, (suc rest.1.0, omega (arith, rest.1.1), rest.1.2), rest.2))
      (Contains-append_cases (places q) (flat_map places qs) a h)

  one_row : (a b : Branch) → exclude a b ≡ false → a.mux ≡ b.mux → a.row ≡ b.row
  one_row a b e f = by_row (a.row == b.row) refl (by_mux (a.mux == b.mux) (eq-eqb a.mux b.mux f) e)
    where
      by_mux : (t : Bool) → t ≡ true → (t && not (a.row == b.row)) ≡ false → not (a.row == b.row) ≡ false
      by_mux true g off = off
      by_mux false g off = absurd cc

      by_row : (t : Bool) → (a.row == b.row) ≡ t → not t ≡ false → a.row ≡ b.row
      by_row true g off = eqb-true a.row b.row g
      by_row false g off = absurd cc

  rows_of : (q r : ℕ) (a b : Branch) → clash places q r ≡ false → Contains (places q) a
      → Contains (places r) b → a.mux ≡ b.mux → a.row ≡ b.row
  rows_of q r a b off i j e =
      let none : list_any (exclude a) (places r) ≡ false = All-contains (λ a. list_any (exclude a) (places r)
      ≡ false) (places q) a (any_false (λ a. list_any (exclude a) (places r)) (places q) off) i in
      one_row a b
      (All-contains (λ b. exclude a b ≡ false) (places r) b (any_false (exclude a) (places r) none) j) e

  pub group_rows : (g : SeenGroup) → ((r : ℕ) → HaveOneRow (places r)) → AreTogether places g
      → HaveOneRow (flat_map places (registers_of g))
  group_rows g alone h a b i j e =
      let at = after_flat (registers_of g) a i in
      let bt = after_flat (registers_of g) b j in
      by_register at.0 bt.0 at.1 bt.1 at.2 bt.2
    where
      by_register : (q r : ℕ) → Contains (registers_of g) q → Contains (registers_of g) r
          → Contains (places q) a → Contains (places r) b → a.row ≡ b.row
      by_register q r k l m n =
          ⊎_elim (λ same. alone r a b (subst (λ p. Contains (places p) a) (eqb-true q r same) m) n e)
          (λ other. rows_of q r a b (h q r k l (λ s. let on = eq-eqb q r s in absurd cc)) m n e)
          (cases_Bool (q == r))

-- ---- groups

some_left : {X : Type 0} (reg : X → ℕ) (xs : List X) (rs : List ℕ) (r : ℕ) → is_in (map reg xs) r ≡ true
    → is_in rs r ≡ true → filter (λ x. is_in rs (reg x)) xs ≢ []
some_left {X = X} reg [] rs r i j e = absurd cc
some_left {X = X} reg (x ∷ xs) rs r i j e =
    ⊎_elim (λ here. kept (is_in rs (reg x)) (filter (λ x. is_in rs (reg x)) xs)
    (subst (λ n. is_in rs n ≡ true) (sym (eqb-true (reg x) r here)) j) e)
    (λ there. after (is_in rs (reg x)) (filter (λ x. is_in rs (reg x)) xs) (some_left reg xs rs r there j) e)
    (or_cases (reg x == r) (is_in (map reg xs) r) i)
  where
    kept : (t : Bool) (ys : List X) → t ≡ true → cond t (x ∷ ys) ys ≡ [] → ⊥
    kept true ys on f = absurd (omega (arith, ap length f))
    kept false ys on f = absurd cc

    after : (t : Bool) (ys : List X) → ys ≢ [] → cond t (x ∷ ys) ys ≡ [] → ⊥
    after true ys h f = absurd (omega (arith, ap length f))
    after false ys h f = h f

first_is_there : (r : ℕ) (rs registers : List ℕ) → IsInOrder (r ∷ rs) registers → is_in registers r ≡ true
first_is_there r rs [] h = absurd h
first_is_there r rs (s ∷ ss) h = ⊎_elim (λ here. or_left (s == r) (is_in ss r) (eq-eqb s r (sym here.0)))
    (λ there. is_after s ss r (first_is_there r rs ss there)) h

module _ (writes : List WriteBit) (reads : List ReadBit) where
  names_in : (rs : List ℕ) (q : ℕ) → Contains (registers_of (part_on writes reads rs)) q → is_in rs q ≡ true
  names_in rs q h =
      All-contains (λ q. is_in rs q ≡ true) (registers_of (part_on writes reads rs)) q
      (All-append (λ q. is_in rs q ≡ true) (map (λ (w : WriteBit). w.bit.reg)
      (part_on writes reads rs).writes) (map (λ (r : ReadBit). r.bit.reg) (part_on writes reads rs).reads)
      (All-map (λ q. is_in rs q ≡ true) (λ (w : WriteBit). w.bit.reg) (part_on writes reads rs).writes
      (filter_passes (λ (w : WriteBit). is_in rs w.bit.reg) writes))
      (All-map (λ q. is_in rs q ≡ true) (λ (r : ReadBit). r.bit.reg) (part_on writes reads rs).reads
      (filter_passes (λ (r : ReadBit). is_in rs r.bit.reg) reads)))
      h

  part_is_some : (registers rs : List ℕ) → AreItsRegisters writes reads registers → rs ≢ []
      → IsInOrder rs registers → ¬ IsEmpty (part_on writes reads rs)
  part_is_some registers [] h some order e = absurd (some refl)
  part_is_some registers (r ∷ rs) h some order e =
      ⊎_elim (λ i. some_left (λ (w : WriteBit). w.bit.reg) writes (r ∷ rs) r i
      (or_left (r == r) (is_in rs r) (eq-eqb r r refl)) e.0)
      (λ i. some_left (λ (q : ReadBit). q.bit.reg) reads (r ∷ rs) r i
      (or_left (r == r) (is_in rs r) (eq-eqb r r refl)) e.1)
      (or_cases (is_in (map (λ (w : WriteBit). w.bit.reg) writes) r) (is_in
      (map (λ (q : ReadBit). q.bit.reg) reads) r) (sym (h.each r) ∙ first_is_there r rs registers order))

pub are_together : GroupsAreTogether
are_together places writes reads registers =
    All-map (AreTogether places) (part_on writes reads) (rounds places registers)
    (All-weaker (AreApart places []) (λ rs. AreTogether places (part_on writes reads rs))
    (λ rs h q r i j other. two_of places [] rs q r h (names_in writes reads rs q i)
    (names_in writes reads rs r j) other) (rounds places registers) (are_apart places registers))

pub need_one_row : GroupsNeedOneRow
need_one_row places writes reads registers alone =
    All-weaker (AreTogether places) (λ g. HaveOneRow (flat_map places (registers_of g)))
    (λ g h. group_rows places g alone h) (map (part_on writes reads) (rounds places registers))
    (are_together places writes reads registers)

pub none_is_empty : NoGroupIsEmpty
none_is_empty places writes reads registers h =
    All-map (λ g. ¬ IsEmpty g) (part_on writes reads) (rounds places registers)
    (λ k d less. part_is_some writes reads registers _ h (have_registers places registers k d less)
    (keep_the_order places registers k d less))
