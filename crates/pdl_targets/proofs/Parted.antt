-- The groups of an iApply have the writes and reads of the queue.
use Rattle.std.proofs.Common.{◌≡◌, ◌≤◌, ℕ, suc, ◌+◌, Bool, true, false, cond, List, [], ◌∷◌, ◌++◌, length}
use Rattle.std.proofs.Common.{length-append, map, refl, sym, ap, ◌∙◌, arith}
use Rattle.std.specs.Prelude.{◌==◌, ◌||◌, filter, flat_map}
use Rattle.std.specs.List.{AllZip}
use Rattle.std.proofs.lemmas.Bool.{or_left, or_right}
use Rattle.std.proofs.lemmas.List.Elements.{filter-append}
use Rattle.net_graph.specs.declared.step.WriteBit.{WriteBit}
use Rattle.net_graph.specs.declared.step.ReadBit.{ReadBit}
use Rattle.net_graph.specs.SeenSteps.{SeenGroup}
use Rattle.net_graph.specs.Path.{is_in}
use Rattle.pdl_targets.specs.Rounds.{Places, rounds, part_on}
use Rattle.pdl_targets.specs.Laws.{times, times_in_all, AreEachOnce, IsPartOn, GroupsAreOfRounds}
use Rattle.pdl_targets.specs.Laws.{GroupsHaveEachWrite, GroupsHaveEachRead}
use Rattle.pdl_targets.proofs.Apart.{are_the_queue}
use Rattle.pdl_targets.proofs.Mentioned.{none_in}
use Rattle.pdl_targets.proofs.Greedy.{is_first, is_after}

-- ---- how many rounds have a register

abbrev many : List (List ℕ) → ℕ → ℕ
many [] r = 0
many (rs ∷ rss) r = cond (is_in rs r) (suc (many rss r)) (many rss r)

pub some_in : (rs : List ℕ) (r : ℕ) → is_in rs r ≡ true → 1 ≤ times rs r
some_in [] r e = absurd cc
some_in (q ∷ qs) r e = by_test (q == r) (some_in qs r) e
  where
    by_test : (t : Bool) → (is_in qs r ≡ true → 1 ≤ times qs r) → (t || is_in qs r) ≡ true
        → 1 ≤ cond t (suc (times qs r)) (times qs r)
    by_test true again e = omega arith
    by_test false again e = again e

many_is : (rss : List (List ℕ)) (r : ℕ) → times_in_all rss r ≤ 1 → many rss r ≡ times_in_all rss r
many_is [] r h = refl
many_is (rs ∷ rss) r h = by_test (many_is rss r (omega (arith, h))) (is_in rs r) refl
  where
    by_test : many rss r ≡ times_in_all rss r → (t : Bool) → is_in rs r ≡ t
        → cond t (suc (many rss r)) (many rss r) ≡ times rs r + times_in_all rss r
    by_test others true e = let some = some_in rs r e in omega (arith, some, h, others)
    by_test others false e = let none = none_in rs r e in omega (arith, none, others)

in_one_round : (places : Places) (registers : List ℕ) (r : ℕ) → AreEachOnce registers
    → is_in registers r ≡ true → many (rounds places registers) r ≡ 1
in_one_round places registers r once there =
    let all = are_the_queue places registers r in
    let few = once r in
    let some = some_in registers r there in
    many_is (rounds places registers) r (omega (arith, all, few)) ∙ omega (arith, all, few, some)

-- ---- what the parts of a queue have

module _ {X : Type 0} (reg : X → ℕ) (test : X → Bool) where
  abbrev on : List X → List ℕ → List X
  on xs rs = filter (λ x. is_in rs (reg x)) xs

  count_both : (xs ys : List X)
      → length (filter test (xs ++ ys)) ≡ length (filter test xs) + length (filter test ys)
  count_both xs ys = ap length (filter-append test xs ys) ∙ length-append (filter test xs) (filter test ys)

  count_first : (i : Bool) (x : X) (ys : List X)
      → length (filter test (cond i (x ∷ ys) ys)) ≡ cond (test x) (cond i 1 0) 0 + length (filter test ys)
  count_first true x ys = by_test (test x)
    where
      by_test : (t : Bool)
          → length (cond t (x ∷ filter test ys) (filter test ys)) ≡ cond t 1 0 + length (filter test ys)
      by_test true = omega arith
      by_test false = omega arith
  count_first false x ys = by_test (test x)
    where
      by_test : (t : Bool) → length (filter test ys) ≡ cond t 0 0 + length (filter test ys)
      by_test true = omega arith
      by_test false = omega arith

  one_more : (x : X) (xs : List X) (rss : List (List ℕ)) → length (filter test (flat_map (on (x ∷ xs)) rss))
      ≡ cond (test x) (many rss (reg x)) 0 + length (filter test (flat_map (on xs) rss))
  one_more x xs [] = by_test (test x)
    where
      by_test : (t : Bool) → 0 ≡ cond t 0 0 + 0
      by_test true = omega arith
      by_test false = omega arith
  one_more x xs (rs ∷ rss) =
      count_both (on (x ∷ xs) rs) (flat_map (on (x ∷ xs)) rss)
      ∙ by_tests (test x) (is_in rs (reg x)) (many rss (reg x)) (length (filter test (on (x ∷ xs) rs)))
      (length (filter test (on xs rs))) (length (filter test (flat_map (on (x ∷ xs)) rss)))
      (length (filter test (flat_map (on xs) rss)))
      (count_first (is_in rs (reg x)) x (on xs rs)) (one_more x xs rss)
      ∙ ap (λ n. cond (test x) (cond (is_in rs (reg x)) (suc (many rss (reg x))) (many rss (reg x))) 0 + n)
      (sym (count_both (on xs rs) (flat_map (on xs) rss)))
    where
      by_tests : (t i : Bool) (m a b c d : ℕ) → a ≡ cond t (cond i 1 0) 0 + b → c ≡ cond t m 0 + d
          → a + c ≡ cond t (cond i (suc m) m) 0 + (b + d)
      by_tests true true m a b c d e f = omega (arith, e, f)
      by_tests true false m a b c d e f = omega (arith, e, f)
      by_tests false true m a b c d e f = omega (arith, e, f)
      by_tests false false m a b c d e f = omega (arith, e, f)

  none_of : (rss : List (List ℕ)) → length (filter test (flat_map (on []) rss)) ≡ 0
  none_of [] = refl
  none_of (rs ∷ rss) = none_of rss

  each_once : (rss : List (List ℕ)) (xs : List X) → ((r : ℕ) → is_in (map reg xs) r ≡ true → many rss r ≡ 1)
      → length (filter test (flat_map (on xs) rss)) ≡ length (filter test xs)
  each_once rss [] h = none_of rss
  each_once rss (x ∷ xs) h =
      one_more x xs rss
      ∙ by_test (test x) (many rss (reg x)) (length (filter test (flat_map (on xs) rss))) (h (reg x)
      (is_first (reg x) (map reg xs))) (each_once rss xs (λ r e. h r (is_after (reg x) (map reg xs) r e)))
    where
      by_test : (t : Bool) (m n : ℕ) → m ≡ 1 → n ≡ length (filter test xs)
          → cond t m 0 + n ≡ length (cond t (x ∷ filter test xs) (filter test xs))
      by_test true m n e f = omega (arith, e, f)
      by_test false m n e f = omega (arith, f)

module _ (writes : List WriteBit) (reads : List ReadBit) where
  of_rounds : (rss : List (List ℕ)) → AllZip (IsPartOn writes reads) rss (map (part_on writes reads) rss)
  of_rounds [] = tt
  of_rounds (rs ∷ rss) = (record { written = refl; read = refl }, of_rounds rss)

  all_writes : (rss : List (List ℕ)) → flat_map (λ (g : SeenGroup). g.writes) (map (part_on writes reads) rss)
      ≡ flat_map (λ rs. filter (λ w. is_in rs w.bit.reg) writes) rss
  all_writes [] = refl
  all_writes (rs ∷ rss) = ap (λ ws. filter (λ w. is_in rs w.bit.reg) writes ++ ws) (all_writes rss)

  all_reads : (rss : List (List ℕ)) → flat_map (λ (g : SeenGroup). g.reads) (map (part_on writes reads) rss)
      ≡ flat_map (λ rs. filter (λ r. is_in rs r.bit.reg) reads) rss
  all_reads [] = refl
  all_reads (rs ∷ rss) = ap (λ qs. filter (λ r. is_in rs r.bit.reg) reads ++ qs) (all_reads rss)

pub are_of_rounds : GroupsAreOfRounds
are_of_rounds places writes reads registers = of_rounds writes reads (rounds places registers)

pub have_each_write : GroupsHaveEachWrite
have_each_write places writes reads registers h test =
    ap (λ ws. length (filter test ws)) (all_writes writes reads (rounds places registers))
    ∙ each_once (λ (w : WriteBit). w.bit.reg) test (rounds places registers) writes
    (λ r e. in_one_round places registers r h.once (h.each r ∙ or_left (is_in
    (map (λ (w : WriteBit). w.bit.reg) writes) r) (is_in (map (λ (q : ReadBit). q.bit.reg) reads) r) e))

pub have_each_read : GroupsHaveEachRead
have_each_read places writes reads registers h test =
    ap (λ qs. length (filter test qs)) (all_reads writes reads (rounds places registers))
    ∙ each_once (λ (q : ReadBit). q.bit.reg) test (rounds places registers) reads
    (λ r e. in_one_round places registers r h.once (h.each r ∙ or_right (is_in
    (map (λ (w : WriteBit). w.bit.reg) writes) r) (is_in (map (λ (q : ReadBit). q.bit.reg) reads) r) e))
