-- Registers whose marks are their places stand there once.
use Rattle.std.proofs.Common.{◌≡◌, ◌≤◌, ◌<◌, ◌+◌, ℕ, suc, ◌==◌, Bool, true, false, cond, List, [], ◌∷◌}
use Rattle.std.proofs.Common.{length, get_or, refl, ap, ◌∙◌, arith}
use Rattle.std.proofs.lemmas.Bool.{eqb-true}
use Rattle.net_graph.specs.declared.net.BitId.{BitId}
use Rattle.net_graph.specs.declared.net.Net.{Net}
use Rattle.net_graph.specs.Marks.{Marks, mark_at}
use Rattle.pdl_targets.specs.Laws.{AreEachOnce, times}
use Rattle.pdl_targets.specs.Marked.{AreNumbered, first_bit, first_bits}

module _ (marks : Marks) where
  abbrev mark : ℕ → ℕ
  mark r = mark_at marks (first_bit r)

  -- their marks are these numbers, one after the other
  abbrev AreFrom : ℕ → List ℕ → Type 0
  AreFrom n rs = (i : ℕ) (b : BitId) → i < length (first_bits rs)
      → mark_at marks (get_or (first_bits rs) i b) ≡ n + i

  after : (n q : ℕ) (qs : List ℕ) → AreFrom n (q ∷ qs) → AreFrom (suc n) qs
  after n q qs are i b l = are (suc i) b (omega (arith, l)) ∙ omega arith

  first_is : (n q : ℕ) (qs : List ℕ) → AreFrom n (q ∷ qs) → mark q ≡ n
  first_is n q qs are = are 0 (first_bit q) (omega arith) ∙ omega arith

  none_from : (n r : ℕ) (rs : List ℕ) → AreFrom n rs → mark r < n → times rs r ≡ 0
  none_from n r [] are l = refl
  none_from n r (q ∷ qs) are l =
      by_test (none_from (suc n) r qs (after n q qs are) (omega (arith, l))) (q == r) refl
    where
      by_test : times qs r ≡ 0 → (t : Bool) → (q == r) ≡ t → cond t (suc (times qs r)) (times qs r) ≡ 0
      by_test others true e =
          let same = ap mark (eqb-true q r e) in
          let is = first_is n q qs are in absurd (omega (arith, same, is, l))
      by_test others false e = others

  once_from : (n r : ℕ) (rs : List ℕ) → AreFrom n rs → times rs r ≤ 1
  once_from n r [] are = omega arith
  once_from n r (q ∷ qs) are = by_test (once_from (suc n) r qs (after n q qs are)) (q == r) refl
    where
      by_test : times qs r ≤ 1 → (t : Bool) → (q == r) ≡ t → cond t (suc (times qs r)) (times qs r) ≤ 1
      by_test others true e =
          let same = ap mark (eqb-true q r e) in
          let is = first_is n q qs are in
          let none = none_from (suc n) r qs (after n q qs are) (omega (arith, same, is)) in
          omega (arith, none)
      by_test others false e = others

pub are_once : (net : Net) (marks : Marks) (rs : List ℕ)
    → AreNumbered net marks (first_bits rs) → AreEachOnce rs
are_once net marks rs numbered r = once_from marks 1 r rs (λ i b l. numbered.places i b l ∙ omega arith)
