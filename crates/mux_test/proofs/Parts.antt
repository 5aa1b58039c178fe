-- What parts of two paths say of a row is what the paths say.
use Rattle.std.proofs.Common.{◌≡◌, ◌+◌, Bool, true, false, List, [], ◌∷◌, ◌++◌, ℕ, length, drop, refl, sym}
use Rattle.std.proofs.Common.{ap, ◌∙◌, subst, arith, length-append}
use Rattle.std.specs.Prelude.{◌==◌, take}
use Rattle.std.specs.Str.{bytes_eq as same_registers}
use Rattle.std.proofs.lemmas.Bool.{eq-eqb, eqb-true}
use Rattle.std.proofs.lemmas.Slice.Eq.{bytes_eq-Decides}
use Rattle.ij_bits.proofs.Tests.{same_truth}
use Rattle.net_graph.specs.Chain.{chain, IsRoute}
use Rattle.net_graph.specs.declared.branch.Branch.{Branch}
use Rattle.net_graph.specs.declared.net.Net.{Net}
use Rattle.net_graph.specs.Held.{AreHolds}
use Rattle.net_graph.specs.Nets.{IsNet}
use Rattle.net_graph.specs.Path.{route_of}
use Rattle.net_graph.specs.Signals.{Holds, bits_at}
use Rattle.net_graph.specs.Stuck.{stuck_route}
use Rattle.net_graph.proofs.Routes.{route_in}
use Rattle.net_graph.proofs.Stuck.{stuck_route_in}
use Rattle.net_tree.proofs.Walks.{IsRoute-back, IsRoute-front}
use Rattle.mux_test.specs.declared.judge.Verdict.{Verdict}
use Rattle.mux_test.specs.declared.judge.Verdict.TheVariants.{Open, Seen, Unseen}
use Rattle.mux_test.specs.Detours.{IsDetour}
use Rattle.mux_test.specs.Judged.{verdict_of}

back_is : (a rest : List ℕ) → drop (length a) (a ++ rest) ≡ rest
back_is [] rest = refl
back_is (x ∷ a) rest = back_is a rest

front_is : (a rest : List ℕ) → take (length a) (a ++ rest) ≡ a
front_is [] rest = refl
front_is (x ∷ a) rest = ap (λ xs. x ∷ xs) (front_is a rest)

same_part : (front a b rest : List ℕ) → front ++ (a ++ rest) ≡ front ++ (b ++ rest) → a ≡ b
same_part front a b rest e =
    let f : a ++ rest ≡ b ++ rest = sym (back_is front (a ++ rest))
    ∙ ap (drop (length front)) e ∙ back_is front (b ++ rest) in
    let l : length a ≡ length b = omega (arith, length-append a rest, length-append b rest, ap length f) in
    sym (front_is a rest) ∙ ap (λ n. take n (a ++ rest)) l ∙ ap (take (length b)) f ∙ front_is b rest

chain_long : (xs ys : List ℕ) (h : Holds)
    → length (chain (xs ++ ys) h) ≡ length (chain xs h) + length (chain ys h)
chain_long [] ys h = omega arith
chain_long (x ∷ xs) ys h =
    omega (
      arith,
      length-append (bits_at h x) (chain (xs ++ ys) h),
      length-append (bits_at h x) (chain xs h),
      chain_long xs ys h,
    )

pub same_verdict : (h : Holds) (front a b rest : List ℕ)
    → verdict_of h a b ≡ verdict_of h (front ++ (a ++ rest)) (front ++ (b ++ rest))
same_verdict h front a b rest =
    let own = front ++ (a ++ rest) in
    let other = front ++ (b ++ rest) in
    let same : same_registers a b ≡ same_registers own other =
    same_truth (same_registers a b) (same_registers own other)
    (λ e. (bytes_eq-Decides own other).1 (ap (λ xs. front ++ (xs ++ rest)) ((bytes_eq-Decides a b).0 e)))
    (λ e. (bytes_eq-Decides a b).1 (same_part front a b rest ((bytes_eq-Decides own other).0 e))) in
    let x = length (chain a h) in
    let y = length (chain b h) in
    let long = length (chain own h) in
    let wide = length (chain other h) in
    let u : long ≡ length (chain front h) + (x + length (chain rest h)) =
    chain_long front (a ++ rest) h ∙ ap (λ n. length (chain front h) + n) (chain_long a rest h) in
    let v : wide ≡ length (chain front h) + (y + length (chain rest h)) =
    chain_long front (b ++ rest) h ∙ ap (λ n. length (chain front h) + n) (chain_long b rest h) in
    let bits : (x == y) ≡ (long == wide) = same_truth (x == y) (long == wide)
    (λ e. eq-eqb long wide (let z = eqb-true x y e in omega (arith, u, v, z)))
    (λ e. eq-eqb x y (let z = eqb-true long wide e in omega (arith, u, v, z))) in
    ap (λ (s : Bool). elim s as (λ _. Verdict) [
      | true ↦ Open
      | false ↦ elim (x == y) as (λ _. Verdict) [ true ↦ Unseen | false ↦ Seen ]
    ]) same
    ∙ ap (λ (t : Bool). elim (same_registers own other) as (λ _. Verdict) [
      | true ↦ Open
      | false ↦ elim t as (λ _. Verdict) [ true ↦ Unseen | false ↦ Seen ]
    ]) bits

module _ (net : Net) (h : Holds) (b : Branch) (own other : List ℕ) (d : IsDetour net h b own other) where
  pub own_part : IsNet net → AreHolds net h → IsRoute (length h) own
  own_part w a =
      IsRoute-front (length h) own d.rest (IsRoute-back (length h) d.front (own ++ d.rest)
      (subst (IsRoute (length h)) d.active (route_in net h h w a)))

  pub other_part : IsNet net → AreHolds net h → IsRoute (length h) other
  other_part w a =
      IsRoute-front (length h) other d.rest (IsRoute-back (length h) d.front (other ++ d.rest)
      (subst (IsRoute (length h)) d.stuck (stuck_route_in net b h h w a)))

  pub part_verdict : verdict_of h own other ≡ verdict_of h (route_of net h) (stuck_route net b h)
  part_verdict =
      same_verdict h d.front own other d.rest ∙ ap (λ p. verdict_of h p (d.front ++ (other ++ d.rest)))
      (sym d.active) ∙ ap (λ p. verdict_of h (route_of net h) p) (sym d.stuck)
