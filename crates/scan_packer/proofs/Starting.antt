-- The starts of a path's registers are those that were put in.
use Rattle.std.proofs.Common.{◌≡◌, ⊎_elim, ℕ, ◌+◌, ◌-◌, ◌<◌, ◌≤◌, true, false, List, [], ◌∷◌, length, drop}
use Rattle.std.proofs.Common.{get_or, refl, sym, ap, ◌∙◌, subst, arith}
use Rattle.std.specs.Prelude.{reverse, slice_set, cond, Contains, ◌==◌}
use Rattle.std.proofs.lemmas.Bool.Decides.{eqb_tells}
use Rattle.std.proofs.lemmas.List.{at_drop_more, get_or-reverse, length-reverse, get_or-set_same}
use Rattle.std.proofs.lemmas.List.{get_or-set_other, length-set}
use Rattle.net_graph.specs.Chain.{NotIn, IsRoute, position}
use Rattle.net_graph.specs.Signals.{Holds, bits_at}
use Rattle.scan_packer.specs.Started.{noted}
use Rattle.scan_packer.proofs.Bits.{pop}

-- what isn't on the path stays
noted_other : (s : Holds) (p : List ℕ) (start : ℕ) (starts : List ℕ) (r d : ℕ) → NotIn r p
    → get_or (noted s p start starts) r d ≡ get_or starts r d
noted_other s [] start starts r d h = refl
noted_other s (x ∷ xs) start starts r d h =
    noted_other s xs (start + length (bits_at s x)) (slice_set starts x start) r d h.1
    ∙ get_or-set_other starts x r start d (λ e. h.0 (sym e))

pub noted_at : (n : ℕ) (s : Holds) (p : List ℕ) (start : ℕ) (starts : List ℕ) (r d : ℕ) → IsRoute n p
    → n ≤ length starts → Contains p r
    → get_or (noted s p start starts) r d ≡ start + position p s (record { reg = r; pos = 0 })
noted_at n s [] start starts r d u long c = absurd (omega (arith, c.1))
noted_at n s (x ∷ xs) start starts r d u long c =
    ⊎_elim (λ q. here q.0 q.1) (λ q. there q.0 (noted_at n s xs (start + length (bits_at s x))
    (slice_set starts x start) r d u.2 (let same = length-set starts x start in omega (arith, same, long))
    (pop x xs r q.1 c))) (eqb_tells x r)
  where
    next : ℕ
    next = start + length (bits_at s x)

    after : ℕ
    after = position xs s (record { reg = r; pos = 0 })

    here : (x == r) ≡ true → x ≡ r → get_or (noted s (x ∷ xs) start starts) r d
        ≡ start + position (x ∷ xs) s (record { reg = r; pos = 0 })
    here o q =
        let none : start ≡ start + 0 = omega arith in
        noted_other s xs next (slice_set starts x start) r d (subst (λ z. NotIn z xs) q u.1)
        ∙ ap (λ z. get_or (slice_set starts x start) z d) (sym q)
        ∙ get_or-set_same starts x start d (omega (arith, u.0, long))
        ∙ none ∙ sym (ap (λ t. start + cond t 0 (length (bits_at s x) + after)) o)

    there : (x == r) ≡ false → get_or (noted s (x ∷ xs) start starts) r d ≡ next + after
        → get_or (noted s (x ∷ xs) start starts) r d
        ≡ start + position (x ∷ xs) s (record { reg = r; pos = 0 })
    there o rest =
        let sum : next + after ≡ start + (length (bits_at s x) + after) = omega arith in
        rest ∙ sum ∙ sym (ap (λ t. start + cond t 0 (length (bits_at s x) + after)) o)

-- the next register
pub next_noted : (path : List ℕ) (s : Holds) (i reg d start : ℕ) (starts : List ℕ) → i < length path
    → reg ≡ get_or path (length path - 1 - i) d → noted s (drop i (reverse path)) start starts
    ≡ noted s (drop (i + 1) (reverse path)) (start + length (bits_at s reg)) (slice_set starts reg start)
next_noted path s i reg d start starts l e =
    let k : i < length (reverse path) = subst (λ n. i < n) (sym (length-reverse path)) l in
    at_drop_more (λ p. noted s p start starts) (reverse path) i d k
    ∙ ap (λ r. noted s (drop (i + 1) (reverse path)) (start + length (bits_at s r))
    (slice_set starts r start)) (get_or-reverse path i d l ∙ sym e)
