-- Bits among other bits.
use Rattle.std.proofs.Common.{◌≡◌, ℕ, zero, suc, ◌+◌, ◌<◌, ◌≤◌, ◌==◌, inl, inr, Bool, true, false, List, []}
use Rattle.std.proofs.Common.{◌∷◌, ◌++◌, length, get_or, drop, map, refl, sym, ap, ◌∙◌, subst, arith}
use Rattle.std.specs.Prelude.{◌&&◌, ◌||◌, filter, cond}
use Rattle.std.specs.List.{list_any}
use Rattle.std.proofs.lemmas.Bool.{cases_lt, eq-eqb, false≢true, or_left, or_right, or_parts}
use Rattle.std.proofs.lemmas.List.{get_or_append_left, get_or-append-add, map-append}
use Rattle.std.proofs.lemmas.List.Folds.{list_any-append}
use Rattle.net_graph.specs.declared.net.BitId.{BitId}
use Rattle.net_graph.specs.Chain.{NotIn, chain}
use Rattle.net_graph.specs.Named.{bits_from}
use Rattle.net_graph.specs.Path.{same_place}
use Rattle.net_graph.specs.Signals.{Holds, bits_at, hold_at}
use Rattle.net_graph.proofs.PlainNet.{length-bits_from}
use Rattle.net_graph.proofs.Places.{place_is}
use Rattle.svf_audit.specs.Audit.{bits_on}

pub place_of : (a b : BitId) → a.reg ≡ b.reg → a.pos ≡ b.pos → same_place a b ≡ true
place_of a b r p = ap (λ t. t && (a.pos == b.pos)) (eq-eqb a.reg b.reg r) ∙ eq-eqb a.pos b.pos p

-- any bit
abbrev pub first : BitId
first = record { reg = 0; pos = 0 }

pub bits_from_at : (r k n j : ℕ) (d : BitId) → j < n
    → get_or (bits_from r k n) j d ≡ record { reg = r; pos = k + j }
bits_from_at r k zero j d l = absurd (omega (arith, l))
bits_from_at r k (suc n) zero d l =
    let z : k ≡ k + 0 = omega arith in
    ap (λ (p : ℕ). record { reg = r; pos = p }) z
bits_from_at r k (suc n) (suc j) d l =
    let z : suc k + j ≡ k + suc j = omega arith in
    bits_from_at r (suc k) n j d (omega (arith, l)) ∙ ap (λ (p : ℕ). record { reg = r; pos = p }) z

-- the bits of a path: those of its first register, and then the others
pub on_first : (s : Holds) (r : ℕ) (rs : List ℕ) (k : ℕ) → k < length (bits_at s r)
    → get_or (bits_on s (r ∷ rs)) k first ≡ record { reg = r; pos = k }
on_first s r rs k l =
    let w = length (bits_at s r) in
    get_or_append_left (bits_from r 0 w) (bits_on s rs) first k (omega (arith, l, length-bits_from r 0 w))
    ∙ bits_from_at r 0 w k first l
    ∙ (let at : 0 + k ≡ k = omega arith in ap (λ (p : ℕ). record { reg = r; pos = p }) at)

pub on_rest : (s : Holds) (r : ℕ) (rs : List ℕ) (j : ℕ)
    → get_or (bits_on s (r ∷ rs)) (length (bits_at s r) + j) first ≡ get_or (bits_on s rs) j first
on_rest s r rs j =
    let w = length (bits_at s r) in
    ap (λ n. get_or (bits_from r 0 w ++ bits_on s rs) (n + j) first) (sym (length-bits_from r 0 w))
    ∙ get_or-append-add (bits_from r 0 w) (bits_on s rs) j first

-- ---- whether a bit is among those of a path

in_register : (b : BitId) (r k n : ℕ) → r ≡ b.reg → k ≤ b.pos → b.pos < k + n
    → list_any (same_place b) (bits_from r k n) ≡ true
in_register b r k zero e l u = absurd (omega (arith, l, u))
in_register b r k (suc n) e l u =
    elim (cases_lt k b.pos) [
      | inl below ↦ or_right (same_place b (record { reg = r; pos = k })) (list_any (same_place b)
          (bits_from r (suc k) n)) (in_register b r (suc k) n e (omega (arith, below)) (omega (arith, u)))
      | inr here ↦ or_left (same_place b (record { reg = r; pos = k })) (list_any (same_place b)
          (bits_from r (suc k) n)) (place_of b (record { reg = r; pos = k }) (sym e) (omega (arith, l, here)))
    ]

-- a bit that is not has a register off the path
pub off_path : (s : Holds) (path : List ℕ) (b : BitId) → b.pos < length (bits_at s b.reg)
    → list_any (same_place b) (bits_on s path) ≡ false → NotIn b.reg path
off_path s [] b l e = tt
off_path s (r ∷ rs) b l e =
    let w = length (bits_at s r) in
    let parts = or_parts (list_any (same_place b) (bits_from r 0 w)) (list_any (same_place b) (bits_on s rs))
    (sym (list_any-append (same_place b) (bits_from r 0 w) (bits_on s rs)) ∙ e) in (
      λ same. false≢true (sym parts.0 ∙ in_register b r 0 w same (omega arith)
          (omega (arith, subst (λ q. b.pos < length (bits_at s q)) (sym same) l))),
      off_path s rs b l parts.1,
    )

-- a test that some bit passes isn't passed by none
pub passes : (p : BitId → Bool) (b : BitId) (xs : List BitId) → p b ≡ true
    → list_any p xs ≡ false → list_any (same_place b) xs ≡ false
passes p b [] h e = refl
passes p b (x ∷ xs) h e = by (same_place b x) refl (passes p b xs h (or_parts (p x) (list_any p xs) e).1)
  where
    by : (t : Bool) → same_place b x ≡ t → list_any (same_place b) xs ≡ false
        → list_any (same_place b) (x ∷ xs) ≡ false
    by true s rest =
        absurd (false≢true (sym (or_parts (p x) (list_any p xs) e).0 ∙ ap p (sym (place_is b x s)) ∙ h))
    by false s rest = ap (λ t. t || list_any (same_place b) xs) s ∙ rest

-- a bit that passes stays where a list is filtered
pub filtered : (p : BitId → Bool) (b : BitId) (xs : List BitId) → p b ≡ true
    → list_any (same_place b) (filter p xs) ≡ false → list_any (same_place b) xs ≡ false
filtered p b [] h e = refl
filtered p b (x ∷ xs) h e = by (same_place b x) (p x) refl refl (filtered p b xs h)
  where
    by : (t u : Bool) → same_place b x ≡ t → p x ≡ u
        → (list_any (same_place b) (filter p xs) ≡ false → list_any (same_place b) xs ≡ false)
        → list_any (same_place b) (x ∷ xs) ≡ false
    by true true s k rest =
        let kept : list_any (same_place b) (x ∷ filter p xs) ≡ false =
        sym (ap (λ u. list_any (same_place b) (cond u (x ∷ filter p xs) (filter p xs))) k) ∙ e in
        absurd (false≢true
        (sym (or_parts (same_place b x) (list_any (same_place b) (filter p xs)) kept).0 ∙ s))
    by true false s k rest = absurd (false≢true (sym k ∙ ap p (sym (place_is b x s)) ∙ h))
    by false true s k rest =
        let kept : list_any (same_place b) (x ∷ filter p xs) ≡ false =
        sym (ap (λ u. list_any (same_place b) (cond u (x ∷ filter p xs) (filter p xs))) k) ∙ e in
        ap (λ t. t || list_any (same_place b) xs) s
        ∙ rest (or_parts (same_place b x) (list_any (same_place b) (filter p xs)) kept).1
    by false false s k rest =
        ap (λ t. t || list_any (same_place b) xs) s
        ∙ rest (sym (ap (λ u. list_any (same_place b) (cond u (x ∷ filter p xs) (filter p xs))) k) ∙ e)

-- ---- what the bits of a path hold

register_holds : (s : Holds) (r k : ℕ) (ys : List Bool)
    → ((i : ℕ) → hold_at s (record { reg = r; pos = k + i }) ≡ get_or ys i false)
    → map (hold_at s) (bits_from r k (length ys)) ≡ ys
register_holds s r k [] h = refl
register_holds s r k (y ∷ ys) h =
    let here : k + 0 ≡ k = omega arith in
    ap (λ b. b ∷ map (hold_at s) (bits_from r (suc k) (length ys)))
    (ap (λ (p : ℕ). hold_at s (record { reg = r; pos = p })) (sym here) ∙ h 0)
    ∙ ap (λ bs. y ∷ bs) (register_holds s r (suc k) ys (λ i. let next : suc k + i ≡ k + suc i = omega arith in
    ap (λ (p : ℕ). hold_at s (record { reg = r; pos = p })) next ∙ h (suc i)))

pub chain_is : (s : Holds) (path : List ℕ) → map (hold_at s) (bits_on s path) ≡ chain path s
chain_is s [] = refl
chain_is s (r ∷ rs) =
    let ys = bits_at s r in
    map-append (hold_at s) (bits_from r 0 (length ys)) (bits_on s rs)
    ∙ ap (λ bs. bs ++ map (hold_at s) (bits_on s rs)) (register_holds s r 0 ys (λ i.
    let at : 0 + i ≡ i = omega arith in ap (λ (p : ℕ). hold_at s (record { reg = r; pos = p })) at))
    ∙ ap (λ bs. ys ++ bs) (chain_is s rs)

-- bits of one shape have the same bits on a path
pub bits_on_same : (s t : Holds) (path : List ℕ)
    → ((r : ℕ) → length (bits_at s r) ≡ length (bits_at t r)) → bits_on s path ≡ bits_on t path
bits_on_same s t [] e = refl
bits_on_same s t (r ∷ rs) e =
    ap (λ n. bits_from r 0 n ++ bits_on s rs) (e r)
    ∙ ap (λ bs. bits_from r 0 (length (bits_at t r)) ++ bs) (bits_on_same s t rs e)

-- ---- register bits are the same where each bit is

bits_same : (xs ys : List Bool) → length xs ≡ length ys
    → ((i : ℕ) → get_or xs i false ≡ get_or ys i false) → xs ≡ ys
bits_same [] [] l e = refl
bits_same [] (y ∷ ys) l e = absurd (omega (arith, l))
bits_same (x ∷ xs) [] l e = absurd (omega (arith, l))
bits_same (x ∷ xs) (y ∷ ys) l e = ap (λ b. b ∷ xs) (e 0)
    ∙ ap (λ bs. y ∷ bs) (bits_same xs ys (omega (arith, l)) (λ i. e (suc i)))

pub holds_same : (s t : Holds) → map length s ≡ map length t
    → ((b : BitId) → hold_at s b ≡ hold_at t b) → s ≡ t
holds_same [] [] l e = refl
holds_same [] (y ∷ t) l e = absurd (let n = ap length l in omega (arith, n))
holds_same (x ∷ s) [] l e = absurd (let n = ap length l in omega (arith, n))
holds_same (x ∷ s) (y ∷ t) l e =
    ap (λ b. b ∷ s) (bits_same x y (ap (λ ns. get_or ns 0 0) l) (λ i. e (record { reg = 0; pos = i })))
    ∙ ap (λ bs. y ∷ bs) (holds_same s t (ap (λ (ns : List ℕ). drop 1 ns) l)
    (λ b. e (record { reg = suc b.reg; pos = b.pos })))
