-- Writing single register bits: the bit written has its new value, every other bit and every width stays.
use Rattle.std.proofs.Common.{◌≡◌, ◌≢◌, ◌⊎◌, inl, inr, ⊎_elim, ℕ, zero, suc, ◌<◌, Bool, false, List, [], ◌∷◌}
use Rattle.std.proofs.Common.{◌++◌, length, get_or, refl, sym, ap, ◌∙◌, subst, arith}
use Rattle.std.specs.Prelude.{map, slice_set, Contains}
use Rattle.std.proofs.lemmas.Bool.{cases_eq}
use Rattle.std.proofs.lemmas.List.{get_or-set_same, get_or-set_other, length-set}
use Rattle.ij_bits.specs.BitLists.{bit}
use Rattle.net_graph.specs.declared.net.BitId.{BitId}
use Rattle.net_graph.specs.declared.step.WriteBit.{WriteBit}
use Rattle.ij_bits.specs.Different.{AreDifferent}
use Rattle.net_graph.specs.Signals.{Holds, bits_at, hold_at}
use Rattle.net_graph.specs.Held.{set_hold}
use Rattle.net_graph.specs.Writes.{write_bit, write_all}
use Rattle.net_graph.proofs.Shapes.{shape, length_at, set_shape}

-- a bit of the registers of a holding
abbrev pub IsHeld : List ℕ → BitId → Type 0
IsHeld widths b = b.pos < get_or widths b.reg 0

pub within : (holds : Holds) (b : BitId) → IsHeld (shape holds) b
    → (b.reg < length holds) × (b.pos < length (bits_at holds b.reg))
within holds b h =
    let l : b.pos < length (bits_at holds b.reg) = omega (arith, h, length_at holds b.reg) in
    (inside holds b.reg l, l)
  where
    inside : (hs : Holds) (r : ℕ) → b.pos < length (bits_at hs r) → r < length hs
    inside [] r l = absurd (omega (arith, l))
    inside (x ∷ hs) zero l = omega arith
    inside (x ∷ hs) (suc r) l = omega (arith, inside hs r l)

-- two bits are one, or differ
pub same_bit_id : (a b : BitId) → a.reg ≡ b.reg → a.pos ≡ b.pos → a ≡ b
same_bit_id a b e f = λ i. record { reg = e i; pos = f i }

pub set_hold-at : (holds : Holds) (b : BitId) (v : Bool)
    → IsHeld (shape holds) b → hold_at (set_hold holds b v) b ≡ v
set_hold-at holds b v h =
    let w = within holds b h in
    ap (λ z. bit z b.pos) (get_or-set_same holds b.reg (slice_set (bits_at holds b.reg) b.pos v) [] w.0)
    ∙ get_or-set_same (bits_at holds b.reg) b.pos v false w.1

pub set_hold-off : (holds : Holds) (b : BitId) (v : Bool) (r : ℕ) → r ≢ b.reg
    → bits_at (set_hold holds b v) r ≡ bits_at holds r
set_hold-off holds b v r n = get_or-set_other holds b.reg r (slice_set (bits_at holds b.reg) b.pos v) [] n

pub set_hold-shape : (holds : Holds) (b : BitId) (v : Bool) → shape (set_hold holds b v) ≡ shape holds
set_hold-shape holds b v =
    set_shape holds b.reg (slice_set (bits_at holds b.reg) b.pos v) (length-set (bits_at holds b.reg) b.pos v)

inside_or_none : (holds : Holds) (r : ℕ) (v : List Bool)
    → (bits_at (slice_set holds r v) r ≡ v) ⊎ (slice_set holds r v ≡ holds)
inside_or_none [] r v = inr refl
inside_or_none (x ∷ holds) zero v = inl refl
inside_or_none (x ∷ holds) (suc r) v =
    ⊎_elim (λ e. inl e) (λ e. inr (ap (λ z. x ∷ z) e)) (inside_or_none holds r v)

pub set_hold-other : (holds : Holds) (b c : BitId) (v : Bool) → c ≢ b
    → hold_at (set_hold holds b v) c ≡ hold_at holds c
set_hold-other holds b c v n =
    ⊎_elim (λ e. ⊎_elim (λ f. ap (λ r. bit (bits_at (set_hold holds b v) r) c.pos) e ∙ ap (λ z. bit z c.pos) f
    ∙ get_or-set_other (bits_at holds b.reg) b.pos c.pos v false (λ g. n (same_bit_id c b e g))
    ∙ ap (λ r. bit (bits_at holds r) c.pos) (sym e)) (λ f. ap (λ z. hold_at z c) f)
    (inside_or_none holds b.reg (slice_set (bits_at holds b.reg) b.pos v)))
    (λ e. ap (λ z. bit z c.pos) (set_hold-off holds b v c.reg e)) (cases_eq c.reg b.reg)

pub write_all-shape : (ws : List WriteBit) (holds : Holds) → shape (write_all holds ws) ≡ shape holds
write_all-shape [] holds = refl
write_all-shape (w ∷ ws) holds = write_all-shape ws (write_bit holds w) ∙ set_hold-shape holds w.bit w.value

-- a register that no write names keeps its bits
pub write_all-off : (ws : List WriteBit) (holds : Holds) (r : ℕ) → (Contains (map (λ w. w.bit.reg) ws) r → ⊥)
    → bits_at (write_all holds ws) r ≡ bits_at holds r
write_all-off [] holds r h = refl
write_all-off (w ∷ ws) holds r h =
    write_all-off ws (write_bit holds w) r (λ (k, l, e). h (suc k, omega (arith, l), e))
    ∙ set_hold-off holds w.bit w.value r (λ e. h (0, omega arith, sym e))

-- a bit that no write names keeps its value
pub write_all-other : (ws : List WriteBit) (holds : Holds) (b : BitId)
    → (Contains (map (λ w. w.bit) ws) b → ⊥) → hold_at (write_all holds ws) b ≡ hold_at holds b
write_all-other [] holds b h = refl
write_all-other (w ∷ ws) holds b h =
    write_all-other ws (write_bit holds w) b (λ (k, l, e). h (suc k, omega (arith, l), e))
    ∙ set_hold-other holds w.bit b w.value (λ e. h (0, omega arith, sym e))

-- a bit that is written once has its new value
pub write_all-at : (ws : List WriteBit) (holds : Holds) (w : WriteBit) → AreDifferent (map (λ w. w.bit) ws)
    → Contains ws w → IsHeld (shape holds) w.bit → hold_at (write_all holds ws) w.bit ≡ w.value
write_all-at [] holds w d (k, l, e) h = absurd (omega (arith, l))
write_all-at (x ∷ ws) holds w d (zero, l, e) h =
    ap (λ (z : WriteBit). hold_at (write_all (write_bit holds x) ws) z.bit) (sym e)
    ∙ write_all-other ws (write_bit holds x) x.bit d.0 ∙ set_hold-at holds x.bit x.value
    (subst (λ (z : WriteBit). IsHeld (shape holds) z.bit) (sym e) h) ∙ ap (λ (z : WriteBit). z.value) e
write_all-at (x ∷ ws) holds w d (suc k, l, e) h =
    write_all-at ws (write_bit holds x) w d.1 (k, omega (arith, l), e)
    (subst (λ n. IsHeld n w.bit) (sym (set_hold-shape holds x.bit x.value)) h)

pub write_all-append : (h : Holds) (xs ys : List WriteBit)
    → write_all h (xs ++ ys) ≡ write_all (write_all h xs) ys
write_all-append h [] ys = refl
write_all-append h (x ∷ xs) ys = write_all-append (write_bit h x) xs ys
