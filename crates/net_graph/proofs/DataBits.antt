-- Two lists of register bits that have the same data bits: writing and resetting keep that, and no data
-- signal tells them apart.
use Rattle.std.proofs.Common.{◌≡◌, ℕ, zero, suc, Bool, List, [], ◌∷◌, length, drop, refl, sym, ap, ◌∙◌, subst}
use Rattle.std.proofs.Common.{arith, ⊎_elim}
use Rattle.std.specs.Prelude.{All, get_or, cond, IsFalse}
use Rattle.std.proofs.lemmas.Bool.{cases_eq}
use Rattle.std.proofs.lemmas.List.Elements.{All-head, All-tail}
use Rattle.ij_bits.specs.BitLists.{bit, flip_if}
use Rattle.net_graph.specs.declared.net.BitId.{BitId}
use Rattle.net_graph.specs.declared.net.Net.{Net}
use Rattle.net_graph.specs.declared.net.Reg.{Reg}
use Rattle.net_graph.specs.declared.net.Sig.{Sig}
use Rattle.net_graph.specs.declared.net.Sig.TheVariants.{Absent, Zero, One, Bit, Out}
use Rattle.net_graph.specs.declared.step.WriteBit.{WriteBit}
use Rattle.net_graph.specs.Path.{is_select}
use Rattle.net_graph.specs.Resets.{reset_bits, reset_regs, reset_holds}
use Rattle.net_graph.specs.Selects.{names_select}
use Rattle.net_graph.specs.Signals.{Holds, Outputs, bits_at, hold_at, signal}
use Rattle.net_graph.specs.Steps.{IsReadable}
use Rattle.net_graph.specs.Held.{set_hold}
use Rattle.net_graph.specs.Writes.{write_bit, write_all}
use Rattle.net_graph.proofs.Shapes.{shape}
use Rattle.net_graph.proofs.Writing.{IsHeld, same_bit_id, set_hold-at, set_hold-other, set_hold-shape}

-- the same value of each bit that selects nothing
abbrev pub SameData : Net → Holds → Holds → Type 0
SameData net h k = (b : BitId) → IsFalse (is_select net b) → hold_at h b ≡ hold_at k b

set_same : (h k : Holds) (b : BitId) (v : Bool) (c : BitId) → hold_at h c ≡ hold_at k c → IsHeld (shape h) b
    → IsHeld (shape k) b → hold_at (set_hold h b v) c ≡ hold_at (set_hold k b v) c
set_same h k b v c e x y =
    let other : ¬ (c ≡ b) → hold_at (set_hold h b v) c
    ≡ hold_at (set_hold k b v) c = λ n. set_hold-other h b c v n ∙ e ∙ sym (set_hold-other k b c v n) in
    let same : c ≡ b → hold_at (set_hold h b v) c
    ≡ hold_at (set_hold k b v) c = λ z. ap (hold_at (set_hold h b v)) z ∙ set_hold-at h b v x
    ∙ sym (ap (hold_at (set_hold k b v)) z ∙ set_hold-at k b v y) in
    ⊎_elim (λ r. ⊎_elim (λ p. same (same_bit_id c b r p)) (λ p. other (λ z. p (ap (λ (d : BitId). d.pos) z)))
    (cases_eq c.pos b.pos)) (λ r. other (λ z. r (ap (λ (d : BitId). d.reg) z))) (cases_eq c.reg b.reg)

-- the same writes leave the same data bits
pub write_same : (net : Net) (ws : List WriteBit) (h k : Holds) → shape h ≡ shape k
    → All (λ w. IsHeld (shape h) w.bit) ws → SameData net h k → SameData net (write_all h ws) (write_all k ws)
write_same net [] h k e a s = s
write_same net (w ∷ ws) h k e a s =
    let Held : WriteBit → Type 0 = λ w. IsHeld (shape h) w.bit in
    let here = All-head Held w ws a in
    let there : IsHeld (shape k) w.bit = subst (λ n. IsHeld n w.bit) e here in
    let same : shape (write_bit h w) ≡ shape h = set_hold-shape h w.bit w.value in
    let shapes : shape (write_bit h w)
    ≡ shape (write_bit k w) = same ∙ e ∙ sym (set_hold-shape k w.bit w.value) in
    let later : All (λ v. IsHeld (shape (write_bit h w)) v.bit) ws =
    subst (λ n. All (λ v. IsHeld n v.bit) ws) (sym same) (All-tail Held w ws a) in
    write_same net ws (write_bit h w) (write_bit k w) shapes later
    (λ b d. set_same h k w.bit w.value b (s b d) here there)

reset_bit_same : (v c a b : List Bool) (p : ℕ) → length a ≡ length b → bit a p ≡ bit b p
    → bit (reset_bits v c a) p ≡ bit (reset_bits v c b) p
reset_bit_same v c [] [] p l e = refl
reset_bit_same v c [] (y ∷ b) p l e = absurd (omega (arith, l))
reset_bit_same v c (x ∷ a) [] p l e = absurd (omega (arith, l))
reset_bit_same [] c (x ∷ a) (y ∷ b) p l e = e
reset_bit_same (v ∷ vs) [] (x ∷ a) (y ∷ b) p l e = e
reset_bit_same (v ∷ vs) (c ∷ cs) (x ∷ a) (y ∷ b) zero l e = ap (cond c v) e
reset_bit_same (v ∷ vs) (c ∷ cs) (x ∷ a) (y ∷ b) (suc p) l e = reset_bit_same vs cs a b p (omega (arith, l)) e

some_widths : (x : List Bool) (h : Holds) → shape [] ≡ shape (x ∷ h) → ⊥
some_widths x h e =
    let l : 0 ≡ length (shape (x ∷ h)) = ap length e in
    omega (arith, l)

reset_regs_same : (rs : List Reg) (h k : Holds) (r p : ℕ) → shape h ≡ shape k
    → bit (bits_at h r) p ≡ bit (bits_at k r) p
    → bit (bits_at (reset_regs rs h) r) p ≡ bit (bits_at (reset_regs rs k) r) p
reset_regs_same rs [] [] r p s e = refl
reset_regs_same rs [] (y ∷ k) r p s e = absurd (some_widths y k s)
reset_regs_same rs (x ∷ h) [] r p s e = absurd (some_widths x h (sym s))
reset_regs_same [] (x ∷ h) (y ∷ k) r p s e = e
reset_regs_same (q ∷ rs) (x ∷ h) (y ∷ k) zero p s e =
    reset_bit_same q.reset.value.items q.reset.care.items x y p (ap (λ ns. get_or ns 0 0) s) e
reset_regs_same (q ∷ rs) (x ∷ h) (y ∷ k) (suc r) p s e = reset_regs_same rs h k r p (ap (drop 1) s) e

-- so does a reset
pub reset_same : (net : Net) (h k : Holds) → shape h ≡ shape k → SameData net h k
    → SameData net (reset_holds net h) (reset_holds net k)
reset_same net h k e s = λ b d. reset_regs_same net.regs.items h k b.reg b.pos e (s b d)

-- a signal that isn't a select bit is the same
pub signal_same : (net : Net) (outs : Outputs) (h k : Holds) (sig : Sig) → SameData net h k
    → IsFalse (names_select net sig) → signal outs h sig ≡ signal outs k sig
signal_same net outs h k Absent s d = refl
signal_same net outs h k Zero s d = refl
signal_same net outs h k One s d = refl
signal_same net outs h k (Bit b inverted) s d = ap (flip_if inverted) (s b d)
signal_same net outs h k (Out inst port pos inverted) s d = refl

pub readable_names_none : (net : Net) (sig : Sig) → IsReadable net sig → IsFalse (names_select net sig)
readable_names_none net Absent r = absurd r
readable_names_none net Zero r = refl
readable_names_none net One r = refl
readable_names_none net (Bit b inverted) r = r
readable_names_none net (Out inst port pos inverted) r = refl
