-- The numbers at an instrument's inputs depend on the register bits that feed them, and these on the writes
-- of such bits alone.
use Rattle.std.proofs.Common.{◌≡◌, ◌≢◌, ◌≤◌, ◌<◌, ◌⊎◌, inl, inr, ⊎_elim, ℕ, zero, suc, Bool, true, false}
use Rattle.std.proofs.Common.{cond, List, [], ◌∷◌, refl, sym, ap, ◌∙◌, subst, arith}
use Rattle.std.specs.Prelude.{map, get_or, filter}
use Rattle.std.specs.List.{list_any}
use Rattle.std.proofs.lemmas.Bool.{cases_eq, true≢false, or_left, or_right}
use Rattle.std.proofs.lemmas.List.{get_or_past}
use Rattle.ij_bits.specs.BitLists.{number_of, flip_if}
use Rattle.net_graph.specs.declared.net.BitId.{BitId}
use Rattle.net_graph.specs.declared.net.Inst.{Inst}
use Rattle.net_graph.specs.declared.net.Net.{Net}
use Rattle.net_graph.specs.declared.net.PortIn.{PortIn}
use Rattle.net_graph.specs.declared.net.Sig.{Sig}
use Rattle.net_graph.specs.declared.net.Sig.TheVariants.{Absent, Zero, One, Bit, Out}
use Rattle.net_graph.specs.declared.step.WriteBit.{WriteBit}
use Rattle.net_graph.specs.Held.{set_hold}
use Rattle.net_graph.specs.Signals.{Holds, bits_at, hold_at, signal}
use Rattle.net_graph.specs.Writes.{write_bit, write_all}
use Rattle.net_graph.proofs.Shapes.{shape, length_at}
use Rattle.net_graph.proofs.Writing.{IsHeld, same_bit_id, set_hold-at, set_hold-other, set_hold-shape}
use Rattle.net_graph.proofs.Places.{place_self}
use Rattle.net_graph.specs.Path.{is_bit}
use Rattle.instruments.specs.OnNetwork.{inputs_at, port_numbers}
use Rattle.merge_order.specs.Seeing.{feeds, inputs_of}

module _ (test : BitId → Bool) where
  -- the bits that pass are alike
  abbrev pub Alike : Holds → Holds → Type 0
  Alike h k = (c : BitId) → test c ≡ true → hold_at h c ≡ hold_at k c

  -- a bit that isn't there is 0
  not_there : (h : Holds) (b : BitId) → get_or (shape h) b.reg 0 ≤ b.pos → hold_at h b ≡ false
  not_there h b few =
      let l = length_at h b.reg in get_or_past (bits_at h b.reg) b.pos false (omega (arith, few, l))

  within_or_not : (n m : ℕ) → (n < m) ⊎ (m ≤ n)
  within_or_not n zero = inr (omega arith)
  within_or_not zero (suc m) = inl (omega arith)
  within_or_not (suc n) (suc m) =
      ⊎_elim (λ a. inl (omega (arith, a))) (λ b. inr (omega (arith, b))) (within_or_not n m)

  -- a bit has the same value after the same write
  same_written : (h k : Holds) (b : BitId) (v : Bool) → shape h ≡ shape k
      → hold_at (set_hold h b v) b ≡ hold_at (set_hold k b v) b
  same_written h k b v same = ⊎_elim there absent (within_or_not b.pos (get_or (shape h) b.reg 0))
    where
      there : b.pos < get_or (shape h) b.reg 0 → hold_at (set_hold h b v) b ≡ hold_at (set_hold k b v) b
      there l = set_hold-at h b v l ∙ sym (set_hold-at k b v (subst (λ ns. IsHeld ns b) same l))

      absent : get_or (shape h) b.reg 0 ≤ b.pos → hold_at (set_hold h b v) b ≡ hold_at (set_hold k b v) b
      absent few =
          not_there (set_hold h b v) b
          (subst (λ ns. get_or ns b.reg 0 ≤ b.pos) (sym (set_hold-shape h b v)) few)
          ∙ sym (not_there (set_hold k b v) b
          (subst (λ ns. get_or ns b.reg 0 ≤ b.pos) (same ∙ sym (set_hold-shape k b v)) few))

  same_or_not : (c b : BitId) → (c ≡ b) ⊎ (c ≢ b)
  same_or_not c b =
      ⊎_elim (λ e. ⊎_elim (λ f. inl (same_bit_id c b e f)) (λ f. inr (λ g. f (ap (λ (x : BitId). x.pos) g)))
      (cases_eq c.pos b.pos)) (λ e. inr (λ g. e (ap (λ (x : BitId). x.reg) g))) (cases_eq c.reg b.reg)

  written_both : (h k : Holds) (w : WriteBit) → shape h ≡ shape k
      → Alike h k → Alike (write_bit h w) (write_bit k w)
  written_both h k w same alike c is = ⊎_elim this other (same_or_not c w.bit)
    where
      this : c ≡ w.bit → hold_at (write_bit h w) c ≡ hold_at (write_bit k w) c
      this e = subst (λ b. hold_at (write_bit h w) b ≡ hold_at (write_bit k w) b)
          (sym e) (same_written h k w.bit w.value same)

      other : c ≢ w.bit → hold_at (write_bit h w) c ≡ hold_at (write_bit k w) c
      other n = set_hold-other h w.bit c w.value n ∙ alike c is ∙ sym (set_hold-other k w.bit c w.value n)

  same_shapes : (h k : Holds) (w : WriteBit) → shape h ≡ shape k
      → shape (write_bit h w) ≡ shape (write_bit k w)
  same_shapes h k w same = set_hold-shape h w.bit w.value ∙ same ∙ sym (set_hold-shape k w.bit w.value)

  all_both : (ws : List WriteBit) (h k : Holds) → shape h ≡ shape k → Alike h k
      → Alike (write_all h ws) (write_all k ws)
  all_both [] h k same alike = alike
  all_both (w ∷ ws) h k same alike =
      all_both ws (write_bit h w) (write_bit k w) (same_shapes h k w same) (written_both h k w same alike)

  -- writes of other bits don't matter
  passed_alone : (ws : List WriteBit) (h k : Holds) → shape h ≡ shape k → Alike h k
      → Alike (write_all h ws) (write_all k (filter (λ w. test w.bit) ws))
  passed_alone [] h k same alike = alike
  passed_alone (w ∷ ws) h k same alike = by_test (λ x y. passed_alone ws x y) (test w.bit) refl
    where
      by_test : ((x y : Holds) → shape x ≡ shape y → Alike x y
          → Alike (write_all x ws) (write_all y (filter (λ w. test w.bit) ws))) → (t : Bool)
          → test w.bit ≡ t → Alike (write_all (write_bit h w) ws)
          (write_all k (cond t (w ∷ filter (λ w. test w.bit) ws) (filter (λ w. test w.bit) ws)))
      by_test ih true e = ih (write_bit h w) (write_bit k w)
          (same_shapes h k w same) (written_both h k w same alike)
      by_test ih false e =
          ih (write_bit h w) k (set_hold-shape h w.bit w.value ∙ same)
          (λ c is. set_hold-other h w.bit c w.value
          (λ (g : c ≡ w.bit). true≢false (sym is ∙ ap test g ∙ e)) ∙ alike c is)

  flipped : (h k : Holds) → Alike h k → Alike k h
  flipped h k alike c is = sym (alike c is)

  chained : (h k l : Holds) → Alike h k → Alike k l → Alike h l
  chained h k l a b c is = a c is ∙ b c is

  itself : (h : Holds) → Alike h h
  itself h c is = refl

  -- lists with the same writes of such bits
  pub written_alike : (ws vs : List WriteBit) (h k : Holds) → shape h ≡ shape k → Alike h k
      → filter (λ w. test w.bit) ws ≡ filter (λ w. test w.bit) vs
      → Alike (write_all h ws) (write_all k vs)
  written_alike ws vs h k same alike e =
      let left = passed_alone ws h h refl (itself h) in
      let right = passed_alone vs k k refl (itself k) in
      let both = all_both (filter (λ w. test w.bit) vs) h k same alike in
      chained (write_all h ws) (write_all h (filter (λ w. test w.bit) ws)) (write_all k vs) left
      (chained (write_all h (filter (λ w. test w.bit) ws))
      (write_all k (filter (λ w. test w.bit) vs)) (write_all k vs)
      (subst (λ l. Alike (write_all h l) (write_all k (filter (λ w. test w.bit) vs))) (sym e) both)
      (flipped (write_all k vs) (write_all k (filter (λ w. test w.bit) vs)) right))

-- ---- inputs

module _ (h k : Holds) where
  abbrev none : ℕ → ℕ → ℕ → Bool
  none i port pos = false

  signals_same : (sigs : List Sig)
      → ((c : BitId) → list_any (is_bit c) sigs ≡ true → hold_at h c ≡ hold_at k c)
      → map (signal none h) sigs ≡ map (signal none k) sigs
  signals_same [] a = refl
  signals_same (s ∷ ss) a =
      ap (λ v. v ∷ map (signal none h) ss)
      (one s (λ c is. a c (or_left (is_bit c s) (list_any (is_bit c) ss) is)))
      ∙ ap (λ l. signal none k s ∷ l)
      (signals_same ss (λ c is. a c (or_right (is_bit c s) (list_any (is_bit c) ss) is)))
    where
      one : (s : Sig) → ((c : BitId) → is_bit c s ≡ true → hold_at h c ≡ hold_at k c)
          → signal none h s ≡ signal none k s
      one Absent a = refl
      one Zero a = refl
      one One a = refl
      one (Bit b inverted) a = ap (flip_if inverted) (a b (place_self b))
      one (Out inst port pos inverted) a = refl

  abbrev number : Holds → PortIn → ℕ
  number x port = number_of (map (signal none x) port.bits.items)

  ports_same : (ports : List PortIn) → ((c : BitId)
      → list_any (λ port. list_any (is_bit c) port.bits.items) ports ≡ true → hold_at h c ≡ hold_at k c)
      → map (number h) ports ≡ map (number k) ports
  ports_same [] a = refl
  ports_same (p ∷ ps) a =
      ap (λ n. number_of n ∷ map (number h) ps) (signals_same p.bits.items (λ c is. a c (or_left
      (list_any (is_bit c) p.bits.items) (list_any (λ port. list_any (is_bit c) port.bits.items) ps) is)))
      ∙ ap (λ ns. number k p ∷ ns) (ports_same ps (λ c is. a c (or_right (list_any (is_bit c) p.bits.items)
      (list_any (λ port. list_any (is_bit c) port.bits.items) ps) is)))

  at_ports : (x : Holds) (insts : List Inst) (i : ℕ) → get_or (map (port_numbers x) insts) i []
      ≡ map (number x) (get_or (map (λ inst. inst.ins.items) insts) i [])
  at_ports x [] i = refl
  at_ports x (inst ∷ insts) zero = refl
  at_ports x (inst ∷ insts) (suc i) = at_ports x insts i

  pub inputs_same : (net : Net) (i : ℕ) → Alike (feeds net i) h k → inputs_at net h i ≡ inputs_at net k i
  inputs_same net i alike = at_ports h net.insts.items i
      ∙ ports_same (inputs_of net i) alike ∙ sym (at_ports k net.insts.items i)
