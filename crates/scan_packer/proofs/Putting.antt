-- A bit of a path is written at its place.
use Rattle.std.proofs.Common.{◌≡◌, ◌≢◌, ⊎_elim, ℕ, zero, suc, ◌+◌, ◌-◌, ◌<◌, ◌≤◌, Bool, true, false, List, []}
use Rattle.std.proofs.Common.{◌∷◌, ◌++◌, length, refl, sym, ap, ◌∙◌, subst, arith, length-append}
use Rattle.std.specs.Prelude.{reverse, slice_set, cond, Contains, ◌==◌}
use Rattle.std.proofs.lemmas.Bool.Decides.{eqb_tells}
use Rattle.std.proofs.lemmas.List.Elements.{Contains-append_left, Contains-append_right}
use Rattle.std.proofs.lemmas.List.{reverse-append, set-append_left, set-append_right, get_or-set_same}
use Rattle.std.proofs.lemmas.List.{get_or-set_other, length-set}
use Rattle.net_graph.specs.declared.net.BitId.{BitId}
use Rattle.net_graph.specs.declared.net.Net.{Net}
use Rattle.net_graph.specs.declared.step.WriteBit.{WriteBit}
use Rattle.net_graph.specs.Chain.{NotIn, IsRoute, chain, position}
use Rattle.net_graph.specs.Named.{IsBitOf}
use Rattle.net_graph.specs.Resets.{zero_holds}
use Rattle.net_graph.specs.Signals.{Holds, bits_at}
use Rattle.net_graph.specs.Held.{set_hold}
use Rattle.net_graph.specs.Writes.{write_all}
use Rattle.net_graph.proofs.Shapes.{shape, length_at}
use Rattle.net_graph.proofs.Writing.{IsHeld, within, write_all-shape, write_all-append}
use Rattle.net_graph.proofs.Widths.{zero-shape}
use Rattle.scan_packer.specs.Packed.{IsWritten}
use Rattle.scan_packer.proofs.Bits.{same_width, pop}
use Rattle.net_graph.proofs.Chains.{chain-set}

pub place_within : (p : List ℕ) (s : Holds) (b : BitId) → Contains p b.reg
    → IsHeld (shape s) b → position p s b < length (chain p s)
place_within [] s b c h = absurd (omega (arith, c.1))
place_within (r ∷ rs) s b c h =
    ⊎_elim (λ q. let wide : b.pos < length (bits_at s r) =
    omega (arith, h, length_at s b.reg, ap (λ z. length (bits_at s z)) q.1) in subst
    (λ z. cond z b.pos (length (bits_at s r) + position rs s b) < length (bits_at s r ++ chain rs s))
    (sym q.0) (omega (arith, wide, length-append (bits_at s r) (chain rs s)))) (λ q. subst
    (λ z. cond z b.pos (length (bits_at s r) + position rs s b) < length (bits_at s r ++ chain rs s))
    (sym q.0) (omega (
      arith,
      place_within rs s b (pop r rs b.reg q.1 c) h,
      length-append (bits_at s r) (chain rs s),
    ))) (eqb_tells r b.reg)

-- a bit is so far after the first one of its register
pub after_start : (p : List ℕ) (s : Holds) (b : BitId) → Contains p b.reg
    → position p s b ≡ position p s (record { reg = b.reg; pos = 0 }) + b.pos
after_start [] s b c = absurd (omega (arith, c.1))
after_start (r ∷ rs) s b c =
    let first : BitId = record { reg = b.reg; pos = 0 } in
    let P : Bool → Type 0 = λ z. cond z b.pos (length (bits_at s r) + position rs s b)
    ≡ cond z 0 (length (bits_at s r) + position rs s first) + b.pos in
    ⊎_elim (λ q. subst P (sym q.0) (omega arith)) (λ q. let more = after_start rs s b (pop r rs b.reg q.1 c)
    in subst P (sym q.0) (omega (arith, more))) (eqb_tells r b.reg)

pub put_at : (n : ℕ) (p : List ℕ) (s t : Holds) (b : BitId) (v : Bool) → IsRoute n p
    → shape s ≡ shape t → Contains p b.reg → IsHeld (shape s) b
    → slice_set (chain p s) (position p t b) v ≡ chain p (set_hold s b v)
put_at n [] s t b v u e c h = absurd (omega (arith, c.1))
put_at n (r ∷ rs) s t b v u e c h = ⊎_elim (λ q. here q.0 q.1)
    (λ q. there q.0 q.1 (put_at n rs s t b v u.2 e (pop r rs b.reg q.1 c) h)) (eqb_tells r b.reg)
  where
    here : (r == b.reg) ≡ true → r ≡ b.reg
        → slice_set (chain (r ∷ rs) s) (position (r ∷ rs) t b) v ≡ chain (r ∷ rs) (set_hold s b v)
    here o q =
        let w = within s b h in
        let l : b.pos < length (bits_at s r) = omega (arith, w.1, ap (λ z. length (bits_at s z)) q) in
        ap (λ z. slice_set (bits_at s r ++ chain rs s)
        (cond z b.pos (length (bits_at t r) + position rs t b)) v) o
        ∙ set-append_left (bits_at s r) (chain rs s) b.pos v l
        ∙ ap (λ z. slice_set (bits_at s z) b.pos v ++ chain rs s) q
        ∙ ap (λ z. z ++ chain rs s)
        (sym (get_or-set_same s b.reg (slice_set (bits_at s b.reg) b.pos v) [] w.0))
        ∙ ap (λ z. bits_at (set_hold s b v) z ++ chain rs s) (sym q)
        ∙ ap (λ z. bits_at (set_hold s b v) r ++ z)
        (sym (chain-set rs s b.reg (slice_set (bits_at s b.reg) b.pos v) (subst (λ z. NotIn z rs) q u.1)))

    there : (r == b.reg) ≡ false → (r ≢ b.reg)
        → slice_set (chain rs s) (position rs t b) v ≡ chain rs (set_hold s b v)
        → slice_set (chain (r ∷ rs) s) (position (r ∷ rs) t b) v ≡ chain (r ∷ rs) (set_hold s b v)
    there o q rest =
        let k : (length (bits_at t r) + position rs t b) - length (bits_at s r)
        ≡ position rs t b = omega (arith, same_width s t r e) in
        let m : length (bits_at s r) ≤ length (bits_at t r) + position rs t b =
        omega (arith, same_width s t r e) in
        ap (λ z. slice_set (bits_at s r ++ chain rs s)
        (cond z b.pos (length (bits_at t r) + position rs t b)) v) o
        ∙ set-append_right (bits_at s r) (chain rs s) (length (bits_at s r))
        (length (bits_at t r) + position rs t b) v refl m
        ∙ ap (λ j. bits_at s r ++ slice_set (chain rs s) j v) k
        ∙ ap (λ z. bits_at s r ++ z) rest
        ∙ ap (λ z. z ++ chain rs (set_hold s b v))
        (sym (get_or-set_other s b.reg r (slice_set (bits_at s b.reg) b.pos v) [] q))

pub turned : (r : ℕ) (p : List ℕ) → Contains p r → Contains (reverse p) r
turned r [] c = absurd (omega (arith, c.1))
turned r (x ∷ xs) (zero, l, e) =
    subst (λ z. Contains z r) (sym (reverse-append (x ∷ []) xs))
    (Contains-append_right (reverse xs) (x ∷ []) r (0, omega arith, e))
turned r (x ∷ xs) (suc k, l, e) =
    subst (λ z. Contains z r) (sym (reverse-append (x ∷ []) xs))
    (Contains-append_left (reverse xs) (x ∷ []) r (turned r xs (k, omega (arith, l), e)))

pub zero_held : (net : Net) (b : BitId) → IsBitOf net b → IsHeld (shape (zero_holds net)) b
zero_held net b h = subst (λ ws. IsHeld ws b) (sym (zero-shape net.regs.items)) h

pub written_more : (net : Net) (n : ℕ) (path : List ℕ) (before bits after : List Bool) (ws : List WriteBit)
    (w : WriteBit) → IsRoute n (reverse path) → Contains path w.bit.reg → IsBitOf net w.bit
    → IsWritten net (reverse path) ws before bits
    → after ≡ slice_set bits (position (reverse path) (zero_holds net) w.bit) w.value
    → IsWritten net (reverse path) (ws ++ w ∷ []) before after
written_more net n path before bits after ws w u c b i e =
    record {
      long = ap length e ∙ length-set bits (position (reverse path) (zero_holds net) w.bit) w.value ∙ i.long;
      written = λ h a f.
          let s = write_all h ws in
          let same : shape s ≡ shape (zero_holds net) =
          write_all-shape ws h ∙ a ∙ sym (zero-shape net.regs.items) in
          e ∙ ap (λ z. slice_set z (position (reverse path) (zero_holds net) w.bit) w.value) (i.written h a f)
          ∙ put_at n (reverse path) s (zero_holds net) w.bit w.value u same (turned w.bit.reg path c)
          (subst (λ ws. IsHeld ws w.bit) (sym same) (zero_held net w.bit b))
          ∙ ap (chain (reverse path)) (sym (write_all-append h ws (w ∷ [])));
    }
