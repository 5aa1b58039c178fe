-- Update stages that have the widths of their registers: at power-up, after a reset, and how long their paths
-- are.
use Rattle.std.proofs.Common.{◌≡◌, ℕ, zero, suc, ◌+◌, ◌<◌, ◌≤◌, false, get_or, List, [], ◌∷◌, length, drop}
use Rattle.std.proofs.Common.{refl, sym, ap, ◌∙◌, subst, arith, length-append, inl, inr}
use Rattle.std.specs.Prelude.{map, replicate, slice_set, sum}
use Rattle.std.proofs.lemmas.List.{length-map, length-set, drop_more, get_or-set_other, length-replicate}
use Rattle.std.proofs.lemmas.List.{get_or_past}
use Rattle.std.proofs.lemmas.List.Sums.{sum_by-cons}
use Rattle.net_graph.specs.Chain.{NotIn, IsRoute, chain}
use Rattle.net_graph.specs.Held.{AreHolds, IsHeld, set_hold}
use Rattle.net_graph.specs.Resets.{reset_holds, start_holds, zero_holds}
use Rattle.net_graph.specs.Signals.{Holds, bits_at}
use Rattle.net_graph.specs.declared.net.Net.{Net}
use Rattle.net_graph.specs.declared.net.Reg.{Reg}
use Rattle.net_graph.proofs.Shapes.{shape, length_at, total, reset-shape, length-chain}
use Rattle.net_graph.proofs.Writing.{set_hold-shape}
use Rattle.net_graph.specs.declared.net.BitId.{BitId}
use Rattle.net_graph.specs.declared.step.WriteBit.{WriteBit}
use Rattle.net_graph.specs.Named.{IsBitOf, width_of}
use Rattle.std.proofs.lemmas.Bool.{cases_lt}

pub zero-shape : (rs : List Reg) → shape (map (λ r. replicate r.width false) rs) ≡ map (λ r. r.width) rs
zero-shape [] = refl
zero-shape (r ∷ rs) =
    ap (λ n. n ∷ shape (map (λ r. replicate r.width false) rs)) (length-replicate r.width false)
    ∙ ap (λ ns. r.width ∷ ns) (zero-shape rs)

pub zeros_held : (net : Net) → AreHolds net (zero_holds net)
zeros_held net = zero-shape net.regs.items

pub start_held : (net : Net) → AreHolds net (start_holds net)
start_held net = reset-shape net (zero_holds net) ∙ zeros_held net

pub started_held : (net : Net) (holds : Holds) → holds ≡ start_holds net → AreHolds net holds
started_held net holds e = ap (map length) e ∙ start_held net

pub reset_held : (net : Net) (holds after : Holds) → AreHolds net holds
    → after ≡ reset_holds net holds → AreHolds net after
reset_held net holds after h e = ap (map length) e ∙ reset-shape net holds ∙ h

-- there are as many of them as registers
pub as_many_held : (net : Net) (s : Holds) → AreHolds net s → length s ≡ length net.regs.items
as_many_held net s h = sym (length-map s length) ∙ ap length h ∙ length-map net.regs.items (λ reg. reg.width)

-- ---- paths

sum-set : (ns : List ℕ) (r : ℕ) → r < length ns → sum (slice_set ns r 0) + get_or ns r 0 ≡ sum ns
sum-set [] r h = absurd (omega (arith, h))
sum-set (n ∷ ns) zero h = omega (arith, sum_by-cons (λ k. k) n ns, sum_by-cons (λ k. k) 0 ns)
sum-set (n ∷ ns) (suc r) h =
    omega (
      arith,
      sum_by-cons (λ k. k) n ns,
      sum_by-cons (λ k. k) n (slice_set ns r 0),
      sum-set ns r (omega (arith, h)),
    )

pub total-set : (p ns : List ℕ) (r : ℕ) → NotIn r p → total p (slice_set ns r 0) ≡ total p ns
total-set [] ns r h = refl
total-set (x ∷ xs) ns r h = omega (arith, get_or-set_other ns r x 0 0 h.0, total-set xs ns r h.1)

pub total_fits : (p ns : List ℕ) → IsRoute (length ns) p → total p ns ≤ sum ns
total_fits [] ns h = omega arith
total_fits (r ∷ rs) ns h =
    let rest : total rs (slice_set ns r 0) ≤ sum (slice_set ns r 0) =
    total_fits rs (slice_set ns r 0) (subst (λ n. IsRoute n rs) (sym (length-set ns r 0)) h.2) in
    omega (arith, rest, total-set rs ns r h.1, sum-set ns r h.0)

-- a path has at most the bits of all registers
pub chain_fits : (net : Net) (p : List ℕ) (s : Holds) → AreHolds net s → IsRoute (length s) p
    → length (chain p s) ≤ sum (map (λ reg. reg.width) net.regs.items)
chain_fits net p s h r =
    let fits : total p (map length s) ≤ sum (map length s) =
    total_fits p (map length s) (subst (λ n. IsRoute n p) (sym (length-map s length)) r) in
    omega (arith, length-chain p s, fits, ap sum h)

-- the next register of a path, and those after it
pub turn_register : (n : ℕ) (path : List ℕ) (i : ℕ) → i < length path → IsRoute n (drop i path)
    → (get_or path i 0 < n) × IsRoute n (drop (i + 1) path)
turn_register n path i h r =
    let k : IsRoute n (get_or path i 0 ∷ drop (i + 1) path) = subst (IsRoute n) (drop_more path i 0 h) r in
    (k.0, k.2)

pub turn_length : (holds : Holds) (path : List ℕ) (i : ℕ)
    → i < length path → length (chain (drop i path) holds)
    ≡ length (bits_at holds (get_or path i 0)) + length (chain (drop (i + 1) path) holds)
turn_length holds path i h =
    ap (λ p. length (chain p holds)) (drop_more path i 0 h)
    ∙ length-append (bits_at holds (get_or path i 0)) (chain (drop (i + 1) path) holds)

-- ---- bits

-- update stages of the same widths hold the same bits
pub held_same : (s t : Holds) (b : BitId) → map length t ≡ map length s → IsHeld s b → IsHeld t b
held_same s t b e h =
    let w : length (bits_at t b.reg) ≡ length (bits_at s b.reg) =
    length_at t b.reg ∙ ap (λ ns. get_or ns b.reg 0) e ∙ sym (length_at s b.reg) in
    omega (arith, w, h)

pub next_widths : (h after first : Holds) (w : WriteBit) → map length h ≡ map length first
    → after ≡ set_hold h w.bit w.value → map length after ≡ map length first
next_widths h after first w e g = ap (map length) g ∙ set_hold-shape h w.bit w.value ∙ e

-- ---- registers that are there

pub no_width : (net : Net) (r : ℕ) → length net.regs.items ≤ r → width_of net r ≡ 0
no_width net r h =
    get_or_past (map (λ (reg : Reg). reg.width) net.regs.items) r 0
    (omega (arith, h, length-map net.regs.items (λ (reg : Reg). reg.width)))

pub register_there : (net : Net) (b : BitId) → IsBitOf net b → b.reg < length net.regs.items
register_there net b is =
    elim (cases_lt b.reg (length net.regs.items)) [
      | inl h ↦ h
      | inr h ↦ let none = no_width net b.reg h in absurd (omega (arith, is, none))
    ]
