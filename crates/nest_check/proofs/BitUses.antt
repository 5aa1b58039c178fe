-- The flags of register bits tell what the bits are used for.
use Rattle.std.proofs.Common.{◌≡◌, ◌≢◌, ℕ, zero, suc, ◌+◌, ◌<◌, ◌≤◌, Bool, true, false, List, [], ◌∷◌, length}
use Rattle.std.proofs.Common.{get_or, refl, sym, ap, ◌∙◌, subst, arith}
use Rattle.std.specs.Prelude.{All, cond, flat_map, map, replicate, IsFalse, ◌↔◌, ◌||◌}
use Rattle.std.specs.List.{count_by, list_any}
use Rattle.std.proofs.lemmas.Bool.{true≢false}
use Rattle.std.proofs.lemmas.List.Elements.{All-append, All-head, All-tail, All-nil, All-weaker}
use Rattle.std.proofs.lemmas.List.Folds.{list_any_none}
use Rattle.std.proofs.lemmas.List.Sums.{sum_by-cons}
use Rattle.ij_bits.specs.BitLists.{bit}
use Rattle.net_graph.specs.Held.{AreHolds, set_hold}
use Rattle.net_graph.specs.Named.{IsBitOf, IsInputOf}
use Rattle.net_graph.specs.Nets.{IsInst, IsMux, IsNet}
use Rattle.net_graph.specs.Path.{same_place, select_bits, is_bit}
use Rattle.net_graph.specs.Resets.{zero_holds}
use Rattle.net_graph.specs.Signals.{Holds, hold_at}
use Rattle.net_graph.specs.declared.net.BitId.{BitId}
use Rattle.net_graph.specs.declared.net.Inst.{Inst}
use Rattle.net_graph.specs.declared.net.Net.{Net}
use Rattle.net_graph.specs.declared.net.Reg.{Reg}
use Rattle.net_graph.specs.declared.net.Sig.{Sig}
use Rattle.net_graph.specs.declared.net.Sig.TheVariants.{Absent, Zero, One, Bit, Out}
use Rattle.net_graph.proofs.Shapes.{shape}
use Rattle.net_graph.proofs.Writing.{IsHeld, set_hold-at, set_hold-other, set_hold-shape}
use Rattle.net_graph.proofs.Places.{place_is, place_self}
use Rattle.net_graph.proofs.Widths.{zeros_held}
use Rattle.net_tree.specs.Lawful.{drives, IsUnshared, DrivesNone}
use Rattle.nest_check.specs.Uses.{Selected, no_flags, noted, note, note_select_bits, HaveFlags, driving}
use Rattle.nest_check.specs.Uses.{driving_all}
use Rattle.nest_check.specs.Uses.{inputs_of, inputs}
use Rattle.std.proofs.Math.Bool.{or_assoc, or-false, or-true}
use Rattle.ij_bits.proofs.Lists.{any_flat, any_false}
use Rattle.ij_bits.proofs.WordBits.{bit-none}

other_place : (a b : BitId) → same_place a b ≡ false → a ≢ b
other_place a b e s = true≢false (sym (place_self a) ∙ ap (same_place a) s ∙ e)

has_flag : (net : Net) (flags : Holds) (b : BitId) → AreHolds net flags
    → IsBitOf net b → IsHeld (shape flags) b
has_flag net flags b fits is = subst (λ w. b.pos < get_or w b.reg 0) (sym fits) is

flat_all : {A B : Type 0} (P : B → Type 0) (f : A → List B) (xs : List A)
    → All (λ x. All P (f x)) xs → All P (flat_map f xs)
flat_all P f [] a = All-nil P
flat_all P f (x ∷ xs) a =
    All-append P (f x) (flat_map f xs) (All-head (λ y. All P (f y)) x xs a)
    (flat_all P f xs (All-tail (λ y. All P (f y)) x xs a))

-- ---- no flag is set

nothing_flagged : (net : Net) (b : BitId) → hold_at (zero_holds net) b ≡ false
nothing_flagged net b = at net.regs.items b.reg
  where
    at : (regs : List Reg) (r : ℕ) → bit (get_or (map (λ r. replicate r.width false) regs) r []) b.pos ≡ false
    at [] r = refl
    at (x ∷ regs) zero = bit-none x.width b.pos
    at (x ∷ regs) (suc r) = at regs r

-- ---- select bits

pub note_fits : (net : Net) (s : Selected) (b : BitId) → HaveFlags net s → HaveFlags net (note s b)
note_fits net s b h = by_flag (hold_at s.once b)
  where
    by_flag : (f : Bool) → HaveFlags net (noted s b f)
    by_flag true = (h.0, set_hold-shape s.twice b true ∙ h.1)
    by_flag false = (set_hold-shape s.once b true ∙ h.0, h.1)

pub note_all_fits : (net : Net) (bits : List BitId) (s : Selected)
    → HaveFlags net s → HaveFlags net (note_select_bits s bits)
note_all_fits net [] s h = h
note_all_fits net (b ∷ bits) s h = note_all_fits net bits (note s b) (note_fits net s b h)

-- whether a number is at least 1, and at least 2
abbrev some : ℕ → Bool
some zero = false
some (suc n) = true

abbrev several : ℕ → Bool
several zero = false
several (suc n) = some n

-- the flags of a bit that was met so often
abbrev Sees : Selected → BitId → ℕ → Type 0
Sees s b n = (hold_at s.once b ≡ some n) × (hold_at s.twice b ≡ several n)

sees_again : (net : Net) (s : Selected) (b : BitId) (n : ℕ) → HaveFlags net s → IsBitOf net b
    → Sees s b n → Sees (note s b) b (suc n)
sees_again net s b zero h is k =
    subst (λ f. Sees (noted s b f) b 1) (sym k.0)
    (set_hold-at s.once b true (has_flag net s.once b h.0 is), k.1)
sees_again net s b (suc n) h is k =
    subst (λ f. Sees (noted s b f) b (suc (suc n))) (sym k.0)
    (k.0, set_hold-at s.twice b true (has_flag net s.twice b h.1 is))

sees_other : (s : Selected) (b c : BitId) (n : ℕ) → b ≢ c → Sees s b n → Sees (note s c) b n
sees_other s b c n d k = by_flag (hold_at s.once c)
  where
    by_flag : (f : Bool) → Sees (noted s c f) b n
    by_flag true = (k.0, set_hold-other s.twice c b true d ∙ k.1)
    by_flag false = (set_hold-other s.once c b true d ∙ k.0, k.1)

-- one bit more, where what follows is seen from whatever number on
sees_more : (net : Net) (x : BitId) (bits : List BitId) (s : Selected) (b : BitId) (n : ℕ)
    → HaveFlags net s → IsBitOf net x → Sees s b n
    → ((k : ℕ) → Sees (note s x) b k → Sees (note_select_bits (note s x) bits) b (k + count_by (same_place
    b) bits))
    → Sees (note_select_bits s (x ∷ bits)) b (n + count_by (same_place b) (x ∷ bits))
sees_more net x bits s b n h is k rest = by_place (same_place b x) refl
  where
    count : count_by (same_place b) (x ∷ bits) ≡ cond (same_place b x) 1 0 + count_by (same_place b) bits
    count = sum_by-cons (λ y. cond (same_place b y) 1 0) x bits

    by_place : (f : Bool) → same_place b x ≡ f
        → Sees (note_select_bits (note s x) bits) b (n + count_by (same_place b) (x ∷ bits))
    by_place true e =
        let same : b ≡ x = place_is b x e in
        let one : ◌≡◌ {A = ℕ} (cond (same_place b x) 1 0) 1 = ap (λ f. cond f 1 0) e in
        let now : Sees (note s x) b (suc n) = subst (λ c. Sees (note s x) c (suc n)) (sym same)
        (sees_again net s x n h is (subst (λ c. Sees s c n) same k)) in
        subst (Sees (note_select_bits (note s x) bits) b) (omega (arith, count, one)) (rest (suc n) now)
    by_place false e =
        let none : ◌≡◌ {A = ℕ} (cond (same_place b x) 1 0) 0 = ap (λ f. cond f 1 0) e in
        subst (Sees (note_select_bits (note s x) bits) b) (omega (arith, count, none))
        (rest n (sees_other s b x n (other_place b x e) k))

sees_all : (net : Net) (bits : List BitId) (s : Selected) (b : BitId) (n : ℕ) → HaveFlags net s
    → All (IsBitOf net) bits → Sees s b n → Sees (note_select_bits s bits) b (n + count_by (same_place b)
    bits)
sees_all net [] s b n h a k = subst (Sees s b) (omega arith) k
sees_all net (x ∷ bits) s b n h a k =
    sees_more net x bits s b n h (All-head (IsBitOf net) x bits a) k
    (λ m j. sees_all net bits (note s x) b m (note_fits net s x h) (All-tail (IsBitOf net) x bits a) j)

few : (n : ℕ) → (several n ≡ false) ↔ (n ≤ 1)
few zero = ((λ _. omega arith), (λ _. refl))
few (suc zero) = ((λ _. omega arith), (λ _. refl))
few (suc (suc n)) = ((λ e. absurd (true≢false e)), (λ h. absurd (omega (arith, h))))

selects_are_bits : (net : Net) → IsNet net → All (IsBitOf net) (select_bits net)
selects_are_bits net n =
    flat_all (IsBitOf net) (λ mux. mux.select.items) net.muxes.items (All-weaker (IsMux net)
    (λ mux. All (IsBitOf net) mux.select.items) (λ mux m. m.select) net.muxes.items n.muxes)

-- the bits that were met twice are the shared ones
pub shared_flags : (net : Net) (twice : Holds) (b : BitId) → IsNet net
    → twice ≡ (note_select_bits (no_flags net) (select_bits net)).twice → IsFalse (hold_at twice b) ↔
    IsUnshared net b
shared_flags net twice b n e =
    let all : Sees (note_select_bits (no_flags net) (select_bits net)) b (count_by (same_place b)
    (select_bits net)) =
    subst (Sees (note_select_bits (no_flags net) (select_bits net)) b) (omega arith)
    (sees_all net (select_bits net) (no_flags net) b 0 (zeros_held net, zeros_held net)
    (selects_are_bits net n) (nothing_flagged net b, nothing_flagged net b)) in
    let flag : hold_at twice b ≡ several (count_by (same_place b) (select_bits net)) =
    ap (λ h. hold_at h b) e ∙ all.1 in
    let told = few (count_by (same_place b) (select_bits net)) in
    ((λ f. told.0 (sym flag ∙ f)), (λ l. flag ∙ told.1 l))

pub twice_fits : (net : Net) (twice : Holds)
    → twice ≡ (note_select_bits (no_flags net) (select_bits net)).twice → AreHolds net twice
twice_fits net twice e =
    subst (AreHolds net) (sym e)
    (note_all_fits net (select_bits net) (no_flags net) (zeros_held net, zeros_held net)).1

-- ---- inputs of instruments

pub driving_fits : (net : Net) (flags : Holds) (s : Sig) → AreHolds net flags → AreHolds net (driving flags s)
driving_fits net flags Absent h = h
driving_fits net flags Zero h = h
driving_fits net flags One h = h
driving_fits net flags (Bit b inverted) h = set_hold-shape flags b true ∙ h
driving_fits net flags (Out inst port pos inverted) h = h

pub driving_all_fits : (net : Net) (ss : List Sig) (flags : Holds)
    → AreHolds net flags → AreHolds net (driving_all flags ss)
driving_all_fits net [] flags h = h
driving_all_fits net (s ∷ ss) flags h = driving_all_fits net ss (driving flags s) (driving_fits net flags s h)

driving_at : (net : Net) (flags : Holds) (s : Sig) (b : BitId) → AreHolds net flags → IsInputOf net s
    → hold_at (driving flags s) b ≡ (hold_at flags b || is_bit b s)
driving_at net flags Absent b h is = sym (or-false (hold_at flags b))
driving_at net flags Zero b h is = sym (or-false (hold_at flags b))
driving_at net flags One b h is = sym (or-false (hold_at flags b))
driving_at net flags (Out inst port pos inverted) b h is = sym (or-false (hold_at flags b))
driving_at net flags (Bit c inverted) b h is = by_place (same_place b c) refl
  where
    by_place : (f : Bool) → same_place b c ≡ f
        → hold_at (set_hold flags c true) b ≡ (hold_at flags b || same_place b c)
    by_place true e =
        let same : b ≡ c = place_is b c e in
        ap (hold_at (set_hold flags c true)) same ∙ set_hold-at flags c true (has_flag net flags c h is)
        ∙ sym (ap (λ f. hold_at flags b || f) e ∙ or-true (hold_at flags b))
    by_place false e =
        set_hold-other flags c b true (other_place b c e)
        ∙ sym (ap (λ f. hold_at flags b || f) e ∙ or-false (hold_at flags b))

driving_all_at : (net : Net) (ss : List Sig) (flags : Holds) (b : BitId) → AreHolds net flags
    → All (IsInputOf net) ss → hold_at (driving_all flags ss) b ≡ (hold_at flags b || list_any (is_bit b) ss)
driving_all_at net [] flags b h a = sym (or-false (hold_at flags b))
driving_all_at net (s ∷ ss) flags b h a =
    driving_all_at net ss (driving flags s) b (driving_fits net flags s h) (All-tail (IsInputOf net) s ss a)
    ∙ ap (λ f. f || list_any (is_bit b) ss) (driving_at net flags s b h (All-head (IsInputOf net) s ss a))
    ∙ or_assoc (hold_at flags b) (is_bit b s) (list_any (is_bit b) ss)

same_any : {A : Type 0} (p q : A → Bool) (xs : List A) → ((x : A) → p x ≡ q x) → list_any p xs ≡ list_any q xs
same_any p q [] e = refl
same_any p q (x ∷ xs) e = ap (λ b. b || list_any p xs) (e x) ∙ ap (λ b. q x || b) (same_any p q xs e)

drives_inputs : (net : Net) (b : BitId)
    → list_any (is_bit b) (inputs net) ≡ list_any (drives b) net.insts.items
drives_inputs net b =
    any_flat (is_bit b) inputs_of net.insts.items ∙ same_any (λ inst. list_any (is_bit b) (inputs_of inst))
    (drives b) net.insts.items (λ inst. any_flat (is_bit b) (λ port. port.bits.items) inst.ins.items)

inst_inputs : (net : Net) (inst : Inst) → IsInst net inst → All (IsInputOf net) (inputs_of inst)
inst_inputs net inst i =
    flat_all (IsInputOf net) (λ port. port.bits.items) inst.ins.items
    (All-weaker (λ port. (length port.bits.items ≤ 64) × All (IsInputOf net) port.bits.items)
    (λ port. All (IsInputOf net) port.bits.items) (λ port p. p.1) inst.ins.items i.inputs)

all_inputs : (net : Net) → IsNet net → All (IsInputOf net) (inputs net)
all_inputs net n =
    flat_all (IsInputOf net) inputs_of net.insts.items (All-weaker (IsInst net)
    (λ inst. All (IsInputOf net) (inputs_of inst)) (inst_inputs net) net.insts.items n.insts)

-- the flagged bits are those that drive
pub driver_flags : (net : Net) (flags : Holds) (b : BitId) → IsNet net
    → flags ≡ driving_all (zero_holds net) (inputs net) → IsFalse (hold_at flags b) ↔ DrivesNone net b
driver_flags net flags b n e =
    let at : hold_at flags b ≡ list_any (drives b) net.insts.items = ap (λ h. hold_at h b) e
    ∙ driving_all_at net (inputs net) (zero_holds net) b (zeros_held net) (all_inputs net n)
    ∙ ap (λ f. f || list_any (is_bit b) (inputs net)) (nothing_flagged net b) ∙ drives_inputs net b in (
      (λ f. any_false (drives b) net.insts.items (sym at ∙ f)),
      (λ a. at ∙ list_any_none (drives b) net.insts.items a),
    )

pub drivers_fit : (net : Net) (flags : Holds)
    → flags ≡ driving_all (zero_holds net) (inputs net) → AreHolds net flags
drivers_fit net flags e =
    subst (AreHolds net) (sym e) (driving_all_fits net (inputs net) (zero_holds net) (zeros_held net))
