-- An index of the register bits that capture a signal, which is made bit by bit.
use Rattle.std.proofs.Common.{◌≡◌, ℕ, zero, suc, ◌+◌, ◌<◌, ◌==◌, Bool, true, false, cond, List, [], ◌∷◌, ◌++◌}
use Rattle.std.proofs.Common.{length, get_or, set, map, drop, Option, Some, None, refl, sym, ap, ◌∙◌, arith}
use Rattle.std.specs.Prelude.{◌&&◌}
use Rattle.std.proofs.Math.Seq.{drop-cons}
use Rattle.std.proofs.lemmas.Bool.{eqb-true, eq-eqb, and_parts}
use Rattle.std.proofs.lemmas.List.{get_or-set_same, get_or-set_other, get_or-map, map-set, map-append}
use Rattle.std.proofs.lemmas.List.{length-map}
use Rattle.ij_bits.specs.Room.{Listed}
use Rattle.ij_text.specs.Options.{or_else}
use Rattle.net_graph.specs.declared.net.Reg.{Reg}
use Rattle.net_graph.specs.declared.net.Sig.{Sig}
use Rattle.net_graph.specs.declared.net.Sig.TheVariants.{Absent, Zero, One, Bit, Out}
use Rattle.pdl_targets.specs.declared.captors.Captor.{Captor}
use Rattle.pdl_targets.specs.declared.picks.Picked.{Picked}
use Rattle.pdl_targets.specs.Targets.{captured_from, capturing, differ, is_inverted, same_source}
use Rattle.pdl_targets.specs.Captors.{Adds, captors_in, captured, first_captor, picked, slot, slot_of}

-- ---- the first of two or three

or_none : (o : Option Picked) → or_else o None ≡ o
or_none None = refl
or_none (Some p) = refl

or_grouped : (a b c : Option Picked) → or_else (or_else a b) c ≡ or_else a (or_else b c)
or_grouped None b c = refl
or_grouped (Some p) b c = refl

one_after : (cs : List Captor) (c : Captor) (s : Sig)
    → first_captor (cs ++ c ∷ []) s ≡ or_else (first_captor cs s) (picked c s)
one_after [] c s = or_none (picked c s)
one_after (d ∷ cs) c s = ap (or_else (picked d s)) (one_after cs c s)
    ∙ sym (or_grouped (picked d s) (first_captor cs s) (picked c s))

-- ---- slots

same_slot : (c s : Sig) → same_source c s ≡ true → slot_of c ≡ slot_of s
same_slot Absent s e = absurd cc
same_slot Zero s e = absurd cc
same_slot One s e = absurd cc
same_slot (Bit b i) Absent e = absurd cc
same_slot (Bit b i) Zero e = absurd cc
same_slot (Bit b i) One e = absurd cc
same_slot (Bit b i) (Out inst port pos j) e = absurd cc
same_slot (Bit b i) (Bit c j) e =
    let t = and_parts (b.reg == c.reg) (b.pos == c.pos) e in
    ap (λ r. slot r 0 b.pos) (eqb-true b.reg c.reg t.0) ∙ ap (slot c.reg 0) (eqb-true b.pos c.pos t.1)
same_slot (Out inst port pos i) Absent e = absurd cc
same_slot (Out inst port pos i) Zero e = absurd cc
same_slot (Out inst port pos i) One e = absurd cc
same_slot (Out inst port pos i) (Bit c j) e = absurd cc
same_slot (Out inst port pos i) (Out other that at j) e =
    let t = and_parts (inst == other) ((port == that) && (pos == at)) e in
    let u = and_parts (port == that) (pos == at) t.1 in
    ap (λ x. slot x port pos) (eqb-true inst other t.0) ∙ ap (λ x. slot other x pos) (eqb-true port that u.0)
    ∙ ap (slot other that) (eqb-true pos at u.1)

not_picked : (c : Captor) (s : Sig) → (slot_of c.signal ≡ slot_of s → ⊥) → picked c s ≡ None
not_picked c s h = by_same (same_source c.signal s) refl
  where
    by_same : (t : Bool) → same_source c.signal s ≡ t → cond {A = Option Picked} t
        (Some (record { bit = c.bit; inverted = differ (is_inverted c.signal) (is_inverted s) })) None ≡ None
    by_same true e = absurd (h (same_slot c.signal s e))
    by_same false e = refl

first_or : (t : Bool) (p : Picked) (rest : Option Picked)
    → or_else (cond t (Some p) None) rest ≡ cond t (Some p) rest
first_or true p rest = refl
first_or false p rest = refl

-- ---- one more

module _ (slots : List (Listed Captor)) where
  pub longer : (now : List (Listed Captor)) (empty : Listed Captor) (k : ℕ) → now ≡ slots ++ empty ∷ []
      → empty.items ≡ [] → captors_in now k ≡ captors_in slots k
  longer now empty k e none =
      ap (λ l. captors_in l k) e ∙ ap (λ l. get_or l k [])
      (map-append (λ captors. captors.items) slots (empty ∷ []))
      ∙ ap (λ x. get_or (map (λ captors. captors.items) slots ++ x ∷ []) k []) none
      ∙ past (map (λ captors. captors.items) slots) k
    where
      past : (ls : List (List Captor)) (k : ℕ) → get_or (ls ++ [] ∷ []) k [] ≡ get_or ls k []
      past [] zero = refl
      past [] (suc k) = refl
      past (l ∷ ls) zero = refl
      past (l ∷ ls) (suc k) = past ls k

  pub added : (long now : List (Listed Captor)) (c : Captor) (old new : Listed Captor) (k : ℕ)
      → k ≡ slot_of c.signal → ((k : ℕ) → captors_in long k ≡ captors_in slots k) → k < length long
      → old ≡ get_or long k old → new.items ≡ old.items ++ c ∷ [] → now ≡ set long k new → Adds slots now c
  added long now c old new k is same l o n e s = by_slot (k == slot_of s) refl
    where
      lists : List (List Captor)
      lists = map (λ captors. captors.items) long

      here : captors_in now k ≡ captors_in slots k ++ c ∷ []
      here =
          ap (λ x. captors_in x k) e
          ∙ ap (λ x. get_or x k []) (map-set (λ captors. captors.items) long k new)
          ∙ get_or-set_same lists k new.items []
          (omega (arith, l, length-map long (λ captors. captors.items)))
          ∙ n
          ∙ ap (λ x. x ++ c ∷ [])
          (ap (λ x. x.items) o ∙ sym (get_or-map (λ captors. captors.items) long k old [] l) ∙ same k)

      others : (j : ℕ) → (j ≡ k → ⊥) → captors_in now j ≡ captors_in slots j
      others j differ =
          ap (λ x. captors_in x j) e ∙ ap (λ x. get_or x j []) (map-set (λ captors. captors.items) long k new)
          ∙ get_or-set_other lists k j new.items [] differ ∙ same j

      by_slot : (t : Bool) → (k == slot_of s) ≡ t → captured now s ≡ or_else (captured slots s) (picked c s)
      by_slot true t =
          let f : k ≡ slot_of s = eqb-true k (slot_of s) t in
          ap (λ j. first_captor (captors_in now j) s) (sym f)
          ∙ ap (λ cs. first_captor cs s) here ∙ one_after (captors_in slots k) c s
          ∙ ap (λ j. or_else (first_captor (captors_in slots j) s) (picked c s)) f
      by_slot false t =
          ap (λ cs. first_captor cs s)
          (others (slot_of s) (λ f. let g = eq-eqb k (slot_of s) (sym f) in absurd cc))
          ∙ sym (or_none (captured slots s))
          ∙ ap (or_else (captured slots s))
          (sym (not_picked c s (λ f. let g = eq-eqb k (slot_of s) (is ∙ f) in absurd cc)))

-- ---- all bits of a register

pub next_bit : (now slots : List (Listed Captor)) (reg : ℕ) (cs : List Sig) (pos : ℕ) (c : Sig) (s : Sig)
    (all : Option Picked) → pos < length cs → c ≡ get_or cs pos c
    → Adds slots now (record { bit = record { reg = reg; pos = pos }; signal = c })
    → or_else (captured slots s) (capturing reg pos (drop pos cs) s) ≡ all
    → or_else (captured now s) (capturing reg (pos + 1) (drop (pos + 1) cs) s) ≡ all
next_bit now slots reg cs pos c s all l is adds e =
    let captor : Captor = record { bit = record { reg = reg; pos = pos }; signal = c } in
    let one : suc pos ≡ pos + 1 = omega arith in
    let left : drop pos cs ≡ c ∷ drop (pos + 1) cs =
    drop-cons cs pos c l ∙ ap (λ x. x ∷ drop (suc pos) cs) (sym is) ∙ ap (λ k. c ∷ drop k cs) one in
    ap (λ x. or_else x (capturing reg (pos + 1) (drop (pos + 1) cs) s)) (adds s)
    ∙ or_grouped (captured slots s) (picked captor s) (capturing reg (pos + 1) (drop (pos + 1) cs) s)
    ∙ ap (or_else (captured slots s)) (first_or (same_source c s) (record {
      bit = captor.bit;
      inverted = differ (is_inverted c) (is_inverted s);
    }) (capturing reg (pos + 1) (drop (pos + 1) cs) s))
    ∙ ap (λ x. or_else (captured slots s) (capturing reg pos x s)) (sym left) ∙ e

pub next_register : (now slots : List (Listed Captor)) (r : ℕ) (regs : List Reg) (reg : Reg) (s : Sig)
    (all : Option Picked) → r < length regs → reg ≡ get_or regs r reg
    → captured now s ≡ or_else (captured slots s) (capturing r 0 reg.capture.items s)
    → or_else (captured slots s) (captured_from r (drop r regs) s) ≡ all
    → or_else (captured now s) (captured_from (r + 1) (drop (r + 1) regs) s) ≡ all
next_register now slots r regs reg s all l is adds e =
    let one : suc r ≡ r + 1 = omega arith in
    let left : drop r regs ≡ reg ∷ drop (r + 1) regs =
    drop-cons regs r reg l ∙ ap (λ x. x ∷ drop (suc r) regs) (sym is) ∙ ap (λ k. reg ∷ drop k regs) one in
    ap (λ x. or_else x (captured_from (r + 1) (drop (r + 1) regs) s)) adds
    ∙ or_grouped (captured slots s) (capturing r 0 reg.capture.items s)
    (captured_from (r + 1) (drop (r + 1) regs) s)
    ∙ ap (λ x. or_else (captured slots s) (captured_from r x s)) (sym left) ∙ e

pub none_left : (found : Option Picked) (r : ℕ) (regs rest : List Reg) (s : Sig) (all : Option Picked)
    → rest ≡ [] → or_else found (captured_from r rest s) ≡ all → found ≡ all
none_left found r regs rest s all none e =
    sym (or_none found) ∙ ap (λ x. or_else found (captured_from r x s)) (sym none) ∙ e
