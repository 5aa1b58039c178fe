-- Several clocks of a play at once: one move of the bits of the path is what its clocks do one by one.
use Rattle.std.proofs.Common.{◌≡◌, ℕ, suc, ◌+◌, ◌%◌, ◌<◌, ◌≤◌, min, nat_eq, Bool, true, false, not, cond}
use Rattle.std.proofs.Common.{IsFalse, List, [], ◌∷◌, ◌++◌, length, take, drop, get_or, Option, Some, None}
use Rattle.std.proofs.Common.{refl, sym, ap, ◌∙◌, arith}
use Rattle.std.specs.Prelude.{◌==◌}
use Rattle.std.specs.Int.{bit_at}
use Rattle.std.specs.Int.RustNames.{bit_xor}
use Rattle.std.proofs.lemmas.Bool.Decides.{nat_tests}
use Rattle.std.proofs.lemmas.Nat.Bits.{bit_at_and, bit_at_xor, bit_at-lt, bit_at-zero}
use Rattle.std.proofs.lemmas.Option.{none-some, same_Some}
use lib.Bits.{bit_and}
use Rattle.std.proofs.lemmas.List.{length-take, take-append-drop}
use Rattle.ij_bits.specs.BitLists.{bit, bits_of, same_bit}
use Rattle.ij_bits.proofs.WordBits.{get_or-bits_of, length-bits_of}
use Rattle.ij_bits.proofs.Lists.{none_below}
use Rattle.net_graph.specs.Signals.{Holds}
use Rattle.net_graph.specs.Chain.{IsRoute, chain, put_chain, shift, shifted, shifted_out}
use Rattle.net_graph.proofs.Chains.{chain-put_chain}
use Rattle.net_graph.proofs.Exchange.{length-shift, shifted-append, shifted_out-append}
use Rattle.tap_machine.specs.declared.TapState.TheVariants.{ShiftDr}
use Rattle.tap_machine.specs.declared.Pins.{Pins}
use Rattle.tap_machine.specs.Tap.{next}
use Rattle.tap_machine.specs.declared.Piece.{Piece}
use Rattle.tap_machine.specs.Pieces.{piece_pins, stretch}
use Rattle.tap_machine.specs.Play.{masked}
use Rattle.tap_machine.proofs.Shifts.{masked_at}
use Rattle.net_bench.specs.Bench.{Chip, State, clock, tdo, select_of}
use Rattle.net_bench.specs.Instruction.{Network}
use Rattle.net_bench.specs.Pieces.{pin_compares, tdos}
use Rattle.net_bench.specs.Playing.{Compare, after_pins, compare_of, compares, differing}
use Rattle.net_bench.proofs.Differing.{get_after}
use Rattle.net_bench.proofs.Scans.{during, shift_step, shift_tdo}
use Rattle.ij_bits.proofs.SameBits.{same_self}
use Rattle.ij_bits.proofs.Marking.{is_one}

module _ {L : Type 0} (chip : Chip L) where
  -- what pins compare is what was found in their clocks
  pub compares_found : (ps : List Pins) (s : State L) → compares chip ps s ≡ pin_compares ps (tdos chip ps s)
  compares_found [] s = refl
  compares_found (p ∷ ps) s =
      ap (λ cs. compare_of p.expect p.scan p.bit (tdo chip s) ++ cs)
      (compares_found ps (clock chip p.tms p.tdi s))

  -- shift clocks, of which the last has this TMS
  pub stretch_run : (scan k : ℕ) (tms t : Bool) (ts : List Bool) (es : List (Option Bool)) (s : State L)
      (c : List Bool) (st : Holds) → select_of chip s ≡ Network → IsRoute (length st) (chip.path s.holds)
      → length c ≡ length (chain (chip.path s.holds) st)
      → after_pins chip (stretch scan k tms (t ∷ ts) es)
      (during chip s ShiftDr (put_chain (chip.path s.holds) c st))
      ≡ during chip s (next ShiftDr tms) (put_chain (chip.path s.holds) (shifted c (t ∷ ts)) st)
  stretch_run scan k tms t [] es s c st e h l = shift_step chip s tms t c st e h l
  stretch_run scan k tms t (u ∷ us) es s c st e h l =
      ap (after_pins chip (stretch scan (suc k) tms (u ∷ us) (drop 1 es)))
      (shift_step chip s false t c st e h l)
      ∙ stretch_run scan (suc k) tms u us (drop 1 es) s (shift c t) st e h (length-shift c t ∙ l)

  pub stretch_tdos : (scan k : ℕ) (tms t : Bool) (ts : List Bool) (es : List (Option Bool)) (s : State L)
      (c : List Bool) (st : Holds) → select_of chip s ≡ Network → IsRoute (length st) (chip.path s.holds)
      → length c ≡ length (chain (chip.path s.holds) st)
      → tdos chip (stretch scan k tms (t ∷ ts) es)
      (during chip s ShiftDr (put_chain (chip.path s.holds) c st)) ≡ shifted_out c (t ∷ ts)
  stretch_tdos scan k tms t [] es s c st e h l =
      ap (λ b. b ∷ []) (shift_tdo chip s (put_chain (chip.path s.holds) c st) e
      ∙ ap (λ x. bit x 0) (chain-put_chain (chip.path s.holds) c st h l))
  stretch_tdos scan k tms t (u ∷ us) es s c st e h l =
      ap (λ b. b ∷ tdos chip (stretch scan (suc k) tms (u ∷ us) (drop 1 es))
      (clock chip false t (during chip s ShiftDr (put_chain (chip.path s.holds) c st))))
      (shift_tdo chip s (put_chain (chip.path s.holds) c st) e
      ∙ ap (λ x. bit x 0) (chain-put_chain (chip.path s.holds) c st h l))
      ∙ ap (λ x. bit c 0 ∷ tdos chip (stretch scan (suc k) tms (u ∷ us) (drop 1 es)) x)
      (shift_step chip s false t c st e h l)
      ∙ ap (λ x. bit c 0 ∷ x)
      (stretch_tdos scan (suc k) tms u us (drop 1 es) s (shift c t) st e h (length-shift c t ∙ l))

-- the same of some bits
module _ {L : Type 0} (chip : Chip L) (scan k : ℕ) (tms : Bool) (bits : List Bool) (es : List (Option Bool))
    (s : State L) (c : List Bool) (st : Holds)
    (e : select_of chip s ≡ Network) (h : IsRoute (length st) (chip.path s.holds))
    (l : length c ≡ length (chain (chip.path s.holds) st)) (some : 0 < length bits) where
  pub piece_run : after_pins chip (stretch scan k tms bits es)
      (during chip s ShiftDr (put_chain (chip.path s.holds) c st))
      ≡ during chip s (next ShiftDr tms) (put_chain (chip.path s.holds) (shifted c bits) st)
  piece_run = run bits some
    where
      run : (ts : List Bool) → 0 < length ts → after_pins chip (stretch scan k tms ts es)
          (during chip s ShiftDr (put_chain (chip.path s.holds) c st))
          ≡ during chip s (next ShiftDr tms) (put_chain (chip.path s.holds) (shifted c ts) st)
      run [] none = absurd (none_below none)
      run (t ∷ ts) one = stretch_run chip scan k tms t ts es s c st e h l

  pub piece_tdos : tdos chip (stretch scan k tms bits es)
      (during chip s ShiftDr (put_chain (chip.path s.holds) c st)) ≡ shifted_out c bits
  piece_tdos = found bits some
    where
      found : (ts : List Bool) → 0 < length ts → tdos chip (stretch scan k tms ts es)
          (during chip s ShiftDr (put_chain (chip.path s.holds) c st)) ≡ shifted_out c ts
      found [] none = absurd (none_below none)
      found (t ∷ ts) one = stretch_tdos chip scan k tms t ts es s c st e h l

-- at most as many new bits as a chain has
pub shifted_few : (n : ℕ) (c ts : List Bool) → n ≤ length c → length ts ≡ n → shifted c ts ≡ drop n c ++ ts
shifted_few n c ts few len =
    ap (λ x. shifted x ts) (sym (take-append-drop n c))
    ∙ shifted-append (take n c) (drop n c) ts (omega (arith, length-take n c))

pub shifted_out_few : (n : ℕ) (c ts : List Bool) → n ≤ length c → length ts ≡ n → shifted_out c ts ≡ take n c
shifted_out_few n c ts few len =
    ap (λ x. shifted_out x ts) (sym (take-append-drop n c))
    ∙ shifted_out-append (take n c) (drop n c) ts (omega (arith, length-take n c))

-- ---- compares that cannot differ

not_true : (b : Bool) → IsFalse (not b) → b ≡ true
not_true true h = refl
not_true false h = absurd cc

pub not_zero : (x : ℕ) → IsFalse (not (nat_eq x 0)) → x ≡ 0
not_zero x h = let zero_is : nat_eq x 0 ≡ true = not_true (nat_eq x 0) h in grind (arith, nat_tests, zero_is)

-- what is found is what is expected, at one clock and before others
one_agrees : (scan k : ℕ) (f : Bool) (o : Option Bool) (rest : List Compare)
    → ((e : Bool) → o ≡ Some e → e ≡ f) → differing rest ≡ [] → differing (compare_of o scan k f ++ rest) ≡ []
one_agrees scan k f None rest same none = none
one_agrees scan k f (Some e) rest same none =
    let c : Compare = record { scan = scan; bit = k; expect = e; found = f } in
    ap (λ b. cond (same_bit b f) (differing rest) (c ∷ differing rest)) (same e refl)
    ∙ ap (λ b. cond b (differing rest) (c ∷ differing rest)) (same_self f) ∙ none

none_differs : (scan k : ℕ) (tms : Bool) (ts : List Bool) (es : List (Option Bool)) (fs : List Bool)
    → ((i : ℕ) (e : Bool) → i < length fs → get_or es i None ≡ Some e → e ≡ get_or fs i false)
    → differing (pin_compares (stretch scan k tms ts es) fs) ≡ []
none_differs scan k tms [] es fs same = refl
none_differs scan k tms (t ∷ ts) es [] same = refl
none_differs scan k tms (t ∷ ts) es (f ∷ fs) same =
    one_agrees scan k f (get_or es 0 None)
    (pin_compares (stretch scan (suc k) tms ts (drop 1 es)) fs) (λ e is. same 0 e (omega arith) is)
    (none_differs scan (suc k) tms ts (drop 1 es) fs
    (λ i e within is. same (suc i) e (omega arith) (sym (get_after es i) ∙ is)))

agree_at : (found expected compared k : ℕ) → bit_and (bit_xor found expected) compared ≡ 0
    → bit_at compared k ≡ 1 → bit_at expected k ≡ bit_at found k
agree_at found expected compared k none one =
    let zero_bit : min ((bit_at found k + bit_at expected k) % 2) (bit_at compared k) ≡ 0 =
    sym (bit_at_and (bit_xor found expected) compared k ∙ ap (λ b. min b (bit_at compared k))
    (bit_at_xor found expected k)) ∙ ap (λ z. bit_at z k) none ∙ bit_at-zero k in
    omega (arith, zero_bit, one, bit_at-lt found k, bit_at-lt expected k)

pub none_differ : (p : Piece) (found : ℕ) → bit_and (bit_xor found p.expected) p.compared ≡ 0
    → differing (pin_compares (piece_pins p) (bits_of p.count found)) ≡ []
none_differ p found none =
    none_differs p.scan p.bit p.tms (bits_of p.count p.tdi) (masked want marks) (bits_of p.count found) same
  where
    want : List Bool
    want = bits_of p.count p.expected

    marks : List Bool
    marks = bits_of p.count p.compared

    by : (i : ℕ) (e b : Bool) → i < p.count → get_or marks i false ≡ b
        → cond b (Some (get_or want i false)) None ≡ Some e → e ≡ get_or (bits_of p.count found) i false
    by i e true within marked is =
        let one : bit_at p.compared i
        ≡ 1 = is_one (bit_at p.compared i) (sym (get_or-bits_of p.count p.compared i within) ∙ marked) in
        sym (same_Some (get_or want i false) e is) ∙ get_or-bits_of p.count p.expected i within
        ∙ ap (λ x. x == 1) (agree_at found p.expected p.compared i none one)
        ∙ sym (get_or-bits_of p.count found i within)
    by i e false within marked is = absurd (none-some e is)

    same : (i : ℕ) (e : Bool) → i < length (bits_of p.count found)
        → get_or (masked want marks) i None ≡ Some e → e ≡ get_or (bits_of p.count found) i false
    same i e inner is =
        let within : i < p.count = omega (arith, length-bits_of p.count found, inner) in
        by i e (get_or marks i false) within refl
        (sym (masked_at want marks i (omega (arith, length-bits_of p.count p.expected, within))) ∙ is)
