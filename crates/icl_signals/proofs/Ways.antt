-- Ends of traces along their ways: from a bit to the next one, and from the next one back.
use Rattle.std.proofs.Common.{◌≡◌, ◌⊎◌, inl, inr, ◌+◌, ◌-◌, ◌<◌, ◌≤◌, ℕ, zero, suc, Bool, true, false, List}
use Rattle.std.proofs.Common.{refl, sym, ap, subst, ◌∙◌, arith}
use Rattle.ij_bits.specs.BitLists.{flip_if}
use Rattle.icl_references.specs.declared.hier.Ref.TheVariants.{Fixed, Bit}
use Rattle.icl_references.specs.Roles.{CellOf}
use Rattle.icl_signals.specs.declared.wires.Wire.{Wire}
use Rattle.icl_signals.specs.declared.wires.Driver.{Driver}
use Rattle.icl_signals.specs.declared.wires.Driver.TheVariants.{Another, ARegisterBit, AMuxOutput}
use Rattle.icl_signals.specs.declared.wires.Driver.TheVariants.{AnInstrumentOutput, TheEntry, AFreeInput}
use Rattle.icl_signals.specs.declared.wires.Driver.TheVariants.{NothingAtAll}
use Rattle.icl_signals.specs.Moves.{driver_of}
use Rattle.icl_signals.specs.declared.wires.End.{End}
use Rattle.icl_signals.specs.declared.wires.End.TheVariants.{AtConstant, AtBit, InLoop}
use Rattle.icl_signals.specs.declared.found.Found.{Found}
use Rattle.icl_signals.specs.Traces.{from_move, follow}
use Rattle.icl_signals.specs.TrueEnds.{IsTrueEnd}
use Rattle.icl_signals.specs.Found.{turned_end, IsFound}
use Rattle.ij_bits.proofs.Tests.{up_to_or_past}

-- ---- inversions

flip_flip : (a b c : Bool) → flip_if (flip_if a b) c ≡ flip_if a (flip_if b c)
flip_flip true true true = refl
flip_flip true true false = refl
flip_flip true false c = refl
flip_flip false b c = refl

flip_swap : (a b c : Bool) → flip_if a (flip_if b c) ≡ flip_if b (flip_if a c)
flip_swap true true c = refl
flip_swap true false c = refl
flip_swap false true c = refl
flip_swap false false c = refl

flip_false : (b : Bool) → flip_if b false ≡ b
flip_false true = refl
flip_false false = refl

flip_same : (b : Bool) → flip_if b b ≡ false
flip_same true = refl
flip_same false = refl

-- one value is another one, inverted or not
between : (a b : Bool) → (d : Bool) × (flip_if d a ≡ b)
between true true = (false, refl)
between true false = (true, refl)
between false true = (true, refl)
between false false = (false, refl)

-- ---- numbers

module _ (cells : List CellOf) (entry : Wire) where
  pub told_turned : (t : Bool) (e : End) → IsTrueEnd cells entry e → IsTrueEnd cells entry (turned_end t e)
  told_turned t (AtConstant b) h = h
  told_turned t (AtBit w inverted stands) h = h
  told_turned t InLoop h = h

  -- the trace of the inverse ends with the inverse
  turned : (n : ℕ) (t i : Bool) (w : Wire)
      → follow cells entry n (flip_if t i) w ≡ turned_end t (follow cells entry n i w)
  turned zero t i w = refl
  turned (suc n) t i w = by_stands (driver_of cells entry w) (λ j v. turned n t j v)
    where
      by_stands : (s : Driver) → ((j : Bool) (v : Wire)
          → follow cells entry n (flip_if t j) v ≡ turned_end t (follow cells entry n j v))
          → from_move (follow cells entry n) (flip_if t i) w s
          ≡ turned_end t (from_move (follow cells entry n) i w s)
      by_stands (Another (Fixed b)) again = ap (λ c. AtConstant c) (flip_flip t i b)
      by_stands (Another (Bit cell part pos u)) again =
          let v : Wire = record { cell = cell; part = part; pos = pos } in
          ap (λ c. follow cells entry n c v) (flip_swap u t i) ∙ again (flip_if u i) v
      by_stands ARegisterBit again = refl
      by_stands AMuxOutput again = refl
      by_stands AnInstrumentOutput again = refl
      by_stands TheEntry again = refl
      by_stands AFreeInput again = refl
      by_stands NothingAtAll again = refl

  -- a bit that was found, inverted or not
  pub from_found : (w : Wire) (f : Found) → IsFound cells entry w f → (n : ℕ) (i : Bool) → f.looks ≤ n
      → follow cells entry n i w ≡ turned_end i f.end
  from_found w f h n i le =
      ap (λ c. follow cells entry n c w) (sym (flip_false i))
      ∙ turned n i false w ∙ ap (turned_end i) (h.ends n le)

  -- the next bit of a bit that was found
  pub next_found : (w : Wire) (f : Found) (j : Bool) (v : Wire) (g : Found) → IsFound cells entry w f
      → ((n : ℕ) → follow cells entry (suc n) false w ≡ follow cells entry n j v) → f.looks ≤ suc g.looks
      → g.end ≡ turned_end j f.end → IsFound cells entry v g
  next_found w f j v g h move looks e =
      record {
        ends = λ n le.
            ap (λ c. follow cells entry n c v) (sym (flip_same j)) ∙ turned n j j v
            ∙ ap (turned_end j) (sym (move n) ∙ h.ends (suc n) (omega (arith, looks, le))) ∙ sym e;
        told = subst (IsTrueEnd cells entry) (sym e) (told_turned j f.end h.told);
      }

  -- ---- a trace on its way

  -- after this many moves, none of which was the last one
  pub record IsOnWay (start : Wire) (moves : ℕ) (inverted : Bool) (wire : Wire) : Type 0 where
    pub going : (n : ℕ) → n ≤ moves → follow cells entry n false start ≡ InLoop
    pub rest : (n : ℕ) → follow cells entry (n + moves) false start ≡ follow cells entry n inverted wire

  -- a bit that the trace met, after this many moves at most
  pub record IsMet (start : Wire) (moves : ℕ) (wire : Wire) : Type 0 where
    pub after : ℕ
    pub inverted : Bool
    pub before : after ≤ moves
    pub rest : (n : ℕ) → follow cells entry (n + after) false start ≡ follow cells entry n inverted wire

  from_start : (start : Wire) (n : ℕ)
      → follow cells entry (n + 0) false start ≡ follow cells entry n false start
  from_start start n = let e : n + 0 ≡ n = omega arith in ap (λ k. follow cells entry k false start) e

  pub begins : (start : Wire) → IsOnWay start 0 false start
  begins start =
      record {
        going = λ n le. let e : n ≡ 0 = omega (arith, le) in ap (λ k. follow cells entry k false start) e;
        rest = from_start start;
      }

  pub met_first : (start : Wire) → IsMet start 0 start
  met_first start = record { after = 0; inverted = false; before = omega arith; rest = from_start start }

  pub moved : (start : Wire) (k : ℕ) (i : Bool) (w : Wire) (j : Bool) (v : Wire) → IsOnWay start k i w
      → ((n : ℕ) → follow cells entry (suc n) i w ≡ follow cells entry n j v) → IsOnWay start (k + 1) j v
  moved start k i w j v h move = record { going = going_on; rest = rest_on }
    where
      rest_on : (n : ℕ) → follow cells entry (n + (k + 1)) false start ≡ follow cells entry n j v
      rest_on n = let e : n + (k + 1) ≡ suc n + k = omega arith in
          ap (λ m. follow cells entry m false start) e ∙ h.rest (suc n) ∙ move n

      by_place : (n : ℕ) → n ≤ k + 1 → (n ≤ k) ⊎ (k < n) → follow cells entry n false start ≡ InLoop
      by_place n le (inl here) = h.going n here
      by_place n le (inr past) =
          let e : n ≡ 0 + (k + 1) = omega (arith, le, past) in
          ap (λ m. follow cells entry m false start) e ∙ rest_on 0

      going_on : (n : ℕ) → n ≤ k + 1 → follow cells entry n false start ≡ InLoop
      going_on n le = by_place n le (up_to_or_past n k)

  -- the mark stays where it was, or moves on to the bit at which the trace is
  pub met_before : (start : Wire) (k : ℕ) (m : Wire) → IsMet start k m → IsMet start (k + 1) m
  met_before start k m h = let le = h.before in
      record { after = h.after; inverted = h.inverted; before = omega (arith, le); rest = h.rest }

  pub met_now : (start : Wire) (k : ℕ) (i : Bool) (w : Wire) → IsOnWay start k i w → IsMet start k w
  met_now start k i w h = record { after = k; inverted = i; before = omega arith; rest = h.rest }

  -- it ends with the next look
  pub ended : (start : Wire) (k : ℕ) (i : Bool) (w : Wire) (f : Found) → IsOnWay start k i w
      → ((n : ℕ) → follow cells entry (suc n) i w ≡ f.end) → f.looks ≡ k + 1
      → IsTrueEnd cells entry f.end → IsFound cells entry start f
  ended start k i w f h look looks told =
      record {
        ends = λ n le.
            let left : ℕ = n - (k + 1) in
            let e : n ≡ suc left + k = omega (arith, looks, le) in
            ap (λ m. follow cells entry m false start) e ∙ h.rest (suc left) ∙ look left;
        told = told;
      }

  -- it goes on with a bit that was found
  pub goes_on : (start : Wire) (k : ℕ) (i : Bool) (w : Wire) (f g : Found) → IsOnWay start k i w
      → IsFound cells entry w f → g.looks ≡ k + f.looks
      → g.end ≡ turned_end i f.end → IsFound cells entry start g
  goes_on start k i w f g h found looks e =
      record {
        ends = λ n le.
            let left : ℕ = n - k in
            let m : n ≡ left + k = omega (arith, looks, le) in
            let enough : f.looks ≤ left = omega (arith, looks, le) in
            ap (λ c. follow cells entry c false start) m ∙ h.rest left
            ∙ from_found w f found left i enough ∙ sym e;
        told = subst (IsTrueEnd cells entry) (sym e) (told_turned i f.end found.told);
      }

  -- it comes back to a bit that it met
  pub comes_back : (start : Wire) (k : ℕ) (i : Bool) (w : Wire) → IsMet start k w → IsOnWay start (k + 1) i w
      → (n : ℕ) → follow cells entry n false start ≡ InLoop
  comes_back start k i w met h n = up_to n n (omega arith)
    where
      -- this many looks less at the bit that it met before
      round : (n : ℕ) → k + 1 < n → ((m : ℕ) → m < n → follow cells entry m false start ≡ InLoop)
          → follow cells entry n false start ≡ InLoop
      round n past fewer =
          let before = met.before in
          let left : ℕ = n - (k + 1) in
          let e : n ≡ left + (k + 1) = omega (arith, past) in
          let lt : left + met.after < n = omega (arith, past, before) in
          let d = between met.inverted i in
          ap (λ m. follow cells entry m false start) e ∙ h.rest left
          ∙ ap (λ c. follow cells entry left c w) (sym d.1) ∙ turned left d.0 met.inverted w
          ∙ ap (turned_end d.0) (sym (met.rest left) ∙ fewer (left + met.after) lt)

      by_place : (n : ℕ) → (n ≤ k + 1) ⊎ (k + 1 < n)
          → ((m : ℕ) → m < n → follow cells entry m false start ≡ InLoop)
          → follow cells entry n false start ≡ InLoop
      by_place n (inl here) fewer = h.going n here
      by_place n (inr past) fewer = round n past fewer

      up_to : (b n : ℕ) → n ≤ b → follow cells entry n false start ≡ InLoop
      up_to zero n le = h.going n (omega (arith, le))
      up_to (suc b) n le = by_place n (up_to_or_past n (k + 1)) (λ m lt. up_to b m (omega (arith, le, lt)))
