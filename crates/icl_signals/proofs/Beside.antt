-- Traces of bits side by side go on side by side.
use Rattle.std.proofs.Common.{◌≡◌, ◌<◌, ◌≤◌, ◌+◌, ℕ, suc, Bool, List, refl, sym, ap, subst, ◌∙◌, arith}
use Rattle.icl_references.specs.declared.hier.Ref.TheVariants.{Fixed, Bit}
use Rattle.icl_references.specs.Roles.{CellOf}
use Rattle.icl_signals.specs.declared.wires.Wire.{Wire}
use Rattle.icl_signals.specs.declared.wires.Driver.{Driver}
use Rattle.icl_signals.specs.declared.wires.Driver.TheVariants.{Another, ARegisterBit, AMuxOutput}
use Rattle.icl_signals.specs.declared.wires.Driver.TheVariants.{AnInstrumentOutput, TheEntry, AFreeInput}
use Rattle.icl_signals.specs.declared.wires.Driver.TheVariants.{NothingAtAll}
use Rattle.icl_signals.specs.declared.wires.End.{End}
use Rattle.icl_signals.specs.declared.wires.End.TheVariants.{AtConstant, AtBit, InLoop}
use Rattle.icl_signals.specs.declared.following.NextBit.{NextBit}
use Rattle.icl_signals.specs.declared.found.FoundRun.{FoundRun}
use Rattle.icl_signals.specs.Moves.{driver_of}
use Rattle.icl_signals.specs.Traces.{from_move, follow}
use Rattle.icl_signals.specs.TrueEnds.{IsTrueNext, resume}
use Rattle.icl_signals.specs.Found.{turned_end, found_after, IsFound, AreFoundFrom}
use Rattle.icl_signals.specs.Alike.{wire_after, driver_after, end_after, next_after, next_bit, AreAlike}

-- ---- none after, and some after some

pub wire_goes_on : (m n : ℕ) (w : Wire) → wire_after m (wire_after n w) ≡ wire_after (n + m) w
wire_goes_on m n w =
    let e : w.pos + n + m ≡ w.pos + (n + m) = omega arith in
    ap (λ p. record { cell = w.cell; part = w.part; pos = p }) e

pub end_goes_on : (m n : ℕ) (e : End) → end_after m (end_after n e) ≡ end_after (n + m) e
end_goes_on m n (AtConstant b) = refl
end_goes_on m n (AtBit w inverted stands) = ap (λ v. AtBit v inverted stands) (wire_goes_on m n w)
end_goes_on m n InLoop = refl

pub turned_after : (k : ℕ) (t : Bool) (e : End) → turned_end t (end_after k e) ≡ end_after k (turned_end t e)
turned_after k t (AtConstant b) = refl
turned_after k t (AtBit w inverted stands) = refl
turned_after k t InLoop = refl

-- ---- one move

-- the next bit is that of the move
pub resumes : (go : Bool → Wire → End) (i : Bool) (w : Wire) (d : Driver)
    → from_move go i w d ≡ resume go (next_bit i w d)
resumes go i w (Another (Fixed b)) = refl
resumes go i w (Another (Bit cell part pos t)) = refl
resumes go i w ARegisterBit = refl
resumes go i w AMuxOutput = refl
resumes go i w AnInstrumentOutput = refl
resumes go i w TheEntry = refl
resumes go i w AFreeInput = refl
resumes go i w NothingAtAll = refl

pub next_beside : (k : ℕ) (i : Bool) (w : Wire) (d : Driver)
    → next_bit i (wire_after k w) (driver_after k d) ≡ next_after k (next_bit i w d)
next_beside k i w (Another (Fixed b)) = refl
next_beside k i w (Another (Bit cell part pos t)) = refl
next_beside k i w ARegisterBit = refl
next_beside k i w AMuxOutput = refl
next_beside k i w AnInstrumentOutput = refl
next_beside k i w TheEntry = refl
next_beside k i w AFreeInput = refl
next_beside k i w NothingAtAll = refl

module _ (cells : List CellOf) (entry : Wire) where
  -- one move of a bit beside
  pub moves : (i : Bool) (w : Wire) (count : ℕ) (next : NextBit) → AreAlike cells entry w count
      → next ≡ next_bit i w (driver_of cells entry w) → (k : ℕ) → k < count → (n : ℕ)
      → follow cells entry (suc n) i (wire_after k w) ≡ resume (follow cells entry n) (next_after k next)
  moves i w count next alike is k lt n =
      let go : Bool → Wire → End = follow cells entry n in
      ap (λ (d : Driver). from_move go i (wire_after k w) d) (alike k lt)
      ∙ resumes go i (wire_after k w) (driver_after k (driver_of cells entry w))
      ∙ ap (resume go) (next_beside k i w (driver_of cells entry w) ∙ ap (next_after k) (sym is))

  -- what the next bit says, if it is an end
  pub told : (i : Bool) (w : Wire) (count : ℕ) (next : NextBit) → AreAlike cells entry w count
      → next ≡ next_bit i w (driver_of cells entry w) → (k : ℕ) → k < count
      → IsTrueNext cells entry (next_after k next)
  told i w count next alike is k lt =
      subst (λ m. IsTrueNext cells entry (next_after k m)) (sym is)
      (by_driver (driver_of cells entry w) (alike k lt))
    where
      by_driver : (d : Driver) → driver_of cells entry (wire_after k w) ≡ driver_after k d
          → IsTrueNext cells entry (next_after k (next_bit i w d))
      by_driver (Another (Fixed b)) e = tt
      by_driver (Another (Bit cell part pos t)) e = tt
      by_driver ARegisterBit e = e
      by_driver AMuxOutput e = e
      by_driver AnInstrumentOutput e = e
      by_driver TheEntry e = e
      by_driver AFreeInput e = e
      by_driver NothingAtAll e = e

  -- what is found of some bits holds of those after the first ones
  pub found_on : (n : ℕ) (w : Wire) (r s : FoundRun) → AreFoundFrom cells entry w r → 1 ≤ s.count
      → n + s.count ≡ r.count → s.found ≡ found_after n r.found
      → AreFoundFrom cells entry (wire_after n w) s
  found_on n w r s h some e is =
      record {
        some = some;
        each = λ k lt.
            let here : found_after k s.found ≡ found_after (n + k) r.found =
            ap (found_after k) is ∙ ap (λ end. record { looks = r.found.looks; end = end })
            (end_goes_on k n r.found.end) in
            subst (IsFound cells entry (wire_after k (wire_after n w))) (sym here)
            (subst (λ v. IsFound cells entry v (found_after (n + k) r.found)) (sym (wire_goes_on k n w))
            (h.each (n + k) (omega (arith, e, lt))));
      }
