-- Some clocks that shift, as words.
use Rattle.std.proofs.Common.{◌≡◌, ℕ, suc, Bool, List, [], ◌∷◌, length, ap, refl, arith}
use Rattle.ij_bits.specs.BitLists.{bits_of}
use Rattle.tap_machine.specs.declared.Piece.{Piece}
use Rattle.tap_machine.specs.Pieces.{piece_pins, stretch}
use Rattle.tap_machine.specs.Play.{masked}
use Rattle.svf_notes.specs.declared.scan.Shifted.{Shifted}
use Rattle.svf_notes.specs.Packed.{AreAsMany, expect_of, part_bits, together}
use Rattle.svf_notes.specs.Scans.{shifted_bits}
use Rattle.svf_notes.proofs.Packed.{fewer, words_as_many}
use Rattle.ij_bits.proofs.WordBits.{length-bits_of}

stretch_is : (scan k : ℕ) (tms : Bool) (ts cs es fs : List Bool) → AreAsMany (length ts) cs es fs
    → together ts cs es fs ≡ shifted_bits (stretch scan k tms ts (masked es cs)) fs
stretch_is scan k tms [] cs es fs m = refl
stretch_is scan k tms (t ∷ ts) [] es fs m = absurd (omega (arith, m.compared))
stretch_is scan k tms (t ∷ ts) (c ∷ cs) [] fs m = absurd (omega (arith, m.expected))
stretch_is scan k tms (t ∷ ts) (c ∷ cs) (e ∷ es) [] m = absurd (omega (arith, m.found))
stretch_is scan k tms (t ∷ ts) (c ∷ cs) (e ∷ es) (f ∷ fs) m =
    let b : Shifted = record { tdi = t; expect = expect_of c e; found = f } in
    ap (λ l. b ∷ l) (stretch_is scan (suc k) tms ts cs es fs (fewer m))

pub piece_is : (p : Piece) (found : ℕ) → part_bits
    (record { count = p.count; tdi = p.tdi; compared = p.compared; expected = p.expected; found = found })
    ≡ shifted_bits (piece_pins p) (bits_of p.count found)
piece_is p found =
    stretch_is p.scan p.bit p.tms (bits_of p.count p.tdi) (bits_of p.count p.compared)
    (bits_of p.count p.expected) (bits_of p.count found)
    (words_as_many p.count p.compared p.expected found (bits_of p.count p.tdi) (length-bits_of p.count p.tdi))
