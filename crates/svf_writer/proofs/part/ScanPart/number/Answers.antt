use Rattle.std.proofs.Common.{◌≡◌, ◌≤◌, ◌+◌, ◌-◌, Bool, List, Option, Some, [], length, take, drop, ap, sym}
use Rattle.std.proofs.Common.{◌∙◌, subst, arith, false, length-take, length-drop}
use Rattle.std.specs.Prelude.{unwrap_or, slice_range}
use Rattle.std.proofs.lemmas.List.{get_or-take, get_or-drop}
use Rattle.ij_bits.specs.BitLists.{bits_of, number_of}
use Rattle.ij_bits.proofs.Hex.{number_is}
use Rattle.ij_bits.proofs.WordBits.{get_or-bits_of, length-bits_of}
use Rattle.svf_writer.specs.declared.part.Stored.TheVariants.{Word}
use Rattle.svf_writer.specs.Stored.{seen_part, IsStored}
use Rattle.svf_writer.proofs.part.ScanPart.number.Goals as goal

pub bits_of_number-requires : goal.bits_of_number-requires
bits_of_number-requires c =
    let count = c.in-Word.count in
    let bits = c.in-Word.bits in
    let here : c.args.self.now ≡ Some (bits_of count bits) = sym c.self.view_is ∙ ap seen_part c.in-Word.is in
    let long : length (unwrap_or c.args.self.now [])
    ≡ count = ap (λ (p : Option (List Bool)). length (unwrap_or p [])) here ∙ length-bits_of count bits in
    let sound : IsStored (Word count bits) = subst IsStored c.in-Word.is c.self.invariant in
    omega (arith, sound.0, long, c.requires.within)

pub returns-in-Word : goal.returns-in-Word
returns-in-Word c =
    let count = c.in-Word.count in
    let bits = c.in-Word.bits in
    let from = c.args.from in
    let n = c.args.n in
    let here : c.args.self.now ≡ Some (bits_of count bits) = sym c.self.view_is ∙ ap seen_part c.in-Word.is in
    let long : length (unwrap_or c.args.self.now [])
    ≡ count = ap (λ (p : Option (List Bool)). length (unwrap_or p [])) here ∙ length-bits_of count bits in
    let within : from + n ≤ count = omega (arith, long, c.requires.within) in
    let size : from + n - from ≡ n = omega arith in
    let wide : length (take n (drop from (bits_of count bits)))
    ≡ n = simp (length-take, length-drop) (omega (arith, length-bits_of count bits)) in
    number_is (take n (drop from (bits_of count bits)))
    c.bits_of_number.result n wide c.bits_of_number.ensures.small
    (λ k inner.
    c.bits_of_number.ensures.bits k inner
    ∙ sym (get_or-take n (drop from (bits_of count bits)) k false inner ∙ get_or-drop from
    (bits_of count bits) k false ∙ get_or-bits_of count bits (from + k) (omega (arith, inner, within))))
    ∙ ap (λ j. number_of (take j (drop from (bits_of count bits)))) (sym size)
    ∙ sym (ap (λ (p : Option (List Bool)). number_of (slice_range (unwrap_or p []) from (from + n))) here)
