use Rattle.std.proofs.Common.{◌≡◌, ◌<◌, Bool, List, Option, Some, [], length, ap, sym, ◌∙◌, subst, arith}
use Rattle.std.proofs.Common.{get_or, false}
use Rattle.std.specs.Prelude.{unwrap_or}
use Rattle.ij_bits.specs.BitLists.{bits_of}
use Rattle.ij_bits.proofs.WordBits.{get_or-bits_of, length-bits_of}
use Rattle.svf_writer.specs.declared.part.Stored.TheVariants.{Word}
use Rattle.svf_writer.specs.Stored.{seen_part, IsStored}
use Rattle.svf_writer.proofs.part.ScanPart.get.Goals as goal

pub bit_of_number-requires : goal.bit_of_number-requires
bit_of_number-requires c =
    let count = c.in-Word.count in
    let bits = c.in-Word.bits in
    let here : c.args.self.now ≡ Some (bits_of count bits) = sym c.self.view_is ∙ ap seen_part c.in-Word.is in
    let long : length (unwrap_or c.args.self.now [])
    ≡ count = ap (λ (p : Option (List Bool)). length (unwrap_or p [])) here ∙ length-bits_of count bits in
    let sound : IsStored (Word count bits) = subst IsStored c.in-Word.is c.self.invariant in
    omega (arith, sound.0, long, c.requires)

pub returns-in-Word : goal.returns-in-Word
returns-in-Word c =
    let count = c.in-Word.count in
    let bits = c.in-Word.bits in
    let here : c.args.self.now ≡ Some (bits_of count bits) = sym c.self.view_is ∙ ap seen_part c.in-Word.is in
    let long : length (unwrap_or c.args.self.now [])
    ≡ count = ap (λ (p : Option (List Bool)). length (unwrap_or p [])) here ∙ length-bits_of count bits in
    let within : c.args.k < count = omega (arith, long, c.requires) in
    c.bit_of_number.ensures
    ∙ sym (ap (λ (p : Option (List Bool)). get_or (unwrap_or p []) c.args.k false) here
    ∙ get_or-bits_of count bits c.args.k within)
