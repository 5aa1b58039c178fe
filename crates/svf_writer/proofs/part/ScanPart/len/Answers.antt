use Rattle.std.proofs.Common.{◌≡◌, Bool, List, Option, Some, [], length, ap, sym, ◌∙◌}
use Rattle.std.specs.Prelude.{unwrap_or}
use Rattle.ij_bits.specs.BitLists.{bits_of}
use Rattle.svf_writer.specs.Stored.{seen_part}
use Rattle.ij_bits.proofs.WordBits.{length-bits_of}
use Rattle.svf_writer.proofs.part.ScanPart.len.Goals as goal

pub returns-in-Word : goal.returns-in-Word
returns-in-Word c =
    let here : c.args.self.now ≡ Some (bits_of c.in-Word.count c.in-Word.bits) =
    sym c.self.view_is ∙ ap seen_part c.in-Word.is in
    sym (ap (λ (p : Option (List Bool)). length (unwrap_or p [])) here
    ∙ length-bits_of c.in-Word.count c.in-Word.bits)
