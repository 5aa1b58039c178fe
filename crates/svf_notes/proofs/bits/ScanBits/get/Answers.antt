use Rattle.std.proofs.Common.{◌∙◌, sym}
use Rattle.svf_notes.proofs.Packed.{first_is}
use Rattle.svf_notes.proofs.bits.ScanBits.get.Goals as goal

pub returns : goal.returns
returns c =
    sym (first_is c.args.self.now.items c.args.at c.at.result _ (sym c.part.ensures.bits ∙ c.at.ensures))
