use Rattle.std.proofs.Common.{◌∙◌, sym}
use Rattle.svf_notes.proofs.Packed.{count_is}
use Rattle.svf_notes.proofs.bits.ScanBits.len.Goals as goal

pub returns : goal.returns
returns c =
    let i = c.self.inside in
    c.len.ensures ∙ sym (count_is i.tdi.items i.compared.items i.expected.items
    i.found.items _ c.self.view_is c.self.invariant)
