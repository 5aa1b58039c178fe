use Rattle.svf_notes.proofs.Packed.{tdi_is}
use Rattle.svf_notes.proofs.bits.ScanBits.tdi.Goals as goal

pub returns : goal.returns
returns c =
    let i = c.self.inside in
    tdi_is i.tdi.items i.compared.items i.expected.items i.found.items _ c.self.view_is c.self.invariant
