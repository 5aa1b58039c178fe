use Rattle.std.proofs.Common.{◌∙◌, arith}
use Rattle.svf_notes.proofs.Packed.{compared_is, count_is}
use Rattle.svf_notes.proofs.bits.ScanBits.any_compared.Goals as goal

pub any_bit_set-requires : goal.any_bit_set-requires
any_bit_set-requires c =
    let i = c.self.inside in
    omega (
      arith,
      c.requires,
      count_is i.tdi.items i.compared.items i.expected.items i.found.items _
          c.self.view_is c.self.invariant,
      c.self.invariant.compared,
    )

pub returns : goal.returns
returns c =
    let i = c.self.inside in
    c.any_bit_set.ensures ∙ compared_is i.tdi.items i.compared.items i.expected.items i.found.items _
    c.self.view_is c.self.invariant c.args.at c.args.width (omega (
      arith,
      c.requires,
      count_is i.tdi.items
          i.compared.items i.expected.items i.found.items _ c.self.view_is c.self.invariant,
    ))
