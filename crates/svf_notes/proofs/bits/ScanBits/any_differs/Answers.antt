use Rattle.std.proofs.Common.{◌∙◌, arith}
use Rattle.svf_notes.proofs.Packed.{differs_is, count_is}
use Rattle.svf_notes.proofs.bits.ScanBits.any_differs.Goals as goal

pub differ_where_set-requires-clause-marks : goal.differ_where_set-requires-clause-marks
differ_where_set-requires-clause-marks c =
    let i = c.self.inside in
    omega (
      arith,
      c.requires,
      count_is i.tdi.items i.compared.items i.expected.items i.found.items _
          c.self.view_is c.self.invariant,
      c.self.invariant.compared,
    )

pub differ_where_set-requires-clause-bits : goal.differ_where_set-requires-clause-bits
differ_where_set-requires-clause-bits c =
    let i = c.self.inside in
    omega (
      arith,
      c.requires,
      count_is i.tdi.items i.compared.items i.expected.items i.found.items _
          c.self.view_is c.self.invariant,
      c.self.invariant.expected,
    )

pub differ_where_set-requires-clause-others : goal.differ_where_set-requires-clause-others
differ_where_set-requires-clause-others c =
    let i = c.self.inside in
    omega (
      arith,
      c.requires,
      count_is i.tdi.items i.compared.items i.expected.items i.found.items _
          c.self.view_is c.self.invariant,
      c.self.invariant.found,
    )

pub returns : goal.returns
returns c =
    let i = c.self.inside in
    c.differ_where_set.ensures ∙ differs_is i.tdi.items i.compared.items i.expected.items i.found.items _
    c.self.view_is c.self.invariant c.args.at c.args.width (omega (
      arith,
      c.requires,
      count_is i.tdi.items
          i.compared.items i.expected.items i.found.items _ c.self.view_is c.self.invariant,
    ))
