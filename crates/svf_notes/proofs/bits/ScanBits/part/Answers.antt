use Rattle.std.proofs.Common.{arith}
use Rattle.svf_notes.proofs.Packed.{count_is, parted}
use Rattle.svf_notes.proofs.bits.ScanBits.part.Goals as goal

pub number-requires-clause-within : goal.number-requires-clause-within
number-requires-clause-within c =
    let i = c.self.inside in
    omega (
      arith,
      c.requires.within,
      count_is i.tdi.items i.compared.items i.expected.items
          i.found.items _ c.self.view_is c.self.invariant,
    )

pub number-requires-2-clause-within : goal.number-requires-2-clause-within
number-requires-2-clause-within c =
    let i = c.self.inside in
    omega (
      arith,
      c.requires.within,
      count_is i.tdi.items i.compared.items i.expected.items i.found.items _
          c.self.view_is c.self.invariant,
      c.self.invariant.compared,
    )

pub number-requires-3-clause-within : goal.number-requires-3-clause-within
number-requires-3-clause-within c =
    let i = c.self.inside in
    omega (
      arith,
      c.requires.within,
      count_is i.tdi.items i.compared.items i.expected.items i.found.items _
          c.self.view_is c.self.invariant,
      c.self.invariant.expected,
    )

pub number-requires-4-clause-within : goal.number-requires-4-clause-within
number-requires-4-clause-within c =
    let i = c.self.inside in
    omega (
      arith,
      c.requires.within,
      count_is i.tdi.items i.compared.items i.expected.items i.found.items _
          c.self.view_is c.self.invariant,
      c.self.invariant.found,
    )

pub returns-clause-bits : goal.returns-clause-bits
returns-clause-bits c =
    let i = c.self.inside in
    parted i.tdi.items i.compared.items i.expected.items i.found.items _ c.self.view_is c.self.invariant
    c.args.at c.args.count c.number.result c.number-2.result c.number-3.result c.number-4.result
    (omega (
      arith,
      c.requires.within,
      count_is i.tdi.items i.compared.items i.expected.items i.found.items _
          c.self.view_is c.self.invariant,
    )) c.number.ensures.value c.number-2.ensures.value
    c.number-3.ensures.value c.number-4.ensures.value
