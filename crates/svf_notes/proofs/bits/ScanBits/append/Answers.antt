use Rattle.std.proofs.Common.{◌++◌, ◌∙◌, Bool, List, length, ap, arith}
use Rattle.ij_bits.specs.BitLists.{bits_of}
use Rattle.svf_notes.proofs.Packed.{appended, as_many_more}
use Rattle.svf_notes.proofs.bits.ScanBits.append.Goals as goal

pub append_number_reserved-requires-clause-short : goal.append_number_reserved-requires-clause-short
append_number_reserved-requires-clause-short c =
    omega (arith, c.len.ensures, c.if-len-gt-MOST.false, c.requires, ap length c.reserve.ensures.items)

pub append_number_reserved-requires-2-clause-short : goal.append_number_reserved-requires-2-clause-short
append_number_reserved-requires-2-clause-short c =
    omega (
      arith,
      c.len.ensures,
      c.if-len-gt-MOST.false,
      c.requires,
      ap length c.reserve-2.ensures.items,
      c.self.invariant.compared,
    )

pub append_number_reserved-requires-3-clause-short : goal.append_number_reserved-requires-3-clause-short
append_number_reserved-requires-3-clause-short c =
    omega (
      arith,
      c.len.ensures,
      c.if-len-gt-MOST.false,
      c.requires,
      ap length c.reserve-3.ensures.items,
      c.self.invariant.expected,
    )

pub append_number_reserved-requires-4-clause-short : goal.append_number_reserved-requires-4-clause-short
append_number_reserved-requires-4-clause-short c =
    omega (
      arith,
      c.len.ensures,
      c.if-len-gt-MOST.false,
      c.requires,
      ap length c.reserve-4.ensures.items,
      c.self.invariant.found,
    )

pub invariant_of-self-2 : goal.invariant_of-self-2
invariant_of-self-2 c =
    let i = c.self.inside in
    let p = c.args.part.now in
    let n = p.count in
    as_many_more i.tdi.items i.compared.items i.expected.items i.found.items _ c.self.view_is
    c.self.invariant n p.tdi p.compared p.expected p.found
    c.append_number_reserved.new.self.items c.append_number_reserved-2.new.self.items
    c.append_number_reserved-3.new.self.items c.append_number_reserved-4.new.self.items
    (c.append_number_reserved.ensures.items
    ∙ ap (λ (l : List Bool). l ++ bits_of n p.tdi) c.reserve.ensures.items)
    (c.append_number_reserved-2.ensures.items
    ∙ ap (λ (l : List Bool). l ++ bits_of n p.compared) c.reserve-2.ensures.items)
    (c.append_number_reserved-3.ensures.items
    ∙ ap (λ (l : List Bool). l ++ bits_of n p.expected) c.reserve-3.ensures.items)
    (c.append_number_reserved-4.ensures.items
    ∙ ap (λ (l : List Bool). l ++ bits_of n p.found) c.reserve-4.ensures.items)

pub returns : goal.returns
returns c =
    let i = c.self.inside in
    let p = c.args.part.now in
    let n = p.count in
    appended i.tdi.items i.compared.items i.expected.items i.found.items _ c.self.view_is c.self.invariant p
    c.append_number_reserved.new.self.items c.append_number_reserved-2.new.self.items
    c.append_number_reserved-3.new.self.items c.append_number_reserved-4.new.self.items
    (c.append_number_reserved.ensures.items
    ∙ ap (λ (l : List Bool). l ++ bits_of n p.tdi) c.reserve.ensures.items)
    (c.append_number_reserved-2.ensures.items
    ∙ ap (λ (l : List Bool). l ++ bits_of n p.compared) c.reserve-2.ensures.items)
    (c.append_number_reserved-3.ensures.items
    ∙ ap (λ (l : List Bool). l ++ bits_of n p.expected) c.reserve-3.ensures.items)
    (c.append_number_reserved-4.ensures.items
    ∙ ap (λ (l : List Bool). l ++ bits_of n p.found) c.reserve-4.ensures.items)
