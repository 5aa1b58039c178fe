use Rattle.std.proofs.Common.{◌∙◌, Bool, List, length, ap, arith}
use Rattle.ij_bits.specs.BitLists.{bits_eq}
use Rattle.svf_notes.proofs.Packed.{count_is, span_tdi}
use Rattle.svf_notes.proofs.bits.ScanBits.is_held.Goals as goal

pub are_same-requires : goal.are_same-requires
are_same-requires c =
    let i = c.self.inside in
    omega (
      arith,
      c.requires,
      count_is i.tdi.items i.compared.items i.expected.items
          i.found.items _ c.self.view_is c.self.invariant,
    )

pub returns : goal.returns
returns c =
    let i = c.self.inside in
    c.are_same.ensures ∙ ap (λ (l : List Bool). bits_eq l c.args.held.now.items)
    (span_tdi i.tdi.items i.compared.items i.expected.items i.found.items _ c.self.view_is
    c.self.invariant c.args.at (length c.args.held.now.items) (omega (
      arith,
      c.requires,
      count_is
          i.tdi.items i.compared.items i.expected.items i.found.items _ c.self.view_is c.self.invariant,
    )))
