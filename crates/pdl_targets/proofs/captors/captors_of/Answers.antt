use Rattle.std.proofs.Common.{List, ◌^◌, ◌<◌, length, sym, subst}
use Rattle.std.specs.Prelude.{All}
use Rattle.net_graph.specs.declared.net.Reg.{Reg}
use Rattle.pdl_targets.proofs.Formed.{few_regs, short_regs}
use Rattle.pdl_targets.proofs.captors.captors_of.Goals as goal

pub slots_of-requires-clause-few : goal.slots_of-requires-clause-few
slots_of-requires-clause-few c =
    let P : List Reg → Type 0 = λ regs. length regs < 2 ^ 32 in
    subst P (sym c.as_slice.ensures) (few_regs c.args.net.now c.requires)

pub slots_of-requires-clause-short : goal.slots_of-requires-clause-short
slots_of-requires-clause-short c = subst (All (λ reg. length reg.capture.items < 2 ^ 32))
    (sym c.as_slice.ensures) (short_regs c.args.net.now c.requires)
