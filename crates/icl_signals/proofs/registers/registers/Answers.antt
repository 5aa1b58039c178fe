use Rattle.std.proofs.Common.{◌+◌, drop, map, sym, ap, ◌∙◌}
use Rattle.ij_bits.proofs.Lists.{split_at}
use Rattle.icl_declarations.proofs.Each.{more, more_next}
use Rattle.icl_signals.specs.Wirings.{cells_of}
use Rattle.icl_signals.specs.TrueEnds.{seen_entry}
use Rattle.icl_signals.specs.Connecting.{register_of}
use Rattle.icl_signals.proofs.registers.registers.Goals as goal

pub loop-e-preserved : goal.loop-e-preserved
loop-e-preserved c =
    let give = register_of (cells_of c.args.wiring.now) c.args.wiring.now.entry in
    let parts = c.args.parts.now in
    let i = c.loop-e.e-index in
    let before = c.loop-e.all.items in
    let left = map seen_entry (drop (i + 1) parts) in
    ap (λ l. more give l left) c.in_ok-push.ensures.ok
    ∙ more_next give before (seen_entry c.e-item.result) left c.in_ok-reg.reg c.in_ok-reg.ensures
    ∙ sym (ap (λ l. more give before (map seen_entry l))
    (split_at parts i c.e-item.result c.loop-e-test.true c.e-item.is))
    ∙ c.loop-e.invariant
