use Rattle.std.proofs.Common.{refl, ap, sym, ◌∙◌, arith, length}
use Rattle.ij_bits.specs.BitLists.{number_of}
use Rattle.instruments.specs.OnNetwork.{outputs}
use Rattle.instruments.specs.Runners.{insts_of, machines_of}
use Rattle.net_graph.specs.Signals.{signal}
use Rattle.std.specs.Prelude.{map}
use Rattle.instruments.proofs.RunValues.{output_run_value, run_value, run_within}
use Rattle.instruments.proofs.all.captured_number.Goals as goal

pub register_number-requires-clause-within : goal.register_number-requires-clause-within
register_number-requires-clause-within c =
    run_within c.args.holds.now c.args.sigs.now c.in-Bit.bit.reg c.in-Bit.bit.pos
    (c.if-is_register_run.ensures refl) (omega (arith, c.in-Bit.len_at_least)) c.requires.driven

pub returns-in-Bit : goal.returns-in-Bit
returns-in-Bit c =
    let outs = outputs (machines_of c.args.models.now.items) (insts_of c.args.runners.now) in
    c.register_number.ensures
    ∙ ap number_of (run_value outs c.args.holds.now c.args.sigs.now c.in-Bit.bit.reg c.in-Bit.bit.pos
    (c.if-is_register_run.ensures refl) (omega (arith, c.in-Bit.len_at_least)) c.requires.driven)

pub returns-in-Out : goal.returns-in-Out
returns-in-Out c =
    let outs = outputs (machines_of c.args.models.now.items) (insts_of c.args.runners.now) in
    output_run_value outs c.args.holds.now c.in-Out.inst c.in-Out.port
    (length c.args.sigs.now) c.output_bits.result c.output_bits.ensures.small c.output_bits.ensures.bits
    ∙ sym (ap (λ sigs. number_of (map (signal outs c.args.holds.now) sigs)) (c.if-is_output_run.ensures refl))
