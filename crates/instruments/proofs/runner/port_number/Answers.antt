use Rattle.std.proofs.Common.{refl, ap, ◌∙◌, arith}
use Rattle.std.specs.Prelude.{false}
use Rattle.ij_bits.specs.BitLists.{number_of}
use Rattle.instruments.proofs.RunValues.{run_value, run_within}
use Rattle.instruments.proofs.runner.port_number.Goals as goal

pub register_number-requires-clause-within : goal.register_number-requires-clause-within
register_number-requires-clause-within c =
    run_within c.args.holds.now c.args.bits.now c.in-Bit.bit.reg c.in-Bit.bit.pos
    (c.if-is_register_run.ensures refl) (omega (arith, c.in-Bit.len_at_least)) c.requires.driven

pub returns-in-Bit : goal.returns-in-Bit
returns-in-Bit c =
    c.register_number.ensures
    ∙ ap number_of
    (run_value (λ inst port pos. false) c.args.holds.now c.args.bits.now c.in-Bit.bit.reg c.in-Bit.bit.pos
    (c.if-is_register_run.ensures refl) (omega (arith, c.in-Bit.len_at_least)) c.requires.driven)
