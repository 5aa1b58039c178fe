use Rattle.std.proofs.Common.{ap, sym, ◌∙◌, arith}
use Rattle.std.specs.Prelude.{◌==◌}
use Rattle.std.specs.Int.{bit_at}
use Rattle.std.proofs.lemmas.Nat.Bits.{shr_and_one, bit_at_above}
use Rattle.instruments.specs.After.{output_number}
use Rattle.instruments.specs.Seen.{seen_model}
use Rattle.instruments.specs.declared.runner.Runner.{Runner}
use Rattle.instruments.proofs.Running.{output_in}
use Rattle.instruments.proofs.all.output.Goals as goal

pub returns-then-pos-lt64 : goal.returns-then-pos-lt64
returns-then-pos-lt64 c =
    ap (λ b. b == 1) (shr_and_one _ c.args.pos)
    ∙ ap (λ n. bit_at n c.args.pos == 1) c.output-number.ensures
    ∙ ap (λ (r : Runner). bit_at (output_number (seen_model c.get.result.now) r.machine c.args.port)
    c.args.pos == 1) (sym c.index-runners-i.is)
    ∙ sym (output_in c.args.models.now.items c.args.runners.now c.args.inst c.args.port c.args.pos
    c.get.result.now c.index-runners-i.result
    (omega (arith, c.if-i-len.true, c.len.ensures)) c.requires.count c.get.ensures c.index-runners-i.is)

pub returns-else-pos-lt64 : goal.returns-else-pos-lt64
returns-else-pos-lt64 c =
    sym (output_in c.args.models.now.items c.args.runners.now c.args.inst c.args.port c.args.pos
    c.get.result.now c.index-runners-i.result
    (omega (arith, c.if-i-len.true, c.len.ensures)) c.requires.count c.get.ensures c.index-runners-i.is
    ∙ ap (λ (r : Runner). bit_at (output_number (seen_model c.get.result.now) r.machine c.args.port)
    c.args.pos == 1) c.index-runners-i.is
    ∙ ap (λ n. bit_at n c.args.pos == 1) (sym c.output-number.ensures)
    ∙ ap (λ b. b == 1)
    (bit_at_above c.output-number.result 64 c.args.pos c.output-number.type_inv c.if-pos-lt64.false))
