use Rattle.std.proofs.Common.{ap, sym, ◌∙◌, arith}
use Rattle.std.specs.Prelude.{◌==◌}
use Rattle.std.specs.Int.{bit_at}
use Rattle.ij_bits.proofs.Joining.{low_bit}
use Rattle.instruments.specs.After.{output_number}
use Rattle.instruments.specs.Seen.{seen_model}
use Rattle.instruments.specs.declared.runner.Runner.{Runner}
use Rattle.instruments.proofs.Running.{output_in}
use Rattle.instruments.proofs.all.output_bits.Goals as goal

pub returns-then-i-len-clause-bits : goal.returns-then-i-len-clause-bits
returns-then-i-len-clause-bits c pos h =
    ap (λ x. bit_at x pos == 1) c.low_bits.ensures
    ∙ ap (λ b. b == 1) (low_bit _ c.args.n pos h)
    ∙ ap (λ n. bit_at n pos == 1) (c.from.ensures ∙ c.output.ensures)
    ∙ ap (λ (r : Runner). bit_at (output_number (seen_model c.get.result.now) r.machine c.args.port) pos == 1)
    (sym c.index-runners-i.is)
    ∙ sym (output_in c.args.models.now.items c.args.runners.now c.args.inst c.args.port pos
    c.get.result.now c.index-runners-i.result
    (omega (arith, c.if-i-len.true, c.len.ensures)) c.requires.count c.get.ensures c.index-runners-i.is)
