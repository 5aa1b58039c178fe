use Rattle.std.proofs.Common.{ap, ◌∙◌, arith, ◌++◌, ◌-◌, ◌+◌, ◌<◌, ◌/◌, take, length}
use Rattle.std.proofs.lemmas.List.{length-set}
use Rattle.ij_bits.specs.BitLists.{bits_of}
use Rattle.net_bench.proofs.StageSteps.{put_step}
use Rattle.net_bench.proofs.stages.put_number.Goals as goal

pub loop-i-preserved : goal.loop-i-preserved
loop-i-preserved c =
    let within : c.loop-i.i < length c.args.stage.now.items = omega arith in (
      ap length c.set.ensures.items ∙ length-set c.loop-i.stage.items c.loop-i.i _ ∙ c.loop-i.invariant.0,
      ap (λ xs. take (c.loop-i.i + 1) xs ++ bits_of (length c.args.stage.now.items - (c.loop-i.i + 1))
          (c.loop-i.rest / 2)) c.set.ensures.items ∙ put_step _ c.loop-i.i c.loop-i.rest c.loop-i.stage.items
          c.loop-i.invariant.0 within ∙ c.loop-i.invariant.1,
    )
