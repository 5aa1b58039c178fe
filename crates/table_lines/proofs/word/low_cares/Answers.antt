use Rattle.std.proofs.Common.{◌<◌, ◌^◌, ◌+◌, ◌*◌, ap, sym, ◌∙◌, subst, arith}
use Rattle.std.specs.Prelude.{if◌then◌else◌}
use Rattle.std.specs.Prelude.{is_some}
use Rattle.ij_text.specs.Numbers.{tern_bits}
use Rattle.table_lines.proofs.Lows.{start, step, small_step, fits}
use Rattle.table_lines.proofs.word.low_cares.Goals as goal

pub loop-k-init : goal.loop-k-init
loop-k-init c = record { value = start is_some c.args.width (tern_bits c.args.t.now); small = omega arith }

pub loop-k-preserved : goal.loop-k-preserved
loop-k-preserved c =
    let xs = tern_bits c.args.t.now in
    let n = c.loop-k.n in
    let k = c.loop-k.k in
    let b = c.bit_at.result in
    let bit = c.with_bit-n.ensures ∙ ap (λ v. (if v then 1 else 0) + 2 * n) c.is_known.ensures in
    record {
      value = bit ∙ step is_some c.args.width k n xs b c.loop-k-test.true
          c.bit_at.ensures c.loop-k.invariant.value;
      small = subst (λ m. m < 2 ^ (k + 1)) (sym bit) (small_step (is_some b) k n c.loop-k.invariant.small);
    }

pub with_bit-n-requires : goal.with_bit-n-requires
with_bit-n-requires c =
    fits c.loop-k.k c.args.width c.loop-k.n c.loop-k.invariant.small c.loop-k-test.true c.requires
