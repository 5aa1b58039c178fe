use Rattle.std.proofs.Common.{arith}
use Rattle.net_bench.proofs.Wide.{wide_at}
use Rattle.svf_notes.proofs.Rows.{width_at}
use Rattle.svf_notes.proofs.heads.put_head.Goals as goal

pub put_positions-requires : goal.put_positions-requires
put_positions-requires c =
    let net = c.args.net.now in
    omega (
      arith,
      wide_at net net.regs.items c.args.reg c.requires.well_formed.regs c.requires.there,
      width_at net.regs.items c.args.reg c.get.result.now c.requires.there c.get.ensures,
    )
