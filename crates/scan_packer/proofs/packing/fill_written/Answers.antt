use Rattle.std.proofs.Common.{length, sym, ap, ◌∙◌, arith}
use Rattle.std.specs.Prelude.{reverse}
use Rattle.net_graph.specs.Resets.{zero_holds}
use Rattle.net_graph.proofs.Shapes.{length-chain_same}
use Rattle.scan_packer.proofs.Rooms.{chain_few, chain_short, zero_shape, all_there}
use Rattle.scan_packer.proofs.packing.fill_written.Goals as goal

pub fill_held-requires-clause-there : goal.fill_held-requires-clause-there
fill_held-requires-clause-there c =
    all_there (length c.args.net.now.regs.items) c.args.path.now c.requires.route

pub fill_held-requires-clause-room : goal.fill_held-requires-clause-room
fill_held-requires-clause-room c =
    omega (
      arith,
      chain_few c.args.net.now (reverse c.args.path.now) c.requires.well_formed c.requires.route
          c.args.holds.now c.requires.holds,
      c.requires.room,
    )

pub fill_held-requires-clause-short : goal.fill_held-requires-clause-short
fill_held-requires-clause-short c =
    chain_short c.args.net.now (reverse c.args.path.now) c.requires.well_formed
    c.requires.route c.args.holds.now c.requires.holds

pub put_writes-requires-clause-there : goal.put_writes-requires-clause-there
put_writes-requires-clause-there c =
    all_there (length c.args.net.now.regs.items) c.args.path.now c.requires.route

pub put_writes-requires-clause-short : goal.put_writes-requires-clause-short
put_writes-requires-clause-short c =
    chain_short c.args.net.now (reverse c.args.path.now) c.requires.well_formed c.requires.route
    (zero_holds c.args.net.now)
    (zero_shape c.args.net.now (reverse c.args.path.now) c.requires.well_formed c.requires.route)

pub put_writes-requires-clause-long : goal.put_writes-requires-clause-long
put_writes-requires-clause-long c =
    ap length c.fill_held.ensures.items ∙ length-chain_same (reverse c.args.path.now) c.args.holds.now
    (zero_holds c.args.net.now) (c.requires.holds
    ∙ sym (zero_shape c.args.net.now (reverse c.args.path.now) c.requires.well_formed c.requires.route))
