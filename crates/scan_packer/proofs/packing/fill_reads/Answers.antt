use Rattle.std.proofs.Common.{false, length, sym, ap, ◌∙◌, arith}
use Rattle.std.specs.Prelude.{replicate, reverse}
use Rattle.net_graph.specs.Resets.{zero_holds}
use Rattle.scan_packer.proofs.Rooms.{chain_few, zero_chain, zero_shape, all_there}
use Rattle.scan_packer.proofs.packing.fill_reads.Goals as goal

pub fill_zeros-requires-clause-room : goal.fill_zeros-requires-clause-room
fill_zeros-requires-clause-room c =
    omega (
      arith,
      chain_few c.args.net.now (reverse c.args.path.now) c.requires.well_formed c.requires.route
          (zero_holds c.args.net.now) (zero_shape c.args.net.now (reverse c.args.path.now)
          c.requires.well_formed c.requires.route),
      c.requires.count,
      c.requires.tdo_room,
    )

pub put_expectations-requires-clause-there : goal.put_expectations-requires-clause-there
put_expectations-requires-clause-there c =
    all_there (length c.args.net.now.regs.items) c.args.path.now c.requires.route

pub fill_zeros-requires-2-clause-room : goal.fill_zeros-requires-2-clause-room
fill_zeros-requires-2-clause-room c =
    omega (
      arith,
      chain_few c.args.net.now (reverse c.args.path.now) c.requires.well_formed c.requires.route
          (zero_holds c.args.net.now) (zero_shape c.args.net.now (reverse c.args.path.now)
          c.requires.well_formed c.requires.route),
      c.requires.count,
      c.requires.mask_room,
    )

pub put_marks-requires-clause-there : goal.put_marks-requires-clause-there
put_marks-requires-clause-there c =
    all_there (length c.args.net.now.regs.items) c.args.path.now c.requires.route

pub returns-clause-tdo : goal.returns-clause-tdo
returns-clause-tdo c =
    c.put_expectations.ensures.bits.written (zero_holds c.args.net.now)
    (zero_shape c.args.net.now (reverse c.args.path.now) c.requires.well_formed c.requires.route)
    (c.fill_zeros.ensures.items ∙ ap (λ k. replicate k false) c.requires.count
    ∙ sym (zero_chain c.args.net.now (reverse c.args.path.now)))

pub returns-clause-mask : goal.returns-clause-mask
returns-clause-mask c =
    c.put_marks.ensures.bits.written (zero_holds c.args.net.now)
    (zero_shape c.args.net.now (reverse c.args.path.now) c.requires.well_formed c.requires.route)
    (c.fill_zeros-2.ensures.items ∙ ap (λ k. replicate k false) c.requires.count
    ∙ sym (zero_chain c.args.net.now (reverse c.args.path.now)))
