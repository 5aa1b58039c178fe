use Rattle.pdl_parser.specs.Views.{seen_target, seen_value}
use Rattle.pdl_targets.specs.Targets.{write_bits}
use Rattle.pdl_targets.proofs.Standing.{written_there}
use Rattle.pdl_targets.proofs.binder.write.Goals as goal

pub write-requires-clause-bits : goal.write-requires-clause-bits
write-requires-clause-bits c =
    let target = seen_target c.args.target.now in
    let value = seen_value c.args.value.now in
    written_there c.args.net.now (write_bits c.args.net.now c.args.at c.args.node target value)
    c.in_ok-writes.writes.items c.as_slice.result.now
    (c.bits_are_of_the_network.ensures.writes c.args.net.now c.args.at c.args.node target value
    c.requires.net) c.in_ok-writes.ensures c.as_slice.ensures
