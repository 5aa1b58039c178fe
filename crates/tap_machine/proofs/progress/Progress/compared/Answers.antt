use Rattle.std.proofs.Common.{[], false, true, ap}
use Rattle.std.specs.Prelude.{replicate, unwrap_or}
use Rattle.ij_bits.specs.BitLists.{bits_of}
use Rattle.svf_writer.specs.Lent.{lent}
use Rattle.tap_machine.proofs.Pieces.{nothing_expected, part_expected}
use Rattle.tap_machine.proofs.progress.Progress.compared.Goals as goal
use Rattle.ij_bits.proofs.WordBits.{bits_of-none}

pub returns-in-Some : goal.returns-in-Some
returns-in-Some c =
    let scan = c.args.self.now.scan in
    part_expected scan.len c.args.k c.args.n (lent c.args.self.now.tdo)
    (unwrap_or c.in-Some.field-0.now []) (replicate scan.len false)
    (unwrap_or (lent scan.mask) (replicate scan.len true)) (bits_of c.args.n c.part_bits.result)
    (ap lent c.in-Some.is) c.part_bits.ensures

pub returns-in-None : goal.returns-in-None
returns-in-None c =
    let scan = c.args.self.now.scan in
    nothing_expected scan.len c.args.k c.args.n (lent c.args.self.now.tdo)
    (unwrap_or (lent scan.mask) (replicate scan.len true)) (bits_of c.args.n 0)
    (ap lent c.in-None.is) c.requires.within (bits_of-none c.args.n)
