use Rattle.std.proofs.Common.{◌≡◌, ◌+◌, ◌-◌, ◌∙◌, List, Bool, [], false, ap, slice_range, arith}
use Rattle.std.specs.Prelude.{replicate, unwrap_or, ◌==◌}
use Rattle.std.proofs.lemmas.Bool.Decides.{nat_tests}
use Rattle.ij_bits.specs.BitLists.{bits_of}
use Rattle.svf_writer.specs.Lent.{lent}
use Rattle.tap_machine.specs.Play.{masked}
use Rattle.tap_machine.specs.Remaining.{scan_under_way}
use Rattle.tap_machine.proofs.Pieces.{held_bits, piece_is}
use Rattle.tap_machine.proofs.progress.Progress.shifts_from.Goals as goal

pub returns-clause-pins : goal.returns-clause-pins
returns-clause-pins c =
    let scan = c.args.self.now.scan in
    let k = c.args.k in
    let n = c.args.n in
    let last : (n == scan.len - k) ≡ (k + n == scan.len) =
    grind (arith, nat_tests, c.requires.within, c.requires.some) in
    let tdi : bits_of n c.part_bits.result ≡ slice_range (unwrap_or (lent scan.tdi) []) k (k + n) =
    c.part_bits.ensures ∙ ap (λ (xs : List Bool). slice_range xs k (k + n))
    (held_bits scan.len (lent scan.tdi) (replicate scan.len false)
    (omega (arith, c.requires.within, c.requires.some)) c.requires.sound.scan.tdi) in
    piece_is c.args.self.now.scans scan.len (scan_under_way c.args.self.now) n k (n == scan.len - k)
    (bits_of n c.part_bits.result) (masked (bits_of n c.part_bits-2.result) (bits_of n c.compared.result))
    c.requires.sound.scan.tdi c.requires.within last tdi
    (ap (λ xs. masked xs (bits_of n c.compared.result)) c.part_bits-2.ensures ∙ c.compared.ensures)
