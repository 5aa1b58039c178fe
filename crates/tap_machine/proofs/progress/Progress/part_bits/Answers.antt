use Rattle.std.proofs.Common.{◌≡◌, ◌+◌, ◌∙◌, List, Bool, [], ap, sym, length, slice_range, arith}
use Rattle.std.specs.Prelude.{replicate, unwrap_or}
use Rattle.svf_writer.specs.Lent.{lent}
use Rattle.tap_machine.proofs.Pieces.{bits_of_part, length-part, part-replicate}
use Rattle.tap_machine.proofs.Shifts.{has_length}
use Rattle.tap_machine.proofs.progress.Progress.part_bits.Goals as goal

pub returns-in-Some : goal.returns-in-Some
returns-in-Some c =
    let bits : List Bool = unwrap_or c.in-Some.part.now [] in
    let k = c.args.k in
    let n = c.args.n in
    let len = c.args.self.now.scan.len in
    let long : length bits ≡ len =
    has_length len (lent c.args.part) bits c.requires.sound (ap lent c.in-Some.is) in
    bits_of_part n c.number.result (slice_range bits k (k + n))
    (length-part bits k n (omega (arith, long, c.requires.within))) c.number.ensures
    ∙ ap (λ o. slice_range (unwrap_or (lent o) (replicate len c.args.value)) k (k + n)) (sym c.in-Some.is)

pub returns-in-None : goal.returns-in-None
returns-in-None c =
    let len = c.args.self.now.scan.len in
    c.same_bits.ensures ∙ sym (part-replicate len c.args.k c.args.n c.args.value c.requires.within)
    ∙ ap (λ o. slice_range (unwrap_or (lent o) (replicate len c.args.value)) c.args.k (c.args.k + c.args.n))
    (sym c.in-None.is)
