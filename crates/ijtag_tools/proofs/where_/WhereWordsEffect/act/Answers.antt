use Rattle.std.proofs.Common.{◌≡◌, ◌∙◌, refl, subst, ℕ, Bool, List, Option}
use Rattle.ij_io.specs.Bytes.{Adds, AddsPart}
use Rattle.ijtag_work.specs.Accepted.{SeenAccepted}
use Rattle.ijtag_work.specs.Order.{told}
use Rattle.ijtag_work.specs.Runs.{Counts, counts}
use Rattle.ijtag_work.specs.Seen.{differing}
use Rattle.ijtag_work.specs.Task.{task_of}
use Rattle.ijtag_work.specs.Using.{seen_accepted}
use Rattle.ijtag_work.proofs.Ends.{told_done, told_part}
use Rattle.ijtag_core.proofs.Acting.{output_stops}
use Rattle.ijtag_tools.specs.Order.{look_up, looked_up, place_line}
use Rattle.ijtag_tools.specs.Words.{seen_where}
use Rattle.ijtag_tools.proofs.where_.WhereWordsEffect.act.Goals as goal

pub returns-in-Ok-clause-done : goal.returns-in-Ok-clause-done
returns-in-Ok-clause-done g c =
    let scan : ℕ = c.args.self.now.scan in
    let bit : ℕ = c.args.self.now.bit in
    let it : SeenAccepted = seen_accepted c.args.it.now in
    let differs : Bool = differing c.in_ok-place.place.verdict in
    let old : Option (List ℕ) = g.O.Sink.taken c.args.out.now in
    let new : Option (List ℕ) = g.O.Sink.taken c.write.new.self in
    let line : c.bytes.result.now ≡ place_line scan bit it = c.bytes.ensures ∙ c.in_ok-place.ensures.line in
    told_done (looked_up scan bit it) (g.S.Shelf.files c.args._shelf.now) old new
    (place_line scan bit it) differs (differs, c.in_ok-place.ensures.answer, refl) differs
    (subst (λ (b : List ℕ). Adds old new b) line c.in-Ok.ensures.whole) refl

pub returns-clause-stop : goal.returns-clause-stop
returns-clause-stop g c =
    let scan : ℕ = c.args.self.now.scan in
    let bit : ℕ = c.args.self.now.bit in
    let it : SeenAccepted = seen_accepted c.args.it.now in
    let differs : Bool = differing c.in_ok-place.place.verdict in
    let k : Counts = counts g.S.Shelf.load_faults g.S.Shelf.store_faults g.O.Sink.faults c.args._shelf.now
    c.args._shelf.now c.args.out.now c.write.new.self in
    output_stops (looked_up scan bit it) (task_of (look_up (seen_where c.args.self.now))) k c.in-Err.fault
    c.of_output.ensures.stop
    (λ failed. (told (place_line scan bit it) differs, (differs, c.in_ok-place.ensures.answer, refl)))
    refl c.in-Err.ensures.cause.failed

pub returns-clause-part : goal.returns-clause-part
returns-clause-part g c =
    let scan : ℕ = c.args.self.now.scan in
    let bit : ℕ = c.args.self.now.bit in
    let it : SeenAccepted = seen_accepted c.args.it.now in
    let differs : Bool = differing c.in_ok-place.place.verdict in
    let old : Option (List ℕ) = g.O.Sink.taken c.args.out.now in
    let new : Option (List ℕ) = g.O.Sink.taken c.write.new.self in
    let line : c.bytes.result.now ≡ place_line scan bit it = c.bytes.ensures ∙ c.in_ok-place.ensures.line in
    told_part (looked_up scan bit it) (g.S.Shelf.files c.args._shelf.now) old new
    (place_line scan bit it) differs (differs, c.in_ok-place.ensures.answer, refl)
    (subst (λ (b : List ℕ). AddsPart old new b) line c.in-Err.ensures.part)
