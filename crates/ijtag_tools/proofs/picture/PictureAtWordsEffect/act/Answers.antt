use Rattle.std.specs.Prelude.{option_map}
use Rattle.std.proofs.Common.{◌≡◌, ◌∙◌, inl, refl, subst, ℕ, false, List, Some}
use Rattle.ij_io.specs.Files.{file_at}
use Rattle.ij_io.specs.Pieces.{HoldsPart}
use Rattle.ijtag_work.specs.Accepted.{SeenAccepted}
use Rattle.ijtag_work.specs.Using.{seen_accepted}
use Rattle.ijtag_work.specs.Order.{filed}
use Rattle.ijtag_work.specs.Runs.{Counts, counts}
use Rattle.ijtag_work.specs.Task.{task_of}
use Rattle.ijtag_work.proofs.Ends.{file_done, file_part}
use Rattle.ijtag_core.proofs.Acting.{file_stops}
use Rattle.ijtag_tools.specs.Command.{PictureAt}
use Rattle.ijtag_tools.specs.Order.{drawing_of, picture_at, pictured_at}
use Rattle.ijtag_tools.specs.Words.{seen_picture_at}
use Rattle.ijtag_tools.proofs.picture.PictureAtWordsEffect.act.Goals as goal

pub returns-clause-part : goal.returns-clause-part
returns-clause-part g c =
    let name : List ℕ = c.args.self.now.picture.now in
    let bytes : List ℕ = drawing_of c.args.self.now.format
    (seen_accepted c.args.it.now) c.in_ok-holds.holds in
    let old = g.S.Shelf.files c.args.shelf.now in
    let new = g.S.Shelf.files c.write_file.new.shelf in
    let same : c.bytes.result.now ≡ bytes = c.bytes.ensures ∙ c.in_ok-text.ensures in
    file_part (pictured_at (seen_picture_at c.args.self.now) (seen_accepted c.args.it.now)) old new
    (g.O.Sink.taken c.args._out.now) name bytes false
    (c.in_ok-holds.holds, c.in_ok-holds.ensures.held, refl)
    (subst (λ (b : List ℕ). HoldsPart old new name b) same c.in-Err.ensures.part)

pub returns-in-Ok-clause-done : goal.returns-in-Ok-clause-done
returns-in-Ok-clause-done g c =
    let name : List ℕ = c.args.self.now.picture.now in
    let bytes : List ℕ = drawing_of c.args.self.now.format
    (seen_accepted c.args.it.now) c.in_ok-holds.holds in
    let old = g.S.Shelf.files c.args.shelf.now in
    let new = g.S.Shelf.files c.write_file.new.shelf in
    let same : c.bytes.result.now ≡ bytes = c.bytes.ensures ∙ c.in_ok-text.ensures in
    file_done (pictured_at (seen_picture_at c.args.self.now) (seen_accepted c.args.it.now)) old new
    (g.O.Sink.taken c.args._out.now) name bytes false
    (c.in_ok-holds.holds, c.in_ok-holds.ensures.held, refl)
    (subst (λ (b : List ℕ). file_at new name ≡ option_map (λ _. Some b) old) same c.in-Ok.ensures.whole)

pub returns-clause-stop : goal.returns-clause-stop
returns-clause-stop g c =
    let p : PictureAt = seen_picture_at c.args.self.now in
    let it : SeenAccepted = seen_accepted c.args.it.now in
    let k : Counts = counts g.S.Shelf.load_faults g.S.Shelf.store_faults g.O.Sink.faults c.args.shelf.now
    c.write_file.new.shelf c.args._out.now c.args._out.now in
    file_stops (pictured_at p it) (task_of (picture_at p)) k p.new c.in-Err.fault
    c.of_file.ensures.stop (λ failed. (
      filed p.new (drawing_of p.format it c.in_ok-holds.holds),
      (c.in_ok-holds.holds, c.in_ok-holds.ensures.held, refl),
    )) (inl refl) c.in-Err.ensures.cause.failed
