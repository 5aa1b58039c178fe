use Rattle.std.specs.Prelude.{option_map}
use Rattle.std.proofs.Common.{◌≡◌, ◌∙◌, refl, subst, ℕ, false, List, Some}
use Rattle.ij_io.specs.Files.{file_at}
use Rattle.ij_io.specs.Pieces.{HoldsPart}
use Rattle.ijtag_stages.specs.Work.{give}
use Rattle.ijtag_work.specs.Order.{filed}
use Rattle.ijtag_work.specs.Using.{seen_accepted}
use Rattle.ijtag_work.proofs.Ends.{file_done, file_part}
use Rattle.ijtag_tools.specs.Order.{first_drawing}
use Rattle.ijtag_tools.proofs.picture.PictureWordsEffect.act.Goals as goal

pub returns-clause-part : goal.returns-clause-part
returns-clause-part g c =
    let name : List ℕ = c.args.self.now.picture.now in
    let bytes : List ℕ = first_drawing (seen_accepted c.args.it.now) in
    let old = g.S.Shelf.files c.args.shelf.now in
    let new = g.S.Shelf.files c.write_file.new.shelf in
    let same : c.bytes.result.now ≡ bytes = c.bytes.ensures ∙ c.in_ok-text.ensures in
    file_part (give (filed name bytes)) old new (g.O.Sink.taken c.args._out.now) name bytes false refl
    (subst (λ (b : List ℕ). HoldsPart old new name b) same c.in-Err.ensures.part)

pub returns-in-Ok-clause-done : goal.returns-in-Ok-clause-done
returns-in-Ok-clause-done g c =
    let name : List ℕ = c.args.self.now.picture.now in
    let bytes : List ℕ = first_drawing (seen_accepted c.args.it.now) in
    let old = g.S.Shelf.files c.args.shelf.now in
    let new = g.S.Shelf.files c.write_file.new.shelf in
    let same : c.bytes.result.now ≡ bytes = c.bytes.ensures ∙ c.in_ok-text.ensures in
    file_done (give (filed name bytes)) old new (g.O.Sink.taken c.args._out.now) name bytes false refl
    (subst (λ (b : List ℕ). file_at new name ≡ option_map (λ _. Some b) old) same c.in-Ok.ensures.whole)
