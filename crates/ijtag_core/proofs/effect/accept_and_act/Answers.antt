use Rattle.std.proofs.Common.{◌≡◌, ◌∙◌, subst, ℕ, List, Option, Some}
use Rattle.ij_io.specs.Files.{Files}
use Rattle.ijtag_work.specs.Accepted.{SeenAccepted, Texts, accepted}
use Rattle.ijtag_work.specs.Follows.{seen_texts}
use Rattle.ijtag_work.specs.Inputs.{loads_of, texts_of}
use Rattle.ijtag_work.specs.Loads.{loaded}
use Rattle.ijtag_work.specs.Runs.{Counts, IsPartDone, Seen, counts}
use Rattle.ijtag_work.specs.Seen.{seen_stop}
use Rattle.ijtag_work.specs.Task.{Row, task_of}
use Rattle.ijtag_work.specs.Using.{seen_accepted, seen_named}
use Rattle.ijtag_work.proofs.Late.{begun_in, late_stop}
use Rattle.ijtag_core.proofs.Acting.{none_first, row_gives, row_refuses}
use Rattle.ijtag_core.proofs.effect.accept_and_act.Goals as goal

pub returns-clause-part : goal.returns-clause-part
returns-clause-part g c =
    let files : Option Files = g.S.Shelf.files c.args.shelf.now in
    let mid : Option Files = g.S.Shelf.files c.load.new.shelf in
    let row : Row = g.E.Effect.table_row c.args.effect.now in
    let texts : List (List ℕ) = seen_texts c.in_ok-texts.texts.items in
    let named : Texts = seen_named c.texts.result in
    let it : SeenAccepted = seen_accepted c.in_ok-it.it in
    let read : (loaded files (loads_of row.inputs)).gives texts =
    rw (← c.words-words.ensures) c.in_ok-texts.ensures.follows in
    let is : texts_of row.inputs texts ≡ Some named = rw (← c.words-words.ensures)
    (subst (λ ts. texts_of (g.E.Words.Inputs.named c.words-words.result.now) (seen_texts ts) ≡ Some named)
    c.deref.ensures.value c.texts.ensures.texts) in
    let given : (accepted named).gives it = c.in_ok-it.ensures.follows in
    let old_printed : Option (List ℕ) = g.O.Sink.taken c.args.out.now in
    let now : Seen = record {
      files = g.S.Shelf.files c.act_and_flush.new.shelf;
      printed = g.O.Sink.taken c.act_and_flush.new.out;
    } in
    subst (λ (fs : Option Files). IsPartDone files (task_of row)
    (record { files = fs; printed = old_printed }) now) c.in_ok-texts.ensures.files
    (begun_in files (task_of row) (row.leaves it) (row_gives row files texts named it read is given)
    (record { files = mid; printed = old_printed }) now c.in-Err.ensures.part)

pub returns-clause-stop : goal.returns-clause-stop
returns-clause-stop g c =
    let files : Option Files = g.S.Shelf.files c.args.shelf.now in
    let row : Row = g.E.Effect.table_row c.args.effect.now in
    let texts : List (List ℕ) = seen_texts c.in_ok-texts.texts.items in
    let named : Texts = seen_named c.texts.result in
    let it : SeenAccepted = seen_accepted c.in_ok-it.it in
    let read : (loaded files (loads_of row.inputs)).gives texts =
    rw (← c.words-words.ensures) c.in_ok-texts.ensures.follows in
    let is : texts_of row.inputs texts ≡ Some named = rw (← c.words-words.ensures)
    (subst (λ ts. texts_of (g.E.Words.Inputs.named c.words-words.result.now) (seen_texts ts) ≡ Some named)
    c.deref.ensures.value c.texts.ensures.texts) in
    let given : (accepted named).gives it = c.in_ok-it.ensures.follows in
    let mid : Counts = counts g.S.Shelf.load_faults g.S.Shelf.store_faults g.O.Sink.faults
    c.load.new.shelf c.act_and_flush.new.shelf c.args.out.now c.act_and_flush.new.out in
    late_stop files (task_of row) (row.leaves it) (row_gives row files texts named it read is given)
    (row_refuses row files texts named it read is given)
    (g.S.Shelf.load_faults c.args.shelf.now) (g.S.Shelf.load_faults c.act_and_flush.new.shelf)
    (g.S.Shelf.store_faults c.args.shelf.now) mid c.load.ensures.stores
    (seen_stop c.in-Err.stop) c.in-Err.ensures.stop

pub returns-clause-early : goal.returns-clause-early
returns-clause-early g c =
    let same : g.S.Shelf.files c.load.new.shelf
    ≡ g.S.Shelf.files c.args.shelf.now = c.in_ok-texts.ensures.files in
    λ early. none_first (g.S.Shelf.files c.args.shelf.now) (g.S.Shelf.files c.act_and_flush.new.shelf)
    ((c.in-Err.ensures.early early).0 ∙ same)
