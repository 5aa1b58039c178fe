use Rattle.std.specs.Prelude.{option_map}
use Rattle.std.proofs.Common.{◌≡◌, inl, refl, subst, ℕ, List, Some}
use Rattle.ij_io.specs.Files.{file_at}
use Rattle.ij_io.specs.Pieces.{HoldsPart}
use Rattle.ijtag_work.specs.Accepted.{SeenAccepted}
use Rattle.ijtag_work.specs.Runs.{Counts, Seen, counts, seen}
use Rattle.ijtag_work.specs.Task.{task_of}
use Rattle.ijtag_work.specs.Using.{seen_accepted}
use Rattle.ijtag_core.proofs.Acting.{file_stops, output_stops}
use Rattle.ijtag_tools.specs.Order.{tighten, tightened}
use Rattle.ijtag_tools.specs.Words.{seen_tighten}
use Rattle.ijtag_tools.proofs.Leaving.{can, file_part, line_done, line_part}
use Rattle.ijtag_tools.proofs.tighten.TightenWordsEffect.act.Goals as goal

pub returns-in-Err-clause-stop : goal.returns-in-Err-clause-stop
returns-in-Err-clause-stop g c =
    let name : List ℕ = c.args.self.now.svf.now in
    let it : SeenAccepted = seen_accepted c.args.it.now in
    let k : Counts = counts g.S.Shelf.load_faults g.S.Shelf.store_faults g.O.Sink.faults c.args.shelf.now
    c.write_file.new.shelf c.args.out.now c.args.out.now in
    file_stops (tightened name it) (task_of (tighten (seen_tighten c.args.self.now))) k name c.in-Err.fault
    c.of_file.ensures.stop (λ failed. can name it c.in_ok-found.found c.in_ok-found.ensures)
    (inl refl) c.in-Err.ensures.cause.failed

pub returns-in-Err-clause-part : goal.returns-in-Err-clause-part
returns-in-Err-clause-part g c =
    let name : List ℕ = c.args.self.now.svf.now in
    let it : SeenAccepted = seen_accepted c.args.it.now in
    let old : Seen = seen g.S.Shelf.files g.O.Sink.taken c.args.shelf.now c.args.out.now in
    let new : Seen = seen g.S.Shelf.files g.O.Sink.taken c.write_file.new.shelf c.args.out.now in
    let part : HoldsPart old.files new.files name c.in_ok-found.found.svf =
    subst (λ (b : List ℕ). HoldsPart old.files new.files name b) c.bytes.ensures c.in-Err.ensures.part in
    file_part name it c.in_ok-found.found c.in_ok-found.ensures old new part refl

pub returns-in-Ok-put_costs-clause-done : goal.returns-in-Ok-put_costs-clause-done
returns-in-Ok-put_costs-clause-done g c =
    let name : List ℕ = c.args.self.now.svf.now in
    let it : SeenAccepted = seen_accepted c.args.it.now in
    let old : Seen = seen g.S.Shelf.files g.O.Sink.taken c.args.shelf.now c.args.out.now in
    let new : Seen = seen g.S.Shelf.files g.O.Sink.taken c.write_file.new.shelf c.put_costs.new.out in
    let whole : file_at new.files name ≡ option_map (λ _. Some c.in_ok-found.found.svf) old.files =
    subst (λ (b : List ℕ). file_at new.files name ≡ option_map (λ _. Some b) old.files)
    c.bytes.ensures c.in-Ok.ensures.whole in
    line_done name it c.in_ok-found.found c.in_ok-found.ensures old new whole
    c.in-Ok-put_costs.ensures.printed

pub returns-clause-stop : goal.returns-clause-stop
returns-clause-stop g c =
    let name : List ℕ = c.args.self.now.svf.now in
    let it : SeenAccepted = seen_accepted c.args.it.now in
    let k : Counts = counts g.S.Shelf.load_faults g.S.Shelf.store_faults g.O.Sink.faults c.args.shelf.now
    c.write_file.new.shelf c.args.out.now c.put_costs.new.out in
    output_stops (tightened name it) (task_of (tighten (seen_tighten c.args.self.now))) k
    c.in-Err-put_costs.fault c.of_output.ensures.stop
    (λ failed. can name it c.in_ok-found.found c.in_ok-found.ensures) refl
    c.in-Err-put_costs.ensures.cause.failed

pub returns-clause-part : goal.returns-clause-part
returns-clause-part g c =
    let name : List ℕ = c.args.self.now.svf.now in
    let it : SeenAccepted = seen_accepted c.args.it.now in
    let old : Seen = seen g.S.Shelf.files g.O.Sink.taken c.args.shelf.now c.args.out.now in
    let new : Seen = seen g.S.Shelf.files g.O.Sink.taken c.write_file.new.shelf c.put_costs.new.out in
    let whole : file_at new.files name ≡ option_map (λ _. Some c.in_ok-found.found.svf) old.files =
    subst (λ (b : List ℕ). file_at new.files name ≡ option_map (λ _. Some b) old.files)
    c.bytes.ensures c.in-Ok.ensures.whole in
    line_part name it c.in_ok-found.found c.in_ok-found.ensures old new whole c.in-Err-put_costs.ensures.part
