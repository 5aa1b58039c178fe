use Rattle.std.proofs.Common.{◌≡◌, inl, refl, sym, subst, ℕ, List, ◌++◌, codes, Option}
use Rattle.design_maker.specs.declared.texts.Made.{Made}
use Rattle.ij_io.specs.Files.{Files, file_at}
use Rattle.ij_io.proofs.Adding.{at_refusal}
use Rattle.ijtag_stages.specs.declared.refusal.StageFault.{StageFault}
use Rattle.ijtag_work.specs.Accepted.{SeenAccepted}
use Rattle.ijtag_work.specs.Command.{Make, made_names}
use Rattle.ijtag_work.specs.Leaves.{Written}
use Rattle.ijtag_work.specs.Order.{accepted_made, made_files, make, written_as}
use Rattle.ijtag_work.specs.Runs.{AreFirstWritten, Counts, IsPartDone, IsStop}
use Rattle.ijtag_work.specs.Runs.{Seen, counts}
use Rattle.ijtag_work.specs.Seen.{seen_stop, stop_from, differing}
use Rattle.ijtag_work.specs.Using.{seen_accepted}
use Rattle.ijtag_work.specs.Words.{seen_make}
use Rattle.ijtag_work.specs.Stops.{IsEarly}
use Rattle.ijtag_work.specs.declared.stop.Stop.{Stop as RustStop}
use Rattle.ijtag_core.specs.Files.{AreApart, texts_of}
use Rattle.ijtag_core.proofs.Exits.{at_fault}
use Rattle.ijtag_core.proofs.Making.{accept_early, accept_stop, early_refused, five_change, five_rise}
use Rattle.ijtag_core.proofs.Making.{four_change, four_rise, make_done, make_part, play_not_early, play_stop}
use Rattle.ijtag_core.proofs.Making.{size_stop, write_not_early, write_part, write_stop}
use Rattle.ijtag_core.proofs.Names.{made_apart, svf_apart}
use Rattle.ijtag_work.proofs.Whole.{all_in_turn}
use Rattle.ijtag_core.proofs.Writing.{AreToldAlike, told_whole}
use Rattle.ijtag_core.proofs.make.make.Goals as goal

-- ---- the size is refused

pub returns-in_err-made-clause-stop : goal.returns-in_err-made-clause-stop
returns-in_err-made-clause-stop g c =
    let files : Option Files = g.S.Shelf.files c.args.shelf.now in
    let m : Make = seen_make c.args.words.now in
    let k : Counts = counts g.S.Shelf.load_faults g.S.Shelf.store_faults g.O.Sink.faults c.args.shelf.now
    c.args.shelf.now c.args.out.now c.args.out.now in
    let fault : StageFault = c.in_err-made.field-0.0 in
    at_fault (λ (s : RustStop). IsStop files (make m) k (seen_stop s)) c.from_residual.result
    (stop_from fault) c.from_residual.ensures.1 (size_stop files m k fault c.in_err-made.ensures)

pub returns-in_err-made-clause-early : goal.returns-in_err-made-clause-early
returns-in_err-made-clause-early g c =
    let files : Option Files = g.S.Shelf.files c.args.shelf.now in
    let m : Make = seen_make c.args.words.now in
    let fault : StageFault = c.in_err-made.field-0.0 in
    at_fault (λ (s : RustStop). IsEarly (seen_stop s)
    → AreFirstWritten (made_files m) (made_names m.stem) files files) c.from_residual.result
    (stop_from fault) c.from_residual.ensures.1 (early_refused m files fault c.in_err-made.ensures)

pub returns-in_err-made-clause-part : goal.returns-in_err-made-clause-part
returns-in_err-made-clause-part g c =
    let files : Option Files = g.S.Shelf.files c.args.shelf.now in
    let m : Make = seen_make c.args.words.now in
    let p : Option (List ℕ) = g.O.Sink.taken c.args.out.now in
    let same : Seen = record { files = files; printed = p } in
    let part : IsPartDone files (make m) same same = inl (refl, refl) in
    at_refusal _ part

-- ---- a store of the four files failed

pub write_each-requires : goal.write_each-requires
write_each-requires g c =
    let made : Made = c.in_ok-made.made in
    subst AreApart (sym c.files_of.ensures) (made_apart c.args.words.now.stem.now made.icl.items
    made.pdl.items made.device.items made.tables.items)

pub returns-in_err-write_each-clause-stop : goal.returns-in_err-write_each-clause-stop
returns-in_err-write_each-clause-stop g c =
    let files : Option Files = g.S.Shelf.files c.args.shelf.now in
    let m : Make = seen_make c.args.words.now in
    let ws : List Written = written_as (made_names m.stem) (texts_of c.in_ok-made.made) in
    let given : (made_files m).gives ws = c.in_ok-made.ensures in
    let before : List ℕ → ℕ = g.S.Shelf.store_faults c.args.shelf.now in
    let between : List ℕ → ℕ = g.S.Shelf.store_faults c.write_each.new.shelf in
    let k : Counts = counts g.S.Shelf.load_faults g.S.Shelf.store_faults g.O.Sink.faults c.args.shelf.now
    c.write_each.new.shelf c.args.out.now c.args.out.now in
    let fault : RustStop = c.in_err-write_each.field-0.0 in
    let is = rw c.files_of.ensures at c.in_err-write_each.ensures.stop in
    at_fault (λ (s : RustStop). IsStop files (make m) k (seen_stop s))
    c.from_residual-in_err-write_each.result fault c.from_residual-in_err-write_each.ensures.1
    (write_stop files m ws given k (seen_stop fault) is)

pub returns-in_err-write_each-clause-early : goal.returns-in_err-write_each-clause-early
returns-in_err-write_each-clause-early g c =
    let files : Option Files = g.S.Shelf.files c.args.shelf.now in
    let m : Make = seen_make c.args.words.now in
    let mid : Option Files = g.S.Shelf.files c.write_each.new.shelf in
    let before : List ℕ → ℕ = g.S.Shelf.store_faults c.args.shelf.now in
    let between : List ℕ → ℕ = g.S.Shelf.store_faults c.write_each.new.shelf in
    let fault : RustStop = c.in_err-write_each.field-0.0 in
    let is = rw c.files_of.ensures at c.in_err-write_each.ensures.stop in
    let told : IsEarly (seen_stop fault) → AreFirstWritten (made_files m) (made_names m.stem) files mid =
    λ early. absurd (write_not_early (made_names m.stem) before between (seen_stop fault) is early) in
    at_fault (λ (s : RustStop). IsEarly (seen_stop s)
    → AreFirstWritten (made_files m) (made_names m.stem) files mid)
    c.from_residual-in_err-write_each.result fault c.from_residual-in_err-write_each.ensures.1 told

pub returns-in_err-write_each-clause-part : goal.returns-in_err-write_each-clause-part
returns-in_err-write_each-clause-part g c =
    let files : Option Files = g.S.Shelf.files c.args.shelf.now in
    let m : Make = seen_make c.args.words.now in
    let ws : List Written = written_as (made_names m.stem) (texts_of c.in_ok-made.made) in
    let given : (made_files m).gives ws = c.in_ok-made.ensures in
    let mid : Option Files = g.S.Shelf.files c.write_each.new.shelf in
    let p : Option (List ℕ) = g.O.Sink.taken c.args.out.now in
    let turn = rw c.files_of.ensures at c.in_err-write_each.ensures.part in
    let four = rw c.files_of.ensures at c.write_each.ensures.others in
    let part : IsPartDone files (make m) (record { files = files; printed = p })
    (record { files = mid; printed = p }) = write_part files m ws given mid p turn four in
    at_refusal _ part

pub returns-in_err-write_each-clause-files : goal.returns-in_err-write_each-clause-files
returns-in_err-write_each-clause-files g c =
    let files : Option Files = g.S.Shelf.files c.args.shelf.now in
    let m : Make = seen_make c.args.words.now in
    let mid : Option Files = g.S.Shelf.files c.write_each.new.shelf in
    let four = rw c.files_of.ensures at c.write_each.ensures.others in
    four_change m files mid four

pub returns-in_err-write_each-clause-stores : goal.returns-in_err-write_each-clause-stores
returns-in_err-write_each-clause-stores g c =
    let m : Make = seen_make c.args.words.now in
    let before : List ℕ → ℕ = g.S.Shelf.store_faults c.args.shelf.now in
    let between : List ℕ → ℕ = g.S.Shelf.store_faults c.write_each.new.shelf in
    let rise = rw c.files_of.ensures at c.write_each.ensures.stores in
    four_rise m before between rise

-- ---- the texts are refused

pub returns-in_err-it-clause-stop : goal.returns-in_err-it-clause-stop
returns-in_err-it-clause-stop g c =
    let files : Option Files = g.S.Shelf.files c.args.shelf.now in
    let m : Make = seen_make c.args.words.now in
    let ws : List Written = written_as (made_names m.stem) (texts_of c.in_ok-made.made) in
    let given : (made_files m).gives ws = c.in_ok-made.ensures in
    let k : Counts = counts g.S.Shelf.load_faults g.S.Shelf.store_faults g.O.Sink.faults c.args.shelf.now
    c.write_each.new.shelf c.args.out.now c.args.out.now in
    let fault : StageFault = c.in_err-it.field-0.0 in
    at_fault (λ (s : RustStop). IsStop files (make m) k (seen_stop s)) c.from_residual-in_err-it.result
    (stop_from fault) c.from_residual-in_err-it.ensures.1
    (accept_stop files m ws given k fault c.in_err-it.ensures.follows)

pub returns-in_err-it-clause-early : goal.returns-in_err-it-clause-early
returns-in_err-it-clause-early g c =
    let files : Option Files = g.S.Shelf.files c.args.shelf.now in
    let m : Make = seen_make c.args.words.now in
    let ws : List Written = written_as (made_names m.stem) (texts_of c.in_ok-made.made) in
    let given : (made_files m).gives ws = c.in_ok-made.ensures in
    let mid : Option Files = g.S.Shelf.files c.write_each.new.shelf in
    let whole = rw c.files_of.ensures at c.in_ok-write_each.ensures.whole in
    let fault : StageFault = c.in_err-it.field-0.0 in
    let four = rw c.files_of.ensures at c.write_each.ensures.others in
    let told : IsEarly (seen_stop (stop_from fault))
    → AreFirstWritten (made_files m) (made_names m.stem) files mid =
    λ early. accept_early files m ws given mid whole four in
    at_fault (λ (s : RustStop). IsEarly (seen_stop s)
    → AreFirstWritten (made_files m) (made_names m.stem) files mid) c.from_residual-in_err-it.result
    (stop_from fault) c.from_residual-in_err-it.ensures.1 told

pub returns-in_err-it-clause-part : goal.returns-in_err-it-clause-part
returns-in_err-it-clause-part g c =
    let files : Option Files = g.S.Shelf.files c.args.shelf.now in
    let m : Make = seen_make c.args.words.now in
    let ws : List Written = written_as (made_names m.stem) (texts_of c.in_ok-made.made) in
    let given : (made_files m).gives ws = c.in_ok-made.ensures in
    let mid : Option Files = g.S.Shelf.files c.write_each.new.shelf in
    let whole = rw c.files_of.ensures at c.in_ok-write_each.ensures.whole in
    let four = rw c.files_of.ensures at c.write_each.ensures.others in
    let p : Option (List ℕ) = g.O.Sink.taken c.args.out.now in
    let part : IsPartDone files (make m) (record { files = files; printed = p })
    (record { files = mid; printed = p }) =
    write_part files m ws given mid p (all_in_turn ws files mid whole) four in
    at_refusal _ part

pub returns-in_err-it-clause-files : goal.returns-in_err-it-clause-files
returns-in_err-it-clause-files g c =
    let files : Option Files = g.S.Shelf.files c.args.shelf.now in
    let m : Make = seen_make c.args.words.now in
    let mid : Option Files = g.S.Shelf.files c.write_each.new.shelf in
    let four = rw c.files_of.ensures at c.write_each.ensures.others in
    four_change m files mid four

pub returns-in_err-it-clause-stores : goal.returns-in_err-it-clause-stores
returns-in_err-it-clause-stores g c =
    let m : Make = seen_make c.args.words.now in
    let before : List ℕ → ℕ = g.S.Shelf.store_faults c.args.shelf.now in
    let between : List ℕ → ℕ = g.S.Shelf.store_faults c.write_each.new.shelf in
    let rise = rw c.files_of.ensures at c.write_each.ensures.stores in
    four_rise m before between rise

-- ---- all is done

pub returns-in-Ok-clause-done : goal.returns-in-Ok-clause-done
returns-in-Ok-clause-done g c =
    let files : Option Files = g.S.Shelf.files c.args.shelf.now in
    let m : Make = seen_make c.args.words.now in
    let ws : List Written = written_as (made_names m.stem) (texts_of c.in_ok-made.made) in
    let given : (made_files m).gives ws = c.in_ok-made.ensures in
    let mid : Option Files = g.S.Shelf.files c.write_each.new.shelf in
    let new : Option Files = g.S.Shelf.files c.write_and_play.new.shelf in
    let whole = rw c.files_of.ensures at c.in_ok-write_each.ensures.whole in
    let it : SeenAccepted = seen_accepted c.in_ok-it.it in
    let is : (accepted_made ws).gives it = c.in_ok-it.ensures.follows in
    let svf : List ℕ = m.stem ++ codes ".svf" in
    let icl : Written = record { name = m.stem ++ codes ".icl"; bytes = c.in_ok-made.made.icl.items } in
    let alike : AreToldAlike files mid = told_whole files mid icl whole.0 in
    let four = rw c.files_of.ensures at c.write_each.ensures.others in
    let stays : file_at mid svf ≡ file_at files svf = four svf (svf_apart m.stem) in
    let p : Option (List ℕ) = g.O.Sink.taken c.args.out.now in
    let q : Option (List ℕ) = g.O.Sink.taken c.write_and_play.new.out in
    make_done files m ws given it is mid new whole alike stays (svf_apart m.stem)
    c.write_and_play.ensures.others p q (differing c.in-Ok.verdict) c.in-Ok.ensures.done

pub returns-in-Ok-clause-files : goal.returns-in-Ok-clause-files
returns-in-Ok-clause-files g c =
    let files : Option Files = g.S.Shelf.files c.args.shelf.now in
    let m : Make = seen_make c.args.words.now in
    let mid : Option Files = g.S.Shelf.files c.write_each.new.shelf in
    let new : Option Files = g.S.Shelf.files c.write_and_play.new.shelf in
    let four = rw c.files_of.ensures at c.write_each.ensures.others in
    five_change m files mid new four c.write_and_play.ensures.others

pub returns-in-Ok-clause-stores : goal.returns-in-Ok-clause-stores
returns-in-Ok-clause-stores g c =
    let m : Make = seen_make c.args.words.now in
    let before : List ℕ → ℕ = g.S.Shelf.store_faults c.args.shelf.now in
    let between : List ℕ → ℕ = g.S.Shelf.store_faults c.write_each.new.shelf in
    let now : List ℕ → ℕ = g.S.Shelf.store_faults c.write_and_play.new.shelf in
    let rise = rw c.files_of.ensures at c.write_each.ensures.stores in
    five_rise m before between now rise c.write_and_play.ensures.stores

-- ---- a store of the SVF file failed, or a write of the line

pub returns-clause-stop : goal.returns-clause-stop
returns-clause-stop g c =
    let files : Option Files = g.S.Shelf.files c.args.shelf.now in
    let m : Make = seen_make c.args.words.now in
    let ws : List Written = written_as (made_names m.stem) (texts_of c.in_ok-made.made) in
    let given : (made_files m).gives ws = c.in_ok-made.ensures in
    let it : SeenAccepted = seen_accepted c.in_ok-it.it in
    let is : (accepted_made ws).gives it = c.in_ok-it.ensures.follows in
    let svf : List ℕ = m.stem ++ codes ".svf" in
    let before : List ℕ → ℕ = g.S.Shelf.store_faults c.args.shelf.now in
    let between : List ℕ → ℕ = g.S.Shelf.store_faults c.write_each.new.shelf in
    let rise = rw c.files_of.ensures at c.write_each.ensures.stores in
    let k : Counts = counts g.S.Shelf.load_faults g.S.Shelf.store_faults g.O.Sink.faults
    c.write_each.new.shelf c.write_and_play.new.shelf c.args.out.now c.write_and_play.new.out in
    let same : between svf ≡ before svf = rise svf (svf_apart m.stem) in
    play_stop files m ws given it is (g.S.Shelf.load_faults c.args.shelf.now)
    (g.S.Shelf.load_faults c.write_and_play.new.shelf) before k same
    (seen_stop c.in-Err.stop) c.in-Err.ensures.stop

pub returns-clause-early : goal.returns-clause-early
returns-clause-early g c =
    let m : Make = seen_make c.args.words.now in
    let it : SeenAccepted = seen_accepted c.in_ok-it.it in
    let svf : List ℕ = m.stem ++ codes ".svf" in
    let k : Counts = counts g.S.Shelf.load_faults g.S.Shelf.store_faults g.O.Sink.faults
    c.write_each.new.shelf c.write_and_play.new.shelf c.args.out.now c.write_and_play.new.out in
    λ early. absurd (play_not_early it svf k (seen_stop c.in-Err.stop) c.in-Err.ensures.stop early)

pub returns-clause-silent : goal.returns-clause-silent
returns-clause-silent g c =
    let m : Make = seen_make c.args.words.now in
    let it : SeenAccepted = seen_accepted c.in_ok-it.it in
    let svf : List ℕ = m.stem ++ codes ".svf" in
    let k : Counts = counts g.S.Shelf.load_faults g.S.Shelf.store_faults g.O.Sink.faults
    c.write_each.new.shelf c.write_and_play.new.shelf c.args.out.now c.write_and_play.new.out in
    λ early. absurd (play_not_early it svf k (seen_stop c.in-Err.stop) c.in-Err.ensures.stop early)

pub returns-clause-part : goal.returns-clause-part
returns-clause-part g c =
    let files : Option Files = g.S.Shelf.files c.args.shelf.now in
    let m : Make = seen_make c.args.words.now in
    let ws : List Written = written_as (made_names m.stem) (texts_of c.in_ok-made.made) in
    let given : (made_files m).gives ws = c.in_ok-made.ensures in
    let mid : Option Files = g.S.Shelf.files c.write_each.new.shelf in
    let new : Option Files = g.S.Shelf.files c.write_and_play.new.shelf in
    let whole = rw c.files_of.ensures at c.in_ok-write_each.ensures.whole in
    let it : SeenAccepted = seen_accepted c.in_ok-it.it in
    let is : (accepted_made ws).gives it = c.in_ok-it.ensures.follows in
    let svf : List ℕ = m.stem ++ codes ".svf" in
    let icl : Written = record { name = m.stem ++ codes ".icl"; bytes = c.in_ok-made.made.icl.items } in
    let alike : AreToldAlike files mid = told_whole files mid icl whole.0 in
    let four = rw c.files_of.ensures at c.write_each.ensures.others in
    let stays : file_at mid svf ≡ file_at files svf = four svf (svf_apart m.stem) in
    let p : Option (List ℕ) = g.O.Sink.taken c.args.out.now in
    let q : Option (List ℕ) = g.O.Sink.taken c.write_and_play.new.out in
    make_part files m ws given it is mid new whole alike stays
    (svf_apart m.stem) c.write_and_play.ensures.others p q four c.in-Err.ensures.part

pub returns-clause-files : goal.returns-clause-files
returns-clause-files g c =
    let files : Option Files = g.S.Shelf.files c.args.shelf.now in
    let m : Make = seen_make c.args.words.now in
    let mid : Option Files = g.S.Shelf.files c.write_each.new.shelf in
    let new : Option Files = g.S.Shelf.files c.write_and_play.new.shelf in
    let four = rw c.files_of.ensures at c.write_each.ensures.others in
    five_change m files mid new four c.write_and_play.ensures.others

pub returns-clause-stores : goal.returns-clause-stores
returns-clause-stores g c =
    let m : Make = seen_make c.args.words.now in
    let before : List ℕ → ℕ = g.S.Shelf.store_faults c.args.shelf.now in
    let between : List ℕ → ℕ = g.S.Shelf.store_faults c.write_each.new.shelf in
    let now : List ℕ → ℕ = g.S.Shelf.store_faults c.write_and_play.new.shelf in
    let rise = rw c.files_of.ensures at c.write_each.ensures.stores in
    five_rise m before between now rise c.write_and_play.ensures.stores
