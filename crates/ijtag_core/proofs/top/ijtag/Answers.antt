use Rattle.std.specs.Prelude.{IfSome}
use Rattle.std.proofs.Common.{ℕ, List, subst, false, Option}
use Rattle.ij_io.specs.Files.{Files, file_at}
use Rattle.ijtag_work.specs.Audited.{IsPromised}
use Rattle.ijtag_work.specs.Command.{Command, command_in}
use Rattle.ijtag_work.specs.Ends.{IsRun, seen_in, views, world}
use Rattle.ijtag_work.specs.Order.{task}
use Rattle.ijtag_work.specs.Runs.{counts}
use Rattle.ijtag_work.specs.Stops.{usage_text}
use Rattle.ijtag_work.proofs.Audits.{own_good}
use Rattle.ijtag_work.proofs.ByStatus.{by_status}
use Rattle.ijtag_core.proofs.Headlines.{audit_right, leaves_right, test_right}
use Rattle.ijtag_core.proofs.top.ijtag.Goals as goal

pub returns-clause-run : goal.returns-clause-run
returns-clause-run g c = rw (← c.read_words.ensures) c.run_program.ensures.run

pub returns-clause-headline : goal.returns-clause-headline
returns-clause-headline g c =
    let words : Option Command = command_in c.args.words.now.items in
    let v = views g.S.Shelf.files g.S.Shelf.load_faults g.S.Shelf.store_faults g.O.Sink.taken g.O.Sink.handed
    g.O.Sink.faults g.E.Sink.taken g.E.Sink.faults in
    let old = world c.args.shelf.now c.args.out.now c.args.err.now in
    let new = world c.run_program.new.shelf c.run_program.new.out c.run_program.new.err in
    let run = subst (λ (ws : Option Command). IsRun v task usage_text ws old new c.run_program.result)
    c.read_words.ensures c.run_program.ensures.run in
    λ differs ends.
    leaves_right (g.S.Shelf.files c.args.shelf.now) (g.O.Sink.taken c.args.out.now)
    (seen_in v new) differs c.runs_differ_alike.ensures words
    ((by_status v task usage_text old new c.run_program.result words run).done differs ends)

pub returns-clause-own_text : goal.returns-clause-own_text
returns-clause-own_text g c =
    let words : Option Command = command_in c.args.words.now.items in
    let v = views g.S.Shelf.files g.S.Shelf.load_faults g.S.Shelf.store_faults g.O.Sink.taken g.O.Sink.handed
    g.O.Sink.faults g.E.Sink.taken g.E.Sink.faults in
    let old = world c.args.shelf.now c.args.out.now c.args.err.now in
    let new = world c.run_program.new.shelf c.run_program.new.out c.run_program.new.err in
    let run = subst (λ (ws : Option Command). IsRun v task usage_text ws old new c.run_program.result)
    c.read_words.ensures c.run_program.ensures.run in
    own_good c.own_texts_pass.ensures.files words (g.S.Shelf.files c.args.shelf.now)
    (counts g.S.Shelf.load_faults g.S.Shelf.store_faults g.O.Sink.faults c.args.shelf.now
    c.run_program.new.shelf c.args.out.now c.run_program.new.out) c.run_program.result
    (by_status v task usage_text old new c.run_program.result words run).complete

pub returns-clause-tested : goal.returns-clause-tested
returns-clause-tested g c =
    let words : Option Command = command_in c.args.words.now.items in
    let files : Option Files = g.S.Shelf.files c.args.shelf.now in
    let file : List ℕ → Option (Option (List ℕ)) = file_at (g.S.Shelf.files c.run_program.new.shelf) in
    λ good.
    test_right files file words
    (subst (λ (ws : Option Command). IfSome ws (λ command. IsPromised command files file false))
    c.read_words.ensures (c.run_program.ensures.promise false good))

pub returns-clause-audited : goal.returns-clause-audited
returns-clause-audited g c =
    let words : Option Command = command_in c.args.words.now.items in
    let files : Option Files = g.S.Shelf.files c.args.shelf.now in
    let file : List ℕ → Option (Option (List ℕ)) = file_at (g.S.Shelf.files c.run_program.new.shelf) in
    λ good.
    audit_right files file words
    (subst (λ (ws : Option Command). IfSome ws (λ command. IsPromised command files file false))
    c.read_words.ensures (c.run_program.ensures.promise false good))
