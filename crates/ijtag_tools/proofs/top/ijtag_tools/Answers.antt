use Rattle.std.specs.Prelude.{IfSome}
use Rattle.std.proofs.Common.{subst, false, Option}
use Rattle.ij_io.specs.Files.{Files, file_at}
use Rattle.ijtag_work.specs.Ends.{IsRun, seen_in, views, world}
use Rattle.ijtag_work.proofs.ByStatus.{by_status}
use Rattle.ijtag_tools.specs.Command.{Command, command_in, usage_text}
use Rattle.ijtag_tools.specs.Order.{task}
use Rattle.ijtag_tools.specs.Promises.{IsPromised}
use Rattle.ijtag_tools.proofs.Leaving.{tight_done}
use Rattle.ijtag_tools.proofs.Promising.{bounded_in, explained_in}
use Rattle.ijtag_tools.proofs.top.ijtag_tools.Goals as goal

pub returns-clause-run : goal.returns-clause-run
returns-clause-run g c = rw (← c.read_words.ensures) c.run_program.ensures.run

pub returns-clause-tightened : goal.returns-clause-tightened
returns-clause-tightened g c =
    let words : Option Command = command_in c.args.words.now.items in
    let v = views g.S.Shelf.files g.S.Shelf.load_faults g.S.Shelf.store_faults g.O.Sink.taken g.O.Sink.handed
    g.O.Sink.faults g.E.Sink.taken g.E.Sink.faults in
    let old = world c.args.shelf.now c.args.out.now c.args.err.now in
    let new = world c.run_program.new.shelf c.run_program.new.out c.run_program.new.err in
    let run = subst (λ (ws : Option Command). IsRun v task usage_text ws old new c.run_program.result)
    c.read_words.ensures c.run_program.ensures.run in
    λ good.
    tight_done (g.S.Shelf.files c.args.shelf.now) (g.O.Sink.taken c.args.out.now) (seen_in v new) words false
    ((by_status v task usage_text old new c.run_program.result words run).done false good)

pub returns-clause-bounded : goal.returns-clause-bounded
returns-clause-bounded g c =
    let words : Option Command = command_in c.args.words.now.items in
    let files : Option Files = g.S.Shelf.files c.args.shelf.now in
    let file = file_at (g.S.Shelf.files c.run_program.new.shelf) in
    λ good.
    bounded_in files file words false
    (subst (λ (ws : Option Command). IfSome ws (λ command. IsPromised command files file false))
    c.read_words.ensures (c.run_program.ensures.promise false good))

pub returns-clause-explained : goal.returns-clause-explained
returns-clause-explained g c =
    let words : Option Command = command_in c.args.words.now.items in
    let files : Option Files = g.S.Shelf.files c.args.shelf.now in
    let file = file_at (g.S.Shelf.files c.run_program.new.shelf) in
    λ good.
    explained_in files file words false
    (subst (λ (ws : Option Command). IfSome ws (λ command. IsPromised command files file false))
    c.read_words.ensures (c.run_program.ensures.promise false good))
