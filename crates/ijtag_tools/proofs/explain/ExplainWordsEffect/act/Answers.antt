use Rattle.std.proofs.Common.{refl, false, ℕ, List}
use Rattle.ijtag_work.specs.Accepted.{SeenAccepted}
use Rattle.ijtag_work.specs.Using.{seen_accepted}
use Rattle.ijtag_work.proofs.Ends.{file_part}
use Rattle.ijtag_tools.specs.Order.{explained, explained_of}
use Rattle.ijtag_tools.proofs.explain.ExplainWordsEffect.act.Goals as goal

pub returns-in-Err-clause-part : goal.returns-in-Err-clause-part
returns-in-Err-clause-part g c =
    let name : List ℕ = c.args.self.now.new_svf.now in
    let it : SeenAccepted = seen_accepted c.args.it.now in
    file_part (explained name it) (g.S.Shelf.files c.args.shelf.now)
    (g.S.Shelf.files c.write_notes.new.shelf) (g.O.Sink.taken c.args._out.now)
    name (explained_of it) false (tt, c.in_ok-check_length.ensures, refl) c.in-Err.ensures.part
