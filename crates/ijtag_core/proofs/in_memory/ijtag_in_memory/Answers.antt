use Rattle.std.proofs.Common.{arith}
use Rattle.ij_io.specs.SureShelf.{sure_files_in}
use Rattle.ijtag_core.specs.InMemory.{in_memory}
use Rattle.ijtag_work.specs.Command.{command_in}
use Rattle.ijtag_work.specs.Ends.{world}
use Rattle.ijtag_work.specs.Order.{task}
use Rattle.ijtag_work.specs.Stops.{usage_text}
use Rattle.ijtag_work.proofs.ByStatus.{by_status}
use Rattle.ijtag_work.proofs.Statuses.{refuses_sure}
use Rattle.ijtag_core.proofs.Sure.{complete_sure, no_faults}
use Rattle.ijtag_core.proofs.in_memory.ijtag_in_memory.Goals as goal

pub returns-clause-refuses : goal.returns-clause-refuses
returns-clause-refuses c =
    let words = command_in c.args.words.now.items in
    let old = world c.args.shelf.now c.args.out.now c.args.err.now in
    let new = world c.ijtag.new.shelf c.ijtag.new.out c.ijtag.new.err in
    refuses_sure task words (sure_files_in c.args.shelf.now) no_faults c.ijtag.result
    (λ name rose. omega (arith, rose)) (λ name rose. omega (arith, rose))
    (by_status in_memory task usage_text old new c.ijtag.result words c.ijtag.ensures.run).refuses

pub returns-clause-complete : goal.returns-clause-complete
returns-clause-complete c =
    let words = command_in c.args.words.now.items in
    let old = world c.args.shelf.now c.args.out.now c.args.err.now in
    let new = world c.ijtag.new.shelf c.ijtag.new.out c.ijtag.new.err in
    complete_sure task words (sure_files_in c.args.shelf.now) c.ijtag.result
    (by_status in_memory task usage_text old new c.ijtag.result words c.ijtag.ensures.run).complete
