use Rattle.std.proofs.Common.{◌<◌, length, arith, sym, subst}
use Rattle.std.proofs.lemmas.List.Elements.{All-get_or}
use Rattle.net_graph.specs.Named.{IsSignalOf}
use Rattle.net_graph.specs.Nets.{IsReg}
use Rattle.net_graph.proofs.Widths.{register_there}
use Rattle.svf_notes.proofs.Rows.{width_at}
use Rattle.svf_notes.proofs.place.capture_of.Goals as goal

pub returns-clause-there : goal.returns-clause-there
returns-clause-there c =
    let net = c.args.net.now in
    let regs = net.regs.items in
    let b = c.args.bit in
    let reg = c.get.result.now in
    let there = register_there net b c.requires.there in
    let is : IsReg net reg = subst (IsReg net) (sym c.get.ensures)
    (All-get_or (IsReg net) regs b.reg reg there c.requires.well_formed.regs) in
    let within : b.pos < length reg.capture.items =
    omega (arith, c.requires.there, width_at regs b.reg reg there c.get.ensures, is.captures) in
    subst (IsSignalOf net) (sym c.get-2.ensures)
    (All-get_or (IsSignalOf net) reg.capture.items b.pos c.get-2.result.now within is.signals)
