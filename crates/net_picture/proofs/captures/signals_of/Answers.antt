use Rattle.std.proofs.Common.{sym, subst}
use Rattle.std.specs.Prelude.{All}
use Rattle.std.proofs.lemmas.List.Elements.{All-get_or}
use Rattle.net_graph.specs.Named.{IsSignalOf}
use Rattle.net_graph.specs.Nets.{IsReg}
use Rattle.net_picture.proofs.captures.signals_of.Goals as goal

pub returns-clause-there : goal.returns-clause-there
returns-clause-there c =
    let net = c.args.net.now in
    let reg = c.get.result.now in
    let is : IsReg net reg = subst (IsReg net) (sym c.get.ensures)
    (All-get_or (IsReg net) net.regs.items c.args.reg reg c.requires.there c.requires.well_formed.regs) in
    subst (All (IsSignalOf net)) (sym c.as_slice.ensures) is.signals
