use Rattle.std.proofs.Common.{◌≡◌, ◌<◌, ◌∙◌, sym, ap, subst, length, arith}
use Rattle.std.proofs.lemmas.List.{get_or-map}
use Rattle.std.proofs.lemmas.List.Elements.{All-get_or}
use Rattle.net_graph.specs.Named.{IsSignalOf, width_of}
use Rattle.net_graph.specs.Nets.{IsReg}
use Rattle.net_graph.proofs.Widths.{register_there}
use Rattle.pdl_meaning.proofs.bits.capture_of.Goals as goal

pub returns-clause-there : goal.returns-clause-there
returns-clause-there c =
    let net = c.args.net.now in
    let b = c.args.bit in
    let reg = c.get.result.now in
    let there = register_there net b c.requires.there in
    let is : IsReg net reg = subst (IsReg net) (sym c.get.ensures)
    (All-get_or (IsReg net) net.regs.items b.reg reg there c.requires.well_formed.regs) in
    let wide : width_of net b.reg ≡ reg.width =
    get_or-map (λ r. r.width) net.regs.items b.reg reg 0 there ∙ ap (λ r. r.width) (sym c.get.ensures) in
    let within : b.pos < length reg.capture.items = omega (arith, c.requires.there, wide, is.captures) in
    subst (IsSignalOf net) (sym c.get-2.ensures)
    (All-get_or (IsSignalOf net) reg.capture.items b.pos c.get-2.result.now within is.signals)
