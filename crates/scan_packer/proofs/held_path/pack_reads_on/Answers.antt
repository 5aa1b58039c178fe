use Rattle.std.proofs.Common.{ℕ, List, length, sym, ap, ◌∙◌, subst}
use Rattle.std.specs.Prelude.{reverse, All, Contains}
use Rattle.ij_bits.specs.Room.{Roomy}
use Rattle.net_graph.specs.Chain.{chain}
use Rattle.net_graph.specs.Resets.{zero_holds}
use Rattle.net_graph.proofs.Shapes.{length-chain_same}
use Rattle.scan_packer.proofs.Rooms.{zero_shape}
use Rattle.scan_packer.proofs.Routes.{is_route}
use Rattle.scan_packer.proofs.held_path.pack_reads_on.Goals as goal

pub fill_reads-requires-clause-route : goal.fill_reads-requires-clause-route
fill_reads-requires-clause-route c =
    is_route c.args.net.now c.args._holds.now c.args.path.now.route.items c.requires.held.path
    c.requires.well_formed c.as_slice-regs.result.now
    (c.as_slice-regs.ensures ∙ ap (λ (l : Roomy ℕ). l.items) c.regs.ensures)

pub fill_reads-requires-clause-count : goal.fill_reads-requires-clause-count
fill_reads-requires-clause-count c =
    let net = c.args.net.now in
    let holds = c.args._holds.now in
    let same = c.as_slice-regs.ensures ∙ ap (λ (l : Roomy ℕ). l.items) c.regs.ensures in
    let path = reverse c.as_slice-regs.result.now in
    let route = is_route net holds c.args.path.now.route.items c.requires.held.path
    c.requires.well_formed c.as_slice-regs.result.now same in
    c.len.ensures ∙ ap length (c.requires.held.bits ∙ ap (λ r. chain (reverse r) holds) (sym same))
    ∙ length-chain_same path holds (zero_holds net)
    (c.requires.holds ∙ sym (zero_shape net path c.requires.well_formed route))

pub fill_reads-requires-clause-on_path : goal.fill_reads-requires-clause-on_path
fill_reads-requires-clause-on_path c =
    subst (λ (path : List ℕ). All (λ r. Contains path r.bit.reg) c.args.reads.now)
    (sym (c.as_slice-regs.ensures ∙ ap (λ (l : Roomy ℕ). l.items) c.regs.ensures)) c.requires.on_path
