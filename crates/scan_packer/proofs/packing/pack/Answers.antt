use Rattle.std.proofs.Common.{ℕ, length, refl, sym, ap, ◌∙◌}
use Rattle.std.specs.Prelude.{reverse}
use Rattle.ij_bits.specs.Room.{Roomy}
use Rattle.net_graph.specs.Chain.{chain}
use Rattle.net_graph.specs.Resets.{zero_holds}
use Rattle.net_graph.proofs.Shapes.{length-chain_same}
use Rattle.net_tree.specs.ScanPlans.{seen_plan}
use Rattle.scan_packer.proofs.Flushing.{as_long}
use Rattle.scan_packer.proofs.Rooms.{reads_on, zero_shape}
use Rattle.scan_packer.proofs.Routes.{is_route, can_pack}
use Rattle.scan_packer.proofs.packing.pack.Goals as goal

pub fill_reads-requires-clause-route : goal.fill_reads-requires-clause-route
fill_reads-requires-clause-route c =
    is_route c.args.net.now c.args.holds.now c.pack_tdi.new.route.items c.pack_tdi.ensures.path
    c.requires.well_formed c.as_slice-path.result.now
    (c.as_slice-path.ensures ∙ ap (λ (l : Roomy ℕ). l.items) c.regs.ensures)

pub fill_reads-requires-clause-count : goal.fill_reads-requires-clause-count
fill_reads-requires-clause-count c =
    let net = c.args.net.now in
    let holds = c.args.holds.now in
    let route = c.pack_tdi.new.route.items in
    let path = c.as_slice-path.result.now in
    let same = c.as_slice-path.ensures ∙ ap (λ (l : Roomy ℕ). l.items) c.regs.ensures in
    let r = is_route net holds route c.pack_tdi.ensures.path c.requires.well_formed path same in
    let held = can_pack net holds route c.pack_tdi.ensures.path path (seen_plan c.args.plan.now)
    c.args.plan.now.writes.items c.args.plan.now.reads.items c.requires.plan same refl refl in
    c.len.ensures ∙ ap length c.pack_tdi.ensures.tdi ∙ as_long net holds route (seen_plan c.args.plan.now)
    ∙ ap (λ p. length (chain (reverse p) holds)) (sym same)
    ∙ length-chain_same (reverse path) holds (zero_holds net)
    (held.widths ∙ sym (zero_shape net (reverse path) c.requires.well_formed r))

pub fill_reads-requires-clause-on_path : goal.fill_reads-requires-clause-on_path
fill_reads-requires-clause-on_path c =
    reads_on c.args.net.now c.args.holds.now c.as_slice-path.result.now c.args.plan.now.writes.items
    c.as_slice.result.now (can_pack c.args.net.now c.args.holds.now c.pack_tdi.new.route.items
    c.pack_tdi.ensures.path c.as_slice-path.result.now
    (seen_plan c.args.plan.now) c.args.plan.now.writes.items c.as_slice.result.now c.requires.plan
    (c.as_slice-path.ensures ∙ ap (λ (l : Roomy ℕ). l.items) c.regs.ensures) refl c.as_slice.ensures)
