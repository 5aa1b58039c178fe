use Rattle.std.proofs.Common.{ℕ, List, length, refl, sym, ap, ◌∙◌, arith, subst}
use Rattle.std.specs.Prelude.{reverse, All, Contains}
use Rattle.ij_bits.specs.Room.{Roomy}
use Rattle.net_graph.specs.Chain.{chain}
use Rattle.net_graph.specs.Resets.{zero_holds}
use Rattle.net_graph.proofs.Shapes.{length-chain_same}
use Rattle.scan_packer.proofs.Rooms.{all_there, chain_few, chain_short, zero_shape}
use Rattle.scan_packer.proofs.Routes.{is_route}
use Rattle.scan_packer.proofs.held_path.pack_tdi_on.Goals as goal

pub copy_bits-requires : goal.copy_bits-requires
copy_bits-requires c =
    let net = c.args.net.now in
    let route = c.args.path.now.route.items in
    omega (
      arith,
      chain_few net (reverse route) c.requires.well_formed (is_route net c.args._holds.now route
          c.requires.held.path c.requires.well_formed route refl) c.args._holds.now c.requires.holds,
      ap length c.requires.held.bits,
      c.requires.tdi_room,
    )

pub put_writes-requires-clause-route : goal.put_writes-requires-clause-route
put_writes-requires-clause-route c =
    is_route c.args.net.now c.args._holds.now c.args.path.now.route.items c.requires.held.path
    c.requires.well_formed c.as_slice.result.now
    (c.as_slice.ensures ∙ ap (λ (l : Roomy ℕ). l.items) c.regs.ensures)

pub put_writes-requires-clause-there : goal.put_writes-requires-clause-there
put_writes-requires-clause-there c =
    all_there (length c.args.net.now.regs.items) c.as_slice.result.now (is_route c.args.net.now
    c.args._holds.now c.args.path.now.route.items c.requires.held.path c.requires.well_formed
    c.as_slice.result.now (c.as_slice.ensures ∙ ap (λ (l : Roomy ℕ). l.items) c.regs.ensures))

pub put_writes-requires-clause-on_path : goal.put_writes-requires-clause-on_path
put_writes-requires-clause-on_path c =
    subst (λ (path : List ℕ). All (λ w. Contains path w.bit.reg) c.args.writes.now)
    (sym (c.as_slice.ensures ∙ ap (λ (l : Roomy ℕ). l.items) c.regs.ensures)) c.requires.on_path

pub put_writes-requires-clause-short : goal.put_writes-requires-clause-short
put_writes-requires-clause-short c =
    let net = c.args.net.now in
    let path = reverse c.as_slice.result.now in
    let route = is_route net c.args._holds.now c.args.path.now.route.items c.requires.held.path
    c.requires.well_formed c.as_slice.result.now
    (c.as_slice.ensures ∙ ap (λ (l : Roomy ℕ). l.items) c.regs.ensures) in
    chain_short net path c.requires.well_formed route (zero_holds net)
    (zero_shape net path c.requires.well_formed route)

pub put_writes-requires-clause-long : goal.put_writes-requires-clause-long
put_writes-requires-clause-long c =
    let net = c.args.net.now in
    let holds = c.args._holds.now in
    let same = c.as_slice.ensures ∙ ap (λ (l : Roomy ℕ). l.items) c.regs.ensures in
    let path = reverse c.as_slice.result.now in
    let route = is_route net holds c.args.path.now.route.items c.requires.held.path
    c.requires.well_formed c.as_slice.result.now same in
    ap length (c.copy_bits.ensures.items ∙ c.requires.held.bits
    ∙ ap (λ r. chain (reverse r) holds) (sym same))
    ∙ length-chain_same path holds (zero_holds net)
    (c.requires.holds ∙ sym (zero_shape net path c.requires.well_formed route))
