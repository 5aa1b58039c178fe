use Rattle.std.proofs.Common.{ℕ, length, ap, ◌∙◌, arith}
use Rattle.std.specs.Prelude.{reverse}
use Rattle.ij_bits.specs.Room.{Roomy}
use Rattle.net_graph.specs.Resets.{zero_holds}
use Rattle.scan_packer.proofs.Rooms.{all_there, chain_few, chain_short, zero_shape}
use Rattle.scan_packer.proofs.Routes.{is_route}
use Rattle.scan_packer.proofs.held_path.HeldPath.find.Goals as goal

pub note_starts-requires-clause-route : goal.note_starts-requires-clause-route
note_starts-requires-clause-route c =
    is_route c.args.net.now c.args.holds.now c.walk.new.route.items c.walk.ensures.path c.requires.well_formed
    c.as_slice-regs.result.now (c.as_slice-regs.ensures ∙ ap (λ (l : Roomy ℕ). l.items) c.regs.ensures)

pub note_starts-requires-clause-there : goal.note_starts-requires-clause-there
note_starts-requires-clause-there c =
    all_there (length c.args.net.now.regs.items) c.as_slice-regs.result.now (is_route c.args.net.now
    c.args.holds.now c.walk.new.route.items c.walk.ensures.path c.requires.well_formed
    c.as_slice-regs.result.now (c.as_slice-regs.ensures ∙ ap (λ (l : Roomy ℕ). l.items) c.regs.ensures))

pub note_starts-requires-clause-short : goal.note_starts-requires-clause-short
note_starts-requires-clause-short c =
    let net = c.args.net.now in
    let path = reverse c.as_slice-regs.result.now in
    let route = is_route net c.args.holds.now c.walk.new.route.items c.walk.ensures.path
    c.requires.well_formed c.as_slice-regs.result.now
    (c.as_slice-regs.ensures ∙ ap (λ (l : Roomy ℕ). l.items) c.regs.ensures) in
    chain_short net path c.requires.well_formed route (zero_holds net)
    (zero_shape net path c.requires.well_formed route)

pub fill_held-requires-clause-there : goal.fill_held-requires-clause-there
fill_held-requires-clause-there c =
    all_there (length c.args.net.now.regs.items) c.as_slice-regs.result.now (is_route c.args.net.now
    c.args.holds.now c.walk.new.route.items c.walk.ensures.path c.requires.well_formed
    c.as_slice-regs.result.now (c.as_slice-regs.ensures ∙ ap (λ (l : Roomy ℕ). l.items) c.regs.ensures))

pub fill_held-requires-clause-room : goal.fill_held-requires-clause-room
fill_held-requires-clause-room c =
    let route = is_route c.args.net.now c.args.holds.now c.walk.new.route.items c.walk.ensures.path
    c.requires.well_formed c.as_slice-regs.result.now
    (c.as_slice-regs.ensures ∙ ap (λ (l : Roomy ℕ). l.items) c.regs.ensures) in
    omega (
      arith,
      chain_few c.args.net.now (reverse c.as_slice-regs.result.now) c.requires.well_formed route
          c.args.holds.now c.requires.holds,
      c.requires.room.bits,
    )

pub fill_held-requires-clause-short : goal.fill_held-requires-clause-short
fill_held-requires-clause-short c =
    chain_short c.args.net.now (reverse c.as_slice-regs.result.now) c.requires.well_formed
    (is_route c.args.net.now c.args.holds.now c.walk.new.route.items c.walk.ensures.path
    c.requires.well_formed c.as_slice-regs.result.now (c.as_slice-regs.ensures
    ∙ ap (λ (l : Roomy ℕ). l.items) c.regs.ensures)) c.args.holds.now c.requires.holds
