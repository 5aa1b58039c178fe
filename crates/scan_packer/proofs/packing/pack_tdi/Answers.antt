use Rattle.std.proofs.Common.{ℕ, refl, ap, ◌∙◌}
use Rattle.ij_bits.specs.Room.{Roomy}
use Rattle.net_tree.specs.ScanPlans.{seen_plan}
use Rattle.scan_packer.proofs.Rooms.{writes_on}
use Rattle.scan_packer.proofs.Routes.{is_route, can_pack}
use Rattle.scan_packer.proofs.packing.pack_tdi.Goals as goal

pub fill_written-requires-clause-route : goal.fill_written-requires-clause-route
fill_written-requires-clause-route c =
    is_route c.args.net.now c.args.holds.now c.walk.new.route.items c.walk.ensures.path c.requires.well_formed
    c.as_slice.result.now (c.as_slice.ensures ∙ ap (λ (l : Roomy ℕ). l.items) c.regs.ensures)

pub fill_written-requires-clause-on_path : goal.fill_written-requires-clause-on_path
fill_written-requires-clause-on_path c =
    writes_on c.args.net.now c.args.holds.now c.as_slice.result.now c.as_slice-2.result.now
    c.args.plan.now.reads.items (can_pack c.args.net.now c.args.holds.now c.walk.new.route.items
    c.walk.ensures.path c.as_slice.result.now
    (seen_plan c.args.plan.now) c.as_slice-2.result.now c.args.plan.now.reads.items c.requires.plan
    (c.as_slice.ensures ∙ ap (λ (l : Roomy ℕ). l.items) c.regs.ensures) c.as_slice-2.ensures refl)
