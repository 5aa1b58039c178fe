use Rattle.std.proofs.Common.{◌≡◌, ◌+◌, suc, List, length, refl, ap, ◌∙◌, arith}
use Rattle.std.specs.Prelude.{reverse}
use Rattle.net_graph.specs.Chain.{chain}
use Rattle.net_graph.specs.declared.step.WriteBit.{WriteBit}
use Rattle.net_graph.specs.Writes.{write_all}
use Rattle.net_tree.specs.ScanPlans.{seen_plan}
use Rattle.scan_packer.proofs.Flushing.{as_long, mask_is, path_few, tdo_is}
use Rattle.scan_packer.proofs.Rooms.{writes_on}
use Rattle.scan_packer.proofs.Routes.{can_pack}
use Rattle.scan_packer.proofs.held_path.pack_flush_on.Goals as goal

pub pack_tdi_on-requires-clause-holds : goal.pack_tdi_on-requires-clause-holds
pack_tdi_on-requires-clause-holds c =
    let (path, e, can) = c.requires.plan in
    can.widths

pub pack_tdi_on-requires-clause-bits : goal.pack_tdi_on-requires-clause-bits
pack_tdi_on-requires-clause-bits c =
    (can_pack c.args.net.now c.args._holds.now c.args.path.now.route.items c.requires.held.path
    c.args.path.now.route.items (seen_plan c.args.plan.now) c.as_slice.result.now c.args.plan.now.reads.items
    c.requires.plan refl c.as_slice.ensures refl).writes

pub pack_tdi_on-requires-clause-on_path : goal.pack_tdi_on-requires-clause-on_path
pack_tdi_on-requires-clause-on_path c =
    writes_on c.args.net.now c.args._holds.now c.args.path.now.route.items c.as_slice.result.now
    c.args.plan.now.reads.items (can_pack c.args.net.now c.args._holds.now c.args.path.now.route.items
    c.requires.held.path c.args.path.now.route.items (seen_plan c.args.plan.now) c.as_slice.result.now
    c.args.plan.now.reads.items c.requires.plan refl c.as_slice.ensures refl)

pub fill_marked-requires-clause-room : goal.fill_marked-requires-clause-room
fill_marked-requires-clause-room c =
    let few = path_few c.args.net.now c.args._holds.now c.args.path.now.route.items
    (seen_plan c.args.plan.now) c.requires.well_formed c.requires.held.path c.requires.plan in
    let long = ap length (c.pack_tdi_on.ensures.tdi ∙ ap (λ (ws : List WriteBit). chain (reverse
    c.args.path.now.route.items) (write_all c.args._holds.now ws)) c.as_slice.ensures)
    ∙ as_long c.args.net.now c.args._holds.now c.args.path.now.route.items (seen_plan c.args.plan.now) in
    omega (arith, few, long, c.requires.held.all, c.requires.tdi_room)

pub fill_marked-requires-clause-short : goal.fill_marked-requires-clause-short
fill_marked-requires-clause-short c =
    let few = path_few c.args.net.now c.args._holds.now c.args.path.now.route.items
    (seen_plan c.args.plan.now) c.requires.well_formed c.requires.held.path c.requires.plan in
    let long = ap length (c.pack_tdi_on.ensures.tdi ∙ ap (λ (ws : List WriteBit). chain (reverse
    c.args.path.now.route.items) (write_all c.args._holds.now ws)) c.as_slice.ensures)
    ∙ as_long c.args.net.now c.args._holds.now c.args.path.now.route.items (seen_plan c.args.plan.now) in
    omega (arith, few, long, c.requires.held.all, c.requires.well_formed.bits_within_limit)

pub fill_expected-requires-clause-room : goal.fill_expected-requires-clause-room
fill_expected-requires-clause-room c =
    let few = path_few c.args.net.now c.args._holds.now c.args.path.now.route.items
    (seen_plan c.args.plan.now) c.requires.well_formed c.requires.held.path c.requires.plan in
    let long = ap length (c.pack_tdi_on.ensures.tdi ∙ ap (λ (ws : List WriteBit). chain (reverse
    c.args.path.now.route.items) (write_all c.args._holds.now ws)) c.as_slice.ensures)
    ∙ as_long c.args.net.now c.args._holds.now c.args.path.now.route.items (seen_plan c.args.plan.now) in
    omega (
      arith,
      few,
      long,
      c.requires.held.all,
      c.len-bits.ensures,
      c.pack_tdi_on.ensures.tdi_room,
      c.requires.tdo_room,
    )

pub fill_expected-requires-clause-short : goal.fill_expected-requires-clause-short
fill_expected-requires-clause-short c =
    let few = path_few c.args.net.now c.args._holds.now c.args.path.now.route.items
    (seen_plan c.args.plan.now) c.requires.well_formed c.requires.held.path c.requires.plan in
    let long = ap length (c.pack_tdi_on.ensures.tdi ∙ ap (λ (ws : List WriteBit). chain (reverse
    c.args.path.now.route.items) (write_all c.args._holds.now ws)) c.as_slice.ensures)
    ∙ as_long c.args.net.now c.args._holds.now c.args.path.now.route.items (seen_plan c.args.plan.now) in
    omega (
      arith,
      few,
      long,
      c.requires.held.all,
      c.len-bits.ensures,
      c.requires.well_formed.bits_within_limit,
    )

pub fill_compared-requires-clause-room : goal.fill_compared-requires-clause-room
fill_compared-requires-clause-room c =
    let few = path_few c.args.net.now c.args._holds.now c.args.path.now.route.items
    (seen_plan c.args.plan.now) c.requires.well_formed c.requires.held.path c.requires.plan in
    let long = ap length (c.pack_tdi_on.ensures.tdi ∙ ap (λ (ws : List WriteBit). chain (reverse
    c.args.path.now.route.items) (write_all c.args._holds.now ws)) c.as_slice.ensures)
    ∙ as_long c.args.net.now c.args._holds.now c.args.path.now.route.items (seen_plan c.args.plan.now) in
    omega (arith, few, long, c.requires.held.all, c.len-bits.ensures, c.requires.mask_room)

pub fill_compared-requires-clause-short : goal.fill_compared-requires-clause-short
fill_compared-requires-clause-short c =
    let few = path_few c.args.net.now c.args._holds.now c.args.path.now.route.items
    (seen_plan c.args.plan.now) c.requires.well_formed c.requires.held.path c.requires.plan in
    let long = ap length (c.pack_tdi_on.ensures.tdi ∙ ap (λ (ws : List WriteBit). chain (reverse
    c.args.path.now.route.items) (write_all c.args._holds.now ws)) c.as_slice.ensures)
    ∙ as_long c.args.net.now c.args._holds.now c.args.path.now.route.items (seen_plan c.args.plan.now) in
    omega (
      arith,
      few,
      long,
      c.requires.held.all,
      c.len-bits.ensures,
      c.requires.well_formed.bits_within_limit,
    )

pub returns-clause-tdo : goal.returns-clause-tdo
returns-clause-tdo c =
    c.fill_expected.ensures.items ∙ tdo_is c.args.net.now c.args._holds.now c.args.path.now.route.items
    (seen_plan c.args.plan.now) c.args.path.now.scan_bits c.len-bits.result c.pack_tdi_on.new.tdi.items
    c.requires.held.all (c.pack_tdi_on.ensures.tdi ∙ ap (λ (ws : List WriteBit). chain (reverse
    c.args.path.now.route.items) (write_all c.args._holds.now ws)) c.as_slice.ensures) c.len-bits.ensures

pub returns-clause-mask : goal.returns-clause-mask
returns-clause-mask c =
    let one_more : c.args.path.now.scan_bits + 1 ≡ suc c.args.path.now.scan_bits = omega arith in
    c.fill_compared.ensures.items ∙ mask_is c.args.net.now c.args._holds.now c.args.path.now.route.items
    (seen_plan c.args.plan.now) c.args.path.now.scan_bits c.len-bits.result c.pack_tdi_on.new.tdi.items
    c.requires.held.all (c.pack_tdi_on.ensures.tdi ∙ ap (λ (ws : List WriteBit). chain (reverse
    c.args.path.now.route.items) (write_all c.args._holds.now ws)) c.as_slice.ensures) c.len-bits.ensures
    (c.args.path.now.scan_bits + 1) one_more
