use Rattle.std.proofs.Common.{◌≡◌, ◌+◌, suc, length, ap, ◌∙◌, arith}
use Rattle.net_tree.specs.ScanPlans.{seen_plan}
use Rattle.scan_packer.proofs.Flushing.{as_long, path_few, tdo_is, mask_is}
use Rattle.scan_packer.proofs.flush.pack_flush.Goals as goal

pub fill_marked-requires-clause-room : goal.fill_marked-requires-clause-room
fill_marked-requires-clause-room c =
    let few = path_few c.args.net.now c.args.holds.now c.pack_tdi.new.route.items
    (seen_plan c.args.plan.now) c.requires.well_formed c.pack_tdi.ensures.path c.requires.plan in
    let long = ap length c.pack_tdi.ensures.tdi
    ∙ as_long c.args.net.now c.args.holds.now c.pack_tdi.new.route.items (seen_plan c.args.plan.now) in
    omega (arith, few, long, c.scan_bits-zeros.ensures.is, c.requires.tdi_room)

pub fill_marked-requires-clause-short : goal.fill_marked-requires-clause-short
fill_marked-requires-clause-short c =
    let few = path_few c.args.net.now c.args.holds.now c.pack_tdi.new.route.items
    (seen_plan c.args.plan.now) c.requires.well_formed c.pack_tdi.ensures.path c.requires.plan in
    let long = ap length c.pack_tdi.ensures.tdi
    ∙ as_long c.args.net.now c.args.holds.now c.pack_tdi.new.route.items (seen_plan c.args.plan.now) in
    omega (arith, few, long, c.scan_bits-zeros.ensures.is, c.scan_bits-zeros.ensures.few)

pub fill_expected-requires-clause-room : goal.fill_expected-requires-clause-room
fill_expected-requires-clause-room c =
    let few = path_few c.args.net.now c.args.holds.now c.pack_tdi.new.route.items
    (seen_plan c.args.plan.now) c.requires.well_formed c.pack_tdi.ensures.path c.requires.plan in
    let long = ap length c.pack_tdi.ensures.tdi
    ∙ as_long c.args.net.now c.args.holds.now c.pack_tdi.new.route.items (seen_plan c.args.plan.now) in
    omega (
      arith,
      few,
      long,
      c.scan_bits-zeros.ensures.is,
      c.len-path.ensures,
      c.pack_tdi.ensures.tdi_room,
      c.requires.tdo_room,
    )

pub fill_expected-requires-clause-short : goal.fill_expected-requires-clause-short
fill_expected-requires-clause-short c =
    let few = path_few c.args.net.now c.args.holds.now c.pack_tdi.new.route.items
    (seen_plan c.args.plan.now) c.requires.well_formed c.pack_tdi.ensures.path c.requires.plan in
    let long = ap length c.pack_tdi.ensures.tdi
    ∙ as_long c.args.net.now c.args.holds.now c.pack_tdi.new.route.items (seen_plan c.args.plan.now) in
    omega (arith, few, long, c.scan_bits-zeros.ensures.is, c.len-path.ensures, c.scan_bits-zeros.ensures.few)

pub fill_compared-requires-clause-room : goal.fill_compared-requires-clause-room
fill_compared-requires-clause-room c =
    let few = path_few c.args.net.now c.args.holds.now c.pack_tdi.new.route.items
    (seen_plan c.args.plan.now) c.requires.well_formed c.pack_tdi.ensures.path c.requires.plan in
    let long = ap length c.pack_tdi.ensures.tdi
    ∙ as_long c.args.net.now c.args.holds.now c.pack_tdi.new.route.items (seen_plan c.args.plan.now) in
    omega (arith, few, long, c.scan_bits-zeros.ensures.is, c.len-path.ensures, c.requires.mask_room)

pub fill_compared-requires-clause-short : goal.fill_compared-requires-clause-short
fill_compared-requires-clause-short c =
    let few = path_few c.args.net.now c.args.holds.now c.pack_tdi.new.route.items
    (seen_plan c.args.plan.now) c.requires.well_formed c.pack_tdi.ensures.path c.requires.plan in
    let long = ap length c.pack_tdi.ensures.tdi
    ∙ as_long c.args.net.now c.args.holds.now c.pack_tdi.new.route.items (seen_plan c.args.plan.now) in
    omega (arith, few, long, c.scan_bits-zeros.ensures.is, c.len-path.ensures, c.scan_bits-zeros.ensures.few)

pub returns-clause-tdo : goal.returns-clause-tdo
returns-clause-tdo c =
    c.fill_expected.ensures.items ∙ tdo_is c.args.net.now c.args.holds.now c.pack_tdi.new.route.items
    (seen_plan c.args.plan.now) c.scan_bits-zeros.result c.len-path.result c.pack_tdi.new.tdi.items
    c.scan_bits-zeros.ensures.is c.pack_tdi.ensures.tdi c.len-path.ensures

pub returns-clause-mask : goal.returns-clause-mask
returns-clause-mask c =
    let one_more : c.scan_bits-zeros.result + 1 ≡ suc c.scan_bits-zeros.result = omega arith in
    c.fill_compared.ensures.items ∙ mask_is c.args.net.now c.args.holds.now c.pack_tdi.new.route.items
    (seen_plan c.args.plan.now) c.scan_bits-zeros.result c.len-path.result c.pack_tdi.new.tdi.items
    c.scan_bits-zeros.ensures.is c.pack_tdi.ensures.tdi c.len-path.ensures
    (c.scan_bits-zeros.result + 1) one_more
