use Rattle.std.proofs.Common.{refl, sym, ap, ◌∙◌}
use Rattle.ij_io.proofs.Adding.{whole_as, part_as}
use Rattle.scan_packer.specs.Packing.{plan_of}
use Rattle.scan_packer.proofs.Rooms.{reads_on, writes_on}
use Rattle.scan_packer.proofs.Routes.{can_pack}
use Rattle.svf_writer.specs.SeenCommands.{SDR}
use Rattle.svf_writer.specs.Written.{text_of}
use Rattle.retargeter.proofs.Packing.{none, quiet, comparing, some}
use Rattle.retargeter.proofs.scan.put_scan_on.Goals as goal

pub pack_tdi_on-requires-clause-holds : goal.pack_tdi_on-requires-clause-holds
pack_tdi_on-requires-clause-holds g c =
    let (path, e, can) = c.requires.plan in
    can.widths

pub pack_tdi_on-requires-clause-bits : goal.pack_tdi_on-requires-clause-bits
pack_tdi_on-requires-clause-bits g c =
    let (path, e, can) = c.requires.plan in
    can.writes

pub pack_tdi_on-requires-clause-on_path : goal.pack_tdi_on-requires-clause-on_path
pack_tdi_on-requires-clause-on_path g c =
    let route = c.args.path.now.route.items in
    writes_on c.args.net.now c.args.holds.now route c.args.writes.now c.args.reads.now
    (can_pack c.args.net.now c.args.holds.now route c.requires.path.path route
    (plan_of c.args.writes.now c.args.reads.now) c.args.writes.now c.args.reads.now c.requires.plan
    refl refl refl)

pub pack_reads_on-requires-clause-holds : goal.pack_reads_on-requires-clause-holds
pack_reads_on-requires-clause-holds g c =
    let (path, e, can) = c.requires.plan in
    can.widths

pub pack_reads_on-requires-clause-bits : goal.pack_reads_on-requires-clause-bits
pack_reads_on-requires-clause-bits g c =
    let (path, e, can) = c.requires.plan in
    can.reads

pub pack_reads_on-requires-clause-on_path : goal.pack_reads_on-requires-clause-on_path
pack_reads_on-requires-clause-on_path g c =
    let route = c.args.path.now.route.items in
    reads_on c.args.net.now c.args.holds.now route c.args.writes.now c.args.reads.now
    (can_pack c.args.net.now c.args.holds.now route c.requires.path.path route
    (plan_of c.args.writes.now c.args.reads.now) c.args.writes.now c.args.reads.now c.requires.plan
    refl refl refl)

pub returns-then-is_empty-clause-whole : goal.returns-then-is_empty-clause-whole
returns-then-is_empty-clause-whole g c =
    whole_as c.put_scan.result _ _
    (ap (λ s. text_of (SDR s)) (quiet c.args.net.now c.args.holds.now c.args.path.now.route.items
    c.requires.path.path (plan_of c.args.writes.now c.args.reads.now) c.pack_tdi_on.new.tdi.items
    c.pack_tdi_on.ensures.tdi c.args.reads.now refl (none c.args.reads.now
    (sym c.is_empty.ensures ∙ c.if-is_empty.true)))) c.put_scan.ensures.whole

pub returns-then-is_empty-clause-part : goal.returns-then-is_empty-clause-part
returns-then-is_empty-clause-part g c =
    part_as c.put_scan.result _ _
    (ap (λ s. text_of (SDR s)) (quiet c.args.net.now c.args.holds.now c.args.path.now.route.items
    c.requires.path.path (plan_of c.args.writes.now c.args.reads.now) c.pack_tdi_on.new.tdi.items
    c.pack_tdi_on.ensures.tdi c.args.reads.now refl (none c.args.reads.now
    (sym c.is_empty.ensures ∙ c.if-is_empty.true)))) c.put_scan.ensures.part

pub returns-clause-whole : goal.returns-clause-whole
returns-clause-whole g c =
    whole_as c.put_scan_compared.result _ _
    (ap (λ s. text_of (SDR s)) (comparing c.args.net.now c.args.holds.now c.args.path.now.route.items
    c.requires.path.path (plan_of c.args.writes.now c.args.reads.now) c.pack_tdi_on.new.tdi.items
    c.pack_tdi_on.ensures.tdi c.pack_reads_on.new.tdo.items c.pack_reads_on.new.mask.items c.args.reads.now
    c.pack_reads_on.ensures.tdo c.pack_reads_on.ensures.mask refl (some c.args.reads.now
    (sym c.is_empty.ensures ∙ c.if-is_empty.false)))) c.put_scan_compared.ensures.whole

pub returns-clause-part : goal.returns-clause-part
returns-clause-part g c =
    part_as c.put_scan_compared.result _ _
    (ap (λ s. text_of (SDR s)) (comparing c.args.net.now c.args.holds.now c.args.path.now.route.items
    c.requires.path.path (plan_of c.args.writes.now c.args.reads.now) c.pack_tdi_on.new.tdi.items
    c.pack_tdi_on.ensures.tdi c.pack_reads_on.new.tdo.items c.pack_reads_on.new.mask.items c.args.reads.now
    c.pack_reads_on.ensures.tdo c.pack_reads_on.ensures.mask refl (some c.args.reads.now
    (sym c.is_empty.ensures ∙ c.if-is_empty.false)))) c.put_scan_compared.ensures.part
