use Rattle.std.proofs.Common.{List, sym, ap, ◌∙◌, subst}
use Rattle.std.specs.Prelude.{All, reverse}
use Rattle.ij_io.proofs.Adding.{adds_as, adds_part_as, at_refusal}
use Rattle.net_graph.specs.Chain.{chain}
use Rattle.net_graph.specs.declared.step.WriteBit.{WriteBit}
use Rattle.net_graph.specs.Held.{IsHeld}
use Rattle.net_graph.specs.Path.{path as scan_path, route_of}
use Rattle.net_graph.specs.SeenSteps.{seen_group}
use Rattle.net_graph.specs.Writes.{write_all}
use Rattle.path_planner.specs.Scannable.{IsScannable}
use Rattle.path_planner.proofs.Steering.{path_stays}
use Rattle.scan_packer.specs.Packing.{CanScan}
use Rattle.svf_writer.specs.SeenCommands.{SDR}
use Rattle.svf_writer.specs.Written.{text_of}
use Rattle.headline.specs.Scans.{scan_of}
use Rattle.retargeter.proofs.Scanning.{group_listed, group_scan, plan_held, plan_same}
use Rattle.retargeter.proofs.scans.put_last.Goals as goal

pub put_scan_on-requires-clause-plan : goal.put_scan_on-requires-clause-plan
put_scan_on-requires-clause-plan g c =
    let same = plan_same c.as_slice.result.now c.args.group.now.writes.items c.as_slice-2.result.now
    c.args.group.now.reads.items c.as_slice.ensures c.as_slice-2.ensures in
    subst (CanScan c.args.net.now c.args.holds.now) (sym same) (group_scan c.args.net.now c.args._tree.now
    (seen_group c.args.group.now) c.args.holds.now c.requires.can c.requires.named c.requires.on_path)

pub returns-in_err-put_scan_on-clause-part : goal.returns-in_err-put_scan_on-clause-part
returns-in_err-put_scan_on-clause-part g c =
    let same = plan_same c.as_slice.result.now c.args.group.now.writes.items c.as_slice-2.result.now
    c.args.group.now.reads.items c.as_slice.ensures c.as_slice-2.ensures in
    at_refusal _ (adds_part_as (ap (λ p. text_of (SDR (scan_of c.args.net.now c.args.holds.now
    (route_of c.args.net.now c.args.holds.now) p))) same) c.in_err-put_scan_on.ensures.part)

pub take_writes-requires : goal.take_writes-requires
take_writes-requires g c =
    subst (λ (ws : List WriteBit). All (λ w. IsHeld c.args.holds.now w.bit) ws) (sym c.as_slice-3.ensures)
    (plan_held c.args.net.now c.args.holds.now (seen_group c.args.group.now) (group_scan c.args.net.now
    c.args._tree.now (seen_group c.args.group.now) c.args.holds.now c.requires.can c.requires.named
    c.requires.on_path))

pub take_bits-requires-clause-path : goal.take_bits-requires-clause-path
take_bits-requires-clause-path g c =
    ap (scan_path c.args.net.now) (c.take_writes.ensures
    ∙ ap (write_all c.args.holds.now) c.as_slice-3.ensures)
    ∙ path_stays c.args.net.now (seen_group c.args.group.now) c.args.holds.now c.requires.can.group
    ∙ c.requires.path.path

pub take_bits-requires-clause-starts : goal.take_bits-requires-clause-starts
take_bits-requires-clause-starts g c = c.requires.path.starts

pub take_bits-requires-clause-bits : goal.take_bits-requires-clause-bits
take_bits-requires-clause-bits g c =
    let route = reverse c.args.path.now.route.items in
    c.put_scan_on.ensures.tdi
    ∙ ap (λ (ws : List WriteBit). chain route (write_all c.args.holds.now ws))
    (c.as_slice.ensures ∙ sym c.as_slice-3.ensures)
    ∙ ap (chain route) (sym c.take_writes.ensures)

pub returns-clause-whole : goal.returns-clause-whole
returns-clause-whole g c =
    let same = plan_same c.as_slice.result.now c.args.group.now.writes.items c.as_slice-2.result.now
    c.args.group.now.reads.items c.as_slice.ensures c.as_slice-2.ensures in
    adds_as (ap (λ p. text_of (SDR (scan_of c.args.net.now c.args.holds.now
    (route_of c.args.net.now c.args.holds.now) p))) same) c.in_ok-put_scan_on.ensures.whole

pub returns-clause-holds : goal.returns-clause-holds
returns-clause-holds g c = c.take_writes.ensures ∙ ap (write_all c.args.holds.now) c.as_slice-3.ensures

pub returns-clause-scannable : goal.returns-clause-scannable
returns-clause-scannable g c =
    subst (IsScannable c.args.net.now)
    (sym (c.take_writes.ensures ∙ ap (write_all c.args.holds.now) c.as_slice-3.ensures))
    (group_listed c.args.net.now c.args._tree.now (seen_group c.args.group.now) c.args.holds.now
    c.requires.can c.requires.named c.requires.on_path)
