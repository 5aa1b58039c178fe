use Rattle.std.proofs.Common.{ℕ, List, ◌++◌, map, length, sym, ap, ◌∙◌, subst}
use Rattle.std.specs.Prelude.{All, reverse}
use Rattle.ij_bits.specs.Room.{Roomy}
use Rattle.net_graph.specs.Named.{IsBitOf}
use Rattle.net_graph.specs.Resets.{zero_holds}
use Rattle.net_graph.specs.declared.step.ReadBit.{ReadBit}
use Rattle.scan_packer.proofs.Rooms.{all_there, chain_short, zero_shape}
use Rattle.scan_packer.proofs.Routes.{is_route}
use Rattle.run_report.specs.Noting.{place_on}
use Rattle.run_report.specs.declared.place.ReadPlace.{ReadPlace}
use Rattle.run_report.proofs.Noting.{places_are, same_widths}
use Rattle.std.proofs.lemmas.Result.{on_ok_weaker}
use Rattle.run_report.proofs.scans.note_plan_reads.Goals as goal

pub note_reads-requires-clause-there : goal.note_reads-requires-clause-there
note_reads-requires-clause-there c =
    all_there (length c.args.net.now.regs.items) c.as_slice-path.result.now (is_route c.args.net.now
    c.args.holds.now c.walk.new.route.items c.walk.ensures.path c.requires.well_formed
    c.as_slice-path.result.now (c.as_slice-path.ensures ∙ ap (λ (l : Roomy ℕ). l.items) c.regs.ensures))

pub note_reads-requires-clause-bits : goal.note_reads-requires-clause-bits
note_reads-requires-clause-bits c =
    let (path, a, p) = c.requires.plan in
    subst (All (λ (r : ReadBit). IsBitOf c.args.net.now r.bit)) (sym c.as_slice-reads.ensures) p.reads

pub note_reads-requires-clause-short : goal.note_reads-requires-clause-short
note_reads-requires-clause-short c =
    let route = is_route c.args.net.now c.args.holds.now c.walk.new.route.items c.walk.ensures.path
    c.requires.well_formed c.as_slice-path.result.now
    (c.as_slice-path.ensures ∙ ap (λ (l : Roomy ℕ). l.items) c.regs.ensures) in
    let path = reverse c.as_slice-path.result.now in
    chain_short c.args.net.now path c.requires.well_formed route (zero_holds c.args.net.now)
    (zero_shape c.args.net.now path c.requires.well_formed route)

pub returns-clause-places : goal.returns-clause-places
returns-clause-places c =
    let net = c.args.net.now in
    let same = c.as_slice-path.ensures ∙ ap (λ (l : Roomy ℕ). l.items) c.regs.ensures in
    let are = ap (λ (p : List ℕ). map (place_on net (reverse p) c.args.scan) c.as_slice-reads.result.now) same
    ∙ ap (λ (rs : List ReadBit). map (place_on net (reverse c.walk.new.route.items) c.args.scan) rs)
    c.as_slice-reads.ensures
    ∙ places_are net c.args.holds.now c.walk.new.route.items c.walk.ensures.path (same_widths net
    c.args.holds.now c.requires.scannable.widths) c.args.scan c.args.plan.now.reads.items in
    on_ok_weaker c.note_reads.result
    (λ e. e ∙ ap (λ (xs : List ReadPlace). c.args.places.now.items ++ xs) are) c.note_reads.ensures
