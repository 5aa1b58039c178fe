use Rattle.std.proofs.Common.{List, sym, ap, ◌∙◌, subst, arith}
use Rattle.std.specs.Prelude.{map, All}
use Rattle.net_graph.specs.declared.branch.Branch.{Branch}
use Rattle.net_graph.specs.Held.{AreHolds}
use Rattle.net_graph.specs.Resets.{start_holds}
use Rattle.path_planner.specs.Planning.{IsBranchOf}
use Rattle.mux_test.specs.declared.planned.PlannedScan.{PlannedScan}
use Rattle.mux_test.specs.Judged.{unseen_rows}
use Rattle.mux_test.specs.Planned.{holds_after, seen_planned}
use Rattle.mux_test.specs.Seen.{begins}
use Rattle.mux_test.specs.Test.{branches}
use Rattle.mux_test.proofs.Planning.{as_long, flushable_now}
use Rattle.mux_test.proofs.Testing.{all_branches}
use Rattle.mux_test.proofs.test.MuxTest.new.Goals as goal

pub of-requires-clause-holds : goal.of-requires-clause-holds
of-requires-clause-holds c =
    let net = c.args.net.now in
    let now = flushable_now net (start_holds net)
    (map seen_planned c.in_ok-scans.scans.items) c.in_ok-scans.ensures.planned.can in
    subst (AreHolds net) (sym c.in_ok-holds.ensures) now.widths

pub unseen_rows-requires-clause-branches : goal.unseen_rows-requires-clause-branches
unseen_rows-requires-clause-branches c =
    let net = c.args.net.now in
    subst (All (IsBranchOf net)) (sym (c.as_slice-2.ensures ∙ c.in_ok-rows.ensures))
    (all_branches net c.args.tree.now c.requires)

pub returns-clause-unseen : goal.returns-clause-unseen
returns-clause-unseen c =
    let net = c.args.net.now in
    let start = start_holds net in
    c.in_ok-unseen.ensures
    ∙ ap (λ (bs : List Branch). unseen_rows net bs
    (begins start (holds_after start (map seen_planned c.as_slice-3.result.now))))
    (c.as_slice-2.ensures ∙ c.in_ok-rows.ensures)
    ∙ ap (λ (xs : List PlannedScan). unseen_rows net (branches net)
    (begins start (holds_after start (map seen_planned xs)))) c.as_slice-3.ensures
    ∙ ap (λ hs. unseen_rows net (branches net) (begins start hs)) c.in_ok-scans.ensures.planned.after

pub returns-clause-scan_count : goal.returns-clause-scan_count
returns-clause-scan_count c =
    as_long c.args.net.now c.args.tree.now c.in_ok-scans.scans.items c.in_ok-scans.ensures.planned

pub returns-clause-within : goal.returns-clause-within
returns-clause-within c =
    omega (
      arith,
      c.in_ok-scans.ensures.short,
      as_long c.args.net.now c.args.tree.now c.in_ok-scans.scans.items c.in_ok-scans.ensures.planned,
    )

pub returns-clause-limited : goal.returns-clause-limited
returns-clause-limited c long =
    absurd (omega (
      arith,
      long,
      c.in_ok-scans.ensures.short,
      as_long c.args.net.now c.args.tree.now c.in_ok-scans.scans.items c.in_ok-scans.ensures.planned,
    ))
