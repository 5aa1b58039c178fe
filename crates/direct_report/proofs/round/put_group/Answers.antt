use Rattle.std.proofs.Common.{◌≡◌, List, length, arith, ap, sym, subst}
use Rattle.std.specs.Prelude.{IfOk, filter}
use Rattle.std.proofs.lemmas.List.{length-map}
use Rattle.std.proofs.lemmas.Result.{IfOk-weaker}
use Rattle.net_graph.specs.SeenSteps.{seen_group}
use Rattle.net_graph.specs.declared.step.ReadBit.{ReadBit}
use Rattle.direct_report.specs.Going.{AreReads}
use Rattle.direct_report.specs.Report.{differs}
use Rattle.direct_report.specs.Seen.{found_all, found_in}
use Rattle.direct_report.proofs.Counting.{not_more}
use Rattle.direct_report.proofs.Going.{reads_of_group}
use Rattle.direct_report.proofs.round.put_group.Goals as goal

pub put_round-requires-clause-reads : goal.put_round-requires-clause-reads
put_round-requires-clause-reads g c =
    subst (AreReads c.args.net.now) (sym c.as_slice.ensures)
    (reads_of_group c.args.net.now (seen_group c.args.group.now) c.requires.well_formed c.requires.group)

pub returns-clause-few : goal.returns-clause-few
returns-clause-few g c =
    let reads = reads_of_group c.args.net.now
    (seen_group c.args.group.now) c.requires.well_formed c.requires.group in
    reads.few

pub returns-clause-less : goal.returns-clause-less
returns-clause-less g c =
    let s = c.args.values.now in
    let reads = c.as_slice.result.now in
    IfOk-weaker c.put_round.result _ _ (λ n e. omega (
      arith,
      e,
      not_more (found_all s reads),
      length-map reads (found_in s),
      ap length c.as_slice.ensures,
    )) c.put_round.ensures.count

pub returns-clause-count : goal.returns-clause-count
returns-clause-count g c =
    subst (λ (rs : List ReadBit). IfOk c.put_round.result (λ n. n ≡ length
    (filter differs (found_all c.args.values.now rs)))) c.as_slice.ensures c.put_round.ensures.count
