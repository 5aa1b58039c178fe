use Rattle.std.proofs.Common.{sym, subst, ◌∙◌, length, ℕ, List}
use Rattle.net_graph.specs.Chain.{IsRoute}
use Rattle.net_graph.proofs.Routes.{route_in}
use Rattle.net_graph.proofs.Stuck.{stuck_route_in}
use Rattle.mux_test.proofs.Judged.{path_short}
use Rattle.mux_test.proofs.judge.Judge.whole_verdict.Goals as goal

pub verdict_of-requires-clause-own : goal.verdict_of-requires-clause-own
verdict_of-requires-clause-own c =
    let h = c.args.holds.now in
    subst (λ (p : List ℕ). IsRoute (length h) p) (sym (c.as_slice.ensures ∙ c.find_path.ensures.path))
    (route_in c.args.net.now h h c.requires.well_formed c.requires.holds)

pub verdict_of-requires-clause-other : goal.verdict_of-requires-clause-other
verdict_of-requires-clause-other c =
    let h = c.args.holds.now in
    subst (λ (p : List ℕ). IsRoute (length h) p) (sym (c.as_slice-2.ensures ∙ c.find_path-2.ensures.path))
    (stuck_route_in c.args.net.now c.args.row h h c.requires.well_formed c.requires.holds)

pub verdict_of-requires-clause-few_own : goal.verdict_of-requires-clause-few_own
verdict_of-requires-clause-few_own c =
    let h = c.args.holds.now in
    path_short c.args.net.now c.as_slice.result.now h c.requires.well_formed c.requires.holds
    (subst (λ (p : List ℕ). IsRoute (length h) p) (sym (c.as_slice.ensures ∙ c.find_path.ensures.path))
    (route_in c.args.net.now h h c.requires.well_formed c.requires.holds))

pub verdict_of-requires-clause-few_other : goal.verdict_of-requires-clause-few_other
verdict_of-requires-clause-few_other c =
    let h = c.args.holds.now in
    path_short c.args.net.now c.as_slice-2.result.now h c.requires.well_formed c.requires.holds (subst
    (λ (p : List ℕ). IsRoute (length h) p) (sym (c.as_slice-2.ensures ∙ c.find_path-2.ensures.path))
    (stuck_route_in c.args.net.now c.args.row h h c.requires.well_formed c.requires.holds))
