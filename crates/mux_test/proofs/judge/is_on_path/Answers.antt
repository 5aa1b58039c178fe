use Rattle.std.proofs.Common.{sym, ap, ◌∙◌, subst}
use Rattle.std.specs.Prelude.{All}
use Rattle.path_planner.specs.Planning.{IsBranchOf}
use Rattle.path_planner.specs.Rows.{all_in}
use Rattle.mux_test.proofs.Around.{met_in, place_there, unmet_out}
use Rattle.mux_test.proofs.judge.is_on_path.Goals as goal

pub are_in_rows-requires-clause-place : goal.are_in_rows-requires-clause-place
are_in_rows-requires-clause-place c =
    subst (All (IsBranchOf c.args.net.now)) (sym (c.as_slice.ensures ∙ c.place_of_mux-place.ensures.place))
    (place_there c.args.net.now c.args.tree.now c.args.mux c.requires.testable c.requires.mux)

pub returns-clause-met : goal.returns-clause-met
returns-clause-met c t =
    let net = c.args.net.now in
    let h = c.args.holds.now in
    met_in net c.args.tree.now h c.requires.testable c.requires.scannable c.args.mux c.requires.mux
    (ap (λ bs. all_in net bs h) (sym (c.as_slice.ensures ∙ c.place_of_mux-place.ensures.place))
    ∙ sym c.are_in_rows.ensures ∙ t)

pub returns-clause-unmet : goal.returns-clause-unmet
returns-clause-unmet c t =
    let net = c.args.net.now in
    let h = c.args.holds.now in
    unmet_out net c.args.tree.now h c.requires.testable c.requires.scannable c.args.mux
    (ap (λ bs. all_in net bs h) (sym (c.as_slice.ensures ∙ c.place_of_mux-place.ensures.place))
    ∙ sym c.are_in_rows.ensures ∙ t)
