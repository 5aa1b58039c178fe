use Rattle.std.proofs.Common.{◌++◌, ◌∙◌, ap}
use Rattle.std.specs.Prelude.{List}
use Rattle.net_graph.specs.declared.branch.Branch.{Branch}
use Rattle.pdl_targets.specs.SeenPlaces.{places_in}
use Rattle.merge_order.proofs.Arounds.{had, has_more, more_rows}
use Rattle.merge_order.proofs.around.RowsAround.add.Goals as goal

pub returns-then-is_last-clause-rows : goal.returns-then-is_last-clause-rows
returns-then-is_last-clause-rows c = had (places_in c.args.tree.now) c.args.self.now.rows.items
    c.args.self.now.last c.args.register c.requires (c.is_last.ensures c.if-is_last.true)

pub returns-clause-rows : goal.returns-clause-rows
returns-clause-rows c =
    let old = c.args.self.now.rows.items in
    let e = c.in_ok-add_rows.ensures
    ∙ ap (λ (l : List Branch). old ++ l) (c.as_slice-2.ensures ∙ c.place_of.ensures.place) in
    more_rows old (places_in c.args.tree.now c.args.register) c.add_rows.new.rows.items e

pub returns-clause-last : goal.returns-clause-last
returns-clause-last c =
    let old = c.args.self.now.rows.items in
    let e = c.in_ok-add_rows.ensures
    ∙ ap (λ (l : List Branch). old ++ l) (c.as_slice-2.ensures ∙ c.place_of.ensures.place) in
    has_more old (places_in c.args.tree.now c.args.register) c.add_rows.new.rows.items e
