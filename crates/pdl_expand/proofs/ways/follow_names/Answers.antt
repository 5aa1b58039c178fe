use Rattle.std.specs.Prelude.{codes}
use Rattle.std.proofs.Common.{Some, ◌+◌, ◌++◌, drop, sym, ap, subst, ◌∙◌}
use Rattle.std.specs.List.{slice_get}
use Rattle.ij_text.specs.Numbering.{number_in}
use Rattle.pdl_expand.specs.SeenWays.{names_of}
use Rattle.pdl_expand.proofs.Walking.{IsOn, on_begins, on_goes_on, on_stops, named_cell, next_name}
use Rattle.pdl_expand.proofs.Walking.{found_there}
use Rattle.pdl_expand.proofs.ways.follow_names.Goals as goal

pub loop-name-init : goal.loop-name-init
loop-name-init c = record {
  there = c.requires;
  on = λ cells e. on_begins cells c.args.node (names_of c.args.names.now) c.in_ok-key.key.items
      (named_cell cells c.args.node c.in_ok-key.key.items (ap (λ l. slice_get l c.args.node) (sym e)
      ∙ c.name.ensures ∙ ap (λ l. Some l) (sym (c.in_ok-key.ensures ∙ c.as_slice.ensures))));
}

pub returns-in-None-clause-value : goal.returns-in-None-clause-value
returns-in-None-clause-value c = λ cells e.
    let names = c.args.names.now in
    let i = c.loop-name.name-index in
    on_stops cells c.args.node (names_of names) c.loop-name.node c.loop-name.key.items c.in_ok-key-2.key.items
    c.name-item.result.now.items (names_of (drop (i + 1) names))
    (c.in_ok-key-2.ensures
    ∙ ap (λ l. c.loop-name.key.items ++ (codes "." ++ l)) c.as_slice-in-loop-name.ensures)
    (ap (λ l. number_in l c.in_ok-key-2.key.items) (sym e) ∙ sym c.find.ensures.number ∙ c.in-None.is)
    (subst (λ l. IsOn cells c.args.node (names_of names) c.loop-name.node c.loop-name.key.items l) (next_name
    names i c.name-item.result c.loop-name-test.true c.name-item.is) (c.loop-name.invariant.on cells e))

pub loop-name-preserved : goal.loop-name-preserved
loop-name-preserved c = record {
  there = found_there c.args.known.now c.in_ok-key-2.key.items c.in-Some.next
      (sym c.find.ensures.number ∙ c.in-Some.is);
  on = λ cells e.
      let names = c.args.names.now in
      let i = c.loop-name.name-index in
      on_goes_on cells c.args.node (names_of names) c.loop-name.node c.in-Some.next c.loop-name.key.items
      c.in_ok-key-2.key.items c.name-item.result.now.items (names_of (drop (i + 1) names))
      (c.in_ok-key-2.ensures
      ∙ ap (λ l. c.loop-name.key.items ++ (codes "." ++ l)) c.as_slice-in-loop-name.ensures)
      (ap (λ l. number_in l c.in_ok-key-2.key.items) (sym e) ∙ sym c.find.ensures.number ∙ c.in-Some.is)
      (subst (λ l. IsOn cells c.args.node (names_of names) c.loop-name.node c.loop-name.key.items l)
      (next_name names i c.name-item.result c.loop-name-test.true c.name-item.is)
      (c.loop-name.invariant.on cells e));
}
