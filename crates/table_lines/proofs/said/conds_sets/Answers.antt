use Rattle.std.specs.Prelude.{IfOk}
use Rattle.std.proofs.Common.{◌≡◌, ◌≤◌, ◌++◌, ◌∷◌, [], List, length, map, ap, sym, ◌∙◌, subst, arith}
use Rattle.std.specs.Option.{option_map}
use Rattle.std.proofs.lemmas.List.{map-append, length-map, nil_from_length}
use Rattle.std.proofs.lemmas.Bool.Decides.{nat_tests}
use Rattle.table_lines.specs.Reading.{texts}
use Rattle.table_lines.specs.Said.{Words, SaidCond, conds_sets}
use Rattle.table_lines.specs.SeenSaid.{seen_cond, seen_front, seen_row}
use Rattle.table_lines.specs.Parted.{part_list, after_parts, with_conds, do_sets}
use Rattle.table_lines.proofs.Rows.{conds_step, do_step}
use Rattle.table_lines.proofs.said.conds_sets.Goals as goal

pub loop-conds-preserved : goal.loop-conds-preserved
loop-conds-preserved c =
    let second = c.args.second in
    let change = c.args.change in
    let part = c.loop-conds.part in
    let before = map seen_cond c.loop-conds.conds.items in
    let front = c.in-Some.front in
    let x = seen_cond front.cond in
    let said = sym c.in_ok-front.ensures ∙ ap (option_map seen_front) c.in-Some.is in
    let none : length front.rest.now ≡ 0 = grind (arith, nat_tests) in
    let nothing = ap texts (nil_from_length front.rest.now none) in
    let step = conds_step second change (texts part.front.now) (texts front.rest.now) before x
    (conds_sets second change (part_list c.args.first))
    (after_parts part.after) said nothing c.loop-conds.invariant in
    let items = ap (map seen_cond) c.in_ok-push.ensures.items
    ∙ map-append seen_cond c.loop-conds.conds.items (front.cond ∷ []) in
    let more = c.next_part-part.ensures.parts ∙ sym (ap after_parts c.in-Some-after.is) in
    ap (λ (ys : List SaidCond). with_conds ys
    (conds_sets second change (part_list c.next_part-part.result))) items
    ∙ ap (λ (ps : List Words). with_conds (before ++ x ∷ []) (conds_sets second change ps)) more ∙ step

pub returns-then-not-is_empty : goal.returns-then-not-is_empty
returns-then-not-is_empty c =
    let second = c.args.second in
    let change = c.args.change in
    let part = c.loop-conds.part in
    let before = map seen_cond c.loop-conds.conds.items in
    let front = c.in-Some.front in
    let x = seen_cond front.cond in
    let said = sym c.in_ok-front.ensures ∙ ap (option_map seen_front) c.in-Some.is in
    let one : 1 ≤ length front.rest.now = grind (arith, nat_tests) in
    let some : 1 ≤ length (texts front.rest.now) =
    omega (arith, one, length-map front.rest.now (λ w. w.now)) in
    let items = ap (map seen_cond) c.in_ok-push.ensures.items
    ∙ map-append seen_cond c.loop-conds.conds.items (front.cond ∷ []) in
    let step = do_step second change (texts part.front.now) (texts front.rest.now) before x
    (conds_sets second change (part_list c.args.first))
    (after_parts part.after) said some c.loop-conds.invariant in
    let all = ap (λ (ys : List SaidCond). do_sets second ys (texts front.rest.now) (after_parts part.after))
    items ∙ step in
    subst (λ a. IfOk c.do_sets.result (λ o. option_map seen_row o ≡ a)) all c.do_sets.ensures
