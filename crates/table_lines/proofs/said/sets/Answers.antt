use Rattle.std.proofs.Common.{◌++◌, ◌∷◌, [], List, map, ap, sym, ◌∙◌}
use Rattle.std.specs.Option.{option_map}
use Rattle.std.proofs.lemmas.List.{map-append}
use Rattle.table_lines.specs.Reading.{texts}
use Rattle.table_lines.specs.Said.{Words, SaidSet, sets}
use Rattle.table_lines.specs.SeenSaid.{seen_set}
use Rattle.table_lines.specs.Parted.{part_list, after_parts}
use Rattle.table_lines.proofs.Rows.{sets_step}
use Rattle.table_lines.proofs.said.sets.Goals as goal

pub loop-all-preserved : goal.loop-all-preserved
loop-all-preserved c =
    let second = c.args.second in
    let part = c.loop-all.part in
    let before = map seen_set c.loop-all.all.items in
    let x = seen_set c.in-Some.set in
    let said = sym c.in_ok-set.ensures ∙ ap (option_map seen_set) c.in-Some.is in
    let step = sets_step second (texts part.front.now) before x (sets second (part_list c.args.first))
    (after_parts part.after) said c.loop-all.invariant in
    let items = ap (map seen_set) c.in_ok-push.ensures.items
    ∙ map-append seen_set c.loop-all.all.items (c.in-Some.set ∷ []) in
    let more = c.next_part-part.ensures.parts ∙ sym (ap after_parts c.in-Some-after.is) in
    ap (λ (ys : List SaidSet). option_map (λ xs. ys ++ xs)
    (sets second (part_list c.next_part-part.result))) items
    ∙ ap (λ (ps : List Words). option_map (λ xs. (before ++ x ∷ []) ++ xs) (sets second ps)) more ∙ step
