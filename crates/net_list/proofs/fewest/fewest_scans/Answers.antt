use Rattle.std.proofs.Common.{◌≡◌, ◌<◌, ◌-◌, suc, length, arith, ◌∙◌}
use Rattle.std.proofs.lemmas.List.{get_or_default}
use Rattle.net_graph.proofs.Widths.{started_held}
use Rattle.net_list.proofs.Reaching.{can_plan, innermost, planned_scans}
use Rattle.net_list.proofs.fewest.fewest_scans.Goals as goal

pub plan_row-requires : goal.plan_row-requires
plan_row-requires c =
    let place = c.args.place.now in
    let count : suc (length place - 1) ≡ length place = omega (arith, c.in-len1-up.len_at_least) in
    let below : length place - 1 < length place = omega (arith, c.in-len1-up.len_at_least) in
    can_plan c.args.net.now c.args.tree.now c.args.reg _ c.args.start.now c.requires.well_formed
    c.requires.form c.requires.lawful c.requires.start
    (innermost c.args.net.now c.args.tree.now c.args.reg _ place (length place - 1) c.requires.form
    c.requires.there c.requires.place count (get_or_default _ _ _ _ below))

pub returns-in_ok-plans-in-len1-up : goal.returns-in_ok-plans-in-len1-up
returns-in_ok-plans-in-len1-up c =
    let place = c.args.place.now in
    let count : suc (length place - 1) ≡ length place = omega (arith, c.in-len1-up.len_at_least) in
    let below : length place - 1 < length place = omega (arith, c.in-len1-up.len_at_least) in
    c.len.ensures
    ∙ planned_scans c.args.net.now c.args.tree.now c.args.reg _ c.args.start.now
    c.in_ok-plans-in-len1-up.plans.items c.requires.start
    (innermost c.args.net.now c.args.tree.now c.args.reg _ place (length place - 1) c.requires.form
    c.requires.there c.requires.place count (get_or_default _ _ _ _ below))
    c.in_ok-plans-in-len1-up.ensures.planned

pub scans_through-requires-clause-holds : goal.scans_through-requires-clause-holds
scans_through-requires-clause-holds c = started_held c.args.net.now c.args.start.now c.requires.start

pub scans_through-requires-clause-there : goal.scans_through-requires-clause-there
scans_through-requires-clause-there c =
    let place = c.args.place.now in
    let count : suc 0 ≡ length place = omega (arith, c.in-len1.len_at_least, c.in-len1.len_below) in
    let below : 0 < length place = omega (arith, c.in-len1.len_at_least) in
    (innermost c.args.net.now c.args.tree.now c.args.reg _ place 0 c.requires.form c.requires.there
    c.requires.place count (get_or_default _ _ _ _ below)).there
