use Rattle.std.proofs.Common.{sym, ap, subst, ◌∙◌}
use Rattle.std.specs.Prelude.{length}
use Rattle.pdl_targets.specs.Insertion.{AreExcluded}
use Rattle.pdl_targets.specs.SeenPlaces.{places_in}
use Rattle.pdl_targets.specs.SeenRounds.{seen_rounds}
use Rattle.pdl_targets.specs.Rows.{excluded_at}
use Rattle.pdl_targets.proofs.Joining.{excludes_more, joins_first, so_many}
use Rattle.pdl_targets.proofs.rounds.put_in.Goals as goal

pub returns-clause-put : goal.returns-clause-put
returns-clause-put c =
    let rounds = c.args.rounds.now.items in
    let first = c.first_open_round-k.ensures in
    c.in_ok-put_at.ensures
    ∙ joins_first (places_in c.args.tree.now) (seen_rounds rounds) (excluded_at c.args.rows.now)
    c.as_slice.result.now c.first_open_round-k.result c.args.register c.in_ok-count.count
    (c.as_slice.ensures ∙ c.place_of-place.ensures.place)
    (so_many rounds c.in_ok-count.count (c.in_ok-count.ensures ∙ ap length c.deref.ensures.value))
    c.requires first.at_most first.before first.at

pub returns-clause-rows : goal.returns-clause-rows
returns-clause-rows c =
    let rounds = c.args.rounds.now.items in
    let places = places_in c.args.tree.now in
    subst (λ rss. AreExcluded places rss (excluded_at c.add_all.new.self)) (sym c.in_ok-put_at.ensures)
    (excludes_more places (seen_rounds rounds) (excluded_at c.args.rows.now) (excluded_at c.add_all.new.self)
    c.as_slice-2.result.now c.first_open_round-k.result c.args.register c.in_ok-count.count
    (c.as_slice-2.ensures ∙ c.place_of-place.ensures.place)
    (so_many rounds c.in_ok-count.count (c.in_ok-count.ensures ∙ ap length c.deref.ensures.value))
    c.first_open_round-k.ensures.at_most c.requires c.in_ok-add_all.ensures)
