use Rattle.std.proofs.Common.{subst}
use Rattle.std.specs.Result.{IfErr}
use Rattle.pdl_expand.specs.Values.{seen_step}
use Rattle.pdl_targets.specs.SeenPlaces.{places_in}
use Rattle.merge_order.specs.Feeding as feeding
use Rattle.merge_order.specs.SeenFaults.{Refuses}
use Rattle.merge_order.specs.SeenFeeder.{AFeeder, seen_feed}
use Rattle.merge_order.proofs.Refusing.{refused_fed}
use Rattle.merge_order.proofs.feeder.Feeder.feed.Goals as goal

pub returns-clause-refused : goal.returns-clause-refused
returns-clause-refused c =
    let old = seen_feed c.self.inside.feed in
    let comes_to : AFeeder
    → feeding.Fed = λ f. feeding.feed f.net (places_in f.form) f.state (seen_step c.args.step.now) in
    subst (λ (f : AFeeder). IfErr c.feed.result (Refuses (comes_to f))) c.self.view_is
    (refused_fed (comes_to old) old (seen_feed c.feed.new.self) c.feed.result c.feed.ensures.answer)
