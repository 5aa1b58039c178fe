use Rattle.std.proofs.Common.{◌≡◌, IfErr, IfOk, Option, sym, subst, ap, ◌∙◌}
use Rattle.std.specs.Prelude.{Result, Ok, Err}
use Rattle.std.specs.Option.{option_map}
use Rattle.net_graph.specs.declared.step.BitStep.{BitStep}
use Rattle.net_graph.specs.SeenSteps.{seen_step as seen_bit_step}
use Rattle.pdl_expand.specs.Values.{seen_step}
use Rattle.pdl_targets.specs.declared.fault.TargetFault.{TargetFault}
use Rattle.pdl_targets.specs.Binding.{Answer, Queue, feed}
use Rattle.pdl_targets.specs.Seen.{Refuses}
use Rattle.pdl_targets.specs.SeenBinder.{ABinder, queue_in}
use Rattle.pdl_targets.specs.SeenGathered.{Binds, seen_gathered}
use Rattle.pdl_targets.specs.SeenPlaces.{places_in}
use Rattle.pdl_targets.specs.Targets.{Found, Is}
use Rattle.pdl_targets.proofs.binder.Binder.feed.Goals as goal

bound_refuses : (found : Found Answer) (queue : Queue) (r : Result (Option BitStep) TargetFault)
    → Binds found queue r → IfErr r (Refuses found)
bound_refuses found queue (Ok step) h = tt
bound_refuses found queue (Err e) h = h

bound_gives : (found : Found Answer) (queue : Queue) (r : Result (Option BitStep) TargetFault)
    → Binds found queue r
    → IfOk r (λ o. found ≡ Is (record { queue = queue; step = option_map seen_bit_step o }))
bound_gives found queue (Ok step) h = h
bound_gives found queue (Err e) h = tt

pub returns-clause-given : goal.returns-clause-given
returns-clause-given c =
    let inside = c.self.inside in
    let step = seen_step c.args.step.now in
    let now = seen_gathered c.bind-answer.new.gathered in
    let P : ABinder → Type 0 = λ v. IfOk c.bind-answer.result (λ o. feed v.net (places_in v.form) v.queue step
    ≡ Is (record { queue = now; step = option_map seen_bit_step o })) in
    let Q : Queue
    → Type 0 = λ q. IfOk c.bind-answer.result (λ o. feed inside.net.now (places_in inside.tree.now) q step
    ≡ Is (record { queue = now; step = option_map seen_bit_step o })) in
    let left : Queue → Type 0 = λ q. IfOk c.bind-answer.result
    (λ o. feed c.args.self.now.net (places_in c.args.self.now.form) c.args.self.now.queue step
    ≡ Is (record { queue = q; step = option_map seen_bit_step o })) in
    subst left (sym (ap queue_in c.put_back.ensures))
    (subst P c.self.view_is (subst Q (c.in_ok-made.ensures.queue ∙ ap queue_in c.take.ensures.value)
    (bound_gives _ _ c.bind-answer.result c.bind-answer.ensures.answer)))

pub returns-clause-refused : goal.returns-clause-refused
returns-clause-refused c =
    let inside = c.self.inside in
    let step = seen_step c.args.step.now in
    let P : ABinder
    → Type 0 = λ v. IfErr c.bind-answer.result (Refuses (feed v.net (places_in v.form) v.queue step)) in
    let Q : Queue → Type 0 =
    λ q. IfErr c.bind-answer.result (Refuses (feed inside.net.now (places_in inside.tree.now) q step)) in
    subst P c.self.view_is (subst Q (c.in_ok-made.ensures.queue ∙ ap queue_in c.take.ensures.value)
    (bound_refuses _ _ c.bind-answer.result c.bind-answer.ensures.answer))
