-- Network, device and bit steps have one text that is right.
use Rattle.std.proofs.Common.{◌≡◌, ◌∙◌, sym, ap, List, map}
use Rattle.net_graph.specs.Resets.{start_holds}
use Rattle.headline.specs.Script.{script_text}
use Rattle.headline.specs.Retargeting.{TextsAreOne, seen_of}
use Rattle.headline.proofs.One.{scripts_are_one}
use Rattle.headline.proofs.Right.{steps_same}

pub texts_are_one : TextsAreOne
texts_are_one net form device steps a b p q =
    let holds = start_holds net in
    let same : map seen_of p.plans ≡ map seen_of q.plans =
    sym (steps_same net holds p.plans) ∙ p.right.does ∙ sym q.right.does ∙ steps_same net holds q.plans in
    p.right.text ∙ ap (script_text device)
    (scripts_are_one net form holds p.plans q.plans p.planned q.planned same) ∙ sym q.right.text
