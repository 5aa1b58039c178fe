-- Writing bits one by one, as a loop does.
use Rattle.std.proofs.Common.{◌≡◌, ℕ, ◌+◌, ◌<◌, List, length, drop, get_or, sym, ap, ◌∙◌, subst}
use Rattle.std.proofs.lemmas.List.{at_drop_more}
use Rattle.net_graph.specs.declared.step.WriteBit.{WriteBit}
use Rattle.net_graph.specs.Signals.{Holds}
use Rattle.net_graph.specs.Held.{set_hold}
use Rattle.net_graph.specs.Writes.{write_all}

pub next_rest : (h after first : Holds) (ws xs : List WriteBit) (i : ℕ) (d : WriteBit) → xs ≡ ws
    → i < length xs → write_all h (drop i ws) ≡ first
    → after ≡ set_hold h (get_or xs i d).bit (get_or xs i d).value → write_all after (drop (i + 1) ws) ≡ first
next_rest h after first ws xs i d e l f g =
    let here =
    subst (λ (zs : List WriteBit). after ≡ set_hold h (get_or zs i d).bit (get_or zs i d).value) e g in
    ap (λ z. write_all z (drop (i + 1) ws)) here
    ∙ sym (at_drop_more (write_all h) ws i d (subst (λ zs. i < length zs) e l)) ∙ f
