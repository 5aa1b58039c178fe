-- Writing bits one by one, as a loop does.
use Rattle.std.proofs.Common.{◌≡◌, ℕ, ◌+◌, ◌<◌, List, length, drop, get_or, sym, ap, ◌∙◌}
use Rattle.std.proofs.lemmas.List.{at_drop_more}
use Rattle.net_graph.specs.declared.step.WriteBit.{WriteBit}
use Rattle.net_graph.specs.Held.{set_hold}
use Rattle.net_graph.specs.Signals.{Holds}
use Rattle.net_graph.specs.Writes.{write_all}

pub next_rest : (h after first : Holds) (ws : List WriteBit) (i : ℕ) (d : WriteBit) → i < length ws
    → write_all h (drop i ws) ≡ first → after ≡ set_hold h (get_or ws i d).bit (get_or ws i d).value
    → write_all after (drop (i + 1) ws) ≡ first
next_rest h after first ws i d l f g =
    ap (λ z. write_all z (drop (i + 1) ws)) g ∙ sym (at_drop_more (write_all h) ws i d l) ∙ f
