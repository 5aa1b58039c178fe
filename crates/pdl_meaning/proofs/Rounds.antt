-- Rounds one by one, as a loop goes over them.
use Rattle.std.proofs.Common.{◌≡◌, ◌+◌, ◌<◌, ℕ, List, length, get_or, drop, sym, ap, ◌∙◌}
use Rattle.std.specs.Prelude.{map}
use Rattle.instruments.specs.Machine.{Machine, count_log}
use Rattle.instruments.specs.declared.Counts.{Counts}
use Rattle.net_graph.specs.SeenSteps.{seen_group}
use Rattle.net_graph.specs.declared.net.Net.{Net}
use Rattle.net_graph.specs.declared.step.Group.{Group}
use Rattle.pdl_meaning.specs.Direct.{Direct, do_group, do_rounds}
use Rattle.pdl_meaning.specs.States.{reads_of}
use Rattle.net_graph.proofs.Groups.{left_next}

pub reads_next : (gs : List Group) (g : Group) (i : ℕ) → i < length gs
    → g ≡ get_or gs i g → reads_of (map seen_group (drop i gs))
    ≡ length g.reads.items + reads_of (map seen_group (drop (i + 1) gs))
reads_next gs g i l is = ap reads_of (left_next gs g i l is)

pub rounds_next : (net : Net) (machines : List Machine) (gs : List Group) (g : Group) (i : ℕ)
    (d after : Direct Counts) → i < length gs → g ≡ get_or gs i g
    → after ≡ do_group count_log net machines d (seen_group g)
    → do_rounds count_log net machines after (map seen_group (drop (i + 1) gs))
    ≡ do_rounds count_log net machines d (map seen_group (drop i gs))
rounds_next net machines gs g i d after l is e =
    ap (λ (x : Direct Counts). do_rounds count_log net machines x (map seen_group (drop (i + 1) gs))) e
    ∙ sym (ap (do_rounds count_log net machines d) (left_next gs g i l is))
