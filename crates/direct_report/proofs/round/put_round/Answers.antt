use Rattle.std.proofs.Common.{ℕ, List, ◌∙◌, sym, subst}
use Rattle.ij_io.specs.Bytes.{Adds}
use Rattle.ij_io.proofs.Adding.{with_none}
use Rattle.direct_report.specs.Seen.{found_all}
use Rattle.direct_report.proofs.Lining.{quiet}
use Rattle.direct_report.proofs.round.put_round.Goals as goal

pub returns-then-count-eq0-clause-whole : goal.returns-then-count-eq0-clause-whole
returns-then-count-eq0-clause-whole g c =
    let taken = g.K.Sink.taken c.args.k.now in
    let none = quiet c.args.net.now (found_all c.args.values.now c.args.reads.now)
    (sym c.count_differing-count.ensures ∙ c.if-count-eq0.true) in
    subst (λ (t : List ℕ). Adds taken taken t) (sym none) (record { added = with_none taken })
