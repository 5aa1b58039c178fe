use Rattle.merge_order.proofs.Telling.{closed_told}
use Rattle.merge_order.proofs.named.Named.close.Goals as goal

pub returns : goal.returns
returns c = λ places joins rounds tells following shut.
    closed_told places c.args.self.now c.close.new.self joins c.args.join rounds tells following shut
    c.in_ok-close.ensures.bits c.in_ok-close.ensures.closed
