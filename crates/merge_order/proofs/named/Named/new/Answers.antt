use Rattle.merge_order.proofs.Telling.{none_told}
use Rattle.merge_order.proofs.named.Named.new.Goals as goal

pub returns : goal.returns
returns c = λ places. none_told places (record { bits = c.new.result; rows = c.new-2.result })
    c.new.ensures.bits c.new.ensures.closed c.new-2.ensures
