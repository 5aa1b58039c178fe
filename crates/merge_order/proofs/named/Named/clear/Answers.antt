use Rattle.merge_order.proofs.Telling.{none_told}
use Rattle.merge_order.proofs.named.Named.clear.Goals as goal

pub returns : goal.returns
returns c = λ places. none_told places (record { bits = c.clear.new.self; rows = c.clear-2.new.self })
    c.clear.ensures.bits c.clear.ensures.closed c.clear-2.ensures
