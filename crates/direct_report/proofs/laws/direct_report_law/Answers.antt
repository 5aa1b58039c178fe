use Rattle.direct_report.proofs.Ordering.{order_keeps_reads, reads_are_few}
use Rattle.direct_report.proofs.Parts.{steps_come_in_order, the_end_comes_last}
use Rattle.direct_report.proofs.laws.direct_report_law.Goals as goal

pub returns-clause-steps : goal.returns-clause-steps
returns-clause-steps c = steps_come_in_order

pub returns-clause-end : goal.returns-clause-end
returns-clause-end c = the_end_comes_last

pub returns-clause-order : goal.returns-clause-order
returns-clause-order c = order_keeps_reads

pub returns-clause-few : goal.returns-clause-few
returns-clause-few c = reads_are_few
