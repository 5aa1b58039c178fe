use Rattle.net_graph.proofs.Setting.{set_is_there, others_stay, bits_stay, each_bit_has_one, zeros_are_zero}
use Rattle.net_graph.proofs.mark_laws.marks_law.Goals as goal

pub returns-clause-set : goal.returns-clause-set
returns-clause-set c = set_is_there

pub returns-clause-others : goal.returns-clause-others
returns-clause-others c = others_stay

pub returns-clause-bits : goal.returns-clause-bits
returns-clause-bits c = bits_stay

pub returns-clause-each : goal.returns-clause-each
returns-clause-each c = each_bit_has_one

pub returns-clause-zeros : goal.returns-clause-zeros
returns-clause-zeros c = zeros_are_zero
