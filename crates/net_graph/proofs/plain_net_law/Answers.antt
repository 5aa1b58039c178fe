use Rattle.net_graph.proofs.PlainNet.{plain_net_is_net}
use Rattle.net_graph.proofs.plain_net_law.Goals as goal

pub returns : goal.returns
returns c = record { well_formed = plain_net_is_net }
