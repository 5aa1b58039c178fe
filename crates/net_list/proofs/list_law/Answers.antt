use Rattle.net_list.proofs.Reaching.{scans_are_fewest}
use Rattle.net_list.proofs.list_law.Goals as goal

pub returns : goal.returns
returns c = record { fewest = scans_are_fewest }
