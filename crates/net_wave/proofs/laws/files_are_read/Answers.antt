use Rattle.net_wave.proofs.FilesRead.{files_found}
use Rattle.net_wave.proofs.laws.files_are_read.Goals as goal

pub returns : goal.returns
returns c = files_found
