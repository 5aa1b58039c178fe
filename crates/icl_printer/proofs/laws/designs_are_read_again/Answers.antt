use Rattle.icl_printer.proofs.Layouts.{designs_are_read_again}
use Rattle.icl_printer.proofs.laws.designs_are_read_again.Goals as goal

pub returns : goal.returns
returns c = designs_are_read_again
