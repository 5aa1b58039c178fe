use Rattle.run_report.proofs.Standing.{first_zero}
use Rattle.run_report.proofs.names.cursor_for.Goals as goal

pub returns-clause-first : goal.returns-clause-first
returns-clause-first c = first_zero c.new.result c.args.scan c.new.ensures.first
