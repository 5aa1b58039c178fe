use Rattle.run_report.proofs.Same as same
use Rattle.run_report.proofs.laws.places_are_one.Goals as goal

pub returns : goal.returns
returns c = record { one = same.places_are_one }
