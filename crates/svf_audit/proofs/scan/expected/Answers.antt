use Rattle.svf_audit.proofs.Numbering.{read_found, read_not_found}
use Rattle.svf_audit.proofs.scan.expected.Goals as goal

pub returns-in-Some : goal.returns-in-Some
returns-in-Some c = read_found c.args.reads.now c.args.bit c.in-Some.i _ c.in-Some.ensures

pub returns-in-None : goal.returns-in-None
returns-in-None c = read_not_found c.args.reads.now c.args.bit c.in-None.ensures
