use Rattle.icl_references.specs.Roles.{seen_hier}
use Rattle.icl_signals.proofs.Tops.{none_is_top}
use Rattle.icl_signals.proofs.parts.is_top.Goals as goal

pub returns-in-None : goal.returns-in-None
returns-in-None c = none_is_top (seen_hier c.args.hier.now) c.args.cell c.in-None.ensures
