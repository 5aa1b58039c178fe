use Rattle.std.proofs.Common.{[]}
use Rattle.icl_references.specs.Roles.{seen_hier}
use Rattle.icl_signals.proofs.Nowhere.{none_at}
use Rattle.icl_signals.proofs.links.top_parts.Goals as goal

pub returns-in-None : goal.returns-in-None
returns-in-None c = none_at (λ d. d.parts) [] (seen_hier c.args.hier.now) 0 c.in-None.ensures
