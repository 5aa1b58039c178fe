use Rattle.icl_declarations.proofs.InnerNames.{none}
use Rattle.icl_declarations.proofs.taken.Taken.has.Goals as goal

pub returns-in-Attribute : goal.returns-in-Attribute
returns-in-Attribute c items taken = rw c.in-Attribute.is (none items)
