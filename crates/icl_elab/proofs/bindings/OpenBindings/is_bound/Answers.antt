use Rattle.std.proofs.Common.{◌∙◌, ap}
use Rattle.std.specs.Prelude.{is_some}
use Rattle.icl_elab.proofs.Bound.{any_position}
use Rattle.icl_elab.specs.Bindings.{binds_bit}
use Rattle.icl_elab.proofs.bindings.OpenBindings.is_bound.Goals as goal

pub returns : goal.returns
returns c = c.is_some.ensures ∙ ap is_some c.number_of.ensures
    ∙ any_position (binds_bit c.args.part c.args.pos) 0 c.args.self.now
