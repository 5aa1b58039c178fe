use Rattle.std.proofs.Common.{◌≡◌, [], map, drop}
use Rattle.icl_lexer.specs.Views.{seen_bind, seen_module}
use Rattle.icl_declarations.specs.Faults.{over}
use Rattle.icl_declarations.specs.Tables.{seen_table}
use Rattle.icl_frames.specs.FirstPass.{with_binding}
use Rattle.icl_frames.proofs.instances.bound_parameters.Given as goal

abbrev pub invariant-loop-bind : goal.invariant-loop-bind
invariant-loop-bind l =
    over (with_binding (seen_table l.params) (seen_module l.block)) (seen_table l.given)
    (map seen_bind (drop l.bind-index l.binds))
    ≡ over (with_binding (seen_table l.params) (seen_module l.block)) [] (map seen_bind l.binds)
