use Rattle.std.proofs.Common.{◌∙◌, sym, ap}
use Rattle.icl_elab.specs.Hierarchy.{bindings_of}
use Rattle.icl_elab.specs.Placing.{home_in}
use Rattle.icl_elab.specs.SeenCells.{seen_pass}
use Rattle.icl_elab.proofs.Homes.{bound_nowhere, bound_there}
use Rattle.icl_elab.proofs.hierarchy.bound_in_parent.Goals as goal

pub returns-in-Some-home : goal.returns-in-Some-home
returns-in-Some-home c = λ n h.
    let cells = c.args.cells.now in
    c.part_bindings.ensures
    ∙ bound_there cells n c.in-Some.parent c.in-Some-home.part
    (sym c.in-Some-home.is ∙ h ∙ ap (home_in cells n) c.in-Some.is)
    ∙ sym (ap (bindings_of (seen_pass cells) n) c.in-Some.is)

pub returns-in-None-home : goal.returns-in-None-home
returns-in-None-home c = λ n h.
    let cells = c.args.cells.now in
    c.requires
    ∙ bound_nowhere cells n c.in-Some.parent (sym c.in-None-home.is ∙ h ∙ ap (home_in cells n) c.in-Some.is)
    ∙ sym (ap (bindings_of (seen_pass cells) n) c.in-Some.is)
