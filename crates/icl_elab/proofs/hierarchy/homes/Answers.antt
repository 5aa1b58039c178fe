use Rattle.std.proofs.Common.{◌∙◌, ap}
use Rattle.ij_text.specs.Options.{or_else}
use Rattle.icl_elab.specs.Placing.{parent_in}
use Rattle.icl_references.specs.Tables.{frames_of}
use Rattle.icl_elab.proofs.Homes.{home_from, home_is}
use Rattle.icl_elab.proofs.hierarchy.homes.Goals as goal

pub loop-here-init : goal.loop-here-init
loop-here-init c = record {
  long = c.in_ok-homes.ensures.long;
  homes = λ n lt. ap (λ o. or_else o (home_from n
      (parent_in (frames_of c.args.tables.now) n) 0 c.args.cells.now)) (c.in_ok-homes.ensures.none n)
      ∙ home_is n (parent_in (frames_of c.args.tables.now) n) c.args.cells.now;
}
