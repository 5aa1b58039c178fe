use Rattle.std.proofs.Common.{◌≡◌, ◌+◌, ◌-◌, ◌++◌}
use Rattle.design_maker.specs.Network.{sib_items}
use Rattle.design_maker.specs.Parts.{seen_items}
use Rattle.design_maker.proofs.network.add_sibs.Given as goal

abbrev pub invariant-loop-j : goal.invariant-loop-j
invariant-loop-j l = seen_items l.items ++ sib_items l.fn.i l.sibs (l.j + 1) (l.sibs - l.j)
    ≡ seen_items l.fn.items ++ sib_items l.fn.i l.sibs 1 l.sibs
