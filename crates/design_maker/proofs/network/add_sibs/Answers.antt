use Rattle.std.proofs.Common.{◌+◌, ◌-◌, ◌++◌, arith, ap, ◌∙◌}
use Rattle.design_maker.specs.Network.{sib_items}
use Rattle.design_maker.specs.Parts.{HasAdded, seen_items}
use Rattle.design_maker.proofs.Loops.{sibs_next}
use Rattle.design_maker.proofs.network.add_sibs.Goals as goal

pub loop-j-preserved : goal.loop-j-preserved
unfolding HasAdded
loop-j-preserved c =
    let i = c.args.i in
    let sibs = c.args.sibs in
    let j = c.loop-j.j in
    ap (λ l. l ++ sib_items i sibs (j + 1 + 1) (sibs - (j + 1))) c.in_ok-add_sib.ensures
    ∙ sibs_next i sibs j (sibs - j) (sibs - (j + 1)) (seen_items c.loop-j.items)
    (seen_items c.args.items.now ++ sib_items i sibs 1 sibs) (omega arith) c.loop-j.invariant
