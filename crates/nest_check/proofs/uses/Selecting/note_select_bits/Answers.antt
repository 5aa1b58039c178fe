use Rattle.std.proofs.Common.{sym, subst}
use Rattle.net_graph.specs.declared.net.BitId.{BitId}
use Rattle.nest_check.specs.Uses.{HaveFlags, note, note_select_bits, selected_of}
use Rattle.nest_check.proofs.BitUses.{note_fits}
use Rattle.nest_check.proofs.Folding.{fold_item}
use Rattle.nest_check.proofs.uses.Selecting.note_select_bits.Goals as goal

abbrev none : BitId
none = record { reg = 0; pos = 0 }

pub loop-bit-preserved : goal.loop-bit-preserved
loop-bit-preserved c = (
  subst (HaveFlags c.args.net.now) (sym c.note.ensures)
      (note_fits c.args.net.now (selected_of c.loop-bit.self) _ c.loop-bit.invariant.0),
  fold_item note c.args.select.now c.loop-bit.bit-index none (selected_of c.loop-bit.self)
      (selected_of c.note.new.self) (note_select_bits (selected_of c.args.self.now) c.args.select.now)
      c.loop-bit-test.true c.note.ensures c.loop-bit.invariant.1,
)
