use Rattle.std.proofs.Common.{◌∷◌, [], length, length-append, ap, sym, subst, arith}
use Rattle.svf_notes.specs.declared.heads.Head.{Head}
use Rattle.svf_notes.specs.Heads.{AreHeadsFrom}
use Rattle.svf_notes.proofs.RowHeads.{head_push}
use Rattle.svf_notes.proofs.heads.Heads.new.Goals as goal

pub loop-reg-preserved : goal.loop-reg-preserved
loop-reg-preserved c =
    let x : Head = record { at = 0; text = c.new.result } in
    record {
      count = omega (
        arith,
        c.loop-reg.invariant.count,
        ap length c.in_ok-push.ensures.items,
        length-append c.loop-reg.heads.items (x ∷ []),
      );
      each = subst (AreHeadsFrom c.args.net.now 0) (sym c.in_ok-push.ensures.items)
          (head_push c.args.net.now 0 c.loop-reg.heads.items x c.loop-reg.invariant.each c.new.ensures.items);
    }
