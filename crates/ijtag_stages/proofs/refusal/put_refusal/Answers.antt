use Rattle.std.proofs.Common.{ℕ, List, subst, refl}
use Rattle.ij_io.specs.Bytes.{Adds, AddsPart}
use Rattle.ij_io.proofs.Adding.{at_refusal, adds_both, adds_front, adds_then_part}
use Rattle.ijtag_stages.proofs.Printed.{line_is}
use Rattle.ijtag_stages.proofs.refusal.put_refusal.Goals as goal

pub returns-in_err-put_head-clause-part : goal.returns-in_err-put_head-clause-part
returns-in_err-put_head-clause-part g c =
    let r = c.args.refusal.now in
    at_refusal c.from_residual.result
    (subst (λ (text : List ℕ). AddsPart (g.K.Sink.taken c.args.k.now) (g.K.Sink.taken c.put_head.new.k) text)
    (line_is r r.args.items refl) (adds_front _ c.in_err-put_head.ensures.part))

pub returns-in_err-put_after-clause-part : goal.returns-in_err-put_after-clause-part
returns-in_err-put_after-clause-part g c =
    at_refusal c.from_residual-in_err-put_after.result
    (subst (λ (text : List ℕ). AddsPart (g.K.Sink.taken c.args.k.now) (g.K.Sink.taken c.put_after.new.k) text)
    (line_is c.args.refusal.now c.as_slice.result.now c.as_slice.ensures)
    (adds_then_part c.in_ok-put_head.ensures.whole c.in_err-put_after.ensures.part))

pub returns-clause-whole : goal.returns-clause-whole
returns-clause-whole g c =
    subst (λ (text : List ℕ). Adds (g.K.Sink.taken c.args.k.now) (g.K.Sink.taken c.put_after.new.k) text)
    (line_is c.args.refusal.now c.as_slice.result.now c.as_slice.ensures)
    (adds_both c.in_ok-put_head.ensures.whole c.in_ok-put_after.ensures.whole)
