use Rattle.ij_io.proofs.Adding.{at_refusal}
use Rattle.icl_printer.proofs.Laid.{laid_both, laid_front, laid_then_part, part_as, whole_as, braced_full}
use Rattle.icl_printer.proofs.put.put_braced.Goals as goal

pub returns-in_err-put_tokens-2-clause-part : goal.returns-in_err-put_tokens-2-clause-part
returns-in_err-put_tokens-2-clause-part g c =
    at_refusal c.from_residual-in_err-put_tokens-2.result
    (part_as (braced_full g.T.Put.tokens g.T.Put.view c.args.parts.now.items c.is_empty.result
    c.is_empty.ensures c.if-is_empty.false) (laid_front _ _ c.in_err-put_tokens-2.ensures.part))

pub returns-in_err-put_all-clause-part : goal.returns-in_err-put_all-clause-part
returns-in_err-put_all-clause-part g c =
    at_refusal c.from_residual-in_err-put_all.result
    (part_as (braced_full g.T.Put.tokens g.T.Put.view c.args.parts.now.items
    c.is_empty.result c.is_empty.ensures c.if-is_empty.false)
    (laid_then_part _ _ c.in_ok-put_tokens-2.ensures.whole (laid_front _ _ c.in_err-put_all.ensures.part)))

pub returns-in_err-put_tokens-3-clause-part : goal.returns-in_err-put_tokens-3-clause-part
returns-in_err-put_tokens-3-clause-part g c =
    at_refusal c.from_residual-in_err-put_tokens-3.result
    (part_as (braced_full g.T.Put.tokens g.T.Put.view c.args.parts.now.items
    c.is_empty.result c.is_empty.ensures c.if-is_empty.false)
    (laid_then_part _ _ c.in_ok-put_tokens-2.ensures.whole
    (laid_then_part _ _ c.in_ok-put_all.ensures.whole c.in_err-put_tokens-3.ensures.part)))

pub returns-in_ok-put_tokens-3-clause-whole : goal.returns-in_ok-put_tokens-3-clause-whole
returns-in_ok-put_tokens-3-clause-whole g c =
    whole_as (braced_full g.T.Put.tokens g.T.Put.view c.args.parts.now.items
    c.is_empty.result c.is_empty.ensures c.if-is_empty.false)
    (laid_both _ _ c.in_ok-put_tokens-2.ensures.whole
    (laid_both _ _ c.in_ok-put_all.ensures.whole c.in_ok-put_tokens-3.ensures.whole))
