use Rattle.ij_io.proofs.Adding.{at_refusal}
use Rattle.icl_printer.proofs.Laid.{laid_both, laid_front, laid_then_part, part_as, whole_as, cut_first}
use Rattle.icl_printer.proofs.Laid.{separated_none, none_added}
use Rattle.icl_printer.proofs.put.put_separated.Goals as goal

pub returns-in_err-put-clause-part : goal.returns-in_err-put-clause-part
returns-in_err-put-clause-part g c =
    at_refusal c.from_residual.result
    (part_as (cut_first c.args.mark g.T.Put.tokens g.T.Put.view c.args.parts.now c.first-item.result
    c.in-len1-up.len_at_least c.first-item.is)
    (laid_front _ _ c.in_err-put.ensures.part))

pub returns-in_err-put_each_after-clause-part : goal.returns-in_err-put_each_after-clause-part
returns-in_err-put_each_after-clause-part g c =
    at_refusal c.from_residual-in_err-put_each_after.result
    (part_as (cut_first c.args.mark g.T.Put.tokens g.T.Put.view c.args.parts.now c.first-item.result
    c.in-len1-up.len_at_least c.first-item.is)
    (laid_then_part _ _ c.in_ok-put.ensures.whole c.in_err-put_each_after.ensures.part))

pub returns-in_ok-put_each_after-clause-whole : goal.returns-in_ok-put_each_after-clause-whole
returns-in_ok-put_each_after-clause-whole g c =
    whole_as (cut_first c.args.mark g.T.Put.tokens g.T.Put.view c.args.parts.now c.first-item.result
    c.in-len1-up.len_at_least c.first-item.is)
    (laid_both _ _ c.in_ok-put.ensures.whole c.in_ok-put_each_after.ensures.whole)

pub returns-in_default-clause-whole : goal.returns-in_default-clause-whole
returns-in_default-clause-whole g c =
    whole_as (separated_none c.args.mark g.T.Put.tokens g.T.Put.view c.args.parts.now c.in_default.len_below)
    (none_added (g.K.Sink.taken c.args.k.now))
