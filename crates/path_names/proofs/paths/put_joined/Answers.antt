use Rattle.ij_io.proofs.Adding.{adds_both, adds_front, adds_then_part, at_refusal, adds_part_as, adds_as}
use Rattle.path_names.proofs.Parts.{joined_is}
use Rattle.path_names.proofs.paths.put_joined.Goals as goal

pub returns-in_err-put_name-in-len1-up-clause-part : goal.returns-in_err-put_name-in-len1-up-clause-part
returns-in_err-put_name-in-len1-up-clause-part g c = at_refusal c.from_residual.result
    (adds_part_as (joined_is c.args.names.now c.first-item.result c.in-len1-up.len_at_least c.first-item.is)
    (adds_front _ c.in_err-put_name-in-len1-up.ensures.part))

pub returns-in_err-put_all_after_dots-in-len1-up-clause-part :
    goal.returns-in_err-put_all_after_dots-in-len1-up-clause-part
returns-in_err-put_all_after_dots-in-len1-up-clause-part g c =
    at_refusal c.from_residual-in_err-put_all_after_dots-in-len1-up.result (adds_part_as
    (joined_is c.args.names.now c.first-item.result c.in-len1-up.len_at_least c.first-item.is) (adds_then_part
    c.in_ok-put_name-in-len1-up.ensures.whole c.in_err-put_all_after_dots-in-len1-up.ensures.part))

pub returns-in_ok-put_all_after_dots-in-len1-up-clause-whole :
    goal.returns-in_ok-put_all_after_dots-in-len1-up-clause-whole
returns-in_ok-put_all_after_dots-in-len1-up-clause-whole g c =
    adds_as (joined_is c.args.names.now c.first-item.result c.in-len1-up.len_at_least c.first-item.is)
    (adds_both c.in_ok-put_name-in-len1-up.ensures.whole c.in_ok-put_all_after_dots-in-len1-up.ensures.whole)
