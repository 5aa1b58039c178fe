use Rattle.std.proofs.Common.{refl}
use Rattle.pdl_targets.proofs.Others.{kept_from, more_are, more_from, other_put}
use Rattle.pdl_targets.proofs.mux_rounds.MuxRounds.add.Goals as goal

pub returns-in_err-add-clause-kept : goal.returns-in_err-add-clause-kept
returns-in_err-add-clause-kept c =
    kept_from c.args.stamp _ c.args.self.now _ c.self.view_is c.requires c.add.ensures.stamped
    c.add_round_if.ensures.below (λ h. h) c.add.ensures.keeps c.add_round_if.ensures.keeps (λ r k. refl)

pub returns-in_err-put-clause-kept : goal.returns-in_err-put-clause-kept
returns-in_err-put-clause-kept c =
    kept_from c.args.stamp _ c.args.self.now _ c.self.view_is c.requires c.add.ensures.stamped
    c.add_round_if.ensures.below c.put.ensures.below c.add.ensures.keeps
    c.add_round_if.ensures.keeps c.in_err-put.ensures.stays

pub returns-clause-put : goal.returns-clause-put
returns-clause-put c =
    other_put c.args.stamp c.args.self.now _ c.args.row c.args.round c.is_further-further.result (
    more_from c.args.stamp _ c.args.self.now _ c.self.view_is c.requires c.args.row c.args.round _
    c.is_further-further.ensures c.in_ok-add_round_if.ensures.put
    c.in_ok-add.ensures.put c.in_ok-put.ensures.put
    c.add.ensures.stamped c.add_round_if.ensures.below c.put.ensures.below
    )

pub returns-clause-kept : goal.returns-clause-kept
returns-clause-kept c =
    more_are c.args.stamp c.args.self.now _ c.args.row c.args.round c.is_further-further.result (
    more_from c.args.stamp _ c.args.self.now _ c.self.view_is c.requires c.args.row c.args.round _
    c.is_further-further.ensures c.in_ok-add_round_if.ensures.put
    c.in_ok-add.ensures.put c.in_ok-put.ensures.put
    c.add.ensures.stamped c.add_round_if.ensures.below c.put.ensures.below
    )
