use Rattle.std.proofs.Common.{◌≡◌, ◌∙◌, ap, refl, subst}
use Rattle.std.specs.Prelude.{MatchOption}
use Rattle.ij_io.proofs.Adding.{at_refusal}
use Rattle.net_graph.specs.SeenSteps.{seen_step}
use Rattle.merge_order.specs.BitSteps.{BitStepsOf, nothing_left, given_first_bit}
use Rattle.retargeter.proofs.Scripts.{few_later, plannable_later, few_steps}
use Rattle.ij_io.specs.Pieces.{with_piece}
use Rattle.ij_io.proofs.Later.{one_later}
use Rattle.ij_io.proofs.Pieces.{front_stays}
use Rattle.retargeter.proofs.FileSteps.{is_part, one_more}
use Rattle.std.proofs.lemmas.Result.{on_err_weaker}
use Rattle.retargeter.proofs.file_procedure.put_steps.Goals as goal

pub returns-in_err-step-clause-part : goal.returns-in_err-step-clause-part
returns-in_err-step-clause-part g c =
    let files = g.S.Shelf.files c.loop-piece.shelf in
    at_refusal _
    (is_part c.args.session.now c.args.steps.now.steps
    (with_piece (g.S.Shelf.files c.args.shelf.now) c.args.name.now c.args.piece) c.args.name.now
    c.loop-piece.session c.loop-piece.steps.steps files c.loop-piece.piece c.loop-piece.invariant.go files
    (front_stays files c.args.name.now c.loop-piece.piece c.loop-piece.invariant.there))

pub returns-in_err-put_step-clause-part : goal.returns-in_err-put_step-clause-part
returns-in_err-put_step-clause-part g c =
    let files = g.S.Shelf.files c.loop-piece.shelf in
    at_refusal _
    (is_part c.args.session.now c.args.steps.now.steps
    (with_piece (g.S.Shelf.files c.args.shelf.now) c.args.name.now c.args.piece) c.args.name.now
    c.loop-piece.session c.loop-piece.steps.steps files c.loop-piece.piece c.loop-piece.invariant.go files
    (front_stays files c.args.name.now c.loop-piece.piece c.loop-piece.invariant.there))

pub returns-in_err-piece-clause-part : goal.returns-in_err-piece-clause-part
returns-in_err-piece-clause-part g c =
    let files = g.S.Shelf.files c.loop-piece.shelf in
    let old = with_piece (g.S.Shelf.files c.args.shelf.now) c.args.name.now c.args.piece in
    let given = subst (λ o. MatchOption o (c.loop-piece.steps ≡ nothing_left) (λ s. c.loop-piece.steps
    ≡ given_first_bit (seen_step s) c.next_step.new.steps)) c.in-Some.is c.in_ok-step.ensures.given in
    let next = ap (λ (b : BitStepsOf). b.steps) given in
    let go =
    one_more c.args.session.now c.args.steps.now.steps old c.args.name.now c.loop-piece.session
    c.loop-piece.steps.steps files c.loop-piece.piece c.loop-piece.invariant.go
    (seen_step c.in-Some.step) c.next_step.new.steps.steps c.put_step.new.self c.put_step.new.k
    c.put_step.new.k files next c.in_ok-put_step.ensures.whole c.in_ok-put_step.ensures.after refl in
    at_refusal _
    (is_part c.args.session.now c.args.steps.now.steps old c.args.name.now c.put_step.new.self
    c.next_step.new.steps.steps files c.put_step.new.k go
    (g.S.Shelf.files c.store_full_piece.new.shelf) c.in_err-piece.ensures.part)

pub loop-piece-preserved-in_ok-piece : goal.loop-piece-preserved-in_ok-piece
loop-piece-preserved-in_ok-piece g c =
    let given = subst (λ o. MatchOption o (c.loop-piece.steps ≡ nothing_left) (λ s. c.loop-piece.steps
    ≡ given_first_bit (seen_step s) c.next_step.new.steps)) c.in-Some.is c.in_ok-step.ensures.given in
    let next = ap (λ (b : BitStepsOf). b.steps) given in
    record {
      go =
          one_more c.args.session.now c.args.steps.now.steps (with_piece (g.S.Shelf.files c.args.shelf.now)
          c.args.name.now c.args.piece) c.args.name.now c.loop-piece.session c.loop-piece.steps.steps
          (g.S.Shelf.files c.loop-piece.shelf) c.loop-piece.piece c.loop-piece.invariant.go
          (seen_step c.in-Some.step) c.next_step.new.steps.steps c.put_step.new.self c.put_step.new.k
          c.in_ok-piece.piece (g.S.Shelf.files c.store_full_piece.new.shelf) next
          c.in_ok-put_step.ensures.whole
          c.in_ok-put_step.ensures.after c.in_ok-piece.ensures.whole;
      there = c.in_ok-piece.ensures.there;
      plannable = plannable_later c.loop-piece.steps.steps c.next_step.new.steps.steps
          (seen_step c.in-Some.step) next c.loop-piece.session c.put_step.new.self c.put_step.ensures.plan
          c.in_ok-put_step.ensures.after c.loop-piece.invariant.plannable;
      rounds = few_later c.loop-piece.steps.steps c.next_step.new.steps.steps
          (seen_step c.in-Some.step) next c.loop-piece.invariant.rounds;
      few = few_steps c.loop-piece.steps.steps c.next_step.new.steps.steps
          (seen_step c.in-Some.step) next c.loop-piece.session c.put_step.new.self c.put_step.ensures.plan
          c.in_ok-put_step.ensures.after c.loop-piece.invariant.few;
      others = λ other n. c.store_full_piece.ensures.others other n ∙ c.loop-piece.invariant.others other n;
      later = one_later c.args.name.now (g.S.Shelf.store_faults c.args.shelf.now)
          (g.S.Shelf.store_faults c.loop-piece.shelf) (g.S.Shelf.store_faults c.store_full_piece.new.shelf)
          _ _
          c.loop-piece.invariant.later c.store_full_piece.ensures.cause;
      loads = λ name. c.store_full_piece.ensures.loads name ∙ c.loop-piece.invariant.loads name;
    }

pub loop-piece-preserved : goal.loop-piece-preserved
loop-piece-preserved g c =
    let given = subst (λ o. MatchOption o (c.loop-piece.steps ≡ nothing_left) (λ s. c.loop-piece.steps
    ≡ given_first_bit (seen_step s) c.next_step.new.steps)) c.in-Some.is c.in_ok-step.ensures.given in
    let next = ap (λ (b : BitStepsOf). b.steps) given in
    record {
      go =
          one_more c.args.session.now c.args.steps.now.steps (with_piece (g.S.Shelf.files c.args.shelf.now)
          c.args.name.now c.args.piece) c.args.name.now c.loop-piece.session c.loop-piece.steps.steps
          (g.S.Shelf.files c.loop-piece.shelf) c.loop-piece.piece c.loop-piece.invariant.go
          (seen_step c.in-Some.step) c.next_step.new.steps.steps c.put_step.new.self c.put_step.new.k
          c.in_ok-piece.piece (g.S.Shelf.files c.store_full_piece.new.shelf) next
          c.in_ok-put_step.ensures.whole
          c.in_ok-put_step.ensures.after c.in_ok-piece.ensures.whole;
      there = c.in_ok-piece.ensures.there;
      plannable = plannable_later c.loop-piece.steps.steps c.next_step.new.steps.steps
          (seen_step c.in-Some.step) next c.loop-piece.session c.put_step.new.self c.put_step.ensures.plan
          c.in_ok-put_step.ensures.after c.loop-piece.invariant.plannable;
      rounds = few_later c.loop-piece.steps.steps c.next_step.new.steps.steps
          (seen_step c.in-Some.step) next c.loop-piece.invariant.rounds;
      few = few_steps c.loop-piece.steps.steps c.next_step.new.steps.steps
          (seen_step c.in-Some.step) next c.loop-piece.session c.put_step.new.self c.put_step.ensures.plan
          c.in_ok-put_step.ensures.after c.loop-piece.invariant.few;
      others = λ other n. c.store_full_piece.ensures.others other n ∙ c.loop-piece.invariant.others other n;
      later = one_later c.args.name.now (g.S.Shelf.store_faults c.args.shelf.now)
          (g.S.Shelf.store_faults c.loop-piece.shelf) (g.S.Shelf.store_faults c.store_full_piece.new.shelf)
          _ _
          c.loop-piece.invariant.later c.store_full_piece.ensures.cause;
      loads = λ name. c.store_full_piece.ensures.loads name ∙ c.loop-piece.invariant.loads name;
    }

pub returns-clause-part : goal.returns-clause-part
returns-clause-part g c =
    let files = g.S.Shelf.files c.loop-piece.shelf in
    on_err_weaker c.put_last_piece.result
    (λ h. is_part c.args.session.now c.args.steps.now.steps
    (with_piece (g.S.Shelf.files c.args.shelf.now) c.args.name.now c.args.piece) c.args.name.now
    c.loop-piece.session c.loop-piece.steps.steps files c.loop-piece.piece c.loop-piece.invariant.go
    (g.S.Shelf.files c.put_last_piece.new.shelf) (h c.loop-piece.invariant.there))
    c.put_last_piece.ensures.part
