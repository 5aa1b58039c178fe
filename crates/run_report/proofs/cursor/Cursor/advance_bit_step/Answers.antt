use Rattle.std.proofs.Common.{◌≡◌, sym, ap, ◌∙◌, subst}
use Rattle.std.specs.Prelude.{MatchOption}
use Rattle.merge_order.specs.BitSteps.{BitStepsOf, nothing_left, given_first_bit}
use Rattle.net_graph.specs.SeenSteps.{seen_step}
use Rattle.run_report.specs.Reaching.{CanGoOn, Stands}
use Rattle.run_report.proofs.Standing.{IsNoted, goes_on, stands_on}
use Rattle.run_report.proofs.cursor.Cursor.advance_bit_step.Goals as goal

pub returns-in_ok-note-in-Some-clause-can : goal.returns-in_ok-note-in-Some-clause-can
returns-in_ok-note-in-Some-clause-can c =
    let old = c.args.self.now in
    let given = subst (λ o. MatchOption o (old.steps ≡ nothing_left) (λ s. old.steps
    ≡ given_first_bit (seen_step s) c.next_step.new.steps)) c.in-Some.is c.in_ok-step.ensures.given in
    let e = c.in_ok-note-in-Some.ensures in
    let noted : IsNoted c.args.net.now c.args.tree.now old c.note.new.self (seen_step c.in-Some.step)
    c.next_step.new.steps.steps = record {
      was = ap (λ (b : BitStepsOf). b.steps) given;
      is = ap (λ (b : BitStepsOf). b.steps) e.steps;
      no_fault = ap (λ (b : BitStepsOf). b.fault) e.steps
          ∙ sym (ap (λ (b : BitStepsOf). b.fault) given);
      first = e.first;
      places = e.places;
      scans = e.scans;
      few = e.few;
      holds = e.holds;
      scannable = e.scannable;
      room = e.room;
    } in
    goes_on c.args.net.now c.args.tree.now old c.note.new.self
    (seen_step c.in-Some.step) c.next_step.new.steps.steps noted c.requires.can

pub returns-in_ok-note-in-Some-clause-stands : goal.returns-in_ok-note-in-Some-clause-stands
returns-in_ok-note-in-Some-clause-stands c =
    let old = c.args.self.now in
    let given = subst (λ o. MatchOption o (old.steps ≡ nothing_left) (λ s. old.steps
    ≡ given_first_bit (seen_step s) c.next_step.new.steps)) c.in-Some.is c.in_ok-step.ensures.given in
    let e = c.in_ok-note-in-Some.ensures in
    let noted : IsNoted c.args.net.now c.args.tree.now old c.note.new.self (seen_step c.in-Some.step)
    c.next_step.new.steps.steps = record {
      was = ap (λ (b : BitStepsOf). b.steps) given;
      is = ap (λ (b : BitStepsOf). b.steps) e.steps;
      no_fault = ap (λ (b : BitStepsOf). b.fault) e.steps
          ∙ sym (ap (λ (b : BitStepsOf). b.fault) given);
      first = e.first;
      places = e.places;
      scans = e.scans;
      few = e.few;
      holds = e.holds;
      scannable = e.scannable;
      room = e.room;
    } in
    stands_on c.args.net.now c.args.tree.now old c.note.new.self
    (seen_step c.in-Some.step) c.next_step.new.steps.steps noted

pub returns-in-None-clause-can : goal.returns-in-None-clause-can
returns-in-None-clause-can c =
    let old = c.args.self.now in
    let given = subst (λ o. MatchOption o (old.steps ≡ nothing_left) (λ s. old.steps
    ≡ given_first_bit (seen_step s) c.next_step.new.steps)) c.in-None.is c.in_ok-step.ensures.given in
    let same = given ∙ sym (c.in_ok-step.ensures.end c.in-None.is) in
    subst (λ (b : BitStepsOf). CanGoOn c.args.net.now c.args.tree.now (record old { steps = b }))
    same c.requires.can

pub returns-in-None-clause-stands : goal.returns-in-None-clause-stands
returns-in-None-clause-stands c steps stands all a =
    let old = c.args.self.now in
    let given = subst (λ o. MatchOption o (old.steps ≡ nothing_left) (λ s. old.steps
    ≡ given_first_bit (seen_step s) c.next_step.new.steps)) c.in-None.is c.in_ok-step.ensures.given in
    let same = given ∙ sym (c.in_ok-step.ensures.end c.in-None.is) in
    subst (λ (b : BitStepsOf). Stands c.args.net.now c.args.tree.now b.steps old.holds old.first old.scans
    old.places.items all) same (stands all a)

pub returns-in-None-clause-end : goal.returns-in-None-clause-end
returns-in-None-clause-end c =
    λ e. ap (λ (b : BitStepsOf). b.steps) (c.in_ok-step.ensures.end c.in-None.is)
