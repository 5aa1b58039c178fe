-- Rounds that are written one after the other.
use Rattle.std.proofs.Common.{◌≡◌, ◌<◌, ◌≤◌, ℕ, suc, Option, List, [], ◌∷◌, ◌++◌, length, get_or, drop, refl}
use Rattle.std.proofs.Common.{sym, ap, ◌∙◌, subst, arith, append_assoc}
use Rattle.std.specs.Prelude.{map}
use Rattle.std.proofs.Math.Seq.{drop-cons}
use Rattle.std.proofs.lemmas.List.{get_or-map, length-map, at_drop_all}
use Rattle.ij_io.specs.Bytes.{Adds, AddsPart}
use Rattle.ij_io.proofs.Fronts.{AddsFront, front_start, front_next, front_part, front_all}
use Rattle.net_graph.specs.declared.net.Net.{Net}
use Rattle.net_graph.specs.declared.step.Group.{Group}
use Rattle.net_graph.specs.SeenSteps.{seen_group}
use Rattle.net_graph.specs.Signals.{Holds}
use Rattle.net_tree.specs.Form.{Items}
use Rattle.svf_writer.specs.SeenCommands.{SDR}
use Rattle.svf_writer.specs.Written.{texts_of}
use Rattle.headline.specs.Script.{rounds_text}
use Rattle.headline.specs.Scans.{scans_of, holds_after}
use Rattle.headline.specs.Retargeting.{PlannedGroup, rounds_of, holds_after_rounds, IsPlannedGroup}
use Rattle.headline.specs.Retargeting.{GroupsArePlanned}
use Rattle.retargeter.specs.Plans.{ArePlansOf, AreRoundsOf}
use Rattle.retargeter.specs.Writing.{front, WritesRound, WritesRoundPart, IsAfterGroup, WritesRounds}
use Rattle.retargeter.specs.Writing.{WritesRoundsPart, IsAfterRounds}

-- the next round
pub record NextRound (rounds : List PlannedGroup) (g : Group) (i : ℕ) : Type 0 where
  pub round : PlannedGroup
  pub is_next : drop i rounds ≡ round ∷ drop (suc i) rounds
  pub of_group : round.group ≡ seen_group g

pub at_round : (rounds : List PlannedGroup) (gs : List Group) (g : Group) (i : ℕ)
    → map (λ p. p.group) rounds ≡ map seen_group gs → i < length gs → g ≡ get_or gs i g → NextRound rounds g i
at_round rounds gs g i e l is =
    let none : PlannedGroup = record { group = seen_group g; plans = [] } in
    let within : i < length rounds = omega (
      arith,
      l,
      ap length e,
      length-map rounds (λ (p : PlannedGroup). p.group),
      length-map gs seen_group,
    ) in
    record {
      round = get_or rounds i none;
      is_next = drop-cons rounds i none within;
      of_group = sym (get_or-map (λ (p : PlannedGroup). p.group) rounds i none (seen_group g) within)
          ∙ ap (λ xs. get_or xs i (seen_group g)) e
          ∙ get_or-map seen_group gs i g (seen_group g) l ∙ ap seen_group (sym is);
    }

-- some rounds are written, and the others go on from the update stages now
pub record GoesOn (net : Net) (form : Items) (n i : ℕ) (first now : Holds) (old new : Option (List ℕ))
    (rounds : List PlannedGroup) : Type 0 where
  pub front : AddsFront old new (rounds_text n (suc i) (rounds_of net now (drop i rounds)))
      (rounds_text n 1 (rounds_of net first rounds))
  pub planned : GroupsArePlanned net form now (drop i rounds)
  pub holds : holds_after_rounds now (drop i rounds) ≡ holds_after_rounds first rounds

module _ (net : Net) (form : Items) (n : ℕ) (first : Holds) (gs : List Group) (old : Option (List ℕ)) where
  -- whatever their plans are
  abbrev pub Go : ℕ → Holds → Option (List ℕ) → Type 0
  Go i now new = (rounds : List PlannedGroup) → AreRoundsOf net form first (map seen_group gs) rounds
      → GoesOn net form n i first now old new rounds

  pub begin : Go 0 first old
  begin rounds r = record {
    front = front_start old (rounds_text n 1 (rounds_of net first rounds));
    planned = r.planned;
    holds = refl;
  }

  module _ (i : ℕ) (now : Holds) (between : Option (List ℕ)) (go : Go i now between) (g : Group)
      (l : i < length gs) (is : g ≡ get_or gs i g) (rounds : List PlannedGroup)
      (r : AreRoundsOf net form first (map seen_group gs) rounds) where
    next : NextRound rounds g i
    next = at_round rounds gs g i r.groups l is

    abbrev piece : List ℕ
    piece = front n (suc i) ++ texts_of (map SDR (scans_of net now next.round.plans))

    abbrev rest : List ℕ
    rest = rounds_text n (suc (suc i))
        (rounds_of net (holds_after now next.round.plans) (drop (suc i) rounds))

    planned : GroupsArePlanned net form now (next.round ∷ drop (suc i) rounds)
    planned = subst (GroupsArePlanned net form now) next.is_next (go rounds r).planned

    plans : ArePlansOf net form now (seen_group g) next.round.plans
    plans = subst (λ z. IsPlannedGroup net form now (record { group = z; plans = next.round.plans }))
        next.of_group planned.0

    before : AddsFront old between (piece ++ rest) (rounds_text n 1 (rounds_of net first rounds))
    before =
        subst (λ (text : List ℕ). AddsFront old between text (rounds_text n 1 (rounds_of net first rounds)))
        (sym (append_assoc (front n (suc i)) (texts_of (map SDR (scans_of net now next.round.plans)))
        rest)) (subst (λ ps. AddsFront old between (rounds_text n (suc i) (rounds_of net now ps))
        (rounds_text n 1 (rounds_of net first rounds))) next.is_next (go rounds r).front)

    stepped : (after : Holds) (new : Option (List ℕ))
        → WritesRound net form now n (suc i) (seen_group g) between new
        → IsAfterGroup net form now (seen_group g) after
        → GoesOn net form n (suc i) first after old new rounds
    stepped after new w a =
        let h : after ≡ holds_after now next.round.plans = a next.round.plans plans in
        subst (λ k. GoesOn net form n (suc i) first k old new rounds) (sym h)
        (record {
          front = front_next piece rest before (w next.round.plans plans);
          planned = planned.1;
          holds = ap (holds_after_rounds now) (sym next.is_next) ∙ (go rounds r).holds;
        })

    cut : (new : Option (List ℕ)) → WritesRoundPart net form now n (suc i) (seen_group g) between new
        → AddsPart old new (rounds_text n 1 (rounds_of net first rounds))
    cut new w = front_part piece rest before (w next.round.plans plans)

  pub go_on : (i j k : ℕ) (now after : Holds) (between new : Option (List ℕ)) (g : Group) → Go i now between
      → i < length gs → g ≡ get_or gs i g → j ≡ suc i → k ≡ suc i
      → WritesRound net form now n j (seen_group g) between new
      → IsAfterGroup net form now (seen_group g) after → Go k after new
  go_on i j k now after between new g go l is e f w a rounds r =
      subst (λ m. GoesOn net form n m first after old new rounds) (sym f) (stepped i now between go g l is
      rounds r after new (subst (λ z. WritesRound net form now n z (seen_group g) between new) e w) a)

  pub refused : (i j : ℕ) (now : Holds) (between new : Option (List ℕ)) (g : Group) → Go i now between
      → i < length gs → g ≡ get_or gs i g → j ≡ suc i
      → WritesRoundPart net form now n j (seen_group g) between new
      → WritesRoundsPart net form first n (map seen_group gs) old new
  refused i j now between new g go l is e w rounds r =
      cut i now between go g l is rounds r new
      (subst (λ z. WritesRoundPart net form now n z (seen_group g) between new) e w)

  module _ (i : ℕ) (now : Holds) (new : Option (List ℕ)) (go : Go i now new) (l : length gs ≤ i)
      (rounds : List PlannedGroup) (r : AreRoundsOf net form first (map seen_group gs) rounds) where
    none_left : {A : Type 0} (f : List PlannedGroup → A) → f (drop i rounds) ≡ f []
    none_left f =
        at_drop_all f rounds i (omega (
          arith,
          l,
          ap length r.groups,
          length-map rounds (λ (p : PlannedGroup). p.group),
          length-map gs seen_group,
        ))

    all : Adds old new (rounds_text n 1 (rounds_of net first rounds))
    all =
        front_all
        (subst (λ (text : List ℕ). AddsFront old new text (rounds_text n 1 (rounds_of net first rounds)))
        (none_left (λ ps. rounds_text n (suc i) (rounds_of net now ps))) (go rounds r).front)

    last : now ≡ holds_after_rounds first rounds
    last = sym (none_left (holds_after_rounds now)) ∙ (go rounds r).holds

  pub all_written : (i : ℕ) (now : Holds) (new : Option (List ℕ)) → Go i now new → length gs ≤ i
      → WritesRounds net form first n (map seen_group gs) old new
  all_written i now new go l rounds r = all i now new go l rounds r

  pub all_after : (i : ℕ) (now : Holds) (new : Option (List ℕ)) → Go i now new → length gs ≤ i
      → IsAfterRounds net form first n (map seen_group gs) now
  all_after i now new go l rounds r = last i now new go l rounds r
