-- The premises of the laws can be met together: an iApply of two rounds, the second of which opens a row of a
-- mux, is planned, and so its text does what it means.
use Rattle.std.proofs.Common.{◌≡◌, ℕ, zero, suc, true, List, [], ◌∷◌, refl, sym, ap, ◌∙◌, arith}
use Rattle.std.specs.Prelude.{Contains, IsTrue, map}
use Rattle.std.proofs.lemmas.List.Elements.{All-nil, All-cons}
use Rattle.net_graph.specs.declared.branch.Branch.{Branch}
use Rattle.net_graph.specs.declared.net.BitId.{BitId}
use Rattle.net_graph.specs.declared.step.WriteBit.{WriteBit}
use Rattle.net_graph.specs.Path.{is_select}
use Rattle.net_graph.specs.Resets.{start_holds}
use Rattle.net_graph.specs.SeenSteps.{SeenGroup}
use Rattle.net_tree.specs.Form.{Items, Nothing, RegThen, MuxThen, NoRow, RowThen, Describes}
use Rattle.net_tree.specs.Lawful.{IsOutside, IsUnshared, IsUndriven, DrivesNone, HasReset, IsLawful}
use Rattle.net_tree.specs.Needs.{needs, IsExclusive}
use Rattle.path_planner.specs.Plans.{Settles}
use Rattle.headline.specs.Script.{script_text}
use Rattle.headline.proofs.MuxExamples.{dev, set, rounds_net, first_round, second_round, rounds_script}
use Rattle.headline.proofs.MuxPlans.{rounds_net_is_net, dev_is_device, first_planned, second_planned}
use Rattle.headline.proofs.MuxPlans.{written_first}
use Rattle.headline.specs.Retargeting.{PlannedGroup, PlannedStep, Applies, IsPlannedGroup, IsRetargetable}
use Rattle.headline.specs.Retargeting.{DoesSteps, StepsArePlanned, script_of, seen_of}
use Rattle.headline.proofs.Right.{plans_are_right}

-- from scan-in the register S, and after it A or B
abbrev form : Items
form = RegThen 2 (MuxThen 0 (RowThen (RegThen 0 Nothing) (RowThen (RegThen 1 Nothing) NoRow)) Nothing)

abbrev select : BitId
select = record { reg = 2; pos = 0 }

describes : Describes rounds_net form
describes =
    record {
      wired = (refl, ((refl, (refl, tt), (refl, (refl, tt), tt)), tt));
      output = refl;
      registers = record {
        different = (
          omega arith,
          ((λ e. omega (arith, e)), ((λ e. omega (arith, e)), tt)),
          (omega arith, ((λ e. omega (arith, e)), tt), (omega arith, tt, tt)),
        );
        count = refl;
      };
      muxes = record { different = (omega arith, tt, tt); count = refl };
      singles = (tt, (tt, (tt, tt)), tt);
    }

lawful : IsLawful rounds_net form
lawful zero h =
    record {
      outside = All-cons (IsOutside form 0) select [] refl (All-nil (IsOutside form 0));
      unshared = All-cons (IsUnshared rounds_net) select [] (omega arith) (All-nil (IsUnshared rounds_net));
      undriven = All-cons (DrivesNone rounds_net) select []
          (All-nil (IsUndriven select)) (All-nil (DrivesNone rounds_net));
      resets = All-cons (HasReset rounds_net) select [] refl (All-nil (HasReset rounds_net));
      listed = refl;
      shallow = omega arith;
    }
lawful (suc m) h = absurd (omega (arith, h))

rounds_net_is_retargetable : IsRetargetable rounds_net form
rounds_net_is_retargetable =
    record { well_formed = rounds_net_is_net; describes = describes; lawful = lawful }

-- the one scan of the first round, and the two of the second one
abbrev first : PlannedGroup
first = record { group = first_round.group; plans = first_round.group ∷ [] }

abbrev opening : SeenGroup
opening = record { writes = set 2 0 true ∷ []; reads = [] }

abbrev second : PlannedGroup
second = record { group = second_round.group; plans = opening ∷ second_round.group ∷ [] }

abbrev rounds : List PlannedStep
rounds = Applies (first ∷ second ∷ []) ∷ []

-- one row is needed, twice
same_row : (q : ℕ) (a : Branch)
    → Contains (record { mux = 0; row = q } ∷ record { mux = 0; row = q } ∷ []) a → a.row ≡ q
same_row q a (zero, l, e) = ap (λ (b : Branch). b.row) (sym e)
same_row q a (suc zero, l, e) = ap (λ (b : Branch). b.row) (sym e)
same_row q a (suc (suc k), l, e) = absurd (omega (arith, l))

first_together : ¬ IsExclusive (needs form first.group)
first_together (a, b, c, d, m, n) = n (same_row 0 a c ∙ sym (same_row 0 b d))

second_together : ¬ IsExclusive (needs form second.group)
second_together (a, b, c, d, m, n) = n (same_row 1 a c ∙ sym (same_row 1 b d))

first_is_planned : IsPlannedGroup rounds_net form (start_holds rounds_net) first
first_is_planned =
    record {
      named = first_planned.named;
      valid = first_planned.valid;
      together = first_together;
      plans =
          (first_planned.named, refl, refl);
    }

opens : Settles rounds_net form second.group written_first opening
opens =
    record {
      off_path = refl;
      settled = refl;
      selects = All-cons (λ (w : WriteBit). IsTrue (is_select rounds_net w.bit))
          (set 2 0 true) [] refl (All-nil _);
      on_path = (
        0 ∷ 2 ∷ [],
        refl,
        All-cons (Contains (0 ∷ 2 ∷ [])) 2 [] (1, omega arith, refl) (All-nil (Contains (0 ∷ 2 ∷ []))),
      );
      once = ((λ c. omega (arith, c.1)), tt);
      reads_nothing = refl;
    }

second_is_planned : IsPlannedGroup rounds_net form written_first second
second_is_planned =
    record {
      named = second_planned.named;
      valid = second_planned.valid;
      together = second_together;
      plans =
          (opens, (second_planned.named, refl, refl));
    }

rounds_planned : StepsArePlanned rounds_net form (start_holds rounds_net) rounds
rounds_planned = (omega arith, (first_is_planned, (second_is_planned, tt)), tt)

-- their script is the one that is written out in full
rounds_are_written : script_of rounds_net (start_holds rounds_net) rounds ≡ rounds_script
rounds_are_written = refl

rounds_are_right : DoesSteps rounds_net form dev (map seen_of rounds)
    (script_text dev (script_of rounds_net (start_holds rounds_net) rounds))
rounds_are_right =
    plans_are_right rounds_net form dev rounds rounds_net_is_retargetable dev_is_device rounds_planned
    (record { few_steps = omega arith; few_rounds = omega arith; few_cycles = omega arith })
