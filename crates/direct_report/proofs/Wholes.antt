-- Bit steps that are done and printed one after the other.
use Rattle.std.proofs.Common.{◌≡◌, ◌≤◌, ◌<◌, ◌+◌, ◌*◌, ◌^◌, ℕ, suc, Option, List, [], ◌∷◌, ◌++◌, length, map}
use Rattle.std.proofs.Common.{refl, sym, ap, ◌∙◌, subst, arith}
use Rattle.std.specs.Prelude.{All}
use Rattle.std.proofs.lemmas.List.Elements.{All-head, All-tail}
use Rattle.ij_io.specs.Bytes.{Adds, AddsPart}
use Rattle.ij_io.proofs.Adding.{adds_none, adds_both, adds_front, adds_then_part}
use Rattle.ij_io.proofs.Fronts.{AddsFront, front_start, front_next, front_part, front_all}
use Rattle.instruments.specs.After.{machine_of}
use Rattle.instruments.specs.Machine.{count_log}
use Rattle.instruments.specs.Seen.{SeenModel}
use Rattle.instruments.specs.declared.Counts.{Counts}
use Rattle.net_graph.specs.declared.net.Net.{Net}
use Rattle.net_graph.specs.SeenSteps.{SeenStep}
use Rattle.net_graph.specs.Steps.{IsStep}
use Rattle.pdl_meaning.specs.Direct.{Direct, do_step, do_all, power_up}
use Rattle.pdl_targets.specs.Laws.{rounds_in, round_count}
use Rattle.direct_report.specs.Tally.{Tally, Keeps}
use Rattle.direct_report.specs.Report.{step_lines, steps_lines, end_text, direct_report}
use Rattle.direct_report.specs.Whole.{lines_from, done_from, PrintsSteps, PrintsStepsPart, KeepsSteps}
use Rattle.pdl_targets.proofs.Counted.{rounds_first}

-- some steps are done and printed, and the others go on from here
pub record GoesOn (first : Tally) (steps : List SeenStep) (d : Direct Counts) (old : Option (List ℕ))
    (now : Tally) (left : List SeenStep) (new : Option (List ℕ)) : Type 0 where
  pub at : Direct Counts
  pub keeps : Keeps now at
  pub front : AddsFront old new (lines_from first at left) (lines_from first d steps)
  pub done : done_from first at left ≡ done_from first d steps

-- of the same network and models
pub record IsOf (first now : Tally) : Type 0 where
  pub net : now.net ≡ first.net
  pub models : now.models ≡ first.models

-- a step of the play, whatever was done before it
pub record IsStepOf (now : Tally) (s : SeenStep) (after : Tally)
    (between new : Option (List ℕ)) : Type 0 where
  pub lines : (d : Direct Counts) → Keeps now d
      → Adds between new (step_lines now.net (map machine_of now.models) d s)
  pub state : (d : Direct Counts) → Keeps now d
      → Keeps after (do_step count_log now.net (map machine_of now.models) d s)

abbrev pub IsPartOf : Tally → SeenStep → Option (List ℕ) → Option (List ℕ) → Type 0
IsPartOf now s between new = (d : Direct Counts) → Keeps now d
    → AddsPart between new (step_lines now.net (map machine_of now.models) d s)

-- the lines and the state of a step are those of the network and the models, wherever they are named
here : (first now : Tally) (s : SeenStep) (after : Tally) (between new : Option (List ℕ))
    → IsOf first now → IsStepOf now s after between new
    → (d : Direct Counts) → Keeps now d
    → Adds between new (step_lines first.net (map machine_of first.models) d s)
    × Keeps after (do_step count_log first.net (map machine_of first.models) d s)
here first now s after between new of is d keeps =
    subst (λ (n : Net). Adds between new (step_lines n (map machine_of first.models) d s)
    × Keeps after (do_step count_log n (map machine_of first.models) d s)) of.net
    (subst (λ (ms : List SeenModel). Adds between new (step_lines now.net (map machine_of ms) d s)
    × Keeps after (do_step count_log now.net (map machine_of ms) d s)) of.models
    (is.lines d keeps, is.state d keeps))

here_part : (first now : Tally) (s : SeenStep) (between new : Option (List ℕ))
    → IsOf first now → IsPartOf now s between new
    → (d : Direct Counts) → Keeps now d
    → AddsPart between new (step_lines first.net (map machine_of first.models) d s)
here_part first now s between new of is d keeps =
    subst (λ (n : Net). AddsPart between new (step_lines n (map machine_of first.models) d s)) of.net
    (subst (λ (ms : List SeenModel). AddsPart between new (step_lines now.net (map machine_of ms) d s))
    of.models (is d keeps))

module _ (first : Tally) (steps : List SeenStep) (old : Option (List ℕ)) where
  abbrev pub Go : Tally → List SeenStep → Option (List ℕ) → Type 0
  Go now left new = (d : Direct Counts) → Keeps first d → GoesOn first steps d old now left new

  pub begin : Go first steps old
  begin d keeps =
      record { at = d; keeps = keeps; front = front_start old (lines_from first d steps); done = refl }

  pub go_on : (now after : Tally) (s : SeenStep) (later left : List SeenStep) (between new : Option (List ℕ))
      → left ≡ s ∷ later → IsOf first now → Go now left between
      → IsStepOf now s after between new → Go after later new
  go_on now after s later left between new e of go is d keeps =
      let g = go d keeps in
      let step = here first now s after between new of is g.at g.keeps in
      let front : AddsFront old between (step_lines first.net (map machine_of first.models) g.at s
      ++ lines_from first (do_step count_log first.net (map machine_of first.models) g.at s) later)
      (lines_from first d steps) =
      subst (λ (ss : List SeenStep). AddsFront old between (lines_from first g.at ss)
      (lines_from first d steps)) e g.front in
      record {
        at = do_step count_log first.net (map machine_of first.models) g.at s;
        keeps = step.1;
        front = front_next (step_lines first.net (map machine_of first.models) g.at s) (lines_from first
            (do_step count_log first.net (map machine_of first.models) g.at s) later) front step.0;
        done = ap (done_from first g.at) (sym e) ∙ g.done;
      }

  pub refused : (now : Tally) (s : SeenStep) (later left : List SeenStep) (between new : Option (List ℕ))
      → left ≡ s ∷ later → IsOf first now → Go now left between
      → IsPartOf now s between new → PrintsStepsPart first steps old new
  refused now s later left between new e of go is d keeps =
      let g = go d keeps in
      let front : AddsFront old between (step_lines first.net (map machine_of first.models) g.at s
      ++ lines_from first (do_step count_log first.net (map machine_of first.models) g.at s) later)
      (lines_from first d steps) =
      subst (λ (ss : List SeenStep). AddsFront old between (lines_from first g.at ss)
      (lines_from first d steps)) e g.front in
      front_part (step_lines first.net (map machine_of first.models) g.at s)
      (lines_from first (do_step count_log first.net (map machine_of first.models) g.at s) later) front
      (here_part first now s between new of is g.at g.keeps)

  -- what is printed so far is a first part of all
  pub part_so_far : (now : Tally) (left : List SeenStep) (new : Option (List ℕ))
      → Go now left new → PrintsStepsPart first steps old new
  part_so_far now left new go d keeps =
      let g = go d keeps in
      subst (λ (bytes : List ℕ). AddsPart old new bytes) g.front.whole
      (adds_then_part g.front.added (adds_none (lines_from first g.at left) refl))

  pub all_printed : (now : Tally) (left : List SeenStep) (new : Option (List ℕ)) → left ≡ []
      → Go now left new → PrintsSteps first steps old new
  all_printed now left new e go d keeps =
      let g = go d keeps in
      front_all (subst (λ (ss : List SeenStep). AddsFront old new
      (lines_from first g.at ss) (lines_from first d steps)) e g.front)

  pub all_kept : (now : Tally) (left : List SeenStep) (new : Option (List ℕ)) → left ≡ []
      → Go now left new → KeepsSteps first steps now
  all_kept now left new e go d keeps =
      let g = go d keeps in
      subst (Keeps now) (ap (done_from first g.at) (sym e) ∙ g.done) g.keeps

-- ---- the first step of some, and those after it

module _ (left later : List SeenStep) (s : SeenStep) (e : left ≡ s ∷ later) where
  pub step_is : (net : Net) → All (IsStep net) left → IsStep net s
  step_is net a = All-head (IsStep net) s later (subst (All (IsStep net)) e a)

  pub steps_are : (net other : Net) → other ≡ net → All (IsStep net) left → All (IsStep other) later
  steps_are net other same a = subst (λ (n : Net). All (IsStep n) later) (sym same)
      (All-tail (IsStep net) s later (subst (All (IsStep net)) e a))

  rounds_are : rounds_in left ≡ round_count s + rounds_in later
  rounds_are = ap rounds_in e ∙ rounds_first s later

  pub few_now : (reads : ℕ) → reads + 4096 * rounds_in left < 2 ^ 64 → reads + 4096 * round_count s < 2 ^ 64
  few_now reads l = omega (arith, l, rounds_are)

  pub few_later : (reads after : ℕ) → reads + 4096 * rounds_in left < 2 ^ 64
      → after ≤ reads + 4096 * round_count s → after + 4096 * rounds_in later < 2 ^ 64
  few_later reads after l m = omega (arith, l, m, rounds_are)

  pub shorter : suc (length later) ≡ length left
  shorter = sym (ap length e)

-- ---- the whole report: all steps, and then its end

module _ (net : Net) (models : List SeenModel) (p : Tally) (steps : List SeenStep) (old mid : Option (List ℕ))
    (en : p.net ≡ net) (em : p.models ≡ models) where
  abbrev start : Direct Counts
  start = power_up count_log net (map machine_of models)

  abbrev following : Direct Counts
  following = do_all count_log net (map machine_of models) start steps

  abbrev last : List ℕ
  last = end_text net models following

  lines_are : lines_from p start steps ≡ steps_lines net (map machine_of models) start steps
  lines_are =
      ap (λ (n : Net). steps_lines n (map machine_of p.models) start steps) en
      ∙ ap (λ (ms : List SeenModel). steps_lines net (map machine_of ms) start steps) em

  done_are : done_from p start steps ≡ following
  done_are =
      ap (λ (n : Net). do_all count_log n (map machine_of p.models) start steps) en
      ∙ ap (λ (ms : List SeenModel). do_all count_log net (map machine_of ms) start steps) em

  pub report_part : Keeps p start → PrintsStepsPart p steps old mid
      → AddsPart old mid (direct_report net models steps)
  report_part keeps part =
      adds_front last (subst (λ (bytes : List ℕ). AddsPart old mid bytes) lines_are (part start keeps))

  lines : Keeps p start → PrintsSteps p steps old mid
      → Adds old mid (steps_lines net (map machine_of models) start steps)
  lines keeps whole = subst (λ (bytes : List ℕ). Adds old mid bytes) lines_are (whole start keeps)

  module _ (after : Tally) (new : Option (List ℕ))
      (an : after.net ≡ p.net) (am : after.models ≡ p.models) where
    end_is : end_text after.net after.models (done_from p start steps) ≡ last
    end_is =
        ap (λ (n : Net). end_text n after.models (done_from p start steps)) (an ∙ en)
        ∙ ap (λ (ms : List SeenModel). end_text net ms (done_from p start steps)) (am ∙ em)
        ∙ ap (end_text net models) done_are

    pub report_whole : Keeps p start → PrintsSteps p steps old mid → KeepsSteps p steps after
        → ((d : Direct Counts) → Keeps after d → Adds mid new (end_text after.net after.models d))
        → Adds old new (direct_report net models steps)
    report_whole keeps whole state ends =
        adds_both (lines keeps whole) (subst (λ (bytes : List ℕ). Adds mid new bytes) end_is
        (ends (done_from p start steps) (state start keeps)))

    pub report_end_part : Keeps p start → PrintsSteps p steps old mid → KeepsSteps p steps after
        → ((d : Direct Counts) → Keeps after d → AddsPart mid new (end_text after.net after.models d))
        → AddsPart old new (direct_report net models steps)
    report_end_part keeps whole state ends =
        adds_then_part (lines keeps whole) (subst (λ (bytes : List ℕ). AddsPart mid new bytes) end_is
        (ends (done_from p start steps) (state start keeps)))
