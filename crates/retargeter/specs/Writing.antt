-- What is written of a group, of the rounds of an iApply, and of a bit step: the text of their plans,
-- whatever plans were found. There are plans, and all have one text.
use Rattle.std.specs.Prelude.{◌≡◌, ◌==◌, cond, ℕ, List, ◌++◌, map, Option}
use Rattle.ij_io.specs.Bytes.{Adds, AddsPart}
use Rattle.net_graph.specs.declared.net.Net.{Net}
use Rattle.net_graph.specs.SeenSteps.{SeenGroup, SeenStep}
use Rattle.net_graph.specs.Signals.{Holds}
use Rattle.net_tree.specs.Form.{Items}
use Rattle.svf_writer.specs.SeenCommands.{SDR}
use Rattle.svf_writer.specs.Written.{texts_of, mark, round_mark}
use Rattle.headline.specs.Script.{applies_after, rounds_text, step_text}
use Rattle.headline.specs.Scans.{scans_of, holds_after}
use Rattle.headline.specs.Retargeting.{PlannedGroup, PlannedStep, rounds_of, holds_after_rounds, scanned_of}
use Rattle.headline.specs.Retargeting.{holds_after_step}
use Rattle.retargeter.specs.Plans.{ArePlansOf, AreRoundsOf, IsPlanOf}
use Rattle.retargeter.specs.Session.{Session}

-- ---- a group

module _ (net : Net) (form : Items) (holds : Holds) (g : SeenGroup) where
  abbrev pub WritesGroup : Option (List ℕ) → Option (List ℕ) → Type 0
  WritesGroup old new = (plans : List SeenGroup) → ArePlansOf net form holds g plans
      → Adds old new (texts_of (map SDR (scans_of net holds plans)))

  abbrev pub WritesGroupPart : Option (List ℕ) → Option (List ℕ) → Type 0
  WritesGroupPart old new = (plans : List SeenGroup) → ArePlansOf net form holds g plans
      → AddsPart old new (texts_of (map SDR (scans_of net holds plans)))

  -- the update stages after its scans
  abbrev pub IsAfterGroup : Holds → Type 0
  IsAfterGroup after = (plans : List SeenGroup)
      → ArePlansOf net form holds g plans → after ≡ holds_after holds plans

-- ---- a round: the comment with its number, and its scans

-- the comment before the j-th round of the n-th iApply
abbrev pub front : ℕ → ℕ → List ℕ
front n j = cond (j == 1) (mark n) (round_mark n j)

module _ (net : Net) (form : Items) (holds : Holds) (n j : ℕ) (g : SeenGroup) where
  abbrev pub WritesRound : Option (List ℕ) → Option (List ℕ) → Type 0
  WritesRound old new = (plans : List SeenGroup) → ArePlansOf net form holds g plans
      → Adds old new (front n j ++ texts_of (map SDR (scans_of net holds plans)))

  abbrev pub WritesRoundPart : Option (List ℕ) → Option (List ℕ) → Type 0
  WritesRoundPart old new = (plans : List SeenGroup) → ArePlansOf net form holds g plans
      → AddsPart old new (front n j ++ texts_of (map SDR (scans_of net holds plans)))

-- ---- the rounds of the n-th iApply

module _ (net : Net) (form : Items) (holds : Holds) (n : ℕ) (gs : List SeenGroup) where
  abbrev pub WritesRounds : Option (List ℕ) → Option (List ℕ) → Type 0
  WritesRounds old new = (rounds : List PlannedGroup) → AreRoundsOf net form holds gs rounds
      → Adds old new (rounds_text n 1 (rounds_of net holds rounds))

  abbrev pub WritesRoundsPart : Option (List ℕ) → Option (List ℕ) → Type 0
  WritesRoundsPart old new = (rounds : List PlannedGroup) → AreRoundsOf net form holds gs rounds
      → AddsPart old new (rounds_text n 1 (rounds_of net holds rounds))

  abbrev pub IsAfterRounds : Holds → Type 0
  IsAfterRounds after = (rounds : List PlannedGroup) → AreRoundsOf net form holds gs rounds
      → after ≡ holds_after_rounds holds rounds

-- ---- a bit step

module _ (s : Session) (step : SeenStep) where
  -- there are plans for it
  abbrev pub HasPlan : Type 0
  HasPlan = (x : PlannedStep) × IsPlanOf s.net s.form s.holds step x

  -- exactly its text is added
  abbrev pub WritesStep : Option (List ℕ) → Option (List ℕ) → Type 0
  WritesStep old new = (x : PlannedStep) → IsPlanOf s.net s.form s.holds step x
      → Adds old new (step_text s.device s.applies (scanned_of s.net s.holds x))

  -- some first bytes of its text are added
  abbrev pub WritesStepPart : Option (List ℕ) → Option (List ℕ) → Type 0
  WritesStepPart old new = (x : PlannedStep) → IsPlanOf s.net s.form s.holds step x
      → AddsPart old new (step_text s.device s.applies (scanned_of s.net s.holds x))

  -- the update stages after it, and how many iApplys there are then
  abbrev pub IsAfterStep : Session → Type 0
  IsAfterStep after =
      (x : PlannedStep) → IsPlanOf s.net s.form s.holds step x
      → after ≡ record s {
        holds = holds_after_step s.net s.holds x;
        applies = applies_after s.applies (scanned_of s.net s.holds x);
      }
