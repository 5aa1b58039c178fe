-- The reads of steps stand in the scans of these steps.
use Rattle.std.proofs.Common.{◌≡◌, ◌≢◌, ◌<◌, ◌≤◌, ◌+◌, ℕ, suc, List, [], ◌∷◌, length, None, arith}
use Rattle.std.specs.Prelude.{All}
use Rattle.std.proofs.lemmas.List.Elements.{All-nil, All-cons, All-append, All-weaker}
use Rattle.net_graph.specs.declared.net.Net.{Net}
use Rattle.net_graph.specs.declared.step.ReadBit.{ReadBit}
use Rattle.net_graph.specs.SeenSteps.{SeenGroup}
use Rattle.net_graph.specs.Signals.{Holds}
use Rattle.net_graph.specs.Writes.{write_all}
use Rattle.headline.specs.Retargeting.{PlannedGroup, PlannedStep, Applies, Runs, Resets, holds_after_step}
use Rattle.headline.specs.Scans.{holds_after}
use Rattle.run_report.specs.Places.{scan_places, plans_places, rounds_places, step_places, steps_places}
use Rattle.run_report.specs.Places.{scans_after_rounds, scans_after_step, place_in, read_at}
use Rattle.run_report.specs.declared.place.ReadPlace.{ReadPlace}
use Rattle.run_report.proofs.Looking.{none_of}

abbrev IsWithin : ℕ → ℕ → ReadPlace → Type 0
IsWithin low high p = (low < p.scan) × (p.scan ≤ high)

abbrev AreWithin : ℕ → ℕ → List ReadPlace → Type 0
AreWithin low high ps = All (IsWithin low high) ps

wider : (low high down up : ℕ) (ps : List ReadPlace) → down ≤ low → high ≤ up
    → AreWithin low high ps → AreWithin down up ps
wider low high down up ps l h a =
    All-weaker (IsWithin low high) (IsWithin down up) (λ p w. let below = w.0 in
    let above = w.1 in (omega (arith, l, below), omega (arith, h, above))) ps a

scan_within : (net : Net) (holds : Holds) (scans : ℕ) (rs : List ReadBit)
    → AreWithin scans (suc scans) (scan_places net holds (suc scans) rs)
scan_within net holds scans [] = All-nil (IsWithin scans (suc scans))
scan_within net holds scans (r ∷ rs) =
    All-cons (IsWithin scans (suc scans)) (place_in net holds (suc scans) r)
    (scan_places net holds (suc scans) rs) (omega arith, omega arith) (scan_within net holds scans rs)

plans_within : (net : Net) (ps : List SeenGroup) (holds : Holds) (scans : ℕ)
    → AreWithin scans (scans + length ps) (plans_places net holds scans ps)
plans_within net [] holds scans = All-nil (IsWithin scans (scans + 0))
plans_within net (p ∷ ps) holds scans =
    let here = scan_places net holds (suc scans) p.reads in
    let there = plans_places net (write_all holds p.writes) (suc scans) ps in
    let high = scans + length (p ∷ ps) in
    All-append (IsWithin scans high) here there (wider scans (suc scans) scans high here (omega arith)
    (omega arith) (scan_within net holds scans p.reads)) (wider (suc scans) (suc scans + length ps) scans
    high there (omega arith) (omega arith) (plans_within net ps (write_all holds p.writes) (suc scans)))

pub more_scans : (rounds : List PlannedGroup) (scans : ℕ) → scans ≤ scans_after_rounds scans rounds
more_scans [] scans = omega arith
more_scans (p ∷ ps) scans = omega (arith, more_scans ps (scans + length p.plans))

rounds_within : (net : Net) (rounds : List PlannedGroup) (holds : Holds) (scans : ℕ)
    → AreWithin scans (scans_after_rounds scans rounds) (rounds_places net holds scans rounds)
rounds_within net [] holds scans = All-nil (IsWithin scans scans)
rounds_within net (p ∷ ps) holds scans =
    let here = plans_places net holds scans p.plans in
    let mid = scans + length p.plans in
    let there = rounds_places net (holds_after holds p.plans) mid ps in
    let high = scans_after_rounds mid ps in
    All-append (IsWithin scans high) here there (wider scans mid scans high here (omega arith)
    (more_scans ps mid) (plans_within net p.plans holds scans)) (wider mid high scans high there
    (omega arith) (omega arith) (rounds_within net ps (holds_after holds p.plans) mid))

pub after_more : (x : PlannedStep) (scans : ℕ) → scans ≤ scans_after_step scans x
after_more (Applies rounds) scans = more_scans rounds scans
after_more (Runs n) scans = omega arith
after_more Resets scans = omega arith

step_within : (net : Net) (x : PlannedStep) (holds : Holds) (scans : ℕ)
    → AreWithin scans (scans_after_step scans x) (step_places net holds scans x)
step_within net (Applies rounds) holds scans = rounds_within net rounds holds scans
step_within net (Runs n) holds scans = All-nil (IsWithin scans scans)
step_within net Resets holds scans = All-nil (IsWithin scans (suc scans))

abbrev IsAbove : ℕ → ReadPlace → Type 0
IsAbove low p = low < p.scan

steps_above : (net : Net) (xs : List PlannedStep) (holds : Holds) (scans : ℕ)
    → All (IsAbove scans) (steps_places net holds scans xs)
steps_above net [] holds scans = All-nil (IsAbove scans)
steps_above net (x ∷ xs) holds scans =
    let here = step_places net holds scans x in
    let after = scans_after_step scans x in
    let there = steps_places net (holds_after_step net holds x) after xs in
    let more = after_more x scans in
    All-append (IsAbove scans) here there (All-weaker (IsWithin scans after) (IsAbove scans) (λ p w. w.0) here
    (step_within net x holds scans)) (All-weaker (IsAbove after) (IsAbove scans)
    (λ p w. omega (arith, w, more)) there (steps_above net xs (holds_after_step net holds x) after))

-- a step has no read after its scans, and no step one before them
pub none_after : (net : Net) (x : PlannedStep) (holds : Holds) (scans scan bit : ℕ)
    → scans_after_step scans x < scan → read_at (step_places net holds scans x) scan bit ≡ None
none_after net x holds scans scan bit l =
    none_of (step_places net holds scans x) scan bit
    (All-weaker (IsWithin scans (scans_after_step scans x)) (λ p. p.scan ≢ scan) (λ p w e. let above =
    w.1 in omega (arith, l, above, e)) (step_places net holds scans x) (step_within net x holds scans))

pub none_before : (net : Net) (xs : List PlannedStep) (holds : Holds) (scans scan bit : ℕ) → scan ≤ scans
    → read_at (steps_places net holds scans xs) scan bit ≡ None
none_before net xs holds scans scan bit l =
    none_of (steps_places net holds scans xs) scan bit (All-weaker (IsAbove scans) (λ p. p.scan ≢ scan)
    (λ p w e. omega (arith, l, w, e)) (steps_places net holds scans xs) (steps_above net xs holds scans))
