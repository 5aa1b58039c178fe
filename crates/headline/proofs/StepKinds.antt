-- Which kind of step a step is, its parts, and the first of some planned steps.
use Rattle.std.proofs.Common.{◌≡◌, ℕ, List, [], ◌∷◌, ap}
use Rattle.std.specs.Prelude.{get_or, map}
use Rattle.net_graph.specs.SeenSteps.{SeenGroup, SeenStep, Apply, Run, Reset}
use Rattle.headline.specs.Retargeting.{PlannedStep, seen_of}

abbrev pub kind : SeenStep → ℕ
kind (Apply gs) = 0
kind (Run n) = 1
kind Reset = 2

abbrev pub groups : SeenStep → List SeenGroup
groups (Apply gs) = gs
groups (Run n) = []
groups Reset = []

abbrev pub cycles : SeenStep → ℕ
cycles (Apply gs) = 0
cycles (Run n) = n
cycles Reset = 0

pub head_same : (x y : PlannedStep) (xs ys : List PlannedStep)
    → map seen_of (x ∷ xs) ≡ map seen_of (y ∷ ys) → seen_of x ≡ seen_of y
head_same x y xs ys e = ap (λ ss. get_or ss 0 (seen_of x)) e
