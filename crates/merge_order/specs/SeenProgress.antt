-- How far a procedure has come, as contracts see it.
use Rattle.std.specs.Prelude.{◌≡◌, ◌<◌, ◌≤◌, ◌+◌, length, Option, Some, None}
use Rattle.pdl_expand.specs.Code.{Left}
use Rattle.pdl_expand.specs.SeenSteps.{given_first}
use Rattle.pdl_expand.specs.Values.{seen_step}
use Rattle.pdl_expand.specs.declared.step.Step.{Step}
use Rattle.pdl_targets.specs.SeenPlaces.{places_in}
use Rattle.merge_order.specs.SeenFeeder.{AFeeder}
use Rattle.merge_order.specs.BitSteps.{BitStepsOf, bits_of, nothing_left, with_ready}
use Rattle.merge_order.specs.declared.progress.Move.{Move}
use Rattle.merge_order.specs.declared.progress.Move.TheVariants as move
use Rattle.merge_order.specs.declared.progress.Progress.{Progress}

-- a step that was given and isn't taken in yet, and those after it
abbrev pub with_pending : Option Step → Left → Left
with_pending None left = left
with_pending (Some s) left = given_first (seen_step s) left

abbrev pub steps_of : Progress → Left
steps_of p = with_pending p.pending p.steps

-- the bit steps that are ready, and those that come of later steps
abbrev pub bits_after : AFeeder → Left → BitStepsOf
bits_after f left = with_ready f.ready (bits_of f.net (places_in f.form) f.state left)

abbrev pub StepsLeft : Type 0
StepsLeft = Left

-- the bit steps that are left
abbrev pub left_of : Progress → BitStepsOf
left_of p = bits_after p.feeder (steps_of p)

-- the iReads that were taken in and the steps that are left are at most 100,000 together, so a feeder can
-- count them
pub record IsUnderWay (p : Progress) : Type 0 where
  pub few : p.feeder.state.queue.asked + length (steps_of p).steps ≤ 100000

-- ---- one move

-- a move takes a step, or comes to the end
abbrev pub Moves : Progress → Progress → Move → Type 0
Moves old new move.Went = (left_of old ≡ left_of new)
    × (length (steps_of new).steps < length (steps_of old).steps)
Moves old new move.Ended = (left_of old ≡ nothing_left) × (left_of new ≡ nothing_left)
