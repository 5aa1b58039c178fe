use Rattle.headline.proofs.One.{scripts_are_one}
use Rattle.headline.proofs.GroupPlaying.{plans_play}
use Rattle.headline.proofs.Retargeting.{plans_are_scripts}
use Rattle.headline.proofs.Right.{plans_are_right}
use Rattle.headline.proofs.Texts.{texts_are_one}
use Rattle.headline.proofs.planned_steps_law.Goals as goal

pub returns : goal.returns
returns c = record {
  scripts = plans_are_scripts;
  play = plans_play;
  right = plans_are_right;
  one = scripts_are_one;
  texts = texts_are_one;
}
