use Rattle.std.proofs.Common.{ap, length, arith}
use Rattle.std.proofs.lemmas.List.{length-map}
use Rattle.instruments.specs.Seen.{seen_model}
use Rattle.net_wave.proofs.scene.Scene.add_word.Goals as goal

pub word-requires : goal.word-requires
word-requires c =
    omega (
      arith,
      c.requires.there.0,
      length-map c.args.self.now.models.now.items seen_model,
      ap length
          c.requires.scene.same_models,
      c.instruments-count.ensures.count,
      c.instruments-count.ensures.models,
    )

pub word_at-requires-clause-models : goal.word_at-requires-clause-models
word_at-requires-clause-models c = c.requires.scene.models.each
