use Rattle.pdl_targets.proofs.Others.{other_place}
use Rattle.pdl_targets.proofs.mux_rounds.MuxRounds.other_rows_word.Goals as goal

pub returns : goal.returns
returns c j low =
    other_place c.args.stamp _ c.args.self.now c.args.row c.args.w j _ _ _ _ _ c.self.view_is low
    c.word-several.ensures c.word-any.ensures c.row_word.ensures
    (c.without.ensures j low) (c.bits_of_either.ensures j)
