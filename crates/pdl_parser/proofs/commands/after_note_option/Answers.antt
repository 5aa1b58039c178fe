use Rattle.std.proofs.Common.{List, cond, drop, sym, ap, subst, ◌∙◌}
use Rattle.pdl_parser.specs.Cutting.{Word}
use Rattle.pdl_parser.specs.Seen.{words}
use Rattle.pdl_parser.specs.SeenCommands.{Passes}
use Rattle.pdl_parser.specs.Reading.{read_maybe_note_option, note_text}
use Rattle.pdl_parser.specs.Grammar.{plain_at}
use Rattle.pdl_parser.proofs.Loops.{passes}
use Rattle.pdl_parser.proofs.commands.after_note_option.Goals as goal

pub returns-clause-gives : goal.returns-clause-gives
returns-clause-gives c =
    let ws = words c.args.lexemes.now in
    subst (λ (rest : List Word). Passes read_maybe_note_option ws rest)
    (sym (c.skip_word_if.ensures.rest ∙ ap (λ b. cond b (drop 1 ws) ws) c.begins_note_option.ensures))
    (passes (plain_at note_text) ws)
