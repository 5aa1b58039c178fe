use Rattle.std.proofs.Common.{ap, sym, ◌∙◌}
use Rattle.ij_text.specs.Words.{in_name}
use Rattle.icl_lexer.specs.Matches.{run_len}
use Rattle.icl_lexer.proofs.Cuts.{rest_is}
use Rattle.icl_lexer.proofs.Short.{blank_at, name_at, whole_at}
use Rattle.icl_lexer.proofs.pieces.short_piece.Goals as goal

pub returns-then-is_blank : goal.returns-then-is_blank
returns-then-is_blank c = blank_at c.args.text.now c.in-len1-up.len_at_least (sym c.if-is_blank.ensures)

pub returns-then-begins_name : goal.returns-then-begins_name
returns-then-begins_name c =
    name_at c.args.text.now c.name_len.result c.in-len1-up.len_at_least
    (sym c.if-is_blank.ensures) (sym c.if-begins_name.ensures)
    (c.name_len.ensures.counted ∙ ap (run_len in_name) (rest_is c.args.text.now 1))

pub returns-in-Whole : goal.returns-in-Whole
returns-in-Whole c = whole_at c.args.text.now c.in-Whole.kind c.in-len1-up.len_at_least c.in-Whole.ensures
