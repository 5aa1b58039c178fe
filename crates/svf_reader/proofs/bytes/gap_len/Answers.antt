use Rattle.std.proofs.Common.{sym, ◌∙◌}
use Rattle.ij_text.specs.Bytes.{is_blank}
use Rattle.svf_reader.specs.Passed.{ends_gap}
use Rattle.svf_reader.proofs.Passing.{no_gap_here, one_blank, blank_there}
use Rattle.std.proofs.lemmas.Bool.{and_parts}
use Rattle.svf_reader.proofs.bytes.gap_len.Goals as goal

pub returns-then-ends_gap-clause-value : goal.returns-then-ends_gap-clause-value
returns-then-ends_gap-clause-value c =
    no_gap_here c.args.text.now c.byte_at-first.result c.byte_at-first.ensures
    (sym c.ends_gap.ensures ∙ c.if-ends_gap.true)

pub returns-then-is_lone_blank-clause-value : goal.returns-then-is_lone_blank-clause-value
returns-then-is_lone_blank-clause-value c =
    let both = and_parts (is_blank c.byte_at-first.result) (ends_gap c.byte_at-next.result)
    (sym c.is_lone_blank.ensures ∙ c.if-is_lone_blank.true) in
    one_blank c.args.text.now c.byte_at-first.result c.byte_at-next.result
    c.byte_at-first.ensures both.0 c.byte_at-next.ensures both.1

pub returns-then-is_lone_blank-clause-within : goal.returns-then-is_lone_blank-clause-within
returns-then-is_lone_blank-clause-within c =
    let both = and_parts (is_blank c.byte_at-first.result) (ends_gap c.byte_at-next.result)
    (sym c.is_lone_blank.ensures ∙ c.if-is_lone_blank.true) in
    blank_there c.args.text.now c.byte_at-first.result c.byte_at-first.ensures both.0
