use Rattle.std.proofs.Common.{sym, ◌∙◌}
use Rattle.svf_reader.proofs.Passing.{ends_here}
use Rattle.svf_reader.proofs.bytes.short_run_len.Goals as goal

pub returns-then-is_end-clause-value : goal.returns-then-is_end-clause-value
returns-then-is_end-clause-value c =
    ends_here c.args.class c.args.text.now c.byte_at-b.result c.byte_at-b.ensures
    (sym c.is_end.ensures ∙ c.if-is_end.true)
