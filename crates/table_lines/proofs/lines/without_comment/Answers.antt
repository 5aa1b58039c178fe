use Rattle.std.proofs.Common.{ap, sym, ◌∙◌, take}
use Rattle.table_lines.proofs.Runs.{shown_is}
use Rattle.table_lines.proofs.lines.without_comment.Goals as goal

pub returns : goal.returns
returns c =
    let text = c.args.text.now in
    c.split_at.ensures.front ∙ ap (λ n. take n text) c.run_len.ensures.value ∙ sym (shown_is text)
