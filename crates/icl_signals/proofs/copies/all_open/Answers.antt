use Rattle.std.proofs.Common.{false, ap, ◌∙◌}
use Rattle.std.specs.Prelude.{replicate, None}
use Rattle.ij_text.specs.Numbers.{open_bits}
use Rattle.icl_signals.proofs.OneNumber.{tern_is}
use Rattle.icl_signals.proofs.OpenBits.{all_open}
use Rattle.icl_signals.proofs.copies.all_open.Goals as goal

pub returns : goal.returns
returns c =
    tern_is _ (replicate c.args.width None)
    (ap (λ v. open_bits v c.from-2.result.items) (c.from.ensures ∙ c.in_ok-value.ensures)
    ∙ ap (open_bits (replicate c.args.width false)) (c.from-2.ensures ∙ c.in_ok-care.ensures)
    ∙ all_open c.args.width)
