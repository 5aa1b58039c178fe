use Rattle.std.proofs.Common.{◌^◌, nat_le, ap, sym, ◌∙◌}
use Rattle.ij_text.specs.Numbers.{tern_bits}
use Rattle.table_lines.specs.Reading.{plain_value}
use Rattle.table_lines.proofs.Above.{ones_above}
use Rattle.table_lines.proofs.word.is_number_above.Goals as goal

pub returns-in-Digits : goal.returns-in-Digits
returns-in-Digits c =
    c.some_one.ensures ∙ sym (ap (λ n. nat_le (2 ^ c.args.width) (plain_value n)) c.in-Digits.is
    ∙ ones_above c.args.width (tern_bits c.in-Digits.t))
