use Rattle.std.proofs.Common.{nat_lt, sym, ap, length, ◌∙◌}
use Rattle.ij_text.specs.Numbers.{text_bits}
use Rattle.ij_text.proofs.Numbers.{none_of_ten}
use Rattle.ij_text.proofs.digits.is_too_wide.Goals as goal

pub returns-in-Ten : goal.returns-in-Ten
returns-in-Ten c = sym (ap (λ r. nat_lt 4096 (length (text_bits r c.args.text.now))) c.in-Ten.is
    ∙ ap (nat_lt 4096) (none_of_ten c.args.text.now))
