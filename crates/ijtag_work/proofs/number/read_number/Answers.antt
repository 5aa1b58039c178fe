use Rattle.std.proofs.Common.{◌<◌, ◌^◌, ◌∙◌, ℕ, List, sym, arith}
use Rattle.ij_text.specs.Numbers.{decimal_from}
use Rattle.ijtag_work.proofs.Numbers.{number_fits}
use Rattle.ijtag_work.proofs.number.read_number.Goals as goal

pub returns-in_err-n : goal.returns-in_err-n
returns-in_err-n c =
    let text : List ℕ = c.as_bytes-text.result.now in
    let fits : decimal_from 0 text < 2 ^ 64 =
    number_fits text (sym c.is_number.ensures ∙ c.if-not-is_number.false) in
    absurd (omega (arith, fits, c.in_err-n.ensures))

pub overflow_cast-result : goal.overflow_cast-result
overflow_cast-result c =
    let text : List ℕ = c.as_bytes-text.result.now in
    let fits : decimal_from 0 text < 2 ^ 64 =
    number_fits text (sym c.is_number.ensures ∙ c.if-not-is_number.false) in
    omega (arith, fits, c.in_ok-n.ensures)
