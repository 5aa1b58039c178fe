use Rattle.std.proofs.Common.{sym, ◌∙◌, arith}
use Rattle.icl_declarations.proofs.DigitLists.{decimal_is, no_decimal}
use Rattle.icl_declarations.proofs.digits.decimal_bits.Goals as goal

pub returns-in_ok-bits-in-Some : goal.returns-in_ok-bits-in-Some
returns-in_ok-bits-in-Some c =
    decimal_is c.args.digits.now c.in-Some.n c.in_ok-bits-in-Some.bits (omega arith) c.in-Some.ensures
    (sym c.all_digits.ensures ∙ c.if-not-all_digits.false) c.in_ok-bits-in-Some.ensures

pub returns-in-None : goal.returns-in-None
returns-in-None c = no_decimal c.args.digits.now c.in-None.ensures
