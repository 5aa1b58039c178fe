use Rattle.std.proofs.Common.{sym, ap, ◌∙◌}
use Rattle.std.specs.Option.{option_map}
use Rattle.ij_text.specs.Numbers.{tern_bits}
use Rattle.ij_text.proofs.Numbers.{open_length}
use Rattle.icl_declarations.proofs.WideBits.{sized_over, sized_some, sized_none}
use Rattle.icl_declarations.proofs.widths.fit_sized.Goals as goal

pub returns-then-len-width : goal.returns-then-len-width
returns-then-len-width c =
    let t = c.args.bits in sized_over c.args.holder c.args.width (tern_bits t) c.len.result
    (c.len.ensures.value ∙ sym (open_length t.value.items t.care.items t.same_length)) c.if-len-width.true

pub returns-in-Some : goal.returns-in-Some
returns-in-Some c = let t = c.args.bits in
    sized_some c.args.holder c.args.width (tern_bits t) (tern_bits c.in-Some.bits) c.len.result
    (c.len.ensures.value ∙ sym (open_length t.value.items t.care.items t.same_length)) c.if-len-width.false
    (sym (ap (option_map tern_bits) c.in-Some.is) ∙ c.in_ok-bits.ensures)

pub returns-in-None : goal.returns-in-None
returns-in-None c = let t = c.args.bits in absurd (sized_none c.args.width (tern_bits t) c.len.result
    (c.len.ensures.value ∙ sym (open_length t.value.items t.care.items t.same_length)) c.if-len-width.false
    (sym (ap (option_map tern_bits) c.in-None.is) ∙ c.in_ok-bits.ensures))
