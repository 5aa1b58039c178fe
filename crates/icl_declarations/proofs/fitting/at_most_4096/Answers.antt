use Rattle.std.proofs.Common.{sym, ◌∙◌}
use Rattle.ij_text.specs.Numbers.{tern_bits}
use Rattle.ij_text.proofs.Numbers.{open_length}
use Rattle.icl_declarations.proofs.WideBits.{few, many}
use Rattle.icl_declarations.proofs.fitting.at_most_4096.Goals as goal

pub returns-then-len-gt4096 : goal.returns-then-len-gt4096
returns-then-len-gt4096 c =
    let t = c.args.t in many (tern_bits t) c.len.result
    (c.len.ensures.value ∙ sym (open_length t.value.items t.care.items t.same_length)) c.if-len-gt4096.true

pub returns-else-len-gt4096 : goal.returns-else-len-gt4096
returns-else-len-gt4096 c =
    let t = c.args.t in few (tern_bits t) c.len.result
    (c.len.ensures.value ∙ sym (open_length t.value.items t.care.items t.same_length)) c.if-len-gt4096.false
