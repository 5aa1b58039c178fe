use Rattle.std.proofs.Common.{◌∙◌, length, ap, sym}
use Rattle.ij_bits.specs.BitLists.{number_of}
use Rattle.ij_bits.proofs.Marking.{agree_where, whole}
use Rattle.ij_bits.proofs.tern.Tern.lists_number.Goals as goal

pub returns : goal.returns
returns c =
    let t = c.args.self.now in
    let n = c.len-n.result in
    agree_where t.value.items t.care.items
    (length t.value.items) c.args.bits c.number.result c.number-2.result (sym t.same_length)
    (c.number.ensures.value ∙ ap number_of (whole t.value.items n (sym c.len-n.ensures.value)))
    (c.number-2.ensures.value ∙ ap number_of (whole t.care.items n (sym c.len-n.ensures.care)))
