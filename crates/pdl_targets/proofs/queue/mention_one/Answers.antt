use Rattle.std.proofs.Common.{List, sym, ap, ◌∙◌, subst}
use Rattle.std.proofs.lemmas.List.{length-map}
use Rattle.net_graph.specs.declared.net.BitId.{BitId}
use Rattle.net_graph.specs.Path.{is_in}
use Rattle.pdl_targets.specs.Marked.{AreNumbered, first_bit, first_bits}
use Rattle.net_graph.proofs.Numbering.{bits_more, registers_differ}
use Rattle.pdl_targets.proofs.queue.mention_one.Goals as goal

pub returns-clause-numbered : goal.returns-clause-numbered
returns-clause-numbered c =
    let P : List BitId → Type 0 = AreNumbered c.args.net.now c.mark_next.new.marks in
    let rs = c.args.registers.now.items in
    subst P (sym (ap first_bits c.push_reserved.ensures.items ∙ bits_more first_bit rs c.args.bit.reg))
    (c.mark_next.ensures.numbered (first_bits rs) c.requires.numbered
    (length-map rs first_bit ∙ sym c.len.ensures)
    (registers_differ rs c.args.bit.reg
    (sym (c.if-is_marked_register.ensures ∙ ap (λ l. is_in l c.args.bit.reg) c.as_slice.ensures))))
