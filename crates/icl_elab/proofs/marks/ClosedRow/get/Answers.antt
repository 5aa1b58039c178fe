use Rattle.std.proofs.Common.{◌∙◌, None, sym, ap, arith}
use Rattle.std.proofs.lemmas.List.{get_or-map}
use Rattle.icl_elab.specs.declared.marks.Mark.{Mark}
use Rattle.icl_elab.specs.Marks.{mark_at}
use Rattle.icl_elab.proofs.marks.ClosedRow.get.Goals as goal

pub returns-then-pos-len : goal.returns-then-pos-len
returns-then-pos-len c =
    let marks = c.self.inside.marks.items in
    let lt = c.if-pos-len.true in
    let n = c.len.ensures.value in
    let x = c.get.result in
    ap (λ (m : Mark). m.number) (c.get.ensures x)
    ∙ sym (get_or-map (λ (m : Mark). m.number) marks c.args.pos x None (omega (arith, lt, n)))
    ∙ ap (λ row. mark_at row c.args.pos) c.self.view_is
