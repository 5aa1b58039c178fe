use Rattle.std.proofs.Common.{List, Some, None, sym, ap, ◌∙◌, subst}
use Rattle.std.specs.List.{position}
use Rattle.std.proofs.lemmas.List.{length-map}
use Rattle.net_graph.specs.declared.net.BitId.{BitId}
use Rattle.net_graph.specs.Path.{same_place}
use Rattle.pdl_targets.specs.Marked.{AreNumbered, bits_written}
use Rattle.pdl_targets.proofs.Putting.{write_placed}
use Rattle.net_graph.proofs.Numbering.{bits_more, kept_at, others_differ}
use Rattle.pdl_targets.proofs.queue.put_write.Goals as goal

pub returns-in-Some-clause-items : goal.returns-in-Some-clause-items
returns-in-Some-clause-items c =
    c.set.ensures.items
    ∙ write_placed c.args.writes.now.items c.args.write (Some c.in-Some.i)
    (c.in-Some.ensures ∙ ap (position (λ v. same_place v.bit c.args.write.bit)) c.as_slice.ensures)

pub returns-in-None-clause-items : goal.returns-in-None-clause-items
returns-in-None-clause-items c =
    c.push_reserved.ensures.items
    ∙ write_placed c.args.writes.now.items c.args.write None
    (c.in-None.ensures ∙ ap (position (λ v. same_place v.bit c.args.write.bit)) c.as_slice.ensures)

pub returns-in-Some-clause-numbered : goal.returns-in-Some-clause-numbered
returns-in-Some-clause-numbered c =
    let P : List BitId → Type 0 = AreNumbered c.args.net.now c.args.marks.now in
    subst P (sym (ap bits_written c.set.ensures.items
    ∙ kept_at (λ w. w.bit) c.args.writes.now.items c.in-Some.i c.args.write (c.in-Some.ensures
    ∙ ap (position (λ v. same_place v.bit c.args.write.bit)) c.as_slice.ensures))) c.requires.numbered

pub returns-in-None-clause-numbered : goal.returns-in-None-clause-numbered
returns-in-None-clause-numbered c =
    let P : List BitId → Type 0 = AreNumbered c.args.net.now c.mark_next.new.marks in
    subst P (sym (ap bits_written c.push_reserved.ensures.items
    ∙ bits_more (λ w. w.bit) c.args.writes.now.items c.args.write))
    (c.mark_next.ensures.numbered (bits_written c.args.writes.now.items) c.requires.numbered
    (length-map c.args.writes.now.items (λ w. w.bit) ∙ sym c.len.ensures)
    (others_differ (λ w. w.bit) c.args.writes.now.items c.args.write
    (c.in-None.ensures ∙ ap (position (λ v. same_place v.bit c.args.write.bit)) c.as_slice.ensures)))
