use Rattle.std.proofs.Common.{◌≡◌, ◌+◌, ◌-◌, ◌<◌, ◌++◌, ◌∷◌, [], ℕ, Bool, List, suc, ap, ◌∙◌, subst, arith}
use Rattle.std.proofs.Common.{drop, take, length}
use Rattle.net_tree.specs.declared.entry.Entry.TheVariants.{Reg, Mux, Row}
use Rattle.net_picture.specs.declared.layout.ItemsDrawn.{ItemsDrawn}
use Rattle.net_picture.specs.declared.pen.Pen.{Pen}
use Rattle.net_picture.specs.declared.shape.Shape.{Shape}
use Rattle.net_picture.specs.Layout.{drawn, pen_after, fan_after, register_drawn, row_ends, rows_drawn}
use Rattle.net_picture.specs.Layout.{row_wire}
use Rattle.net_picture.specs.Pens.{after_register, next_wire_start}
use Rattle.net_picture.specs.Plan.{seen_plan}
use Rattle.net_picture.specs.Walk.{ItemsAreLeft, RowsAreLeft}
use Rattle.net_picture.proofs.Walking.{entry_at, none_left, all_left, register_left, mux_left, MuxIsDrawn}
use Rattle.net_picture.proofs.Walking.{row_not_left, row_left, no_register_next, no_mux_next, some_entry}
use Rattle.net_picture.proofs.Walking.{all_rows, no_row_left, if_ok, mux_done}
use Rattle.net_picture.proofs.layout.+form.Goals as goal

pub draw_item-returns-in_ok-pen-in-Reg-clause-left : goal.draw_item-returns-in_ok-pen-in-Reg-clause-left
draw_item-returns-in_ok-pen-in-Reg-clause-left t c end all left =
    let plan = seen_plan c.args.plan.now in
    let es = c.args.entries.now in
    let i = c.args.done.at in
    let reg = c.in-Reg.reg in
    let width = c.box_of.ensures in
    register_left plan c.args.active (drop i es) reg (drop (i + 1) es) c.args.done.pen c.in_ok-pen-in-Reg.pen
    end c.args.shapes.now.items c.draw_register.new.shapes.items all
    (entry_at es i (Reg reg) c.requires c.in-Reg.is)
    (c.in_ok-pen-in-Reg.ensures.pen ∙ ap (after_register (next_wire_start c.args.done.pen)) width)
    (c.in_ok-pen-in-Reg.ensures.shapes
    ∙ ap (λ (n : ℕ). c.args.shapes.now.items ++ register_drawn c.args.active c.args.done.pen reg n) width)
    left

pub draw_item-returns-in-Mux-clause-left : goal.draw_item-returns-in-Mux-clause-left
draw_item-returns-in-Mux-clause-left t c =
    let plan = seen_plan c.args.plan.now in
    let es = c.args.entries.now in
    let i = c.args.done.at in
    let m = c.in-Mux.mux in
    let count = c.in-Mux.rows in
    let old = c.args.shapes.now.items in
    let new = c.draw_mux.new.shapes.items in
    let entry = entry_at es i (Mux m count) c.requires c.in-Mux.is in
    if_ok c.draw_mux.result (λ (next : ItemsDrawn). MuxIsDrawn plan c.args.active m count (drop (i + 1) es)
    (drop next.at es) c.args.done.pen next.pen old new)
    (λ (next : ItemsDrawn). (end : Pen) (all : List Shape)
    → ItemsAreLeft plan c.args.active (drop i es) c.args.done.pen old end all
    → ItemsAreLeft plan c.args.active (drop next.at es) next.pen new end all)
    (λ next drew end all left. mux_left plan c.args.active (drop i es) m count (drop (i + 1) es)
    (drop next.at es) c.args.done.pen next.pen end old new all entry drew left)
    c.draw_mux.ensures.drawn

pub draw_item-returns-in-Row-clause-left : goal.draw_item-returns-in-Row-clause-left
draw_item-returns-in-Row-clause-left t c end all left =
    let plan = seen_plan c.args.plan.now in
    let es = c.args.entries.now in
    let i = c.args.done.at in
    let n = c.in-Row.field-0 in
    absurd (row_not_left plan c.args.active (drop i es) n (drop (i + 1) es) c.args.done.pen end
    c.args.shapes.now.items all (entry_at es i (Row n) c.requires c.in-Row.is) left)

pub draw_row-returns-then-entries-done-clause-left : goal.draw_row-returns-then-entries-done-clause-left
draw_row-returns-then-entries-done-clause-left t c k after end all all_ends left =
    absurd (some_entry (seen_plan c.args.plan.now) c.args.parting.active c.args.parting.row c.args.parting.pen
    c.args.q k c.args.entries.now c.args.done.at after c.args.done.fan end c.args.shapes.now.items all
    c.args.ends.now.items all_ends c.if-entries-done.true left)

pub draw_row-returns-in-Reg-clause-left : goal.draw_row-returns-in-Reg-clause-left
draw_row-returns-in-Reg-clause-left t c k after end all all_ends left =
    let es = c.args.entries.now in
    let i = c.args.done.at in
    let within : i < length es = omega (arith, c.if-entries-done.false) in
    absurd (no_register_next (seen_plan c.args.plan.now) c.args.parting.active c.args.parting.row
    c.args.parting.pen c.args.q k c.in-Reg.field-0 (drop i es)
    (drop (i + 1) es) after c.args.done.fan end c.args.shapes.now.items all c.args.ends.now.items all_ends
    (entry_at es i (Reg c.in-Reg.field-0) within c.in-Reg.is) left)

pub draw_row-returns-in-Mux-clause-left : goal.draw_row-returns-in-Mux-clause-left
draw_row-returns-in-Mux-clause-left t c k after end all all_ends left =
    let es = c.args.entries.now in
    let i = c.args.done.at in
    let within : i < length es = omega (arith, c.if-entries-done.false) in
    absurd (no_mux_next (seen_plan c.args.plan.now) c.args.parting.active c.args.parting.row
    c.args.parting.pen c.args.q k c.in-Mux.mux c.in-Mux.rows (drop i es)
    (drop (i + 1) es) after c.args.done.fan end c.args.shapes.now.items all c.args.ends.now.items all_ends
    (entry_at es i (Mux c.in-Mux.mux c.in-Mux.rows) within c.in-Mux.is) left)

pub draw_row-returns-in_ok-fan-in-Row-clause-left : goal.draw_row-returns-in_ok-fan-in-Row-clause-left
draw_row-returns-in_ok-fan-in-Row-clause-left t c k after end all all_ends left =
    let plan = seen_plan c.args.plan.now in
    let parting = c.args.parting in
    let es = c.args.entries.now in
    let i = c.args.done.at in
    let f = c.args.done.fan in
    let span = c.in-Row.span in
    let tail = drop (i + 1) es in
    let on = c.is_row_active-active.result in
    let shown = c.is_row_active-active.ensures in
    let start = c.in_ok-start-in-Row.start in
    let pen = c.in_ok-pen-in-Row.pen in
    let part = take (c.span_end-end.result - (i + 1)) tail in
    let shapes = c.args.shapes.now.items in
    let wired = c.draw_row_wire.new.shapes.items in
    let within : i < length es = omega (arith, c.if-entries-done.false) in
    row_left plan parting.active parting.row parting.pen c.args.q k span (drop i es) tail after part
    (drop c.span_end-end.result es) f c.in_ok-fan-in-Row.fan end start pen shapes wired
    c.draw_items.new.shapes.items all c.args.ends.now.items c.push.new.self.items all_ends
    (entry_at es i (Row span) within c.in-Row.is)
    c.span_end-end.ensures.part
    c.span_end-end.ensures.rest
    c.in_ok-start-in-Row.ensures
    (c.in_ok-draw_row_wire-in-Row.ensures ∙ ap (λ (b : Bool). shapes ++ row_wire b parting.pen f ∷ []) shown)
    (λ form e. let drew = c.in_ok-pen-in-Row.ensures form e in
    (drew.0, drew.1 ∙ ap (λ (b : Bool). wired ++ drawn plan b start form) shown))
    c.in_ok-push-in-Row.ensures.items
    c.in_ok-fan-in-Row.ensures
    left

pub draw_items-returns : goal.draw_items-returns
draw_items-returns t c form e =
    let plan = seen_plan c.args.plan.now in
    let end = pen_after plan c.args.pen form in
    let all = c.args.shapes.now.items ++ drawn plan c.args.active c.args.pen form in
    none_left plan c.args.active c.args.entries.now c.loop-done.done.at c.loop-done.done.pen end
    c.loop-done.shapes.items all c.loop-done-test.false
    (c.loop-done.invariant.left end all
    (all_left plan c.args.active c.args.entries.now form c.args.pen c.args.shapes.now.items e))

pub draw_mux-returns-clause-drawn : goal.draw_mux-returns-clause-drawn
draw_mux-returns-clause-drawn t c rows after e count =
    let plan = seen_plan c.args.plan.now in
    let pen = c.in_ok-pen.pen in
    let part = c.mux_of-part.result in
    let f = c.in_ok-fan.field-0 in
    let shapes = c.draw_wire_to.new.shapes.items in
    let none = c.new-ends.result.items in
    let done = no_row_left plan c.args.active part.row pen c.args.count
    (drop c.in_ok-drawn.drawn.at c.args.entries.now) after c.in_ok-drawn.drawn.fan (fan_after plan f rows)
    c.draw_rows.new.shapes.items (shapes ++ rows_drawn plan c.args.active part.row pen 0 f rows)
    c.draw_rows.new.ends.items (none ++ row_ends plan f rows)
    (c.in_ok-drawn.ensures.left after (fan_after plan f rows)
    (shapes ++ rows_drawn plan c.args.active part.row pen 0 f rows) (none ++ row_ends plan f rows)
    (all_rows plan c.args.active part.row pen rows c.args.count
    (drop (c.args.done.at + 1) c.args.entries.now) after f shapes none e count)) in
    let both = mux_done plan c.args.active c.args.done.pen c.args.mux rows pen c.in_ok-after_mux.field-0 part
    f c.in_ok-drawn.drawn.fan c.args.shapes.now.items shapes c.draw_rows.new.shapes.items
    c.close_mux.new.shapes.items none c.draw_rows.new.ends.items c.deref.result.now
    c.in_ok-pen.ensures.pen c.mux_of-part.ensures c.in_ok-pen.ensures.shapes c.in_ok-fan.ensures
    c.new-ends.ensures.items done.1 done.2 done.3 c.deref.ensures.value
    c.in_ok-close_mux.ensures c.in_ok-after_mux.ensures in
    (done.0, both.0, both.1)

pub draw_rows-loop-q-preserved : goal.draw_rows-loop-q-preserved
draw_rows-loop-q-preserved t c =
    let plan = seen_plan c.args.plan.now in
    let q = c.loop-q.q in
    let next : suc q ≡ q + 1 = omega arith in
    record {
      later = omega (arith, c.loop-q.invariant.later, c.in_ok-done.ensures.after);
      within = omega (arith, c.in_ok-done.ensures.within);
      left = λ k after end all all_ends sum left.
          let more : q + suc k ≡ c.args.count = omega (arith, sum) in
          subst (λ (n : ℕ). RowsAreLeft plan c.args.parting.active c.args.parting.row c.args.parting.pen n k
          (drop c.in_ok-done.done.at c.args.entries.now) after c.in_ok-done.done.fan
          c.draw_row.new.shapes.items c.draw_row.new.ends.items end all all_ends) next
          (c.in_ok-done.ensures.left k after end all all_ends
          (c.loop-q.invariant.left (suc k) after end all all_ends more left));
    }

pub draw_rows-returns-clause-left : goal.draw_rows-returns-clause-left
draw_rows-returns-clause-left t c after end all all_ends left =
    let plan = seen_plan c.args.plan.now in
    let q = c.loop-q.q in
    let last : q ≡ c.args.count = omega (arith, c.loop-q-test.false, c.loop-q.auto.q-end) in
    let none : q + 0 ≡ c.args.count = omega (arith, last) in
    subst (λ (n : ℕ). RowsAreLeft plan c.args.parting.active c.args.parting.row c.args.parting.pen n 0
    (drop c.loop-q.done.at c.args.entries.now) after c.loop-q.done.fan c.loop-q.shapes.items
    c.loop-q.ends.items end all all_ends) last
    (c.loop-q.invariant.left 0 after end all all_ends none left)
