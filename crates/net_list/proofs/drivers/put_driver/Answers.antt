use Rattle.ij_io.proofs.Adding.{adds_both, adds_front, adds_then_part, at_refusal, adds_as, adds_part_as}
use Rattle.net_list.proofs.Pieces.{driver_is}
use Rattle.net_list.proofs.drivers.put_driver.Goals as goal

pub returns-in_err-put_pos_start-clause-part : goal.returns-in_err-put_pos_start-clause-part
returns-in_err-put_pos_start-clause-part g c = at_refusal c.from_residual.result (adds_part_as
    (driver_is c.args.net.now c.args.bits.now c.args.pos c.signal_at-signal.result c.is_leftmost-first.result
    c.continues_run-more.result c.is_run_continued-followed.result c.signal_at-signal.ensures
    c.is_leftmost-first.ensures
    c.continues_run-more.ensures c.is_run_continued-followed.ensures) (adds_front _
    c.in_err-put_pos_start.ensures.part))

pub returns-in_err-put_pos_end-clause-part : goal.returns-in_err-put_pos_end-clause-part
returns-in_err-put_pos_end-clause-part g c = at_refusal c.from_residual-in_err-put_pos_end.result
    (adds_part_as (driver_is c.args.net.now c.args.bits.now c.args.pos c.signal_at-signal.result
    c.is_leftmost-first.result c.continues_run-more.result c.is_run_continued-followed.result
    c.signal_at-signal.ensures
    c.is_leftmost-first.ensures c.continues_run-more.ensures c.is_run_continued-followed.ensures)
    (adds_then_part c.in_ok-put_pos_start.ensures.whole c.in_err-put_pos_end.ensures.part))

pub returns-clause-whole : goal.returns-clause-whole
returns-clause-whole g c =
    adds_as (driver_is c.args.net.now c.args.bits.now c.args.pos c.signal_at-signal.result
    c.is_leftmost-first.result c.continues_run-more.result c.is_run_continued-followed.result
    c.signal_at-signal.ensures
    c.is_leftmost-first.ensures c.continues_run-more.ensures c.is_run_continued-followed.ensures)
    (adds_both c.in_ok-put_pos_start.ensures.whole c.in_ok-put_pos_end.ensures.whole)
