use Rattle.ij_io.proofs.Adding.{adds_both, adds_front, adds_then_part, at_refusal, adds_part_as, adds_as}
use Rattle.report.proofs.Steps.{register_is}
use Rattle.report.proofs.register.put_register.Goals as goal

pub returns-in_err-write-clause-part : goal.returns-in_err-write-clause-part
returns-in_err-write-clause-part g c = at_refusal c.from_residual.result (adds_part_as
    (register_is c.args.net.now c.args.holds.now c.args.reg c.thing_of-thing.result c.width_of-width.result
    c.thing_of-thing.ensures.thing c.width_of-width.ensures) (adds_front _ c.in_err-write.ensures.part))

pub returns-in_err-put_thing_path-clause-part : goal.returns-in_err-put_thing_path-clause-part
returns-in_err-put_thing_path-clause-part g c = at_refusal c.from_residual-in_err-put_thing_path.result
    (adds_part_as (register_is c.args.net.now c.args.holds.now c.args.reg c.thing_of-thing.result
    c.width_of-width.result c.thing_of-thing.ensures.thing c.width_of-width.ensures)
    (adds_then_part c.in_ok-write.ensures.whole (adds_front _ c.in_err-put_thing_path.ensures.part)))

pub returns-in_err-write-2-clause-part : goal.returns-in_err-write-2-clause-part
returns-in_err-write-2-clause-part g c = at_refusal c.from_residual-in_err-write-2.result (adds_part_as
    (register_is c.args.net.now c.args.holds.now c.args.reg c.thing_of-thing.result c.width_of-width.result
    c.thing_of-thing.ensures.thing c.width_of-width.ensures) (adds_then_part c.in_ok-write.ensures.whole
    (adds_then_part c.in_ok-put_thing_path.ensures.whole (adds_front _ c.in_err-write-2.ensures.part))))

pub returns-in_err-put_digits-clause-part : goal.returns-in_err-put_digits-clause-part
returns-in_err-put_digits-clause-part g c = at_refusal c.from_residual-in_err-put_digits.result
    (adds_part_as (register_is c.args.net.now c.args.holds.now c.args.reg c.thing_of-thing.result
    c.width_of-width.result c.thing_of-thing.ensures.thing c.width_of-width.ensures)
    (adds_then_part c.in_ok-write.ensures.whole (adds_then_part c.in_ok-put_thing_path.ensures.whole
    (adds_then_part c.in_ok-write-2.ensures.whole (adds_front _ c.in_err-put_digits.ensures.part)))))

pub returns-in_err-write-3-clause-part : goal.returns-in_err-write-3-clause-part
returns-in_err-write-3-clause-part g c = at_refusal c.from_residual-in_err-write-3.result (adds_part_as
    (register_is c.args.net.now c.args.holds.now c.args.reg c.thing_of-thing.result c.width_of-width.result
    c.thing_of-thing.ensures.thing c.width_of-width.ensures) (adds_then_part c.in_ok-write.ensures.whole
    (adds_then_part c.in_ok-put_thing_path.ensures.whole (adds_then_part c.in_ok-write-2.ensures.whole
    (adds_then_part c.in_ok-put_digits.ensures.whole c.in_err-write-3.ensures.part)))))

pub returns-clause-whole : goal.returns-clause-whole
returns-clause-whole g c = adds_as (register_is c.args.net.now c.args.holds.now c.args.reg
    c.thing_of-thing.result c.width_of-width.result c.thing_of-thing.ensures.thing c.width_of-width.ensures)
    (adds_both c.in_ok-write.ensures.whole
    (adds_both c.in_ok-put_thing_path.ensures.whole (adds_both c.in_ok-write-2.ensures.whole
    (adds_both c.in_ok-put_digits.ensures.whole c.in_ok-write-3.ensures.whole))))
