use Rattle.ij_io.proofs.Adding.{adds_both, adds_front, adds_then_part, at_refusal, adds_as, adds_part_as}
use Rattle.std.specs.Prelude.{ℕ, [], ◌∷◌, ◌++◌, decimal}
use Rattle.std.proofs.Common.{ap}
use Rattle.net_list.specs.Drivers.{register_path}
use Rattle.net_list.proofs.names.put_open_name.Goals as goal

pub returns-in_err-put_register_path-clause-part : goal.returns-in_err-put_register_path-clause-part
returns-in_err-put_register_path-clause-part g c = at_refusal c.from_residual.result
    (adds_part_as (ap (λ (n : ℕ). register_path c.args.net.now c.args.bit.reg ++ (91 ∷ [] ++ decimal n))
    c.index_of-index.ensures) (adds_front _ c.in_err-put_register_path.ensures.part))

pub returns-in_err-write-clause-part : goal.returns-in_err-write-clause-part
returns-in_err-write-clause-part g c = at_refusal c.from_residual-in_err-write.result
    (adds_part_as (ap (λ (n : ℕ). register_path c.args.net.now c.args.bit.reg
    ++ (91 ∷ [] ++ decimal n)) c.index_of-index.ensures)
    (adds_then_part c.in_ok-put_register_path.ensures.whole (adds_front _ c.in_err-write.ensures.part)))

pub returns-in_err-put_decimal-clause-part : goal.returns-in_err-put_decimal-clause-part
returns-in_err-put_decimal-clause-part g c = at_refusal c.from_residual-in_err-put_decimal.result
    (adds_part_as (ap (λ (n : ℕ). register_path c.args.net.now c.args.bit.reg ++ (91 ∷ [] ++ decimal n))
    c.index_of-index.ensures) (adds_then_part c.in_ok-put_register_path.ensures.whole
    (adds_then_part c.in_ok-write.ensures.whole c.in_err-put_decimal.ensures.part)))

pub returns-clause-whole : goal.returns-clause-whole
returns-clause-whole g c = adds_as (ap (λ (n : ℕ). register_path c.args.net.now c.args.bit.reg
    ++ (91 ∷ [] ++ decimal n)) c.index_of-index.ensures) (adds_both c.in_ok-put_register_path.ensures.whole
    (adds_both c.in_ok-write.ensures.whole c.in_ok-put_decimal.ensures.whole))
