use Rattle.ij_io.proofs.Adding.{adds_both, adds_front, adds_then_part, at_refusal, adds_as, adds_part_as}
use Rattle.std.specs.Prelude.{ℕ, List, ◌++◌}
use Rattle.std.proofs.Common.{ap}
use Rattle.net_list.specs.Drivers.{open_name}
use Rattle.net_list.proofs.drivers.put_bit_start.Goals as goal

pub returns-in_err-write-clause-part : goal.returns-in_err-write-clause-part
returns-in_err-write-clause-part g c = at_refusal c.from_residual.result
    (adds_part_as (ap (λ (t : List ℕ). t ++ open_name c.args.net.now c.args.bit) c.tilde_if.ensures)
    (adds_front _ c.in_err-write.ensures.part))

pub returns-in_err-put_open_name-clause-part : goal.returns-in_err-put_open_name-clause-part
returns-in_err-put_open_name-clause-part g c = at_refusal c.from_residual-in_err-put_open_name.result
    (adds_part_as (ap (λ (t : List ℕ). t ++ open_name c.args.net.now c.args.bit) c.tilde_if.ensures)
    (adds_then_part c.in_ok-write.ensures.whole c.in_err-put_open_name.ensures.part))

pub returns-clause-whole : goal.returns-clause-whole
returns-clause-whole g c =
    adds_as (ap (λ (t : List ℕ). t ++ open_name c.args.net.now c.args.bit) c.tilde_if.ensures)
    (adds_both c.in_ok-write.ensures.whole c.in_ok-put_open_name.ensures.whole)
