use Rattle.std.proofs.Common.{refl}
use Rattle.ij_io.proofs.Adding.{adds_none, at_refusal, part_as, whole_as}
use Rattle.net_list.proofs.Pieces.{totals_are}
use Rattle.net_list.proofs.totals.put_totals.Goals as goal

pub returns-in_err-path-clause-part : goal.returns-in_err-path-clause-part
returns-in_err-path-clause-part g c = at_refusal c.from_residual.result (adds_none _ refl)

pub returns-clause-whole : goal.returns-clause-whole
returns-clause-whole g c =
    whole_as c.put_line.result _ _ (totals_are c.args.format c.args.net.now c.register_count-regs.result
    c.bit_count-bits.result c.mux_count-muxes.result c.inst_count-insts.result c.in_ok-path.path
    c.register_count-regs.ensures c.bit_count-bits.ensures c.mux_count-muxes.ensures
    c.inst_count-insts.ensures c.in_ok-path.ensures) c.put_line.ensures.whole

pub returns-clause-part : goal.returns-clause-part
returns-clause-part g c =
    part_as c.put_line.result _ _ (totals_are c.args.format c.args.net.now c.register_count-regs.result
    c.bit_count-bits.result c.mux_count-muxes.result c.inst_count-insts.result c.in_ok-path.path
    c.register_count-regs.ensures c.bit_count-bits.ensures c.mux_count-muxes.ensures
    c.inst_count-insts.ensures c.in_ok-path.ensures) c.put_line.ensures.part
