use Rattle.ij_io.proofs.Adding.{adds_both, adds_front, adds_then_part, at_refusal, adds_as, adds_part_as}
use Rattle.net_graph.specs.PathNames.{mux_path}
use Rattle.svf_writer.proofs.Texts.{row_is}
use Rattle.svf_writer.proofs.row_mark.put_row_mark.Goals as goal

pub returns-in_err-write-clause-part : goal.returns-in_err-write-clause-part
returns-in_err-write-clause-part g c =
    at_refusal c.from_residual.result (adds_part_as (row_is (mux_path c.args.net.now c.args.branch.mux)
    c.args.branch.row) (adds_front _ c.in_err-write.ensures.part))

pub returns-in_err-put_mux_path-clause-part : goal.returns-in_err-put_mux_path-clause-part
returns-in_err-put_mux_path-clause-part g c =
    at_refusal c.from_residual-in_err-put_mux_path.result
    (adds_part_as (row_is (mux_path c.args.net.now c.args.branch.mux) c.args.branch.row)
    (adds_then_part c.in_ok-write.ensures.whole (adds_front _ c.in_err-put_mux_path.ensures.part)))

pub returns-in_err-put_row_number-clause-part : goal.returns-in_err-put_row_number-clause-part
returns-in_err-put_row_number-clause-part g c =
    at_refusal c.from_residual-in_err-put_row_number.result
    (adds_part_as (row_is (mux_path c.args.net.now c.args.branch.mux) c.args.branch.row)
    (adds_then_part c.in_ok-write.ensures.whole
    (adds_then_part c.in_ok-put_mux_path.ensures.whole c.in_err-put_row_number.ensures.part)))

pub returns-clause-whole : goal.returns-clause-whole
returns-clause-whole g c =
    adds_as (row_is (mux_path c.args.net.now c.args.branch.mux) c.args.branch.row)
    (adds_both c.in_ok-write.ensures.whole
    (adds_both c.in_ok-put_mux_path.ensures.whole c.in_ok-put_row_number.ensures.whole))
