use Rattle.std.proofs.lemmas.List.{get_or_default}
use Rattle.ij_io.proofs.Adding.{at_refusal, words_part}
use Rattle.net_picture.specs.Dot.{select_edge}
use Rattle.net_picture.proofs.dot.put_select_edges.Goals as goal

pub returns-in_err-put_select_edge-clause-part : goal.returns-in_err-put_select_edge-clause-part
returns-in_err-put_select_edge-clause-part g c =
    at_refusal c.from_residual.result (words_part (select_edge c.args.mux) c.args.bits.now
    c.loop-bit.bit-index c.loop-bit-test.true (get_or_default _ _ _ _ c.loop-bit-test.true)
    c.loop-bit.invariant.so_far c.in_err-put_select_edge.ensures.part)
