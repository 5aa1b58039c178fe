use Rattle.ij_io.proofs.Adding.{at_refusal, words_part}
use Rattle.net_graph.specs.PathNames.{with_dot}
use Rattle.path_names.proofs.paths.put_all_with_dots.Goals as goal

pub returns-in_err-put_with_dot-clause-part : goal.returns-in_err-put_with_dot-clause-part
returns-in_err-put_with_dot-clause-part g c =
    at_refusal c.from_residual.result (words_part with_dot c.args.names.now c.loop-name.name-index
    c.loop-name-test.true c.name-item.is c.loop-name.invariant.so_far c.in_err-put_with_dot.ensures.part)
