use Rattle.std.proofs.Common.{[], map, refl}
use Rattle.std.proofs.lemmas.Result.{err_from_is_err_and}
use Rattle.pdl_parser.specs.Views.{seen_proc}
use Rattle.pdl_expand.specs.Expansion.{expansion}
use Rattle.pdl_expand.specs.Values.{cells_of}
use Rattle.pdl_expand.specs.Working.{left_in}
use Rattle.merge_order.specs.Feeding.{begin}
use Rattle.merge_order.specs.BitSteps.{bit_steps}
use Rattle.merge_order.proofs.StepRefusing.{refused_left}
use Rattle.merge_order.proofs.StepWhole.{begins, begins_few}
use Rattle.merge_order.proofs.progress.begun.Goals as goal

pub returns-in_err-steps-clause-refused : goal.returns-in_err-steps-clause-refused
unfolding bit_steps
returns-in_err-steps-clause-refused c =
    let p = err_from_is_err_and c.from_residual.result c.from_residual.ensures.1 in
    let left =
    left_in (expansion (map seen_proc c.args.procs.now) (cells_of c.args.net.now) c.args.name.now) in
    rw (p.1, p.2) (refused_left (record {
      net = c.args.net.now;
      form = c.args.tree.now;
      state = begin;
      ready =
          [];
    }) refl left _ c.in_err-steps.ensures.refused)

pub returns-clause-under_way : goal.returns-clause-under_way
returns-clause-under_way c =
    record {
      few = begins_few c.in_ok-steps.steps c.new-2.result (map seen_proc c.args.procs.now)
          c.args.net.now c.args.tree.now c.args.name.now c.in_ok-steps.ensures.given c.new-2.ensures;
    }

pub returns-clause-given : goal.returns-clause-given
returns-clause-given c = begins c.in_ok-steps.steps c.new-2.result (map seen_proc c.args.procs.now)
    c.args.net.now c.args.tree.now c.args.name.now c.in_ok-steps.ensures.given c.new-2.ensures
