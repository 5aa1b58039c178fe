use Rattle.std.proofs.Common.{map}
use Rattle.merge_order.specs.BitSteps.{bit_steps}
use Rattle.instruments.specs.Seen.{seen_model}
use Rattle.pdl_parser.specs.Views.{seen_proc}
use Rattle.run_report.proofs.Naming.{writes, writes_part}
use Rattle.std.proofs.lemmas.Result.{on_ok_weaker, on_err_weaker}
use Rattle.run_report.proofs.run.put_run.Goals as goal

pub returns-clause-whole : goal.returns-clause-whole
returns-clause-whole g c =
    let steps =
    (bit_steps (map seen_proc c.args.procs.now) c.args.net.now c.args.tree.now c.args.name.now).steps in
    on_ok_weaker c.put_named_play.result
    (writes c.args.net.now c.args.tree.now c.args.device.now
    (map seen_model c.args.models.now.items) steps c.args.commands.now (g.K.Sink.taken c.args.k.now)
    (g.K.Sink.taken c.put_named_play.new.k) c.new-reads.result c.new-reads.ensures)
    c.put_named_play.ensures.whole

pub returns-clause-part : goal.returns-clause-part
returns-clause-part g c =
    let steps =
    (bit_steps (map seen_proc c.args.procs.now) c.args.net.now c.args.tree.now c.args.name.now).steps in
    on_err_weaker c.put_named_play.result
    (writes_part c.args.net.now c.args.tree.now c.args.device.now
    (map seen_model c.args.models.now.items) steps c.args.commands.now (g.K.Sink.taken c.args.k.now)
    (g.K.Sink.taken c.put_named_play.new.k) c.new-reads.result c.new-reads.ensures)
    c.put_named_play.ensures.part
