use Rattle.std.proofs.Common.{map}
use Rattle.ij_io.proofs.Adding.{at_refusal}
use Rattle.instruments.specs.Seen.{seen_model}
use Rattle.direct_report.proofs.Wholes.{report_part, report_whole, report_end_part}
use Rattle.direct_report.proofs.whole.put_direct.Goals as goal

pub returns-in_err-put_steps-clause-part : goal.returns-in_err-put_steps-clause-part
returns-in_err-put_steps-clause-part g c =
    at_refusal _ (report_part c.args.net.now
    (map seen_model c.args.models.now.items) c.in_ok-play.play c.args.steps.now.steps
    (g.K.Sink.taken c.args.k.now) (g.K.Sink.taken c.put_steps.new.k) c.in_ok-play.ensures.net
    c.in_ok-play.ensures.models c.in_ok-play.ensures.state c.in_err-put_steps.ensures.part)

pub returns-in_err-differs-clause-part : goal.returns-in_err-differs-clause-part
returns-in_err-differs-clause-part g c =
    at_refusal _ (report_end_part c.args.net.now
    (map seen_model c.args.models.now.items) c.in_ok-play.play c.args.steps.now.steps
    (g.K.Sink.taken c.args.k.now) (g.K.Sink.taken c.put_steps.new.k) c.in_ok-play.ensures.net
    c.in_ok-play.ensures.models c.put_steps.new.play (g.K.Sink.taken c.finish.new.k)
    c.in_ok-put_steps.ensures.net c.in_ok-put_steps.ensures.models c.in_ok-play.ensures.state
    c.in_ok-put_steps.ensures.whole c.in_ok-put_steps.ensures.state c.in_err-differs.ensures.part)

pub returns-clause-whole : goal.returns-clause-whole
returns-clause-whole g c =
    report_whole c.args.net.now
    (map seen_model c.args.models.now.items) c.in_ok-play.play c.args.steps.now.steps
    (g.K.Sink.taken c.args.k.now) (g.K.Sink.taken c.put_steps.new.k) c.in_ok-play.ensures.net
    c.in_ok-play.ensures.models c.put_steps.new.play (g.K.Sink.taken c.finish.new.k)
    c.in_ok-put_steps.ensures.net c.in_ok-put_steps.ensures.models c.in_ok-play.ensures.state
    c.in_ok-put_steps.ensures.whole c.in_ok-put_steps.ensures.state c.in_ok-differs.ensures.whole
