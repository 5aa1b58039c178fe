use Rattle.std.proofs.Common.{refl}
use Rattle.bench_report.specs.Report.{no_names}
use Rattle.std.proofs.lemmas.Result.{on_ok_weaker, on_err_weaker}
use Rattle.bench_report.proofs.play.put_play.Goals as goal

pub returns-clause-whole : goal.returns-clause-whole
returns-clause-whole g c = on_ok_weaker c.put_named_play.result
    (λ printed. printed no_names (λ scan bit. refl)) c.put_named_play.ensures.whole

pub returns-clause-part : goal.returns-clause-part
returns-clause-part g c = on_err_weaker c.put_named_play.result
    (λ printed. printed no_names (λ scan bit. refl)) c.put_named_play.ensures.part
