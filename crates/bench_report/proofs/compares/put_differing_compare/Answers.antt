use Rattle.std.proofs.Common.{ℕ, List, subst}
use Rattle.ij_io.specs.Bytes.{Adds, AddsPart}
use Rattle.bench_report.proofs.Counting.{line_is}
use Rattle.std.proofs.lemmas.Result.{on_ok_weaker, on_err_weaker}
use Rattle.bench_report.proofs.compares.put_differing_compare.Goals as goal

pub returns-clause-whole : goal.returns-clause-whole
returns-clause-whole g c =
    on_ok_weaker c.put_differ.result (λ added ns are. subst
    (λ (text : List ℕ). Adds (g.K.Sink.taken c.args.k.now) (g.K.Sink.taken c.put_differ.new.k) text)
    (line_is ns c.args.pins.now c.args.expect c.args.found c.in_ok-read_at.field-0
    (c.in_ok-read_at.ensures.found ns are)) added) c.put_differ.ensures.whole

pub returns-clause-part : goal.returns-clause-part
returns-clause-part g c =
    on_err_weaker c.put_differ.result (λ added ns are. subst
    (λ (text : List ℕ). AddsPart (g.K.Sink.taken c.args.k.now) (g.K.Sink.taken c.put_differ.new.k) text)
    (line_is ns c.args.pins.now c.args.expect c.args.found c.in_ok-read_at.field-0
    (c.in_ok-read_at.ensures.found ns are)) added) c.put_differ.ensures.part
