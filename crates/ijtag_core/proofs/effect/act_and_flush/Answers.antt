use Rattle.std.proofs.Common.{sym, subst, ℕ, List, Option}
use Rattle.ijtag_work.specs.Late.{IsPartOf}
use Rattle.ijtag_work.specs.Runs.{seen}
use Rattle.ijtag_work.specs.Seen.{differing}
use Rattle.ijtag_work.specs.Using.{seen_accepted}
use Rattle.ijtag_work.proofs.Whole.{done_is_part}
use Rattle.ijtag_core.proofs.effect.act_and_flush.Goals as goal

pub returns-in-Err-clause-part : goal.returns-in-Err-clause-part
returns-in-Err-clause-part g c =
    let work = (g.E.Effect.table_row c.args.effect.now).leaves (seen_accepted c.args.it.now) in
    let old = seen g.S.Shelf.files g.O.Sink.taken c.args.shelf.now c.args.out.now in
    subst (λ (printed : Option (List ℕ)). IsPartOf work old
    (record { files = g.S.Shelf.files c.act.new.shelf; printed = printed })) (sym c.flush.ensures.kept)
    (done_is_part work old (seen g.S.Shelf.files g.O.Sink.taken c.act.new.shelf c.act.new.out)
    (differing c.in_ok-verdict.verdict) c.in_ok-verdict.ensures.done)
