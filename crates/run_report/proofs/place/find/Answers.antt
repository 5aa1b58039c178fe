use Rattle.std.proofs.Common.{◌+◌, Bool, false, cond, drop, get_or, Some, sym, ap, ◌∙◌}
use Rattle.run_report.specs.Places.{read_at}
use Rattle.run_report.specs.declared.place.ReadPlace.{ReadPlace}
use Rattle.run_report.proofs.Looking.{at_next}
use Rattle.run_report.proofs.place.find.Goals as goal

abbrev no_place : ReadPlace
no_place = record {
  scan = 0;
  bit = 0;
  read = record { bit = record { reg = 0; pos = 0 }; expect = false; read = 0; line = 0; index = 0 };
}

pub returns-then-is_at : goal.returns-then-is_at
returns-then-is_at c =
    let ps = c.args.places.now in
    let i = c.loop-place.place-index in
    let p = get_or ps i no_place in
    sym (sym c.loop-place.invariant ∙ at_next ps i no_place c.args.scan c.args.bit c.loop-place-test.true
    ∙ ap (λ (t : Bool). cond t (Some p.read) (read_at (drop (i + 1) ps) c.args.scan c.args.bit))
    (sym c.is_at.ensures ∙ c.if-is_at.true))

pub loop-place-preserved : goal.loop-place-preserved
loop-place-preserved c =
    let ps = c.args.places.now in
    let i = c.loop-place.place-index in
    let p = get_or ps i no_place in
    sym (at_next ps i no_place c.args.scan c.args.bit c.loop-place-test.true
    ∙ ap (λ (t : Bool). cond t (Some p.read) (read_at (drop (i + 1) ps) c.args.scan c.args.bit))
    (sym c.is_at.ensures ∙ c.if-is_at.false)) ∙ c.loop-place.invariant
