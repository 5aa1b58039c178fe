use Rattle.std.proofs.Common.{◌∙◌}
use Rattle.std.proofs.lemmas.Result.{err_from_is_err_and}
use Rattle.icl_lexer.specs.Views.{seen_instr}
use Rattle.icl_references.specs.Roles.{seen_selection}
use Rattle.icl_elab.specs.FoundParts.{selection}
use Rattle.icl_references.specs.Tables.{frames_of, here_in}
use Rattle.icl_declarations.specs.Faults.{seen_fault}
use Rattle.icl_declarations.proofs.Each.{round_goes, round_fails}
use Rattle.icl_elab.proofs.links.selections.Goals as goal

pub returns-in_err-selected : goal.returns-in_err-selected
returns-in_err-selected c =
    let p = err_from_is_err_and c.from_residual.result c.from_residual.ensures.1 in
    let f = selection (frames_of c.args.tables.now) (here_in c.args.tables.now c.args.here) c.args.at in
    rw (p.1, p.2)
    (round_fails seen_instr seen_selection f c.args.instrs.now c.loop-instr.instr-index c.instr-item.result
    c.loop-instr.all.items (seen_fault c.in_err-selected.field-0.0) _ c.loop-instr-test.true
    c.instr-item.is c.in_err-selected.ensures c.loop-instr.invariant)

pub loop-instr-preserved : goal.loop-instr-preserved
loop-instr-preserved c =
    let f = selection (frames_of c.args.tables.now) (here_in c.args.tables.now c.args.here) c.args.at in
    round_goes seen_instr seen_selection f c.args.instrs.now c.loop-instr.instr-index c.instr-item.result
    c.loop-instr.all.items c.push.new.self.items c.in_ok-selected.selected c.loop-instr-test.true
    c.instr-item.is c.in_ok-selected.ensures c.in_ok-push.ensures.ok
    ∙ c.loop-instr.invariant
