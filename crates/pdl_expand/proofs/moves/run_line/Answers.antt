use Rattle.std.proofs.Common.{ℕ, length, map, ap, subst, ◌∙◌, arith}
use Rattle.pdl_parser.specs.Views.{seen_line}
use Rattle.pdl_expand.specs.Seen.{seen_frame}
use Rattle.pdl_expand.specs.SeenActs.{Does}
use Rattle.pdl_expand.specs.SeenWorld.{seen_procs_of, seen_cells_of}
use Rattle.pdl_expand.proofs.Moving.{is_at}
use Rattle.pdl_expand.proofs.moves.run_line.Goals as goal

pub returns-in-Ok-clause-there : goal.returns-in-Ok-clause-there
returns-in-Ok-clause-there c = c.move_by_act.ensures.there c.args.line.now.at
    (length c.args.world.now.cells) c.requires.there c.requires.others c.in-Ok.ensures.there

pub returns-in-Ok-clause-moves : goal.returns-in-Ok-clause-moves
returns-in-Ok-clause-moves c =
    let procs = seen_procs_of c.args.world.now in
    let cells = seen_cells_of c.args.world.now in
    let line = seen_line c.args.line.now in
    let does = subst (λ (n : ℕ). Does procs cells n line.at (seen_frame c.args.top).frame line.what
    c.in-Ok.act) (c.len.ensures ∙ c.args.stack.now.ok.0) c.in-Ok.ensures.done in
    c.move_by_act.ensures.moves procs cells line c.args.count.now (omega (arith, c.if-count-ge100000.false))
    (ap (map seen_line) c.requires.lines) does
    (is_at line.at (length c.args.world.now.cells) c.in-Ok.act c.in-Ok.ensures.there)
