use Rattle.std.proofs.Common.{◌+◌, ◌∷◌, List, length, map, refl, sym, ap, subst, ◌∙◌}
use Rattle.pdl_parser.specs.Views.{seen_line}
use Rattle.pdl_expand.specs.declared.frame.Frame.{Frame}
use Rattle.pdl_expand.specs.declared.progress.Act.{Act}
use Rattle.pdl_expand.specs.declared.moves.Move.TheVariants as move
use Rattle.pdl_expand.specs.Seen.{seen_frame}
use Rattle.pdl_expand.specs.SeenActs.{Does}
use Rattle.pdl_expand.specs.SeenMoves.{Moves, IsAt}
use Rattle.pdl_expand.proofs.Moving.{done_call}
use Rattle.pdl_expand.proofs.moves.move_by_act.Goals as goal

pub returns-in-Calls-clause-moves : goal.returns-in-Calls-clause-moves
returns-in-Calls-clause-moves c = λ procs cells line n h e d p.
    let old = c.args.stack.now.items in
    let top = c.args.top in
    let frame = c.in-Calls.frame in
    let caller : Frame = record {
      node = top.node;
      args = top.args;
      prefix = top.prefix;
      merging = top.merging;
      rest = c.args.rest;
      at = top.at;
    } in
    let does : Does procs cells (length old) line.at (seen_frame top).frame line.what _ = subst (λ (a : Act).
    Does procs cells (length old) line.at (seen_frame top).frame line.what a) c.in-Calls.is d in
    let place = subst (λ (a : Act). IsAt line.at a) c.in-Calls.is p in
    subst (λ (new : List Frame). Moves procs cells (top ∷ old) n new (n + 1) move.Went) (sym
    (c.put-in-Calls-2.ensures.items ∙ ap (λ (l : List Frame). frame ∷ l) c.put-in-Calls.ensures.items))
    (done_call procs cells top old line (map seen_line c.args.rest.now) n e h frame caller does place refl)
