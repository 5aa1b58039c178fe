use Rattle.std.proofs.Common.{◌≡◌, [], ◌∷◌, ◌++◌, ◌<◌, ap, sym, subst, ◌∙◌, length}
use Rattle.pdl_expand.specs.Expansion.{start, expansion}
use Rattle.pdl_expand.specs.SeenMoves.{AreThere, Stack, left}
use Rattle.pdl_expand.specs.SeenSteps.{RefusesLeft}
use Rattle.pdl_expand.specs.SeenWorld.{seen_cells_of, seen_procs_of}
use Rattle.pdl_expand.specs.Working.{left_in}
use Rattle.pdl_expand.proofs.Paths.{top_is_there}
use Rattle.pdl_expand.proofs.starting.first_at_work.Goals as goal

pub returns-in-Err-clause-refused : goal.returns-in-Err-clause-refused
unfolding expansion
returns-in-Err-clause-refused c =
    let procs = seen_procs_of c.args.world.now in
    let cells = seen_cells_of c.args.world.now in
    subst (λ o. RefusesLeft (left_in (start procs cells c.args.name.now o)) c.in-Err.fault)
    c.in_ok-found.ensures (c.in-Err.ensures.begins procs cells)

pub returns-clause-given : goal.returns-clause-given
unfolding expansion
returns-clause-given c =
    let procs = seen_procs_of c.args.world.now in
    let cells = seen_cells_of c.args.world.now in
    let one : c.push.new.self.items ≡ c.in-Ok.frame ∷ [] =
    c.in_ok-push.ensures.items ∙ ap (λ (l : Stack). l ++ c.in-Ok.frame ∷ []) c.new-stack.ensures.items in
    ap (λ l. left_in (left procs cells l 0)) one ∙ ap left_in
    (c.in-Ok.ensures.begins procs cells ∙ ap (start procs cells c.args.name.now) c.in_ok-found.ensures)

pub returns-clause-there : goal.returns-clause-there
returns-clause-there c =
    let world = c.args.world.now in
    let one : c.push.new.self.items ≡ c.in-Ok.frame ∷ [] =
    c.in_ok-push.ensures.items ∙ ap (λ (l : Stack). l ++ c.in-Ok.frame ∷ []) c.new-stack.ensures.items in
    let top = subst (λ node. node < length world.cells) (sym c.in-Ok.ensures.top)
    (top_is_there world.net.now world.cells c.requires.net c.requires.world.cells) in
    subst (AreThere (length world.cells)) (sym one) (top, tt)
