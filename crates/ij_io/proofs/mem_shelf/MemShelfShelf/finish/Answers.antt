use Rattle.std.proofs.Common.{◌∙◌, ap, List, ℕ, ◌++◌, ◌∷◌, []}
use Rattle.ij_io.proofs.NameCounts.{noted, noted_once}
use Rattle.ij_io.proofs.mem_shelf.MemShelfShelf.finish.Goals as goal

pub returns-then-fails_now-clause-cause : goal.returns-then-fails_now-clause-cause
returns-then-fails_now-clause-cause c =
    noted c.args.name.now c.args.self.now.failed_stores c.note.new.self _ (c.in_ok-note.ensures.ok
    ∙ ap (λ (names : List (List ℕ)). names ++ c.args.name.now ∷ []) c.fails_now.ensures.stores)

pub returns-then-fails_now-clause-counted : goal.returns-then-fails_now-clause-counted
returns-then-fails_now-clause-counted c =
    noted_once c.args.name.now c.args.self.now.failed_stores c.note.new.self _ (c.in_ok-note.ensures.ok
    ∙ ap (λ (names : List (List ℕ)). names ++ c.args.name.now ∷ []) c.fails_now.ensures.stores)
