use Rattle.std.proofs.Common.{◌≡◌, ℕ, List, Some, None, sym, ap, ◌∙◌, cond}
use Rattle.std.specs.Str.{bytes_eq}
use Rattle.ij_text.specs.Options.{or_else}
use Rattle.icl_declarations.specs.Scopes.{entry_of}
use Rattle.icl_declarations.proofs.ScopeTables.{at, added}
use Rattle.icl_declarations.proofs.scope.Scope.add.Goals as goal

pub returns-in_ok-insert-in-None-clause-ok : goal.returns-in_ok-insert-in-None-clause-ok
returns-in_ok-insert-in-None-clause-ok c n =
    let none : entry_of c.args.self.now c.args.name.now ≡ None = sym c.find.ensures ∙ c.in-None.is in
    let key = c.in_ok-key-in-None.ensures.items in
    ap (λ es. at (λ k. k.items) es n) c.in_ok-insert-in-None.ensures.entries
    ∙ added (λ k. k.items) c.args.self.now.parts.entries c.in_ok-key-in-None.key c.args.part
    (ap (entry_of c.args.self.now) key ∙ none) n
    ∙ ap (λ (m : List ℕ). or_else (entry_of c.args.self.now n)
    (cond (bytes_eq n m) (Some c.args.part) None)) key
