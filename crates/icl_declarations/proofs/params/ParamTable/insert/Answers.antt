use Rattle.std.proofs.Common.{ℕ, List, ap, ◌∙◌}
use Rattle.icl_declarations.specs.Values.{seen_value, with_param}
use Rattle.icl_declarations.proofs.ParamLists.{given, put}
use Rattle.icl_declarations.proofs.params.ParamTable.insert.Goals as goal

pub returns-clause-ok : goal.returns-clause-ok
returns-clause-ok c =
    ap (given (λ k. k.items) seen_value) c.in_ok-insert.ensures.entries
    ∙ put (λ k. k.items) seen_value c.args.self.now.table.entries c.in_ok-key.key c.args.value
    ∙ ap (λ (n : List ℕ). with_param (given (λ k. k.items) seen_value c.args.self.now.table.entries) n
    (seen_value c.args.value)) c.in_ok-key.ensures.items
