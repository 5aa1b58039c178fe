use Rattle.std.proofs.Common.{◌≡◌, ◌≤◌, ℕ, List, map, drop}
use Rattle.ij_text.specs.Options.{or_else}
use Rattle.icl_lexer.specs.Views.{seen_item}
use Rattle.icl_declarations.specs.Parts.{is_signal}
use Rattle.icl_declarations.specs.Scopes.{entry_of, part_from}
use Rattle.icl_declarations.proofs.scope.Scope.of.Given as goal

abbrev pub invariant-loop-item : goal.invariant-loop-item
invariant-loop-item l = record {
  few : l.part ≤ l.item-index;
  goes_on : (name : List ℕ) → or_else (entry_of l.scope name)
      (part_from l.part is_signal (map seen_item (drop l.item-index l.items)) name)
      ≡ part_from 0 is_signal (map seen_item l.items) name;
}
