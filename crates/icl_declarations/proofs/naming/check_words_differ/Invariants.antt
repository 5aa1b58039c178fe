use Rattle.std.proofs.Common.{◌≡◌, ℕ, List, [], map, take, drop}
use Rattle.std.specs.List.{list_any}
use Rattle.std.specs.Str.{bytes_eq}
use Rattle.icl_declarations.specs.Faults.{over}
use Rattle.icl_declarations.specs.Naming.{with_name}
use Rattle.icl_declarations.specs.Taken.{has_entry}
use Rattle.icl_declarations.proofs.naming.check_words_differ.Given as goal

abbrev pub invariant-loop-word : goal.invariant-loop-word
invariant-loop-word l = record {
  seen : (name : List ℕ) → has_entry l.seen name
      ≡ list_any (bytes_eq name) (map (λ w. w.name.items) (take l.word-index l.words));
  goes_on : over (with_name l.at) (map (λ w. w.name.items) (take l.word-index l.words))
      (map (λ w. w.name.items) (drop l.word-index l.words))
      ≡ over (with_name l.at) [] (map (λ w. w.name.items) l.words);
}
