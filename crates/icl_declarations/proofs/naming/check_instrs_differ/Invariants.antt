use Rattle.std.proofs.Common.{◌≡◌, ℕ, List, [], map, take, drop}
use Rattle.std.specs.List.{list_any}
use Rattle.std.specs.Str.{bytes_eq}
use Rattle.icl_declarations.specs.Faults.{over}
use Rattle.icl_declarations.specs.Naming.{with_name}
use Rattle.icl_declarations.specs.Taken.{has_entry}
use Rattle.icl_declarations.proofs.naming.check_instrs_differ.Given as goal

abbrev pub invariant-loop-instr : goal.invariant-loop-instr
invariant-loop-instr l = record {
  seen : (name : List ℕ) → has_entry l.seen name
      ≡ list_any (bytes_eq name) (map (λ w. w.name.items) (take l.instr-index l.instrs));
  goes_on : over (with_name l.at) (map (λ w. w.name.items) (take l.instr-index l.instrs))
      (map (λ w. w.name.items) (drop l.instr-index l.instrs))
      ≡ over (with_name l.at) [] (map (λ w. w.name.items) l.instrs);
}
