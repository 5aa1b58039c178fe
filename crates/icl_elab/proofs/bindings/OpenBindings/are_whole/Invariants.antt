use Rattle.std.proofs.Common.{◌≡◌, map, drop}
use Rattle.std.specs.List.{list_all}
use Rattle.icl_elab.specs.Marks.{is_whole_part}
use Rattle.icl_references.specs.Tables.{seen_member}
use Rattle.icl_elab.proofs.bindings.OpenBindings.are_whole.Given as goal

abbrev pub invariant-loop-m : goal.invariant-loop-m
invariant-loop-m l = list_all (is_whole_part l.self) (map seen_member (drop l.m-index l.members))
    ≡ list_all (is_whole_part l.self) (map seen_member l.members)
