use Rattle.std.proofs.Common.{◌≡◌, map, drop}
use Rattle.icl_declarations.specs.Parts.{is_interface}
use Rattle.icl_elab.specs.SeenParts.{first_member}
use Rattle.icl_references.specs.Tables.{seen_member}
use Rattle.icl_elab.proofs.links.interface_named.Given as goal

abbrev pub invariant-loop-m : goal.invariant-loop-m
invariant-loop-m l = first_member is_interface (map seen_member (drop l.m-index l.members)) l.name
    ≡ first_member is_interface (map seen_member l.members) l.name
