use Rattle.std.proofs.Common.{◌≡◌, map, drop}
use Rattle.icl_references.specs.Roles.{seen_part}
use Rattle.icl_signals.specs.Links.{named_link}
use Rattle.icl_signals.proofs.links.link_in.Given as goal

abbrev pub invariant-loop-part : goal.invariant-loop-part
invariant-loop-part l = named_link l.link.items (map seen_part (drop l.part-index l.parts))
    ≡ named_link l.link.items (map seen_part l.parts)
