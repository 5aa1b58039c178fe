-- The bits of a target and those of its value, as contracts see them.
use Rattle.ij_text.specs.Numbers.{tern_bits}
use Rattle.pdl_targets.specs.declared.naming.Named.{Named as NamedBits}
use Rattle.pdl_targets.specs.Targets.{Named}

abbrev pub seen_named : NamedBits → Named
seen_named n = record { spots = n.spots; values = tern_bits n.values }
