-- Where registers are in a nested form.
use Rattle.net_graph.specs.declared.net.Point.TheVariants.{Reg}
use Rattle.net_tree.specs.Form.{Items}
use Rattle.net_tree.specs.Places.{place_of}
use Rattle.pdl_targets.specs.Rounds.{Places}

-- where a form's registers stand
abbrev pub places_in : Items → Places
places_in form r = place_of form (Reg r)
