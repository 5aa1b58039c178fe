-- Access links (IEEE 1687-2014, ICL: AccessLink), as the code looks for them.
use Rattle.std.specs.Prelude.{ℕ, Bool, ◌==◌, ◌&&◌, cond, List, find, Option, Some, None}
use Rattle.std.specs.List.{list_all}
use Rattle.std.specs.Str.{bytes_eq}
use Rattle.icl_references.specs.Roles.{Role, PartOf}
use Rattle.icl_signals.specs.declared.links.Side.{Side}
use Rattle.icl_signals.specs.declared.links.Side.TheVariants.{ScanIn, ScanOut}
use Rattle.icl_signals.specs.declared.links.NetworkEnds.{NetworkEnds}
use Rattle.icl_signals.specs.Connecting.{Ends as EndsOf, is_access_link, is_scan_in, is_scan_out, only}

abbrev pub test_of_side : Side → Role → Bool
test_of_side ScanIn = is_scan_in
test_of_side ScanOut = is_scan_out

-- the link of this name among some parts
abbrev pub named_link : List ℕ → List PartOf → Option PartOf
named_link link parts = find (λ p. is_access_link p.role && bytes_eq link p.name) parts

abbrev pub seen_ends : NetworkEnds → EndsOf
seen_ends e = record { entry = e.entry; exit = e.exit; exit_place = e.exit_place }

-- the one number of a list, where one was found before it
abbrev pub only_with : Option ℕ → List ℕ → Option ℕ
only_with None ports = only ports
only_with (Some port) ports = cond (list_all (λ p. p == port) ports) (Some port) None
