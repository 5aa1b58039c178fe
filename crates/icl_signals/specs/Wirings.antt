-- What following a signal looks at: the hierarchy, which cells are instruments, the numbers of parts, where
-- the network begins, and ends that were found.
use Rattle.std.specs.Prelude.{◌≡◌, ◌+◌, List, map}
use Rattle.icl_elab.specs.WellFormed.{is_instrument}
use Rattle.icl_references.specs.Roles.{CellOf, seen_hier}
use Rattle.icl_signals.specs.declared.parts.Kind.TheVariants.{Register, Mux, Thing, Output}
use Rattle.icl_signals.specs.declared.wiring.Wiring.{Wiring}
use Rattle.icl_signals.specs.Traces.{signal_bits}
use Rattle.icl_signals.specs.Found.{AreFound}
use Rattle.icl_signals.specs.Kinds.{is_of, before, numbers_from}

abbrev pub cells_of : Wiring → List CellOf
cells_of g = seen_hier g.hier.now

-- the tables are those of the hierarchy, a trace that looks at this many bits comes back to one, and the ends
-- are where traces end
pub record IsWiring (g : Wiring) : Type 0 where
  pub instruments : g.instruments.items ≡ map is_instrument (cells_of g)
  pub instrument_numbers : g.instrument_numbers.items ≡ before (λ b. b) 0 (map is_instrument (cells_of g))
  pub registers : map (λ row. row.items) g.registers.items ≡ numbers_from Register 0 (cells_of g)
  pub muxes : map (λ row. row.items) g.muxes.items ≡ numbers_from Mux 0 (cells_of g)
  pub things : map (λ row. row.items) g.things.items ≡ numbers_from Thing 0 (cells_of g)
  pub outputs : map (λ row. row.items) g.outputs.items
      ≡ map (λ c. before (is_of Output) 0 c.parts) (cells_of g)
  pub looks : g.looks ≡ signal_bits (cells_of g) + 1
  pub ends : AreFound (cells_of g) g.entry g.ends.items
