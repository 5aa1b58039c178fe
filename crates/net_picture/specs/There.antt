-- Shapes of registers and multiplexers that a network has.
use Rattle.std.specs.Prelude.{◌<◌, length}
use Rattle.net_graph.specs.declared.net.Net.{Net}
use Rattle.net_picture.specs.declared.shape.Shape.{Shape}
use Rattle.net_picture.specs.declared.shape.Shape.TheVariants.{Register, Mux, Values, Wire}

abbrev pub IsShapeOf : Net → Shape → Type 0
IsShapeOf net (Register r x y width active) = r < length net.regs.items
IsShapeOf net (Mux m x y height active) = m < length net.muxes.items
IsShapeOf net (Values m q x y) = m < length net.muxes.items
IsShapeOf net (Wire x y turn to_x to_y active) = Unit {0}
