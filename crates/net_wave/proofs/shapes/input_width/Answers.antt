use Rattle.std.proofs.Common.{arith, ap}
use Rattle.std.specs.Prelude.{length}
use Rattle.net_wave.proofs.Modelled.{drivers_few}
use Rattle.net_wave.proofs.shapes.input_width.Goals as goal

pub overflow_cast-result : goal.overflow_cast-result
overflow_cast-result c = omega (
  arith,
  drivers_few c.args.net.now c.args.inst c.args.port
      c.requires.well_formed,
  ap length c.input_at.ensures.bits,
  c.len.ensures,
)
