use Rattle.std.proofs.Common.{arith}
use Rattle.svf_audit.proofs.Found.{bits_count, bits_few}
use Rattle.svf_audit.proofs.registers.Registers.len.Goals as goal

pub overflow_cast-result : goal.overflow_cast-result
overflow_cast-result c =
    omega (arith, c.len.ensures, bits_few c.args.self.now c.requires.sound c.requires.found)

pub returns : goal.returns
returns c = omega (arith, c.len.ensures, bits_count c.args.self.now c.requires.found)
