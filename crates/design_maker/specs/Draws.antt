-- What is drawn from a generator.
use Rattle.std.specs.Prelude.{ℕ, ◌%◌}
use Rattle.rand_core.specs.Pcg32Seed.{pcg32_seed}
use Rattle.rand_pcg.specs.Lcg.{Lcg}
use Rattle.rand_pcg.specs.Pcg.{pcg32, pcg32_of_seed}

-- the generator of a seed
unfoldable pub generator_of : ℕ → Lcg
generator_of seed = pcg32_of_seed (pcg32_seed 16 seed)

-- its next word modulo m, and the generator after it
unfoldable pub draw : ℕ → Lcg → ℕ × Lcg
draw m g = ((pcg32 g).0 % m, (pcg32 g).1)
