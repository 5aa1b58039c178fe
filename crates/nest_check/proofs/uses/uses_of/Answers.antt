use Rattle.std.proofs.Common.{ap}
use Rattle.nest_check.proofs.BitUses.{shared_flags, twice_fits, driver_flags, drivers_fit}
use Rattle.nest_check.proofs.uses.uses_of.Goals as goal

pub returns : goal.returns
returns c =
    let net = c.args.net.now in
    let twice = ap (λ s. s.twice) c.in_ok-selecting.ensures in
    record {
      shared_flags = twice_fits net c.in_ok-selecting.selecting.twice twice;
      driver_flags = drivers_fit net c.in_ok-drivers.drivers c.in_ok-drivers.ensures;
      shared = (λ b. shared_flags net c.in_ok-selecting.selecting.twice b c.requires twice);
      drivers = (λ b. driver_flags net c.in_ok-drivers.drivers b c.requires c.in_ok-drivers.ensures);
    }
