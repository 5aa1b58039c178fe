use Rattle.net_graph.specs.Path.{route_of}
use Rattle.net_bench.specs.Playing.{resting}
use Rattle.tap_machine.specs.Play.{pins}
use Rattle.net_bench.proofs.Forgetting.{start_tallied, tdo_tallied, clock_tallied, pins_tallied}
use Rattle.net_bench.proofs.Forgetting.{compares_tallied}
use Rattle.net_bench.proofs.laws.events_are_counted.Goals as goal

pub returns : goal.returns
returns c =
    record {
      power_up = λ net device machines. start_tallied net device machines (route_of net);
      tdo = λ net device machines s. tdo_tallied net device machines (route_of net) s;
      clock = λ net device machines tms tdi s. clock_tallied net device machines (route_of net) tms tdi s;
      play = λ net device machines scans commands s. pins_tallied net device machines
          (route_of net) (pins (resting s) scans commands) s;
      compares = λ net device machines scans commands s. compares_tallied net device machines
          (route_of net) (pins (resting s) scans commands) s;
    }
