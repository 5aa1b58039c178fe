use Rattle.std.proofs.Common.{◌≡◌, ◌-◌, ◌+◌, suc, arith}
use Rattle.std.specs.Prelude.{Some}
use Rattle.net_picture.specs.Met.{met_from}
use Rattle.net_picture.proofs.Rooms.{met_turn}
use Rattle.net_picture.proofs.met.trace_back.Goals as goal

pub loop-turn-preserved : goal.loop-turn-preserved
loop-turn-preserved c =
    let net = c.args.net.now in
    let n = c.most_moves-most.result - c.loop-turn._turn in
    let m = c.most_moves-most.result - (c.loop-turn._turn + 1) in
    let more : n ≡ suc m = omega (arith, c.loop-turn-test.true) in
    record {
      there = c.in_ok-next.ensures.there;
      so_far = met_turn net c.args.holds.now n m c.loop-turn.next c.in_ok-next.next c.loop-turn.points.items
          c.add_path_point.new.points.items (met_from net c.args.holds.now c.most_moves-most.result (Some
          net.out)) more
          c.in_ok-next.ensures.left c.loop-turn.invariant.so_far;
    }
