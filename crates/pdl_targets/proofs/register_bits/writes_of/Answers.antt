use Rattle.std.proofs.Common.{List, ap, ◌∙◌, arith}
use Rattle.ij_bits.specs.Room.{Listed}
use Rattle.ij_text.specs.Numbers.{tern_bits}
use Rattle.net_graph.specs.declared.step.WriteBit.{WriteBit}
use Rattle.pdl_targets.specs.Targets.{writes_of}
use Rattle.pdl_targets.proofs.Valued.{first_spot, skipped, write_refused, written_next}
use Rattle.pdl_targets.proofs.register_bits.writes_of.Goals as goal
use Rattle.pdl_targets.proofs.register_bits.writes_of.Goals.{in-Some+in-Ok+in_ok-push-in-Ok, in-None}
use Rattle.ij_text.proofs.Numbers.{tern_length}

pub returns-in-Err : goal.returns-in-Err
returns-in-Err c =
    let net = c.args.net.now in
    let values = tern_bits c.args.values.now in
    write_refused net c.args.at c.args.spots.now values c.loop-i.i
    c.get-spot.result c.in-Some.value c.written.result c.loop-i.writes.items
    (writes_of net c.args.at c.args.spots.now values) c.in-Err.fault
    (record {
      below = omega (arith, c.loop-i-test.true, c.len-i-end.ensures);
      many = tern_length c.args.values.now ∙ c.requires.wide;
      spot_is = c.get-spot.ensures first_spot;
      value_is = c.in-Some.ensures;
    })
    c.written.ensures c.in-Err.ensures c.loop-i.invariant

pub loop-i-preserved : goal.loop-i-preserved
loop-i-preserved c =
    let net = c.args.net.now in
    let values = tern_bits c.args.values.now in
    let all = writes_of net c.args.at c.args.spots.now values in
    let items : Listed WriteBit → List WriteBit = λ l. l.items in
    elim c.match-value_at.branch [
      | in-Some+in-Ok+in_ok-push-in-Ok w ↦
          written_next net c.args.at c.args.spots.now values c.loop-i.i
          c.get-spot.result w.in-Some.value w.written.result w.in-Ok.write
          c.loop-i.writes.items c.match-value_at.writes.items all
          (record {
            below = omega (arith, c.loop-i-test.true, c.len-i-end.ensures);
            many = tern_length c.args.values.now ∙ c.requires.wide;
            spot_is = c.get-spot.ensures first_spot;
            value_is = w.in-Some.ensures;
          })
          w.written.ensures w.in-Ok.ensures
          (ap items w.writes-is ∙ w.in_ok-push-in-Ok.ensures.ok) c.loop-i.invariant
      | in-None w ↦
          skipped net c.args.at c.args.spots.now values c.loop-i.i c.get-spot.result
          c.loop-i.writes.items c.match-value_at.writes.items all
          (record {
            below = omega (arith, c.loop-i-test.true, c.len-i-end.ensures);
            many = tern_length c.args.values.now ∙ c.requires.wide;
            spot_is = c.get-spot.ensures first_spot;
            value_is = w.in-None.ensures;
          })
          (ap items w.writes-is) c.loop-i.invariant
    ]
