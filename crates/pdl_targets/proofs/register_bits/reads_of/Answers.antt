use Rattle.std.proofs.Common.{List, ap, ◌∙◌, arith}
use Rattle.ij_bits.specs.Room.{Listed}
use Rattle.ij_text.specs.Numbers.{tern_bits}
use Rattle.net_graph.specs.declared.step.ReadBit.{ReadBit}
use Rattle.pdl_targets.specs.Targets.{reads_of}
use Rattle.pdl_targets.proofs.Valued.{first_spot, not_read, read_refused, read_next}
use Rattle.pdl_targets.proofs.register_bits.reads_of.Goals as goal
use Rattle.pdl_targets.proofs.register_bits.reads_of.Goals.{in-Some+in-Ok+in_ok-push-in-Ok, in-None}
use Rattle.ij_text.proofs.Numbers.{tern_length}

pub returns-in-Err : goal.returns-in-Err
returns-in-Err c =
    let net = c.args.net.now in
    let values = tern_bits c.args.values.now in
    read_refused net c.args.at c.args.read c.args.spots.now values c.loop-i.i
    c.get-spot.result c.in-Some.value c.compared-picked.result
    c.loop-i.reads.items (reads_of net c.args.at c.args.read 0 c.args.spots.now values) c.in-Err.fault
    (record {
      below = omega (arith, c.loop-i-test.true, c.len-i-end.ensures);
      many = tern_length c.args.values.now ∙ c.requires.wide;
      spot_is = c.get-spot.ensures first_spot;
      value_is = c.in-Some.ensures;
    })
    c.compared-picked.ensures c.in-Err.ensures c.loop-i.invariant

pub loop-i-preserved : goal.loop-i-preserved
loop-i-preserved c =
    let net = c.args.net.now in
    let values = tern_bits c.args.values.now in
    let all = reads_of net c.args.at c.args.read 0 c.args.spots.now values in
    let items : Listed ReadBit → List ReadBit = λ l. l.items in
    elim c.match-value_at.branch [
      | in-Some+in-Ok+in_ok-push-in-Ok w ↦
          read_next net c.args.at c.args.read c.args.spots.now values c.loop-i.i
          c.get-spot.result w.in-Some.value w.compared-picked.result
          w.in-Ok.bit c.loop-i.reads.items c.match-value_at.reads.items all
          (record {
            below = omega (arith, c.loop-i-test.true, c.len-i-end.ensures);
            many = tern_length c.args.values.now ∙ c.requires.wide;
            spot_is = c.get-spot.ensures first_spot;
            value_is = w.in-Some.ensures;
          })
          w.compared-picked.ensures w.in-Ok.ensures
          (ap items w.reads-is ∙ w.in_ok-push-in-Ok.ensures.ok) c.loop-i.invariant
      | in-None w ↦
          not_read net c.args.at c.args.read c.args.spots.now values c.loop-i.i c.get-spot.result
          c.loop-i.reads.items c.match-value_at.reads.items all
          (record {
            below = omega (arith, c.loop-i-test.true, c.len-i-end.ensures);
            many = tern_length c.args.values.now ∙ c.requires.wide;
            spot_is = c.get-spot.ensures first_spot;
            value_is = w.in-None.ensures;
          })
          (ap items w.reads-is) c.loop-i.invariant
    ]
