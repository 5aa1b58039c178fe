use Rattle.std.proofs.Common.{◌≡◌, [], take}
use Rattle.pdl_targets.specs.Insertion.{AreExcluded, put_all}
use Rattle.pdl_targets.specs.SeenPlaces.{places_in}
use Rattle.pdl_targets.specs.SeenRounds.{seen_rounds}
use Rattle.pdl_targets.specs.Rows.{excluded_at}
use Rattle.pdl_targets.proofs.rounds.rounds.Given as goal

abbrev pub invariant-loop-register : goal.invariant-loop-register
invariant-loop-register l = record {
  put : seen_rounds l.list.items ≡ put_all (places_in l.tree) [] (take l.register-index l.registers);
  rows : AreExcluded (places_in l.tree) (seen_rounds l.list.items) (excluded_at l.rows);
}
