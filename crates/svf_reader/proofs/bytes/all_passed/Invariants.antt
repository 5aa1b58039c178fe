use Rattle.std.proofs.Common.{◌≡◌, drop}
use Rattle.std.specs.Prelude.{◌&&◌}
use Rattle.std.specs.List.{list_all}
use Rattle.svf_reader.specs.Passed.{is_passed}
use Rattle.svf_reader.proofs.bytes.all_passed.Given as goal

abbrev pub invariant-loop-b : goal.invariant-loop-b
invariant-loop-b l = (l.all && list_all (is_passed l.class) (drop l.b-index l.block))
    ≡ list_all (is_passed l.class) l.block
