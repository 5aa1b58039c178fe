use Rattle.std.proofs.Common.{◌≡◌, ◌≤◌, length}
use Rattle.ij_bits.specs.Room.{seen_list}
use Rattle.icl_expressions.specs.Reading.{more}
use Rattle.icl_parser.proofs.entries.read_more_entries.Given as goal

abbrev pub invariant-loop-alloc : goal.invariant-loop-alloc
invariant-loop-alloc g l = record {
  shorter : length l.entries.rest ≤ length l.fn.first.rest;
  goes_on : more g.T.Entry.reader (seen_list g.T.Entry.view l.entries.value) l.entries.rest
      ≡ more g.T.Entry.reader (seen_list g.T.Entry.view l.fn.first.value) l.fn.first.rest;
}

abbrev pub decreases-loop-alloc : goal.decreases-loop-alloc
decreases-loop-alloc g l = length l.entries.rest
