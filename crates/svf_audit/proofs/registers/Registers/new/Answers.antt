use Rattle.std.proofs.Common.{arith, ap, sym, ◌∙◌}
use Rattle.std.proofs.lemmas.Bool.{false≢true}
use Rattle.net_graph.specs.Resets.{start_holds}
use Rattle.net_graph.proofs.Widths.{started_held}
use Rattle.svf_audit.specs.Audit.{bits_on}
use Rattle.svf_audit.proofs.registers.Registers.new.Goals as goal

pub returns-clause-sound : goal.returns-clause-sound
returns-clause-sound c =
    record {
      net = c.requires;
      selects = c.in_ok-selects.ensures;
      holds = started_held c.args.net.now _ c.in_ok-holds.ensures.first;
      path_room = omega (arith, c.in_ok-rooms.ensures.path);
      next_room = omega (arith, c.in_ok-rooms.ensures.next);
      bits_room = c.in_ok-rooms.ensures.bits;
      known = c.in_ok-rooms.ensures.no_bits
          ∙ sym (ap (bits_on (start_holds c.args.net.now)) c.in_ok-rooms.ensures.no_path);
      chain_room = c.in_ok-rooms.ensures.chain;
      moved_room = c.in_ok-rooms.ensures.moved;
    }

pub returns-clause-still : goal.returns-clause-still
returns-clause-still c =
    record {
      same = c.in_ok-holds.ensures.second ∙ sym c.in_ok-holds.ensures.first;
      ready = λ t. absurd (false≢true t);
      listed = λ t. absurd (false≢true t);
    }
