use Rattle.std.proofs.Common.{ap, sym, ◌∙◌, subst}
use Rattle.std.proofs.lemmas.Bool.{false≢true}
use Rattle.net_graph.specs.Held.{AreHolds}
use Rattle.net_graph.specs.Resets.{reset_holds}
use Rattle.net_graph.proofs.Widths.{reset_held}
use Rattle.svf_audit.proofs.registers.Registers.reset.Goals as goal

pub reset-requires-2 : goal.reset-requires-2
reset-requires-2 c =
    let r = c.args.self.now in
    subst (AreHolds r.net.now) (sym c.requires.still.same) c.requires.sound.holds

pub returns-clause-sound : goal.returns-clause-sound
returns-clause-sound c =
    let k = c.requires.sound in
    record {
      net = k.net;
      selects = k.selects;
      holds = reset_held c.args.self.now.net.now c.args.self.now.holds
          c.reset.new.self k.holds c.reset.ensures;
      path_room = k.path_room;
      next_room = k.next_room;
      bits_room = k.bits_room;
      known = k.known;
      chain_room = k.chain_room;
      moved_room = k.moved_room;
    }

pub returns-clause-still : goal.returns-clause-still
returns-clause-still c =
    record {
      same = c.reset-2.ensures
          ∙ ap (reset_holds c.args.self.now.net.now) c.requires.still.same ∙ sym c.reset.ensures;
      ready = λ t. absurd (false≢true t);
      listed = λ t. absurd (false≢true t);
    }
