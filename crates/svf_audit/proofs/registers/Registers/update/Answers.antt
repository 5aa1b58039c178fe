use Rattle.std.proofs.Common.{ap, sym, ◌∙◌, subst}
use Rattle.std.specs.Prelude.{All, map, length}
use Rattle.std.specs.List.{list_all}
use Rattle.std.proofs.lemmas.Bool.{not-true}
use Rattle.net_graph.specs.Held.{IsHeld}
use Rattle.svf_audit.specs.Audit.{has_row}
use Rattle.svf_audit.specs.Registers.{path_in}
use Rattle.svf_audit.proofs.Found.{moved_others, moved_there, ready_then, shifted_shape}
use Rattle.svf_audit.proofs.Moving.{shape_kept, OthersSame}
use Rattle.svf_audit.proofs.registers.Registers.update.Goals as goal

pub put_bits-requires-clause-shape : goal.put_bits-requires-clause-shape
put_bits-requires-clause-shape c =
    let r = c.args.self.now in
    sym (shape_kept r.holds r.after
    (path_in r) r.chain.items c.requires.shifted.after c.requires.shifted.fits)

pub put_bits-requires-clause-there : goal.put_bits-requires-clause-there
put_bits-requires-clause-there c =
    let r = c.args.self.now in
    subst (All (IsHeld r.after)) (sym c.as_slice.ensures) (moved_there r c.requires.sound c.requires.shifted)

pub put_bits-requires-clause-others : goal.put_bits-requires-clause-others
put_bits-requires-clause-others c =
    let r = c.args.self.now in
    subst (OthersSame r.holds r.after) (sym c.as_slice.ensures) (moved_others r c.requires.shifted)

pub returns-clause-sound : goal.returns-clause-sound
returns-clause-sound c =
    let k = c.requires.sound in
    record {
      net = k.net;
      selects = k.selects;
      holds = ap (map length) c.put_bits.ensures ∙ shifted_shape c.args.self.now k c.requires.shifted;
      path_room = k.path_room;
      next_room = k.next_room;
      bits_room = k.bits_room;
      known = k.known;
      chain_room = k.chain_room;
      moved_room = k.moved_room;
    }

pub returns-clause-still : goal.returns-clause-still
returns-clause-still c =
    let r = c.args.self.now in
    record {
      same = sym c.put_bits.ensures;
      ready = λ t.
          let g = ready_then r c.put_bits.new.into c.requires.sound c.requires.found c.requires.shifted
          (sym c.changes_select.ensures ∙ not-true c.changes_select.result t) c.put_bits.ensures in
          record { found = record { path = g.0; bits = g.1 }; chain = g.2 };
      listed = λ t. ap (λ h. list_all (has_row h) r.net.now.muxes.items) c.put_bits.ensures ∙ c.requires.rows;
    }
