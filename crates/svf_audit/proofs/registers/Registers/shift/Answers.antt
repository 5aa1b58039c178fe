use Rattle.std.proofs.Common.{◌≡◌, ◌++◌, refl, ap, sym, ◌∙◌, subst, arith, length}
use Rattle.net_graph.specs.Chain.{chain, put_chain}
use Rattle.net_graph.proofs.Chains.{put_chain-chain}
use Rattle.svf_audit.specs.Audit.{bits_on}
use Rattle.svf_audit.specs.LastParts.{seen_tdi}
use Rattle.svf_audit.specs.Registers.{differing, path_in, AreListed}
use Rattle.svf_audit.specs.declared.registers.Registers.{Registers}
use Rattle.svf_audit.proofs.Found.{path_few, shifted_all, turned_all}
use Rattle.svf_audit.proofs.registers.Registers.shift.Goals as goal

pub set_tdi_on_path-requires-clause-turned : goal.set_tdi_on_path-requires-clause-turned
set_tdi_on_path-requires-clause-turned c =
    let r = c.args.self.now in
    let k = c.requires.sound in
    record {
      sound = record {
        net = k.net;
        selects = k.selects;
        holds = k.holds;
        path_room = k.path_room;
        next_room = k.next_room;
        bits_room = k.bits_room;
        known = k.known;
        chain_room = k.chain_room;
        moved_room = omega (arith, k.moved_room, c.clear.ensures.spare);
      };
      found = record { path = c.requires.found.path; bits = c.requires.found.bits };
      fits = ap length c.requires.chain;
      long = c.requires.kept.tdi ∙ c.requires.fits ∙ sym (ap length c.requires.chain);
      after = c.requires.still.same ∙ sym (put_chain-chain (path_in r) r.holds)
          ∙ ap (λ bs. put_chain (path_in r) bs r.holds) (sym c.requires.chain);
      done = refl;
      room = omega (arith, ap length c.requires.chain, path_few r k, k.moved_room, c.clear.ensures.spare);
    }

pub returns-clause-sound : goal.returns-clause-sound
returns-clause-sound c = c.set_tdi_on_path.ensures.turned.sound

pub returns-clause-found : goal.returns-clause-found
returns-clause-found c = c.set_tdi_on_path.ensures.turned.found

pub returns-clause-shifted : goal.returns-clause-shifted
returns-clause-shifted c =
    let r = c.args.self.now in
    let new = c.set_tdi_on_path.new.self in
    let tdi = seen_tdi c.args.kept.now in
    let t = c.set_tdi_on_path.ensures.turned in
    let all : length r.chain.items ≡ length new.chain.items =
    ap length c.requires.chain ∙ sym (c.requires.kept.tdi ∙ c.requires.fits) ∙ t.long in
    shifted_all new tdi (length r.chain.items) t all (
    c.set_tdi_on_path.ensures.moves
    ∙ ap (λ xs. xs ++ differing r.bits.items r.chain.items tdi) c.clear.ensures.items
    ∙ ap (λ bs. differing bs r.chain.items tdi) c.requires.found.bits
    ∙ ap (λ xs. differing (bits_on r.holds (path_in r)) xs tdi) c.requires.chain
    ∙ ap (λ (z : Registers). differing (bits_on z.holds (path_in z)) (chain (path_in z) z.holds) tdi)
    (sym c.set_tdi_on_path.ensures.others)
    )

pub returns-clause-listed : goal.returns-clause-listed
returns-clause-listed c = subst AreListed (sym c.set_tdi_on_path.ensures.others) c.requires.still.listed

pub returns-clause-tdi : goal.returns-clause-tdi
returns-clause-tdi c =
    let r = c.args.self.now in
    let t = c.set_tdi_on_path.ensures.turned in
    let all : length r.chain.items ≡ length c.set_tdi_on_path.new.self.chain.items =
    ap length c.requires.chain ∙ sym (c.requires.kept.tdi ∙ c.requires.fits) ∙ t.long in
    turned_all c.set_tdi_on_path.new.self (seen_tdi c.args.kept.now) (length r.chain.items) t all

pub returns-clause-net : goal.returns-clause-net
returns-clause-net c = ap (λ (z : Registers). z.net.now) c.set_tdi_on_path.ensures.others

pub returns-clause-holds : goal.returns-clause-holds
returns-clause-holds c = ap (λ (z : Registers). z.holds) c.set_tdi_on_path.ensures.others
