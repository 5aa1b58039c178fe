use Rattle.std.proofs.Common.{◌+◌, ◌≤◌, ap, sym, ◌∙◌, subst, arith, length, List, ℕ}
use Rattle.ij_bits.specs.Room.{Roomy}
use Rattle.net_graph.specs.declared.net.Net.{Net}
use Rattle.net_graph.specs.Chain.{IsRoute, chain}
use Rattle.net_graph.specs.Resets.{start_holds}
use Rattle.svf_audit.specs.Audit.{bits_on}
use Rattle.svf_audit.proofs.Found.{path_few}
use Rattle.svf_audit.proofs.Paths.{bits_at_start, bits_fit}
use Rattle.net_graph.proofs.Routes.{route_in}
use Rattle.svf_audit.proofs.registers.Registers.find.Goals as goal

pub returns-then-self-clause-found : goal.returns-then-self-clause-found
returns-then-self-clause-found c = (c.requires.still.ready c.if-self.true).found

pub returns-then-self-clause-chain : goal.returns-then-self-clause-chain
returns-then-self-clause-chain c = (c.requires.still.ready c.if-self.true).chain

pub find_bits-requires-clause-route : goal.find_bits-requires-clause-route
find_bits-requires-clause-route c =
    let r = c.args.self.now in
    subst (IsRoute (length r.holds)) (sym (c.as_slice-path.ensures ∙ c.find_path.ensures.path))
    (route_in r.net.now r.holds r.holds c.requires.sound.net c.requires.sound.holds)

pub find_bits-requires-clause-known : goal.find_bits-requires-clause-known
find_bits-requires-clause-known c =
    let r = c.args.self.now in
    c.requires.sound.known
    ∙ bits_at_start r.net.now r.holds r.path.items c.requires.sound.holds
    ∙ ap (bits_on r.holds) (sym c.as_slice.ensures)

pub find_bits-requires-clause-room : goal.find_bits-requires-clause-room
find_bits-requires-clause-room c =
    let r = c.args.self.now in
    omega (
      arith,
      bits_fit r.net.now r.holds c.as_slice-path.result.now c.requires.sound.net
          c.requires.sound.holds (c.as_slice-path.ensures ∙ c.find_path.ensures.path),
      c.requires.sound.bits_room,
    )

pub find_chain-requires-clause-route : goal.find_chain-requires-clause-route
find_chain-requires-clause-route c =
    let r = c.args.self.now in
    subst (IsRoute (length r.holds)) (sym (c.as_slice-path.ensures ∙ c.find_path.ensures.path))
    (route_in r.net.now r.holds r.holds c.requires.sound.net c.requires.sound.holds)

pub find_chain-requires-clause-few : goal.find_chain-requires-clause-few
find_chain-requires-clause-few c =
    let r = c.args.self.now in
    omega (
      arith,
      path_few r c.requires.sound,
      ap (λ (p : List ℕ). length (chain p r.holds)) (c.as_slice-path.ensures ∙ c.find_path.ensures.path),
    )

pub find_chain-requires-clause-room : goal.find_chain-requires-clause-room
find_chain-requires-clause-room c =
    let r = c.args.self.now in
    omega (
      arith,
      path_few r c.requires.sound,
      ap (λ (p : List ℕ). length (chain p r.holds))
          (c.as_slice-path.ensures ∙ c.find_path.ensures.path),
      c.requires.sound.chain_room,
    )

abbrev HasRoom : Net → Roomy ℕ → Type 0
HasRoom net path = length net.regs.items ≤ length path.items + path.spare

pub returns-clause-sound : goal.returns-clause-sound
returns-clause-sound c =
    let r = c.args.self.now in
    let k = c.requires.sound in
    record {
      net = k.net;
      selects = k.selects;
      holds = k.holds;
      path_room = subst (HasRoom r.net.now) (sym c.swap.ensures.x_after)
          (omega (arith, k.next_room, c.find_path.ensures.room));
      next_room = subst (HasRoom r.net.now) (sym c.swap.ensures.y_after) k.path_room;
      bits_room = omega (arith, k.bits_room, c.find_bits.ensures.room);
      known = c.find_bits.ensures.items
          ∙ sym (bits_at_start r.net.now r.holds c.as_slice-path.result.now k.holds)
          ∙ ap (bits_on (start_holds r.net.now))
          (c.as_slice-path.ensures ∙ sym (ap (λ (l : Roomy ℕ). l.items) c.swap.ensures.x_after));
      chain_room = omega (arith, k.chain_room, c.find_chain.ensures.room);
      moved_room = k.moved_room;
    }

pub returns-clause-found : goal.returns-clause-found
returns-clause-found c =
    record {
      path = ap (λ (l : Roomy ℕ). l.items) c.swap.ensures.x_after ∙ c.find_path.ensures.path;
      bits = c.find_bits.ensures.items
          ∙ ap (bits_on c.args.self.now.holds) (c.as_slice-path.ensures ∙ c.find_path.ensures.path);
    }

pub returns-clause-chain : goal.returns-clause-chain
returns-clause-chain c =
    c.find_chain.ensures.items ∙ ap (λ (p : List ℕ). chain p c.args.self.now.holds)
    (c.as_slice-path.ensures ∙ c.find_path.ensures.path)

pub returns-clause-still : goal.returns-clause-still
returns-clause-still c =
    record {
      same = c.requires.still.same;
      ready = λ t. record { found = returns-clause-found c; chain = returns-clause-chain c };
      listed = c.requires.still.listed;
    }
