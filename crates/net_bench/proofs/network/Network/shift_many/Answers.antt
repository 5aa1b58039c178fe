use Rattle.std.proofs.Common.{◌≡◌, length, take, drop, ap, sym, ◌∙◌, arith, List, Bool}
use Rattle.std.proofs.lemmas.List.{length-append, length-drop, length-take}
use Rattle.ij_bits.specs.BitLists.{bits_of}
use Rattle.ij_bits.proofs.WordBits.{length-bits_of}
use Rattle.tap_machine.proofs.Pieces.{bits_of_part}
use Rattle.net_graph.specs.Chain.{put_chain, shifted, shifted_out}
use Rattle.net_graph.specs.Path.{route_of}
use Rattle.net_bench.specs.Packed.{stages_of}
use Rattle.net_bench.proofs.Packing.{packed_chain, put_packed}
use Rattle.net_bench.proofs.Pieces.{shifted_few, shifted_out_few}
use Rattle.net_bench.proofs.network.Network.shift_many.Goals as goal

pub returns-clause-out : goal.returns-clause-out
returns-clause-out c =
    let chain = c.args.self.now.chain.items in
    let n = c.args.n in
    let bits : List Bool = bits_of n c.args.tdi in
    bits_of_part n c.shift_number.result (take n chain)
    (omega (arith, length-take n chain, c.requires.within)) c.shift_number.ensures.out
    ∙ sym (shifted_out_few n chain bits c.requires.within (length-bits_of n c.args.tdi))
    ∙ ap (λ xs. shifted_out xs bits) (sym (packed_chain c.args.self.now c.requires.packed))

pub returns-clause-stages : goal.returns-clause-stages
returns-clause-stages c =
    let now = c.args.self.now in
    let bits : List Bool = bits_of c.args.n c.args.tdi in
    ap (λ b. put_chain now.path.items b now.stages) (c.shift_number.ensures.items ∙ sym
    (shifted_few c.args.n now.chain.items bits c.requires.within (length-bits_of c.args.n c.args.tdi)))
    ∙ put_packed now (shifted now.chain.items bits) c.requires.packed
    ∙ ap (λ xs. put_chain (route_of now.net.now now.holds) (shifted xs bits) (stages_of now))
    (sym (packed_chain now c.requires.packed))

pub returns-clause-packed : goal.returns-clause-packed
returns-clause-packed c =
    let now = c.args.self.now in
    let k = c.requires.packed in
    let bits : List Bool = bits_of c.args.n c.args.tdi in
    let same : length c.shift_number.new.self.items ≡ length now.chain.items =
    omega (
      arith,
      ap length c.shift_number.ensures.items,
      length-append (drop c.args.n now.chain.items) bits,
      length-drop c.args.n now.chain.items,
      length-bits_of c.args.n c.args.tdi,
      c.requires.within,
    ) in
    record {
      loaded = record {
        net = k.loaded.net;
        holds = k.loaded.holds;
        stages = k.loaded.stages;
        route = k.loaded.route;
        fits = same ∙ k.loaded.fits;
        path_room = k.loaded.path_room;
        chain_room = omega (arith, same, c.shift_number.ensures.spare, k.loaded.chain_room);
      };
      path = k.path;
    }
