use Rattle.std.proofs.Common.{◌+◌, ◌<◌, ◌∷◌, ◌∙◌, List, Bool, length, drop, false, ap, sym, arith}
use Rattle.std.proofs.lemmas.List.{drop_more}
use Rattle.ij_bits.specs.BitLists.{bits_of}
use Rattle.ij_bits.proofs.WordBits.{get_or-bits_of, length-bits_of}
use Rattle.net_bench.proofs.bench.Played.found_at.Goals as goal

pub returns : goal.returns
returns c =
    let n = c.args.self.now.piece.count in
    let i = c.args.i in
    let bits : List Bool = bits_of n c.args.self.now.found in
    let there : i < length bits = omega (arith, length-bits_of n c.args.self.now.found, c.requires.there) in
    drop_more bits i false there ∙ ap (λ b. b ∷ drop (i + 1) bits)
    (get_or-bits_of n c.args.self.now.found i c.requires.there ∙ sym c.bit_of_number.ensures)
