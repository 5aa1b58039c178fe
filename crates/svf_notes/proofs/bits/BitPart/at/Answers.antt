use Rattle.std.proofs.Common.{◌+◌, ◌∷◌, ◌∙◌, ap, sym, drop}
use Rattle.std.specs.Prelude.{◌==◌}
use Rattle.std.specs.Int.{bit_at}
use Rattle.svf_notes.specs.declared.scan.Shifted.{Shifted}
use Rattle.svf_notes.specs.Packed.{expect_of, part_bits}
use Rattle.svf_notes.proofs.Packed.{part_at}
use Rattle.svf_notes.proofs.bits.BitPart.at.Goals as goal

pub returns : goal.returns
returns c =
    let p = c.args.self.now in
    let i = c.args.i in
    let rest = drop (i + 1) (part_bits p) in
    let expect = c.expect_of.ensures
    ∙ ap (λ b. expect_of b c.bit_of_number-expected.result) c.bit_of_number-compared.ensures
    ∙ ap (λ b. expect_of (bit_at p.compared i == 1) b) c.bit_of_number-expected.ensures in
    part_at p i c.requires.there
    ∙ sym (ap (λ t. let b : Shifted = record {
      tdi = t;
      expect = c.expect_of.result;
      found = c.bit_of_number-2.result;
    } in b ∷ rest) c.bit_of_number.ensures
    ∙ ap (λ e. let b : Shifted =
    record { tdi = bit_at p.tdi i == 1; expect = e; found = c.bit_of_number-2.result } in b ∷ rest) expect
    ∙ ap (λ f. let b : Shifted = record {
      tdi = bit_at p.tdi i == 1;
      expect = expect_of (bit_at p.compared i == 1) (bit_at p.expected i == 1);
      found = f;
    } in
    b ∷ rest) c.bit_of_number-2.ensures)
