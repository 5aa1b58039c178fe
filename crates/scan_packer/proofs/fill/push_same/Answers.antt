use Rattle.std.proofs.Common.{◌≤◌, ◌++◌, length, length-append, ap, ◌∙◌, arith}
use Rattle.ij_bits.specs.BitLists.{bits_of}
use Rattle.std.proofs.lemmas.List.{length-replicate}
use Rattle.scan_packer.proofs.Filling.{same_more}
use Rattle.scan_packer.proofs.fill.push_same.Goals as goal

pub words-preserved : goal.words-preserved
words-preserved c =
    let e = c.append_number_reserved.ensures.items in
    let fits : 64 ≤ c.words.left = omega (arith, c.words-test.true) in
    let word = c.filled_word-word.ensures 64 (omega arith) in
    record {
      items = same_more c.words.into.items c.append_number_reserved.new.self.items c.args.value
          c.filled_word-word.result 64 c.words.left fits word e ∙ c.words.invariant.items;
      room = omega (arith, fits, c.append_number_reserved.ensures.spare, c.words.invariant.room);
      few = omega (arith, c.words.invariant.few);
      short = omega (
        arith,
        fits,
        ap length e,
        length-append c.words.into.items (bits_of 64 c.filled_word-word.result),
        ap length word,
        length-replicate 64 c.args.value,
        c.words.invariant.short,
      );
    }

pub returns-clause-items : goal.returns-clause-items
returns-clause-items c =
    c.append_number_reserved-2.ensures.items ∙ ap (λ bits. c.words.into.items ++ bits)
    (c.filled_word-word.ensures c.words.left (omega (arith, c.words-test.false))) ∙ c.words.invariant.items
