use Rattle.std.proofs.Common.{◌∙◌, List, ℕ, ap, sym, arith}
use Rattle.ij_bits.specs.BitLists.{bits_of}
use Rattle.ij_bits.specs.Words.{word_bit}
use Rattle.ij_bits.proofs.WordBits.{count_is, first_bits-replace, get_or-bits_of, length-bits_of, written}
use Rattle.ij_bits.proofs.bits.Bits.put_number.Goals as goal

pub replace_bits-requires-clause-within : goal.replace_bits-requires-clause-within
replace_bits-requires-clause-within c = omega (arith, count_is c.self.inside _ c.self.view_is)

pub replace_bits-requires-clause-short : goal.replace_bits-requires-clause-short
replace_bits-requires-clause-short c = omega (arith, count_is c.self.inside _ c.self.view_is)

pub returns-clause-items : goal.returns-clause-items
returns-clause-items c =
    let is = written c.self.inside.words.items c.replace_bits.new.words c.self.inside.words.len
    (sym c.self.inside.words.ok.0) (omega arith) in
    rw (← c.self.view_is, is) (first_bits-replace c.self.inside.words.items c.replace_bits.new.words
    c.self.inside.count c.args.at c.args.n (bits_of c.args.n c.args.value)
    (omega (arith, count_is c.self.inside _ c.self.view_is)) (length-bits_of c.args.n c.args.value)
    (λ k below. c.replace_bits.ensures.below k below
    ∙ ap (λ (ws : List ℕ). word_bit ws k) c.deref_mut.ensures.value)
    (λ k inner. c.replace_bits.ensures.at k inner ∙ sym (get_or-bits_of c.args.n c.args.value k inner))
    (λ k after inner. c.replace_bits.ensures.following k after (omega arith)
    ∙ ap (λ (ws : List ℕ). word_bit ws k) c.deref_mut.ensures.value))
