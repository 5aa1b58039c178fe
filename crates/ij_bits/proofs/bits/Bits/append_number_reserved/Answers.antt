use Rattle.std.proofs.Common.{◌∙◌, List, ℕ, ap, sym, arith}
use Rattle.ij_bits.specs.BitLists.{bits_of}
use Rattle.ij_bits.specs.Words.{word_bit}
use Rattle.ij_bits.proofs.WordBits.{count_is, first_bits-append, get_or-bits_of, length-bits_of, written}
use Rattle.ij_bits.proofs.bits.Bits.append_number_reserved.Goals as goal

pub overflow_add-at : goal.overflow_add-at
overflow_add-at c = omega (arith, count_is c.self.inside _ c.self.view_is)

pub overflow_add-self : goal.overflow_add-self
overflow_add-self c = omega (arith, count_is c.self.inside _ c.self.view_is)

pub returns-clause-items : goal.returns-clause-items
returns-clause-items c =
    let is = written c.grow.new.words.items c.put_bits.new.words c.grow.new.words.len
    (sym c.grow.new.words.ok.0) (omega arith) in
    rw (← c.self.view_is, is) (first_bits-append c.self.inside.words.items c.put_bits.new.words
    c.self.inside.count c.args.n (bits_of c.args.n c.args.value) (length-bits_of c.args.n c.args.value)
    (λ k below. c.put_bits.ensures.below k below
    ∙ ap (λ (ws : List ℕ). word_bit ws k) c.deref_mut.ensures.value ∙ c.grow.ensures.kept k (omega arith))
    (λ k inner. c.put_bits.ensures.at k inner ∙ sym (get_or-bits_of c.args.n c.args.value k inner)))
