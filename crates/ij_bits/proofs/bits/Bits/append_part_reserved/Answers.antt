use Rattle.std.proofs.Common.{◌+◌, ◌-◌, ◌∙◌, List, ℕ, ap, sym, arith, take, drop}
use Rattle.ij_bits.specs.Words.{word_bit, first_bits}
use Rattle.ij_bits.proofs.WordBits.{count_is, first_bits-append, get_or-part, length-part, written}
use Rattle.ij_bits.proofs.bits.Bits.append_part_reserved.Goals as goal

pub overflow_add-at : goal.overflow_add-at
overflow_add-at c = omega (arith, count_is c.self.inside _ c.self.view_is)

pub copy_bits-requires-clause-there : goal.copy_bits-requires-clause-there
copy_bits-requires-clause-there c = omega (arith, count_is c.other.inside _ c.other.view_is)

pub copy_bits-requires-clause-short : goal.copy_bits-requires-clause-short
copy_bits-requires-clause-short c = omega (arith, count_is c.self.inside _ c.self.view_is)

pub overflow_add-self : goal.overflow_add-self
overflow_add-self c = omega (arith, count_is c.self.inside _ c.self.view_is)

pub returns-clause-items : goal.returns-clause-items
returns-clause-items c =
    let n : ℕ = c.args.to - c.args.from in
    let other = c.other.inside in
    let is = written c.grow.new.words.items c.copy_bits.new.words c.grow.new.words.len
    (sym c.grow.new.words.ok.0) (omega arith) in
    rw (← c.self.view_is, ← c.other.view_is, is)
    (first_bits-append c.self.inside.words.items c.copy_bits.new.words c.self.inside.count n
    (take n (drop c.args.from (first_bits other.words.items other.count))) (length-part other.words.items
    other.count c.args.from n (omega (arith, count_is c.other.inside _ c.other.view_is)))
    (λ k below. c.copy_bits.ensures.below k below
    ∙ ap (λ (ws : List ℕ). word_bit ws k) c.deref_mut.ensures.value ∙ c.grow.ensures.kept k (omega arith))
    (λ k inner. c.copy_bits.ensures.at k inner ∙ ap (λ (ws : List ℕ). word_bit ws (c.args.from + k))
    c.deref.ensures.value ∙ sym (get_or-part other.words.items other.count c.args.from n k
    (omega (arith, count_is c.other.inside _ c.other.view_is)) inner)))
