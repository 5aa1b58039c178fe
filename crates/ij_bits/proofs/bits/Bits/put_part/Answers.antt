use Rattle.std.proofs.Common.{◌≡◌, ◌≤◌, ◌+◌, ◌-◌, ◌++◌, ◌∙◌, List, Bool, ℕ, ap, sym, arith, take, drop}
use Rattle.ij_bits.specs.Words.{word_bit, first_bits}
use Rattle.ij_bits.proofs.WordBits.{count_is, first_bits-append, first_bits-take, get_or-part, length-part}
use Rattle.ij_bits.proofs.WordBits.{length-first_bits, written}
use Rattle.ij_bits.proofs.bits.Bits.put_part.Goals as goal

pub copy_bits-requires-clause-within : goal.copy_bits-requires-clause-within
copy_bits-requires-clause-within c = omega (arith, count_is c.self.inside _ c.self.view_is)

pub copy_bits-requires-clause-there : goal.copy_bits-requires-clause-there
copy_bits-requires-clause-there c = omega (arith, count_is c.other.inside _ c.other.view_is)

pub copy_bits-requires-clause-short : goal.copy_bits-requires-clause-short
copy_bits-requires-clause-short c = omega (arith, count_is c.self.inside _ c.self.view_is)

pub returns-clause-length : goal.returns-clause-length
returns-clause-length c = length-first_bits _ _ ∙ sym (count_is c.self.inside _ c.self.view_is)

pub returns-clause-items : goal.returns-clause-items
returns-clause-items c =
    let at = c.args.at in
    let n = c.args.n in
    let other = c.other.inside in
    let size : c.args.from + n - c.args.from ≡ n = omega arith in
    let is = written c.self.inside.words.items c.copy_bits.new.words c.self.inside.words.len
    (sym c.self.inside.words.ok.0) (omega arith) in
    let inner : at + n ≤ c.self.inside.count = omega (arith, count_is c.self.inside _ c.self.view_is) in
    let there : c.args.from + n ≤ other.count = omega (arith, count_is c.other.inside _ c.other.view_is) in
    let part : List Bool = take n (drop c.args.from (first_bits other.words.items other.count)) in
    rw (← c.self.view_is, ← c.other.view_is, is)
    (first_bits-take c.copy_bits.new.words (at + n) c.self.inside.count inner
    ∙ first_bits-append c.self.inside.words.items c.copy_bits.new.words at n part
    (length-part other.words.items other.count c.args.from n there)
    (λ k below. c.copy_bits.ensures.below k below
    ∙ ap (λ (ws : List ℕ). word_bit ws k) c.deref_mut.ensures.value)
    (λ k within. c.copy_bits.ensures.at k within ∙ ap (λ (ws : List ℕ). word_bit ws (c.args.from + k))
    c.deref.ensures.value ∙ sym (get_or-part other.words.items other.count c.args.from n k there within))
    ∙ ap (λ (xs : List Bool). xs ++ part)
    (sym (first_bits-take c.self.inside.words.items at c.self.inside.count (omega arith)))
    ∙ ap (λ k. take at (first_bits c.self.inside.words.items c.self.inside.count)
    ++ take k (drop c.args.from (first_bits other.words.items other.count))) (sym size))
