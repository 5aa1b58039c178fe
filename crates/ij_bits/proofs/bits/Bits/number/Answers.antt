use Rattle.std.proofs.Common.{◌≡◌, ◌≤◌, ◌-◌, ◌+◌, ◌∙◌, ℕ, List, ap, sym, arith, take, drop}
use Rattle.ij_bits.specs.BitLists.{number_of}
use Rattle.ij_bits.specs.Words.{word_bit, first_bits}
use Rattle.ij_bits.proofs.WordBits.{count_is, get_or-part, length-part}
use Rattle.ij_bits.proofs.Hex.{number_is}
use Rattle.ij_bits.proofs.bits.Bits.number.Goals as goal

pub number_at-requires-clause-within : goal.number_at-requires-clause-within
number_at-requires-clause-within c = omega (arith, count_is c.self.inside _ c.self.view_is)

pub returns-clause-value : goal.returns-clause-value
returns-clause-value c =
    let n = c.args.n in
    let from = c.args.from in
    let words = c.self.inside.words.items in
    let count = c.self.inside.count in
    let within : from + n ≤ count = omega (arith, count_is c.self.inside _ c.self.view_is) in
    let size : from + n - from ≡ n = omega arith in
    rw (← c.self.view_is) (number_is (take n (drop from (first_bits words count))) c.number_at.result n
    (length-part words count from n within) c.number_at.ensures.small
    (λ k inner. c.number_at.ensures.bits k inner ∙ ap (λ (ws : List ℕ). word_bit ws (from + k))
    c.deref.ensures.value ∙ sym (get_or-part words count from n k within inner))
    ∙ ap (λ j. number_of (take j (drop from (first_bits words count)))) (sym size))
