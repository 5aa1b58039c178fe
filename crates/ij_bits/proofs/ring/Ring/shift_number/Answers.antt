use Rattle.std.proofs.Common.{◌≡◌, ◌≤◌, ◌+◌, ◌-◌, ◌*◌, ◌%◌, ◌^◌, ◌++◌, ◌∙◌, List, Bool, length, take, drop}
use Rattle.std.proofs.Common.{ap, sym, arith}
use Rattle.std.proofs.lemmas.List.{length-take}
use Rattle.ij_bits.specs.BitLists.{bits_of, number_of}
use Rattle.ij_bits.proofs.Exchanging.{exchanged_length, length-turned, within_items, across_items}
use Rattle.ij_bits.proofs.Exchanging.{across_number, across_length, whole_word}
use Rattle.ij_bits.proofs.Hex.{number_of-lt}
use Rattle.ij_bits.proofs.WordBits.{length-bits_of}
use Rattle.ij_bits.proofs.ring.Ring.shift_number.Goals as goal

-- what goes out, by its two parts
out_is : (c : goal.After-self-2-1) → number_of (take c.args.n c.args.self.now.items)
    ≡ c.exchange-low.result + c.exchange-high.result * 2 ^ c.min-here.result
out_is c =
    let xs : List Bool = c.self.inside.bits.items in
    let f = c.self.inside.first in
    let n = c.args.n in
    let here = c.min-here.result in
    let ys = c.exchange-low.new.bits.items in
    let within : n ≤ length xs =
    length-turned f n xs _ (ap (λ r. r.items) c.self.view_is) c.self.invariant c.requires.within in
    rw (← c.self.view_is) (across_number f n here (n - here) c.args.value xs ys c.exchange-high.new.bits.items
    (omega arith) (omega arith) within c.exchange-low.ensures.items c.exchange-high.ensures.items)
    ∙ ap (λ q. q + number_of (take (n - here) ys) * 2 ^ here) (sym c.exchange-low.ensures.out)
    ∙ ap (λ q. c.exchange-low.result + q * 2 ^ here) (sym c.exchange-high.ensures.out)

whole_is : (c : goal.After-self-2-1)
    → c.exchange-low.result + c.exchange-high.result * 2 ^ c.min-here.result % 18446744073709551616
    ≡ number_of (take c.args.n c.args.self.now.items)
whole_is c =
    whole_word c.exchange-low.result c.exchange-high.result c.min-here.result c.args.n
    (take c.args.n c.args.self.now.items) (out_is c)
    (omega (arith, length-take c.args.n c.args.self.now.items)) c.requires.few

pub invariant_of-self : goal.invariant_of-self
invariant_of-self c =
    omega (
      arith,
      c.if-here-n.true,
      exchanged_length c.self.inside.first c.min-here.result c.self.inside.bits.items
          c.exchange-low.new.bits.items (bits_of c.min-here.result c.args.value)
          (length-bits_of c.min-here.result c.args.value) c.exchange-low.ensures.items (omega arith),
    )

pub returns-then-here-n-clause-items : goal.returns-then-here-n-clause-items
returns-then-here-n-clause-items c =
    let xs : List Bool = c.self.inside.bits.items in
    let f = c.self.inside.first in
    let n = c.args.n in
    rw (← c.self.view_is) (within_items f n xs c.exchange-low.new.bits.items (bits_of n c.args.value)
    (omega arith) (length-bits_of n c.args.value)
    (c.exchange-low.ensures.items
    ∙ ap (λ k. take f xs ++ (bits_of k c.args.value ++ drop (f + k) xs)) c.if-here-n.true))

pub overflow_add-result : goal.overflow_add-result
overflow_add-result c =
    omega (
      arith,
      whole_is c,
      number_of-lt (take c.args.n c.args.self.now.items) 64
          (omega (arith, length-take c.args.n c.args.self.now.items, c.requires.few)),
    )

pub invariant_of-self-2 : goal.invariant_of-self-2
invariant_of-self-2 c =
    let xs : List Bool = c.self.inside.bits.items in
    let f = c.self.inside.first in
    let n = c.args.n in
    let within : n ≤ length xs =
    length-turned f n xs _ (ap (λ r. r.items) c.self.view_is) c.self.invariant c.requires.within in
    across_length f n c.min-here.result
    (n - c.min-here.result) c.args.value xs c.exchange-low.new.bits.items c.exchange-high.new.bits.items
    (omega arith) (omega arith) within c.exchange-low.ensures.items c.exchange-high.ensures.items

pub returns-clause-out : goal.returns-clause-out
returns-clause-out c = whole_is c

pub returns-clause-items : goal.returns-clause-items
returns-clause-items c =
    let xs : List Bool = c.self.inside.bits.items in
    let f = c.self.inside.first in
    let n = c.args.n in
    let within : n ≤ length xs =
    length-turned f n xs _ (ap (λ r. r.items) c.self.view_is) c.self.invariant c.requires.within in
    rw (← c.self.view_is) (across_items f n c.min-here.result
    (n - c.min-here.result) c.args.value xs c.exchange-low.new.bits.items c.exchange-high.new.bits.items
    (omega arith) (omega arith) within c.exchange-low.ensures.items c.exchange-high.ensures.items)
