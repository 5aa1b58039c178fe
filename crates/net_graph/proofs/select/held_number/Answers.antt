use Rattle.std.proofs.Common.{false, ◌≡◌, ◌<◌, ◌+◌, ◌-◌, ◌*◌, ◌∙◌, List, Bool, length, drop, get_or, map, ap}
use Rattle.std.proofs.Common.{sym, arith}
use Rattle.std.proofs.lemmas.List.{length-map, get_or-map}
use Rattle.ij_bits.specs.BitLists.{bits_of, number_of}
use Rattle.net_graph.specs.Signals.{hold_at}
use Rattle.net_graph.proofs.Lists.{rest_small, bit_below, byte_small}
use Rattle.ij_bits.proofs.Hex.{bits_of-number_of}
use Rattle.net_graph.proofs.select.held_number.Goals as goal

pub overflow_mul-number : goal.overflow_mul-number
overflow_mul-number c =
    let bits = map (hold_at c.args.holds.now) c.args.select.now in
    omega (
      arith,
      c.loop-i.invariant,
      rest_small bits c.loop-i.i (omega arith)
          (omega (arith, length-map c.args.select.now (hold_at c.args.holds.now))),
    )

pub overflow_add-number : goal.overflow_add-number
overflow_add-number c =
    let bits = map (hold_at c.args.holds.now) c.args.select.now in
    omega (
      arith,
      c.loop-i.invariant,
      rest_small bits c.loop-i.i (omega arith)
          (omega (arith, length-map c.args.select.now (hold_at c.args.holds.now))),
      byte_small c.get.result,
    )

pub returns : goal.returns
returns c =
    let select = c.args.select.now in
    let bits = map (hold_at c.args.holds.now) select in
    let start : c.loop-i.i ≡ 0 = omega arith in
    ap (bits_of (length select)) (c.loop-i.invariant ∙ ap (λ k. number_of (drop k bits)) start)
    ∙ ap (λ k. bits_of k (number_of bits))
    (sym (length-map select (hold_at c.args.holds.now))) ∙ bits_of-number_of bits

pub loop-i-preserved : goal.loop-i-preserved
loop-i-preserved c =
    let select = c.args.select.now in
    let bits : List Bool = map (hold_at c.args.holds.now) select in
    let j = c.loop-i.i - 1 in
    let within : j < length select = omega arith in
    let long : length bits ≡ length select = length-map select (hold_at c.args.holds.now) in
    let held : c.get.result ≡ get_or bits j false =
    c.get.ensures
    ∙ sym (get_or-map (hold_at c.args.holds.now) select j (record { reg = 0; pos = 0 }) false within) in
    ap (λ byte. 2 * c.loop-i.number + byte) c.from.ensures ∙ bit_below bits j c.loop-i.i c.loop-i.number
    c.get.result (omega arith) (omega arith) held c.loop-i.invariant
