use Rattle.std.proofs.Common.{◌<◌, ◌∙◌, List, Bool, length, ap, sym, arith}
use Rattle.ij_bits.specs.BitLists.{bits_of}
use Rattle.ij_bits.proofs.WordBits.{length-bits_of}
use Rattle.net_graph.specs.Signals.{Holds}
use Rattle.tap_machine.specs.Play.{masked}
use Rattle.tap_machine.specs.Tap.{next}
use Rattle.tap_machine.specs.declared.TapState.{TapState}
use Rattle.tap_machine.specs.declared.TapState.TheVariants.{ShiftDr}
use Rattle.net_bench.specs.Board.{state_of}
use Rattle.net_bench.specs.Packed.{stages_of}
use Rattle.net_bench.proofs.Boards.{found_at_once, moved_at_once}
use Rattle.net_bench.proofs.board.Board.move_bits.Goals as goal

pub returns-clause-found : goal.returns-clause-found
returns-clause-found c =
    let p = c.args.piece.now in
    let bits : List Bool = bits_of p.count p.tdi in
    let some : 0 < length bits = omega (arith, length-bits_of p.count p.tdi, c.requires.some) in
    c.shift_many-found.ensures.out
    ∙ sym (found_at_once c.args.self.now c.requires.can.tap c.requires.board c.requires.can.selected p.scan
    p.bit p.tms bits (masked (bits_of p.count p.expected) (bits_of p.count p.compared)) some)

pub returns-clause-state : goal.returns-clause-state
returns-clause-state c =
    let p = c.args.piece.now in
    let b = c.args.self.now in
    let s = state_of b in
    let n = c.shift_many-found.new.self in
    let bits : List Bool = bits_of p.count p.tdi in
    let some : 0 < length bits = omega (arith, length-bits_of p.count p.tdi, c.requires.some) in
    ap (λ (t : TapState). record s { tap = t; stages = stages_of n; holds = n.holds })
    (c.next_state-self.ensures ∙ ap (λ t. next t p.tms) c.requires.can.tap)
    ∙ ap (λ (h : Holds). record s { tap = next ShiftDr p.tms; stages = stages_of n; holds = h })
    c.shift_many-found.ensures.holds
    ∙ ap (λ (st : Holds). record s { tap = next ShiftDr p.tms; stages = st })
    c.shift_many-found.ensures.stages
    ∙ sym (moved_at_once b c.requires.can.tap c.requires.board c.requires.can.selected p.scan p.bit p.tms bits
    (masked (bits_of p.count p.expected) (bits_of p.count p.compared)) some)
