use Rattle.std.proofs.Common.{◌≡◌, ◌+◌, ◌-◌, ◌++◌, ◌∙◌, List, Bool, ℕ, ap, sym, arith, length, take, drop}
use Rattle.std.specs.Prelude.{slice_range}
use Rattle.ij_bits.proofs.Turning.{part_before, part_after, put_whole}
use Rattle.ij_bits.proofs.ring.turned_part.Goals as goal

pub returns-then-back-at-clause-items : goal.returns-then-back-at-clause-items
returns-then-back-at-clause-items c =
    let bits = c.args.bits.now.items in
    let from : ℕ = c.args.at - (c.len.result - c.args.first) in
    let to : ℕ = from + c.len-n.result in
    put_whole (0 + c.len-n.result) (length c.args.to.now.items) c.put_part.new.self.items
    (slice_range bits from to) c.put_part.ensures.items c.put_part.ensures.length (omega arith)
    ∙ part_before c.args.first c.args.at (length c.args.to.now.items) from to bits c.requires.first
    c.requires.within (omega arith) (omega arith)

pub returns-clause-items : goal.returns-clause-items
returns-clause-items c =
    let bits = c.args.bits.now.items in
    let here = c.min-here.result in
    let n = length c.args.to.now.items in
    let none : 0 + here ≡ here = omega arith in
    let one : c.args.first + c.args.at + here - (c.args.first + c.args.at) ≡ here = omega arith in
    let two : 0 + (c.len-n.result - here) - 0 ≡ n - here = omega arith in
    let front : take here c.put_part-2.new.self.items ≡ take here (drop (c.args.first + c.args.at) bits) =
    ap (λ k. take k c.put_part-2.new.self.items) (sym none) ∙ c.put_part-2.ensures.items
    ∙ ap (λ k. take k (drop (c.args.first + c.args.at) bits)) one in
    put_whole (here + (c.len-n.result - here)) n c.put_part-3.new.self.items _
    (c.put_part-3.ensures.items ∙ ap (λ (xs : List Bool). xs ++ take (0 + (c.len-n.result - here) - 0) bits)
    front ∙ ap (λ k. take here (drop (c.args.first + c.args.at) bits) ++ take k bits) two)
    (c.put_part-3.ensures.length ∙ c.put_part-2.ensures.length) (omega arith)
    ∙ part_after c.args.first c.args.at n here bits c.requires.first c.requires.within
    (omega arith) (omega arith)
