use Rattle.std.proofs.Common.{◌≡◌, ◌-◌, ◌+◌, ℕ, suc, List, arith, subst, ap}
use Rattle.ij_io.proofs.Adding.{adds_as, adds_part_as, at_refusal}
use Rattle.ij_io.proofs.Fronts.{AddsFront, front_next, front_part}
use Rattle.net_picture.specs.Dot.{mux_node}
use Rattle.net_list.specs.Listing.{lines_from}
use Rattle.net_list.proofs.Pieces.{lines_next, lines_done}
use Rattle.net_picture.proofs.dot.put_mux_nodes.Goals as goal

pub returns-in_err-put_mux_node-clause-part : goal.returns-in_err-put_mux_node-clause-part
returns-in_err-put_mux_node-clause-part g c =
    let line : ℕ → List ℕ = mux_node c.args.net.now c.args.marks.marked c.args.marks.met.now in
    let i = c.loop-mux.mux in
    let count = c.mux_count-count.result in
    let more : count - i ≡ suc (count - (i + 1)) = omega arith in
    let next : i + 1 ≡ suc i = omega arith in
    let front = subst (λ (rest : List ℕ). AddsFront (g.K.Sink.taken c.args.k.now)
    (g.K.Sink.taken c.loop-mux.k) rest (lines_from line 0 count))
    (lines_next line i (i + 1) (count - i) (count - (i + 1)) more next) c.loop-mux.invariant.front in
    at_refusal c.from_residual.result
    (adds_part_as (ap (lines_from line 0) c.mux_count-count.ensures) (front_part (line i)
    (lines_from line (i + 1) (count - (i + 1))) front c.in_err-put_mux_node.ensures.part))

pub loop-mux-preserved : goal.loop-mux-preserved
loop-mux-preserved g c =
    let line : ℕ → List ℕ = mux_node c.args.net.now c.args.marks.marked c.args.marks.met.now in
    let i = c.loop-mux.mux in
    let count = c.mux_count-count.result in
    let more : count - i ≡ suc (count - (i + 1)) = omega arith in
    let next : i + 1 ≡ suc i = omega arith in
    let front = subst (λ (rest : List ℕ). AddsFront (g.K.Sink.taken c.args.k.now)
    (g.K.Sink.taken c.loop-mux.k) rest (lines_from line 0 count))
    (lines_next line i (i + 1) (count - i) (count - (i + 1)) more next) c.loop-mux.invariant.front in
    record {
      front = front_next (line i)
          (lines_from line (i + 1) (count - (i + 1))) front c.in_ok-put_mux_node.ensures.whole;
      later = omega (arith, c.put_mux_node.ensures.cause.later);
    }

pub returns-clause-whole : goal.returns-clause-whole
returns-clause-whole g c =
    let line : ℕ → List ℕ = mux_node c.args.net.now c.args.marks.marked c.args.marks.met.now in
    let none : c.mux_count-count.result - c.loop-mux.mux ≡ 0 = omega (arith, c.loop-mux-test.false) in
    adds_as (ap (lines_from line 0) c.mux_count-count.ensures) (lines_done line c.loop-mux.mux
    (c.mux_count-count.result - c.loop-mux.mux) none c.loop-mux.invariant.front)
