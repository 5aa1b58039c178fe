use Rattle.std.proofs.Common.{◌≡◌, ◌-◌, ◌+◌, ℕ, suc, List, ◌++◌, arith, subst, ap}
use Rattle.ij_io.proofs.Adding.{adds_as, adds_part_as, at_refusal}
use Rattle.ij_io.proofs.Fronts.{AddsFront, front_next, front_part}
use Rattle.net_list.specs.Lines.{mux_line}
use Rattle.net_list.specs.Listing.{lines_from}
use Rattle.net_list.proofs.Pieces.{lines_next, lines_done}
use Rattle.net_list.proofs.mux.put_muxes.Goals as goal

pub returns-in_err-put_mux-clause-part : goal.returns-in_err-put_mux-clause-part
returns-in_err-put_mux-clause-part g c =
    let i = c.loop-mux.mux in
    let n = c.mux_count-count.result - i in
    let m = c.mux_count-count.result - (i + 1) in
    let more : n ≡ suc m = omega arith in
    let next : i + 1 ≡ suc i = omega arith in
    let here : lines_from (mux_line c.args.format c.args.net.now c.args.tree.now) i n
    ≡ (mux_line c.args.format c.args.net.now c.args.tree.now) i
    ++ lines_from (mux_line c.args.format c.args.net.now c.args.tree.now) (i + 1) m =
    lines_next (mux_line c.args.format c.args.net.now c.args.tree.now) i (i + 1) n m more next in
    let front =
    subst (λ (rest : List ℕ). AddsFront (g.K.Sink.taken c.args.k.now) (g.K.Sink.taken c.loop-mux.k) rest
    (lines_from (mux_line c.args.format c.args.net.now c.args.tree.now) 0 c.mux_count-count.result))
    here c.loop-mux.invariant.front in
    at_refusal c.from_residual.result
    (adds_part_as (ap (lines_from (mux_line c.args.format c.args.net.now c.args.tree.now) 0)
    c.mux_count-count.ensures) (front_part ((mux_line c.args.format c.args.net.now c.args.tree.now) i)
    (lines_from (mux_line c.args.format c.args.net.now c.args.tree.now) (i + 1) m)
    front c.in_err-put_mux.ensures.part))

pub loop-mux-preserved : goal.loop-mux-preserved
loop-mux-preserved g c =
    let i = c.loop-mux.mux in
    let n = c.mux_count-count.result - i in
    let m = c.mux_count-count.result - (i + 1) in
    let more : n ≡ suc m = omega arith in
    let next : i + 1 ≡ suc i = omega arith in
    let here : lines_from (mux_line c.args.format c.args.net.now c.args.tree.now) i n
    ≡ (mux_line c.args.format c.args.net.now c.args.tree.now) i
    ++ lines_from (mux_line c.args.format c.args.net.now c.args.tree.now) (i + 1) m =
    lines_next (mux_line c.args.format c.args.net.now c.args.tree.now) i (i + 1) n m more next in
    let front =
    subst (λ (rest : List ℕ). AddsFront (g.K.Sink.taken c.args.k.now) (g.K.Sink.taken c.loop-mux.k) rest
    (lines_from (mux_line c.args.format c.args.net.now c.args.tree.now) 0 c.mux_count-count.result))
    here c.loop-mux.invariant.front in
    record {
      front = front_next ((mux_line c.args.format c.args.net.now c.args.tree.now) i)
          (lines_from (mux_line c.args.format c.args.net.now c.args.tree.now) (i + 1) m)
          front c.in_ok-put_mux.ensures.whole;
      later = omega (arith, c.put_mux.ensures.cause.later);
    }

pub returns-clause-whole : goal.returns-clause-whole
returns-clause-whole g c =
    let none : c.mux_count-count.result - c.loop-mux.mux ≡ 0 = omega (arith, c.loop-mux-test.false) in
    adds_as (ap (lines_from (mux_line c.args.format c.args.net.now c.args.tree.now) 0)
    c.mux_count-count.ensures) (lines_done (mux_line c.args.format c.args.net.now c.args.tree.now)
    c.loop-mux.mux (c.mux_count-count.result - c.loop-mux.mux) none c.loop-mux.invariant.front)
