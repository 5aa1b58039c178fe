use Rattle.std.proofs.Common.{◌≡◌, ◌-◌, ◌+◌, ◌++◌, ℕ, List, suc, arith, ap, sym, ◌∙◌, subst}
use Rattle.ij_io.proofs.Adding.{at_refusal}
use Rattle.ij_io.proofs.Fronts.{AddsFront, front_next, front_part}
use Rattle.net_graph.specs.Named.{bits_from}
use Rattle.net_graph.specs.declared.net.BitId.{BitId}
use Rattle.direct_report.specs.Marked.{marked}
use Rattle.direct_report.specs.Report.{lines, reads_on}
use Rattle.direct_report.specs.Seen.{found_all}
use Rattle.direct_report.proofs.Lining.{lines_at, next_bit}
use Rattle.direct_report.proofs.reads.put_register_reads.Goals as goal

pub put_marked-requires-clause-within : goal.put_marked-requires-clause-within
put_marked-requires-clause-within g c =
    let b : BitId = record { reg = c.args.reg; pos = c.loop-pos.pos } in
    let m = c.requires.marks b in
    omega (arith, m.within, c.get.ensures)

pub returns-in_err-put_marked-clause-part : goal.returns-in_err-put_marked-clause-part
returns-in_err-put_marked-clause-part g c =
    let s = c.args.values.now in
    let reads = c.args.reads.now in
    let found = found_all s reads in
    let reg = c.args.reg in
    let pos = c.loop-pos.pos in
    let b : BitId = record { reg = reg; pos = pos } in
    let left : c.args.width - pos ≡ suc (c.args.width - (pos + 1)) = omega (arith, c.loop-pos-test.true) in
    let next : pos + 1 ≡ suc pos = omega arith in
    let rest = lines (reads_on found (bits_from reg (pos + 1) (c.args.width - (pos + 1)))) in
    let here = next_bit found reg pos (pos + 1) _ _ left next
    ∙ ap (λ (l : List ℕ). l ++ rest) (lines_at s reads b _ (c.requires.marks b)
    ∙ ap (λ (m : ℕ). lines (found_all s (marked reads m))) (sym c.get.ensures)) in
    at_refusal _ (front_part _ rest (subst (λ (l : List ℕ). AddsFront (g.K.Sink.taken c.args.k.now)
    (g.K.Sink.taken c.loop-pos.k) l (lines (reads_on found (bits_from reg 0 c.args.width)))) here
    c.loop-pos.invariant.front) c.in_err-put_marked.ensures.part)

pub loop-pos-preserved : goal.loop-pos-preserved
loop-pos-preserved g c =
    let s = c.args.values.now in
    let reads = c.args.reads.now in
    let found = found_all s reads in
    let reg = c.args.reg in
    let pos = c.loop-pos.pos in
    let b : BitId = record { reg = reg; pos = pos } in
    let left : c.args.width - pos ≡ suc (c.args.width - (pos + 1)) = omega (arith, c.loop-pos-test.true) in
    let next : pos + 1 ≡ suc pos = omega arith in
    let rest = lines (reads_on found (bits_from reg (pos + 1) (c.args.width - (pos + 1)))) in
    let here = next_bit found reg pos (pos + 1) _ _ left next
    ∙ ap (λ (l : List ℕ). l ++ rest) (lines_at s reads b _ (c.requires.marks b)
    ∙ ap (λ (m : ℕ). lines (found_all s (marked reads m))) (sym c.get.ensures)) in
    record {
      front = front_next _ rest (subst (λ (l : List ℕ). AddsFront (g.K.Sink.taken c.args.k.now)
          (g.K.Sink.taken c.loop-pos.k) l (lines (reads_on found (bits_from reg 0 c.args.width)))) here
          c.loop-pos.invariant.front) c.in_ok-put_marked.ensures.whole;
      later = omega (arith, c.put_marked.ensures.cause.later, c.loop-pos.invariant.later);
    }
