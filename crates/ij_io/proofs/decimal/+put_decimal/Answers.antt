use Rattle.ij_io.proofs.Adding.{at_refusal}
use Rattle.ij_io.proofs.Digits.{more_added, front_part_added, last_part_added, one_added, one_part_added}
use Rattle.ij_io.proofs.decimal.+put_decimal.Goals as goal
use Rattle.ij_io.proofs.decimal.+put_decimal.Goals.{then-n-ge10+in_ok-put_decimal, else-n-ge10}

pub returns-in_err-put_decimal-clause-part : goal.returns-in_err-put_decimal-clause-part
returns-in_err-put_decimal-clause-part g t c =
    at_refusal c.from_residual.result
    (front_part_added c.args.n c.if-n-ge10.true c.ranges.n.fits c.in_err-put_decimal.ensures.part)

pub returns-in_err-write-clause-part : goal.returns-in_err-write-clause-part
returns-in_err-write-clause-part g t c =
    let n = c.args.n in
    let last = c.in_err-write.ensures.part in
    at_refusal c.from_residual-in_err-write.result
    (elim c.if-n-ge10.branch [
      | then-n-ge10+in_ok-put_decimal w ↦
          last_part_added {new = g.K.Sink.taken c.write.new.self} n w.if-n-ge10.true c.ranges.n.fits
          w.in_ok-put_decimal.ensures.whole (rw w.k-is at last)
      | else-n-ge10 w ↦ one_part_added
          {new = g.K.Sink.taken c.write.new.self} n w.if-n-ge10.false (rw w.k-is at last)
    ])

pub returns-clause-whole : goal.returns-clause-whole
returns-clause-whole g t c =
    let n = c.args.n in
    let last = c.in_ok-write.ensures.whole in
    elim c.if-n-ge10.branch [
      | then-n-ge10+in_ok-put_decimal w ↦
          more_added {new = g.K.Sink.taken c.write.new.self} n w.if-n-ge10.true c.ranges.n.fits
          w.in_ok-put_decimal.ensures.whole (rw w.k-is at last)
      | else-n-ge10 w ↦
          one_added {new = g.K.Sink.taken c.write.new.self} n w.if-n-ge10.false (rw w.k-is at last)
    ]
