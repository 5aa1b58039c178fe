use Rattle.std.proofs.Common.{arith}
use Rattle.pdl_targets.proofs.Joining.{joined, opened}
use Rattle.pdl_targets.proofs.rounds.put_at.Goals as goal

pub returns-then-k-len : goal.returns-then-k-len
returns-then-k-len c =
    let rounds = c.args.rounds.now in
    joined rounds.items c.args.k c.args.register c.index_mut.result.now c.push.new.self (omega (
      arith,
      c.if-k-len.true,
      c.len.ensures,
      rounds.ok.0,
    )) c.index_mut.ensures.value c.in_ok-push.ensures.ok

pub returns : goal.returns
returns c =
    let rounds = c.args.rounds.now in
    opened rounds.items c.push-2.new.self.items c.args.k c.args.register c.in_ok-round_of.field-0
    (omega (arith, c.if-k-len.false, c.len.ensures, rounds.ok.0))
    c.in_ok-round_of.ensures c.in_ok-push-2.ensures.items
