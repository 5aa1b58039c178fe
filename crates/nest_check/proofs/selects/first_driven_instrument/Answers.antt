use Rattle.std.proofs.Common.{sym, ◌∙◌, subst, length, ◌<◌, arith}
use Rattle.std.proofs.lemmas.Bool.{true≢false}
use Rattle.std.proofs.lemmas.List.Elements.{All-more}
use Rattle.net_tree.specs.Lawful.{IsUndriven}
use Rattle.nest_check.proofs.Firsts.{first_at, all_taken}
use Rattle.nest_check.proofs.selects.first_driven_instrument.Goals as goal

pub returns-then-drives-clause-found : goal.returns-then-drives-clause-found
returns-then-drives-clause-found c =
    let within : c.loop-i.i < length c.args.net.now.insts.items =
    omega (arith, c.loop-i-test.true, c.len-i-end.ensures) in (
      c.get.result.now,
      first_at (IsUndriven c.args.bit) c.args.net.now.insts.items c.loop-i.i
          c.get.result.now within c.get.ensures c.loop-i.invariant
          (λ e. true≢false (sym (sym c.drives.ensures ∙ c.if-drives.true) ∙ e)),
    )

pub loop-i-preserved : goal.loop-i-preserved
loop-i-preserved c =
    let within : c.loop-i.i < length c.args.net.now.insts.items =
    omega (arith, c.loop-i-test.true, c.len-i-end.ensures) in
    All-more (IsUndriven c.args.bit) c.args.net.now.insts.items c.loop-i.i
    c.get.result.now within c.loop-i.invariant
    (subst (IsUndriven c.args.bit) c.get.ensures (sym c.drives.ensures ∙ c.if-drives.false))

pub returns-clause-none : goal.returns-clause-none
returns-clause-none c _ =
    all_taken (IsUndriven c.args.bit) c.args.net.now.insts.items c.loop-i.i
    (omega (arith, c.loop-i-test.false, c.len-i-end.ensures)) c.loop-i.invariant
