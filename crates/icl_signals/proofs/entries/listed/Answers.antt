use Rattle.std.proofs.Common.{◌++◌, ◌∷◌, [], take, sym, ap, ◌∙◌, arith}
use Rattle.std.proofs.lemmas.List.{take_more}
use Rattle.icl_signals.proofs.entries.listed.Goals as goal

pub loop-i-preserved : goal.loop-i-preserved
loop-i-preserved c =
    let xs = c.args.refs.now.items in
    let i = c.loop-i.i in
    let lt = c.loop-i-test.true in
    let n = c.len-i-end.ensures.value in
    c.in_ok-push.ensures.items ∙ ap (λ l. l ++ c.get.result ∷ []) c.loop-i.invariant
    ∙ sym (take_more xs i c.get.result (omega (arith, lt, n))
    ∙ ap (λ y. take i xs ++ y ∷ []) (sym (c.get.ensures c.get.result)))
