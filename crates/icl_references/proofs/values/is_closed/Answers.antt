use Rattle.std.proofs.Common.{sym, ap, ◌∙◌, arith}
use Rattle.std.proofs.lemmas.List.{drop_all}
use Rattle.std.specs.List.{list_all}
use Rattle.std.specs.Prelude.{is_some}
use Rattle.ij_text.specs.Numbers.{tern_bits}
use Rattle.ij_text.proofs.Numbers.{tern_length}
use Rattle.icl_references.proofs.values.is_closed.Goals as goal

pub returns : goal.returns
returns c =
    let t = c.args.bits.now in
    let e = tern_length t in
    sym (ap (list_all is_some) (drop_all c.loop-k.k (tern_bits t)
    (omega (arith, e, c.len-k-end.ensures.value, c.loop-k-test.false)))) ∙ c.loop-k.invariant
