use Rattle.std.proofs.Common.{ℕ, Some, false, List, ◌++◌, ◌∷◌, [], map, take, sym, ap, ◌∙◌, arith}
use Rattle.std.proofs.lemmas.List.{take_all}
use Rattle.ij_text.specs.Numbers.{tern_bits}
use Rattle.icl_references.specs.Overlaps.{digit}
use Rattle.icl_references.proofs.Digits.{mapped_more}
use Rattle.ij_text.proofs.Numbers.{tern_length}
use Rattle.icl_references.proofs.overlaps.key_of.Goals as goal

pub loop-k-preserved : goal.loop-k-preserved
loop-k-preserved c =
    let t = c.args.v.now in
    let e = tern_length t in
    c.in_ok-push.ensures.items ∙ ap (λ (l : List ℕ). l ++ c.digit.result ∷ []) c.loop-k.invariant
    ∙ ap (λ (n : ℕ). map digit (take c.loop-k.k (tern_bits t)) ++ n ∷ []) c.digit.ensures
    ∙ sym (mapped_more digit (tern_bits t) c.loop-k.k c.bit_at.result (Some false)
    (omega (arith, e, c.len-k-end.ensures.value, c.loop-k-test.true)) c.bit_at.ensures)

pub returns : goal.returns
returns c =
    let t = c.args.v.now in
    let e = tern_length t in
    c.loop-k.invariant ∙ ap (map digit)
    (take_all c.loop-k.k (tern_bits t) (omega (arith, e, c.len-k-end.ensures.value, c.loop-k-test.false)))
