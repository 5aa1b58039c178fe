use Rattle.std.proofs.Common.{Bool, Option, false, Some, List, ◌++◌, ◌∷◌, [], map, take, sym, ap, ◌∙◌, arith}
use Rattle.std.proofs.lemmas.List.{take_all}
use Rattle.std.specs.Prelude.{unwrap_or}
use Rattle.ij_bits.specs.BitLists.{flip_if}
use Rattle.ij_text.specs.Numbers.{tern_bits}
use Rattle.icl_references.specs.declared.hier.Ref.{Ref}
use Rattle.icl_references.specs.declared.hier.Ref.TheVariants.{Fixed}
use Rattle.icl_references.proofs.Digits.{mapped_more}
use Rattle.ij_text.proofs.Numbers.{tern_length}
use Rattle.icl_references.proofs.bits.constants.Goals as goal

pub loop-k-preserved : goal.loop-k-preserved
loop-k-preserved c =
    let t = c.args.bits.now in
    let e = tern_length t in
    let f = λ (b : Option Bool). Fixed (flip_if c.args.inverted (unwrap_or b false)) in
    c.in_ok-push.ensures.ok
    ∙ ap (λ (l : List Ref). l ++ Fixed c.flip_if.result ∷ []) c.loop-k.invariant
    ∙ ap (λ (b : Bool). map f (take c.loop-k.k (tern_bits t)) ++ Fixed b ∷ [])
    (c.flip_if.ensures ∙ ap (flip_if c.args.inverted) c.unwrap_or-bit.ensures)
    ∙ sym (mapped_more f (tern_bits t) c.loop-k.k c.bit_at.result (Some false)
    (omega (arith, e, c.len-k-end.ensures.value, c.loop-k-test.true)) c.bit_at.ensures)

pub returns : goal.returns
returns c =
    let t = c.args.bits.now in
    let e = tern_length t in
    c.loop-k.invariant ∙ ap (map (λ b. Fixed (flip_if c.args.inverted (unwrap_or
    b false))))
    (take_all c.loop-k.k (tern_bits t) (omega (arith, e, c.len-k-end.ensures.value, c.loop-k-test.false)))
