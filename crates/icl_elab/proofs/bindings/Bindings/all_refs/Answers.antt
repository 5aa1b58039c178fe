use Rattle.std.proofs.Common.{◌∙◌, ◌∷◌, ◌++◌, [], List, sym, ap, arith}
use Rattle.std.proofs.lemmas.List.FromFn.{map-range_with_len_more}
use Rattle.icl_references.specs.declared.hier.Ref.{Ref}
use Rattle.icl_elab.specs.Bindings.{ref_at}
use Rattle.icl_elab.proofs.bindings.Bindings.all_refs.Goals as goal

pub loop-pos-preserved : goal.loop-pos-preserved
loop-pos-preserved c =
    let f = ref_at c.args.self.now c.args.part in
    let pos = c.loop-pos.pos in
    c.in_ok-push.ensures.ok
    ∙ ap (λ (r : Ref). c.loop-pos.refs.items ++ r ∷ []) c.ref_at.ensures
    ∙ ap (λ (l : List Ref). l ++ f pos ∷ []) c.loop-pos.invariant
    ∙ sym (map-range_with_len_more f 0 pos pos (omega arith))
