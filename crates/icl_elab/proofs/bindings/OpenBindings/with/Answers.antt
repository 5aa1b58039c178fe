use Rattle.std.proofs.Common.{◌≡◌, ◌∙◌, ◌+◌, [], ◌∷◌, ◌++◌, ◌||◌, cond, map, length, Some, None, sym, ap}
use Rattle.std.proofs.Common.{arith, eqb}
use Rattle.std.proofs.lemmas.List.{length-map, map-append}
use Rattle.std.specs.List.{list_any, position_from}
use Rattle.ij_text.specs.Options.{or_else}
use Rattle.icl_elab.proofs.Bound.{position_push, any_push}
use Rattle.icl_elab.specs.Bindings.{Bound, binds_bit}
use Rattle.icl_elab.specs.Marks.{seen_bound}
use Rattle.icl_elab.proofs.bindings.OpenBindings.with.Goals as goal

pub invariant_of-result : goal.invariant_of-result
invariant_of-result c =
    let old = map seen_bound c.self.inside.bounds.items in
    let b = seen_bound c.args.bound in
    let items : map seen_bound c.push.new.self.items
    ≡ old ++ b ∷ [] = ap (map seen_bound) c.in_ok-push.ensures.items
    ∙ map-append seen_bound c.self.inside.bounds.items (c.args.bound ∷ []) in
    let number : c.len.result ≡ 0 + length old = omega
    (arith, length-map c.self.inside.bounds.items seen_bound, c.len.ensures, c.self.inside.bounds.ok.0) in
    record {
      bits = λ part pos. c.in_ok-note.ensures.bits part pos
          ∙ ap (λ o. or_else o (cond (binds_bit part pos b) (Some c.len.result) None))
          (c.self.invariant.bits part pos)
          ∙ ap (λ n. or_else (position_from (binds_bit part pos) 0 old)
          (cond (binds_bit part pos b) (Some n) None)) number
          ∙ sym (position_push (binds_bit part pos) 0 old b)
          ∙ ap (position_from (binds_bit part pos) 0) (sym items);
      parts = λ part. c.in_ok-note.ensures.parts part
          ∙ ap (λ t. t || eqb b.part part) (c.self.invariant.parts part)
          ∙ sym (any_push (λ (d : Bound). eqb d.part part) old b)
          ∙ ap (list_any (λ (d : Bound). eqb d.part part)) (sym items);
    }
