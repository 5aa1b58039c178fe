use Rattle.std.proofs.Common.{Option, Bool, List, length, arith, ap, ◌∙◌, ◌∷◌, ◌++◌, []}
use Rattle.ij_text.specs.Numbers.{open_bits}
use Rattle.ij_text.proofs.Numbers.{open_length, open_push, one_is}
use Rattle.ij_text.proofs.open_bits.OpenBits.push.Goals as goal

pub push_reserved-requires-clause-short : goal.push_reserved-requires-clause-short
push_reserved-requires-clause-short c =
    let long = open_length c.self.inside.value.items c.self.inside.care.items c.self.invariant.0 in
    let same = ap length c.self.view_is in
    let kept = ap length c.reserve.ensures.items in
    omega (arith, long, same, kept, c.requires)

pub push_reserved-requires-2-clause-short : goal.push_reserved-requires-2-clause-short
push_reserved-requires-2-clause-short c =
    let long = open_length c.self.inside.value.items c.self.inside.care.items c.self.invariant.0 in
    let same = ap length c.self.view_is in
    let kept = ap length c.reserve-2.ensures.items in
    omega (arith, long, same, kept, c.requires, c.self.invariant.0)

pub returns-clause-ok : goal.returns-clause-ok
returns-clause-ok c =
    let vs = c.self.inside.value.items in
    let cs = c.self.inside.care.items in
    let value = c.push_reserved.ensures.items
    ∙ ap (λ (l : List Bool). l ++ c.eq.result ∷ []) c.reserve.ensures.items in
    let care = c.push_reserved-2.ensures.items
    ∙ ap (λ (l : List Bool). l ++ c.is_some.result ∷ []) c.reserve-2.ensures.items in
    ap (λ (l : List Bool). open_bits l c.push_reserved-2.new.self.items) value
    ∙ ap (open_bits (vs ++ c.eq.result ∷ [])) care
    ∙ open_push vs cs c.args.bit c.eq.result c.is_some.result c.self.invariant.0
    (c.eq.ensures ∙ one_is c.args.bit) c.is_some.ensures
    ∙ ap (λ (l : List (Option Bool)). l ++ c.args.bit ∷ []) c.self.view_is
