use Rattle.std.proofs.Common.{◌≡◌, ◌∙◌, false, List, [], sym, ap, arith, eqb, ltb}
use Rattle.std.proofs.lemmas.List.{get_or_past}
use Rattle.std.proofs.lemmas.Bool.Decides.{nat_tests}
use Rattle.std.specs.List.{list_any}
use Rattle.icl_elab.specs.Bindings.{Bound}
use Rattle.icl_elab.specs.Marks.{has_marks}
use Rattle.icl_elab.proofs.bindings.OpenBindings.binds.Goals as goal

pub returns-else-part-len : goal.returns-else-part-len
returns-else-part-len c =
    let none : ltb c.args.part c.len.result ≡ false = grind (arith, nat_tests) in
    let past = get_or_past c.self.inside.rows.items c.args.part [] (omega (arith, c.self.inside.rows.ok.0)) in
    none ∙ ap has_marks (sym past) ∙ c.self.invariant.parts c.args.part
    ∙ ap (λ (bs : List Bound). list_any (λ b. eqb b.part c.args.part) bs) c.self.view_is
