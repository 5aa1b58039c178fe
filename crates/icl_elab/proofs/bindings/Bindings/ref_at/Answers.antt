use Rattle.std.proofs.Common.{◌∙◌, List, length, get_or, Some, sym, ap, arith}
use Rattle.std.proofs.lemmas.List.{get_or-map, length-map}
use Rattle.icl_elab.proofs.Bound.{none_found, first_at, first_within}
use Rattle.icl_elab.specs.Bindings.{Bound, binds_bit, ref_in}
use Rattle.icl_elab.specs.Marks.{seen_bound}
use Rattle.icl_elab.proofs.bindings.Bindings.ref_at.Goals as goal

pub index-requires : goal.index-requires
index-requires c =
    let within = first_within (binds_bit c.args.part c.args.pos) c.in-Some.number
    c.args.self.now (sym c.in-Some.ensures) in
    let long = ap length c.self.view_is in
    omega (arith, within, long, length-map c.self.inside.bounds.items seen_bound, c.self.inside.bounds.ok.0)

pub returns-in-Some : goal.returns-in-Some
returns-in-Some c =
    let p = binds_bit c.args.part c.args.pos in
    let items = c.self.inside.bounds.items in
    let x = c.index.result.now in
    let within = first_within p c.in-Some.number c.args.self.now (sym c.in-Some.ensures) in
    let long = ap length c.self.view_is in
    let there = get_or-map seen_bound items c.in-Some.number x (seen_bound x)
    (omega (arith, within, long, length-map items seen_bound)) in
    let found = first_at p c.in-Some.number c.args.self.now (seen_bound x) (sym c.in-Some.ensures)
    ∙ ap (λ (bs : List Bound). Some (get_or bs c.in-Some.number (seen_bound x))) (sym c.self.view_is)
    ∙ ap (λ (b : Bound). Some b) (there ∙ ap seen_bound (sym c.index.ensures)) in
    c.ref_in.ensures ∙ sym (ap (ref_in c.args.pos) found)

pub returns-in-None : goal.returns-in-None
returns-in-None c = sym (ap (ref_in c.args.pos)
    (none_found (binds_bit c.args.part c.args.pos) 0 c.args.self.now (sym c.in-None.ensures)))
