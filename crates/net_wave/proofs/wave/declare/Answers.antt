use Rattle.std.proofs.Common.{◌++◌, ℕ, All, List, map, ◌∙◌, ap, sym, subst}
use Rattle.instruments.specs.Seen.{seen_model}
use Rattle.std.proofs.lemmas.List.{length-map}
use Rattle.net_wave.specs.declared.var.Item.{Item}
use Rattle.net_wave.specs.declared.var.Var.{Var}
use Rattle.net_wave.specs.Header.{header}
use Rattle.net_wave.specs.Changes.{pin_vars}
use Rattle.net_wave.specs.Vars.{IsItem, IsVar, vars_of}
use Rattle.net_wave.proofs.There.{after_pins, items_there, later_items, later_there, vars_there}
use Rattle.net_wave.proofs.wave.declare.Goals as goal

pub add_header-requires-clause-there : goal.add_header-requires-clause-there
add_header-requires-clause-there c =
    let models = map seen_model c.args.models.now.items in
    subst (λ (l : List Item). All (IsItem c.args.net.now models) l)
    (sym (c.as_slice.ensures ∙ c.in_ok-items.ensures)) (items_there c.args.net.now models c.args.kind
    (length-map c.args.models.now.items seen_model ∙ c.requires.models.count))

pub add_header-requires-clause-models : goal.add_header-requires-clause-models
add_header-requires-clause-models c = c.requires.models.each

pub returns-clause-text : goal.returns-clause-text
returns-clause-text c =
    let top = header c.args.net.now c.args.device.now
    (map seen_model c.args.models.now.items) c.args.top.now in
    c.in_ok-add_header.ensures ∙ ap (λ (l : List ℕ). l ++ top c.as_slice.result.now) c.new-text.ensures
    ∙ ap top (c.as_slice.ensures ∙ c.in_ok-items.ensures)

pub returns-clause-vars : goal.returns-clause-vars
returns-clause-vars c =
    let models = map seen_model c.args.models.now.items in
    ap (λ (l : List Var). pin_vars ++ l) (c.in_ok-vars.ensures ∙ ap vars_of (after_pins c.args.net.now models
    c.args.kind c.as_slice-2.result.now (c.as_slice-2.ensures ∙ c.in_ok-items.ensures)))

pub returns-clause-there : goal.returns-clause-there
returns-clause-there c =
    let models = map seen_model c.args.models.now.items in
    let net = c.args.net.now in
    let rest = later_items net models c.args.kind in
    let seen = c.in_ok-vars.ensures ∙ ap vars_of (after_pins net models c.args.kind c.as_slice-2.result.now
    (c.as_slice-2.ensures ∙ c.in_ok-items.ensures)) in
    subst (λ (l : List Var). All (IsVar net models) l) (sym seen)
    (vars_there net models rest (later_there net models c.args.kind
    (length-map c.args.models.now.items seen_model ∙ c.requires.models.count)))
