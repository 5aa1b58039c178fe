use Rattle.std.proofs.Common.{◌∙◌}
use Rattle.design_maker.proofs.Drawn.{drawn_is, icl_is, pdl_is, tables_are}
use Rattle.design_maker.proofs.texts.make.Goals as goal

pub returns-clause-icl : goal.returns-clause-icl
returns-clause-icl c =
    let a = c.args in
    let xs = c.in_ok-instruments.instruments.items in
    let g = c.draw_instruments.new.g in
    c.in_ok-icl.ensures ∙ icl_is xs g a.seed a.size (drawn_is xs g c.generator-g.result a.seed a.size
    c.in_ok-instruments.ensures.drawn c.generator-g.ensures)

pub returns-clause-pdl : goal.returns-clause-pdl
returns-clause-pdl c =
    let a = c.args in
    let xs = c.in_ok-instruments.instruments.items in
    let g = c.draw_instruments.new.g in
    c.in_ok-pdl.ensures ∙ pdl_is xs g a.seed a.size (drawn_is xs g c.generator-g.result a.seed a.size
    c.in_ok-instruments.ensures.drawn c.generator-g.ensures)

pub returns-clause-tables : goal.returns-clause-tables
returns-clause-tables c =
    let a = c.args in
    let xs = c.in_ok-instruments.instruments.items in
    let g = c.draw_instruments.new.g in
    c.in_ok-tables.ensures ∙ tables_are xs g a.seed a.size (drawn_is xs g c.generator-g.result a.seed a.size
    c.in_ok-instruments.ensures.drawn c.generator-g.ensures)
