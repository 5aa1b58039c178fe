use Rattle.std.proofs.Common.{map, ap, sym, ◌∙◌, ◌++◌}
use Rattle.ij_text.specs.Numbering.{number_in}
use Rattle.pdl_parser.specs.Views.{bytes_of}
use Rattle.pdl_expand.specs.Values.{cells_of}
use Rattle.pdl_expand.specs.Expansion.{but_last, cell, dotted, dotted_paths}
use Rattle.pdl_expand.proofs.Walking.{dotted-append}
use Rattle.pdl_targets.proofs.things.cell_of.Goals as goal

pub returns : goal.returns
returns c =
    let cells = cells_of c.args.net.now in
    let own = (cell cells c.args.node).path in
    let front = but_last (map bytes_of c.args.path.now) in
    let here = c.in_ok-key.ensures ∙ ap (λ l. l ++ dotted (map bytes_of c.path_of.result.now)) c.new.ensures
    ∙ ap dotted c.path_of.ensures in
    let key =
    c.in_ok-key-2.ensures
    ∙ ap (λ l. l ++ dotted (map bytes_of c.names_before.result.now)) here
    ∙ ap (λ l. dotted own ++ dotted l) c.names_before.ensures
    ∙ sym (dotted-append own front) in
    c.find.ensures.number ∙ ap (λ l. number_in l c.in_ok-key-2.key.items) c.requires.cells
    ∙ ap (number_in (dotted_paths cells)) key
