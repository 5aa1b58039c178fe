use Rattle.std.proofs.Common.{◌≡◌, true, false, Some, ap, sym, ◌∙◌}
use Rattle.std.specs.Prelude.{is_some}
use Rattle.std.specs.Option.{option_map}
use Rattle.table_lines.specs.Reading.{texts}
use Rattle.ij_text.specs.Numbering.{number_in}
use Rattle.ij_text.specs.Parts.{split}
use Rattle.table_lines.specs.Said.{instrument}
use Rattle.instruments.specs.Seen.{seen_model}
use Rattle.table_file.proofs.Pathing.{taken, fresh}
use Rattle.table_file.proofs.blocks.new_block.Goals as goal

pub returns-then-branch-clause-value : goal.returns-then-branch-clause-value
returns-then-branch-clause-value c =
    let path = c.in-Some.path in
    let names = texts path.names.items in
    let said : instrument (texts c.args.words.now) ≡ Some names =
    sym c.in_ok-path.ensures.value ∙ ap (option_map (λ p. texts p.names.items)) c.in-Some.is in
    let pieces : names ≡ split 46 path.text.now = rw c.in-Some.is at c.in_ok-path.ensures.text in
    let there : is_some (number_in c.args.paths.now path.text.now)
    ≡ true = sym c.in_ok-insert_path.ensures.value ∙ c.if-branch.true in
    λ ts listed. taken c.args.at ts c.args.paths.now names path.text.now
    (instrument (texts c.args.words.now)) listed said pieces there

pub returns-clause-value : goal.returns-clause-value
returns-clause-value c =
    let path = c.in-Some.path in
    let names = texts path.names.items in
    let said : instrument (texts c.args.words.now) ≡ Some names =
    sym c.in_ok-path.ensures.value ∙ ap (option_map (λ p. texts p.names.items)) c.in-Some.is in
    let pieces : names ≡ split 46 path.text.now = rw c.in-Some.is at c.in_ok-path.ensures.text in
    let there : is_some (number_in c.args.paths.now path.text.now)
    ≡ false = sym c.in_ok-insert_path.ensures.value ∙ c.if-branch.false in
    λ ts listed. fresh c.args.at ts c.args.paths.now names _ path.text.now
    (instrument (texts c.args.words.now)) (seen_model c.empty_model.result) listed said pieces there
    (c.in_ok-names_of.ensures ∙ ap texts c.deref.ensures.value) c.empty_model.ensures
