use Rattle.std.proofs.Common.{◌++◌, ℕ, List, [], codes, cond, ap, ◌∙◌, map}
use Rattle.std.specs.List.{flat_map}
use Rattle.bench_report.specs.Report.{chip_of}
use Rattle.instruments.specs.Seen.{seen_model}
use Rattle.net_wave.specs.Changes.{later_changes, pin_digits, pins_text}
use Rattle.net_wave.specs.Left.{told_of}
use Rattle.net_wave.specs.Moments.{change_text, falling, moment_text}
use Rattle.net_wave.specs.Values.{bits_digits, values}
use Rattle.net_wave.proofs.Joined.{five}
use Rattle.net_wave.proofs.PinTexts.{falling_is, instruction_told, others_told, values_are}
use Rattle.net_wave.proofs.moments.add_falling.Goals as goal

pub add_pins-requires-clause-known : goal.add_pins-requires-clause-known
add_pins-requires-clause-known c = λ e.
    let b = c.args.scene.now.bench.now in
    instruction_told (chip_of b) (map seen_model c.args.scene.now.models.now.items) c.args.vars.now
    c.args.last.now c.args.instruction.now.items
    (told_of c.args.told.now.items) b.state (c.requires.known e)

pub add_changes-requires-clause-known : goal.add_changes-requires-clause-known
add_changes-requires-clause-known c = λ e.
    let b = c.args.scene.now.bench.now in
    others_told (chip_of b) (map seen_model c.args.scene.now.models.now.items) c.args.vars.now c.args.last.now
    c.args.instruction.now.items (told_of c.args.told.now.items) b.state (c.requires.known e)

pub returns-clause-told : goal.returns-clause-told
returns-clause-told c =
    let b = c.args.scene.now.bench.now in
    let chip = chip_of b in
    let models = map seen_model c.args.scene.now.models.now.items in
    ap (λ (i : List ℕ). pin_digits c.args.now.now i ++ told_of c.add_changes.new.told.items)
    c.in_ok-add_pins.ensures.told
    ∙ ap (λ (l : List (List ℕ)). pin_digits c.args.now.now (bits_digits b.state.ir_hold) ++ l)
    c.in_ok-add_changes.ensures.told
    ∙ values_are chip models c.args.vars.now c.args.scene.now.pins b.state c.args.now.now c.requires.now

pub returns-clause-text : goal.returns-clause-text
returns-clause-text c =
    let b = c.args.scene.now.bench.now in
    let first = c.args.first in
    let chip = chip_of b in
    let models = map seen_model c.args.scene.now.models.now.items in
    let told = told_of c.args.told.now.items in
    let was = c.args.instruction.now.items in
    let is = bits_digits b.state.ir_hold in
    let now = values chip models c.args.vars.now c.args.scene.now.pins b.state in
    five c.args.piece.now c.add.new.piece c.add_words_if.new.piece c.add_pins.new.piece
    c.add_changes.new.piece c.add_words_if-2.new.piece
    c.args.digits.now (cond first (codes "\n$dumpvars") [])
    (pins_text first c.args.last.now c.args.now.now was is)
    (flat_map change_text (later_changes first told now)) (cond first (codes "$end\n") [])
    c.in_ok-add.ensures c.in_ok-add_words_if.ensures c.in_ok-add_pins.ensures.text
    c.in_ok-add_changes.ensures.text c.in_ok-add_words_if-2.ensures
    ∙ ap (λ (l : List ℕ). c.args.piece.now ++ l) (falling_is first c.args.clock c.args.last.now c.args.now.now
    was is told now c.args.digits.now c.requires.digits)
    ∙ ap (λ (l : List (List ℕ)). c.args.piece.now
    ++ moment_text (falling first c.args.clock (pin_digits c.args.last.now was ++ told) l))
    (values_are chip models c.args.vars.now c.args.scene.now.pins b.state c.args.now.now c.requires.now)
