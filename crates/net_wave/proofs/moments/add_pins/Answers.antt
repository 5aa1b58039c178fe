use Rattle.std.proofs.Common.{◌≡◌, false, [], ◌∷◌, ap, sym, ◌∙◌, arith, map}
use Rattle.bench_report.specs.Report.{chip_of}
use Rattle.instruments.specs.Seen.{seen_model}
use Rattle.net_wave.specs.declared.shown.Shown.{Shown}
use Rattle.net_wave.specs.declared.var.Var.TheVariants.{Instruction, Tms}
use Rattle.net_wave.specs.Changes.{fall_text, may_change, scan_text, shown_at, told_if}
use Rattle.net_wave.specs.Values.{bits_digits}
use Rattle.net_wave.proofs.Joined.{three}
use Rattle.net_wave.proofs.Staying.{told_stays}
use Rattle.net_wave.proofs.moments.add_pins.Goals as goal

pub add_var-requires-clause-stays : goal.add_var-requires-clause-stays
add_var-requires-clause-stays c = λ first same.
    let b = c.args.scene.now.bench.now in
    let chip = chip_of b in
    let p = c.args.scene.now.pins in
    let stays : may_change c.args.last.now (shown_at chip p b.state) Instruction
    ≡ false = ap (λ (x : Shown). may_change c.args.last.now x Instruction) (sym c.requires.now)
    ∙ (sym c.may_change-loads.ensures ∙ same) in
    told_stays chip (map seen_model c.args.scene.now.models.now.items) (Instruction ∷ [])
    (c.args.instruction.now.items ∷ []) c.args.last.now p b.state 0 Tms
    (c.requires.known first) (omega arith) stays

pub returns-clause-text : goal.returns-clause-text
returns-clause-text c =
    let bits = bits_digits c.args.scene.now.bench.now.state.ir_hold in
    three c.args.piece.now c.add_levels.new.piece c.add_var.new.piece c.add_scan.new.piece
    (fall_text c.args.first c.args.last.now c.args.now.now)
    (told_if c.args.first 7 c.args.instruction.now.items bits)
    (scan_text c.args.first c.args.last.now c.args.now.now)
    c.in_ok-add_levels.ensures c.in_ok-add_var.ensures.text c.in_ok-add_scan.ensures
