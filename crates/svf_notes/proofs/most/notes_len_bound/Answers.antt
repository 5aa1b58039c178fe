use Rattle.std.proofs.Common.{◌≡◌, ◌<◌, ◌+◌, ◌∷◌, ℕ, suc, length, drop, ap, sym, ◌∙◌, arith}
use Rattle.std.proofs.Math.Seq.{drop-cons}
use Rattle.svf_writer.specs.SeenCommands.{SeenCommand, seen_command}
use Rattle.svf_notes.specs.Most.{most_of, most_of_command}
use Rattle.svf_notes.proofs.most.notes_len_bound.Goals as goal

pub loop-i-preserved : goal.loop-i-preserved
loop-i-preserved c =
    let i = c.loop-i.i in
    let cs = c.args.commands.now in
    let command = seen_command c.get.result.now in
    let inside : i < length cs = omega (arith, c.loop-i-test.true, c.len-i-end.ensures.count) in
    let rest = drop (suc i) cs in
    let next = drop-cons cs i command inside ∙ ap (λ (x : SeenCommand). x ∷ rest) (sym c.get.ensures) in
    let sum : most_of c.args.device.now c.args.regs c.args.name (drop i cs)
    ≡ most_of_command c.args.device.now c.args.regs c.args.name command
    + most_of c.args.device.now c.args.regs c.args.name rest =
    ap (most_of c.args.device.now c.args.regs c.args.name) next in
    let more : i + 1 ≡ suc i = omega arith in
    let same = ap (λ (n : ℕ). most_of c.args.device.now c.args.regs c.args.name (drop n cs)) more in
    omega (
      arith,
      c.loop-i.invariant,
      sum,
      same,
      c.saturating_add-sum.ensures,
      c.command_note_len_bound.ensures,
    )
