use Rattle.std.proofs.Common.{sym, ◌∙◌}
use Rattle.svf_audit.proofs.Found.{rows_stay, shifted_shape}
use Rattle.svf_audit.proofs.registers.Registers.have_rows.Goals as goal

pub have_rows-requires-clause-holds : goal.have_rows-requires-clause-holds
have_rows-requires-clause-holds c = shifted_shape c.args.self.now c.requires.sound c.requires.shifted

pub returns-then-not-changes_select : goal.returns-then-not-changes_select
returns-then-not-changes_select c =
    let r = c.args.self.now in
    sym (sym (rows_stay r c.requires.shifted (sym c.changes_select.ensures ∙ c.if-not-changes_select.true))
    ∙ c.requires.listed c.if-self.true)
