use Rattle.std.proofs.Common.{◌∙◌, subst, ℕ, List}
use Rattle.ij_io.specs.Causes.{Rose}
use Rattle.ijtag_work.specs.Order.{written_text}
use Rattle.ijtag_work.specs.Seen.{seen_made_name}
use Rattle.ijtag_work.specs.Using.{seen_accepted}
use Rattle.ijtag_core.proofs.Exits.{svf_stops}
use Rattle.ijtag_core.proofs.made_svf.write_svf.Goals as goal

-- ---- it is written

pub returns-in-Ok-clause-whole : goal.returns-in-Ok-clause-whole
returns-in-Ok-clause-whole g c =
    rw (← (c.as_str.ensures.value ∙ c.in_ok-text.ensures)) c.in-Ok.ensures.whole

pub returns-in-Ok-clause-others : goal.returns-in-Ok-clause-others
returns-in-Ok-clause-others g c =
    rw (← (c.as_str.ensures.value ∙ c.in_ok-text.ensures)) c.write_commands.ensures.others

pub returns-in-Ok-clause-stores : goal.returns-in-Ok-clause-stores
returns-in-Ok-clause-stores g c =
    rw (← (c.as_str.ensures.value ∙ c.in_ok-text.ensures))
    (λ other none. c.write_commands.ensures.cause.others other none.0)

-- ---- it is refused

pub returns-clause-part : goal.returns-clause-part
returns-clause-part g c =
    rw (← (c.as_str.ensures.value ∙ c.in_ok-text.ensures)) c.in-Err.ensures.part

pub returns-clause-others : goal.returns-clause-others
returns-clause-others g c =
    rw (← (c.as_str.ensures.value ∙ c.in_ok-text.ensures)) c.write_commands.ensures.others

pub returns-clause-stop : goal.returns-clause-stop
returns-clause-stop g c =
    let before = g.S.Shelf.store_faults c.args.shelf.now in
    let now = g.S.Shelf.store_faults c.write_commands.new.shelf in
    svf_stops (written_text (seen_accepted c.args.it.now)) (seen_made_name c.args.name) before now
    c.in-Err.fault c.of_made.ensures c.in-Err.ensures.text
    (λ failed. subst (λ (n : List ℕ). Rose (before n) (now n)) (c.as_str.ensures.value ∙ c.in_ok-text.ensures)
    (c.in-Err.ensures.cause.failed failed))

pub returns-clause-stores : goal.returns-clause-stores
returns-clause-stores g c =
    rw (← (c.as_str.ensures.value ∙ c.in_ok-text.ensures))
    (λ other none. c.write_commands.ensures.cause.others other none.0)
