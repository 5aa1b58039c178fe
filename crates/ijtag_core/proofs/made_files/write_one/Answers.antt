use Rattle.std.proofs.Common.{◌∙◌, subst, ℕ, List}
use Rattle.ij_io.specs.Causes.{Rose}
use Rattle.ijtag_core.specs.Files.{seen_file}
use Rattle.ijtag_core.proofs.Exits.{write_stops}
use Rattle.ijtag_core.proofs.made_files.write_one.Goals as goal

-- ---- it is written

pub returns-in-Ok-clause-whole : goal.returns-in-Ok-clause-whole
returns-in-Ok-clause-whole g c =
    rw (← (c.as_str.ensures.value ∙ c.in_ok-name.ensures)) c.in-Ok.ensures.whole

pub returns-in-Ok-clause-others : goal.returns-in-Ok-clause-others
returns-in-Ok-clause-others g c =
    rw (← (c.as_str.ensures.value ∙ c.in_ok-name.ensures)) c.write_file.ensures.others

pub returns-in-Ok-clause-stores : goal.returns-in-Ok-clause-stores
returns-in-Ok-clause-stores g c =
    rw (← (c.as_str.ensures.value ∙ c.in_ok-name.ensures))
    (λ other none. c.write_file.ensures.cause.others other none.0)

-- ---- it is refused

pub returns-clause-part : goal.returns-clause-part
returns-clause-part g c =
    rw (← (c.as_str.ensures.value ∙ c.in_ok-name.ensures)) c.in-Err.ensures.part

pub returns-clause-others : goal.returns-clause-others
returns-clause-others g c =
    rw (← (c.as_str.ensures.value ∙ c.in_ok-name.ensures)) c.write_file.ensures.others

pub returns-clause-stop : goal.returns-clause-stop
returns-clause-stop g c =
    let before = g.S.Shelf.store_faults c.args.shelf.now in
    let now = g.S.Shelf.store_faults c.write_file.new.shelf in
    write_stops (seen_file c.args.file.now).name before now c.in-Err.fault c.of_made.ensures
    (λ failed. subst (λ (n : List ℕ). Rose (before n) (now n)) (c.as_str.ensures.value ∙ c.in_ok-name.ensures)
    (c.in-Err.ensures.cause.failed failed))

pub returns-clause-stores : goal.returns-clause-stores
returns-clause-stores g c =
    rw (← (c.as_str.ensures.value ∙ c.in_ok-name.ensures))
    (λ other none. c.write_file.ensures.cause.others other none.0)
