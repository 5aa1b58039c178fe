use Rattle.std.proofs.Common.{◌≡◌, ℕ, length, map, ap, arith}
use Rattle.instruments.specs.Seen.{seen_model}
use Rattle.svf_notes.specs.Most.{most_of}
use Rattle.svf_notes.proofs.Longest.{explained_short}
use Rattle.svf_notes.proofs.most.explained_len_bound.Goals as goal

pub returns : goal.returns
returns c =
    let a = c.args in
    let short = explained_short a.net.now a.device.now
    (map seen_model a.models.now.items) a.commands.now a.src.now c.in_ok-name.name c.requires.well_formed
    c.len-count.ensures.fits c.requires.scans c.in_ok-name.ensures in
    let regs : c.from.result ≡ length a.net.now.regs.items =
    omega (arith, c.from.ensures, c.register_count-count.ensures) in
    let same = ap (λ (n : ℕ). most_of a.device.now n c.in_ok-name.name a.commands.now) regs in
    omega (arith, short, same, c.notes_len_bound-notes.ensures, c.saturating_add.ensures)
