use Rattle.std.proofs.Common.{◌+◌, ◌-◌, length, false, ap, sym, ◌∙◌}
use Rattle.ij_text.specs.Places.{place_at}
use Rattle.svf_reader.proofs.Cuts.{blanks_are}
use Rattle.svf_reader.proofs.reading.command_place.Goals as goal

pub returns : goal.returns
returns c =
    c.place_at.ensures
    ∙ ap (λ n. place_at c.args.src.now (length c.args.src.now - c.args.left + n))
    (c.run_len.ensures.value ∙ sym (blanks_are false c.args.text.now))
