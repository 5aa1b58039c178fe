use Rattle.std.proofs.Common.{arith}
use Rattle.svf_notes.specs.Most.{most_of_scan}
use Rattle.svf_notes.proofs.Lengths.{ten_digits}
use Rattle.svf_notes.proofs.most.scan_note_len_bound.Goals as goal

pub returns : goal.returns
unfolding most_of_scan
returns c =
    omega (
      arith,
      ten_digits c.args.device.now.ir (omega arith),
      ten_digits c.args.bits (omega arith),
      c.names_len_bound.ensures,
      c.saturating_add.ensures,
    )
