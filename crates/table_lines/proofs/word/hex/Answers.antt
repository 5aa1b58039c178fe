use Rattle.std.proofs.Common.{length, rules}
use Rattle.table_lines.proofs.Saying.{fewer_digits}
use Rattle.table_lines.proofs.word.hex.Goals as goal

pub returns-then-is_hex-clause-small : goal.returns-then-is_hex-clause-small
returns-then-is_hex-clause-small c =
    fewer_digits c.hex_number.result (length c.args.text.now) c.args.most c.hex_number.ensures.small
    (c.is_hex.ensures.few (search rules))
