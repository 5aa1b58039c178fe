-- Bytes that the reader passes without a second look, outside of comments.
use Rattle.std.specs.Prelude.{ℕ, ◌==◌, nat_le, nat_lt, Bool, false, not, ◌&&◌, ◌||◌}
use Rattle.ij_text.specs.Bytes.{is_blank}
use Rattle.svf_reader.specs.Texts.{is_parenthesis}
use Rattle.svf_reader.specs.declared.bytes.Class.{Class}
use Rattle.svf_reader.specs.declared.bytes.Class.TheVariants.{Gap, Word, Run, Command}

-- surely of a class, and nothing that begins a comment: `0` (48) or later in words and runs; in commands
-- neither `;` (59) nor `!` (33) nor `/` (47)
abbrev pub is_passed : Class → ℕ → Bool
is_passed Gap b = false
is_passed Word b = nat_le 48 b
is_passed Run b = nat_le 48 b
is_passed Command b = not (b == 59) && (not (b == 33) && not (b == 47))

-- surely not of a class, and nothing that begins a comment
abbrev pub is_end : Class → ℕ → Bool
is_end Gap b = false
is_end Word b = is_blank b || is_parenthesis b
is_end Run b = is_blank b
is_end Command b = b == 59

-- neither blank nor `!` nor `/`
abbrev pub ends_gap : ℕ → Bool
ends_gap b = nat_lt 33 b && not (b == 47)
