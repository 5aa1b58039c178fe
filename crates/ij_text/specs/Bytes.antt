-- Classes of bytes that several formats have.
use Rattle.std.specs.Prelude.{ℕ, ◌==◌, Bool, ◌||◌}

-- spaces, tabs and carriage returns
abbrev pub is_line_blank : ℕ → Bool
is_line_blank b = b == 32 || (b == 9 || b == 13)

-- spaces, tabs and line ends
abbrev pub is_blank : ℕ → Bool
is_blank b = b == 32 || (b == 9 || (b == 10 || b == 13))
