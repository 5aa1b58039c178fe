-- Parts of scans that are lent where they are in their commands.
use Rattle.std.specs.Prelude.{Bool, List, [], Option, option_map, unwrap_or}
use Rattle.std.specs.Borrow.{Bor}

-- bits that were lent
abbrev pub lent : Option (Bor (Option (List Bool))) → Option (List Bool)
lent bits = option_map (λ b. unwrap_or b.now []) bits
