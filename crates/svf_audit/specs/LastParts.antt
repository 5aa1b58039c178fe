-- What a scan of a kind leaves for the next one, by the commands that it is in.
use Rattle.std.specs.Prelude.{◌≡◌, ℕ, Bool, true, List, [], length, replicate, Option, option_map, unwrap_or}
use Rattle.svf_writer.specs.Fits.{HasLength}
use Rattle.svf_writer.specs.Lent.{lent}
use Rattle.svf_audit.specs.declared.last_parts.LastParts.{LastParts}
use Rattle.tap_machine.specs.Play.{LastScan, expected}

abbrev pub seen_tdi : LastParts → List Bool
seen_tdi k = unwrap_or (lent k.tdi) []

abbrev pub seen_last : LastParts → LastScan
seen_last k =
    record { len = k.len; tdi = seen_tdi k; mask = unwrap_or (lent k.mask) (replicate k.len true) }

-- the length of that scan, where there was one
abbrev pub last_length : LastParts → Option ℕ
last_length k = option_map (λ b. k.len) k.tdi

-- its bits have its length
pub record AreLastParts (k : LastParts) : Type 0 where
  pub tdi : length (seen_tdi k) ≡ k.len
  pub mask : HasLength k.len (lent k.mask)

-- what is expected at each position of that scan, by its TDO
abbrev pub looked_for : LastParts → Option (List Bool) → List (Option Bool)
looked_for k tdo = expected k.len tdo (seen_last k).mask
