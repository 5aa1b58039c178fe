-- Devices that can carry a network: an instruction register of 2 to 64 bits whose opcodes fit into it, and in
-- which the access link, the identity register and bypass have opcodes of their own (IEEE 1149.1-2013, clause
-- 8: all ones is BYPASS; IEEE 1687-2014: access link).
use Rattle.std.specs.Prelude.{◌≢◌, ◌<◌, ◌≤◌, ◌-◌, ◌^◌, ℕ, Option, Some, None}
use Rattle.net_graph.specs.declared.device.Device.{Device}

-- an opcode of an instruction register of this many bits that isn't BYPASS
pub record IsOpcode (ir opcode : ℕ) : Type 0 where
  pub fits : opcode < 2 ^ ir
  pub not_bypass : opcode ≢ 2 ^ ir - 1

-- the value of the identity register and its opcode, beside the link's
abbrev pub IsIdentity : ℕ → ℕ → Option (ℕ × ℕ) → Type 0
IsIdentity ir link None = Unit {0}
IsIdentity ir link (Some identity) = (identity.0 < 2 ^ 32) × IsOpcode ir identity.1 × (identity.1 ≢ link)

pub record IsDevice (device : Device) : Type 0 where
  pub two_bits : 2 ≤ device.ir
  pub bits_within_limit : device.ir ≤ 64
  pub link : IsOpcode device.ir device.opcode
  pub identity : IsIdentity device.ir device.opcode device.idcode
