-- What the instruction register selects, captures and takes at reset (IEEE 1149.1-2013, clauses 7, 8, 10 and
-- 12: instruction register, BYPASS and IDCODE, bypass register, device identification register).
use Rattle.std.specs.Prelude.{ℕ, zero, suc, Bool, true, false, List, [], ◌∷◌, replicate, Some, None}
use Rattle.ij_bits.specs.BitLists.{bits_eq, bits_of}
use Rattle.net_graph.specs.declared.device.Device.{Device}

-- what the instruction selects
pub data Selected : Type 0 where
  Network Identity Bypass : Selected

abbrev pub ones : ℕ → List Bool
ones n = replicate n true

-- the instruction that Test-Logic-Reset selects
abbrev pub reset_instruction : Device → List Bool
reset_instruction device = elim device.idcode [ Some id ↦ bits_of device.ir id.1 | None ↦ ones device.ir ]

-- the identity register captures the device's value
abbrev pub identity_value : Device → List Bool
identity_value device = elim device.idcode [ Some id ↦ bits_of 32 id.0 | None ↦ bits_of 32 0 ]

abbrev pub selects_identity : Device → List Bool → Bool
selects_identity device ir =
    elim device.idcode [ Some id ↦ bits_eq ir (bits_of device.ir id.1) | None ↦ false ]

-- the link's opcode selects the network, the identity opcode the identity register, every other value bypass
abbrev pub selected : Device → List Bool → Selected
selected device ir =
    elim (bits_eq ir (bits_of device.ir device.opcode)) [
      | true ↦ Network
      | false ↦ elim (selects_identity device ir) [ true ↦ Identity | false ↦ Bypass ]
    ]

-- Capture-IR loads 1 at position 0 and 0 elsewhere
abbrev pub capture_ir : ℕ → List Bool
capture_ir zero = []
capture_ir (suc n) = true ∷ replicate n false
