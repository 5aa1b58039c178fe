-- The instruction that Test-Logic-Reset selects isn't the link's.
use Rattle.std.proofs.Common.{◌≡◌, ℕ, zero, suc, ◌+◌, ◌^◌, Bool, true, false, List, Option, Some, None, arith}
use Rattle.std.proofs.Common.{refl, ap, sym, ◌∙◌}
use Rattle.std.specs.Prelude.{replicate}
use Rattle.std.proofs.Math.Nat.{pow-suc}
use Rattle.std.proofs.lemmas.Bool.{false_from_ne_true}
use Rattle.ij_bits.specs.BitLists.{bits_eq, bits_of, number_of}
use Rattle.net_graph.specs.declared.device.Device.{Device}
use Rattle.net_graph.specs.Devices.{IsIdentity, IsDevice}
use Rattle.net_bench.specs.Instruction.{reset_instruction, ones}
use Rattle.svf_audit.proofs.Telling.{equal_lists}
use Rattle.ij_bits.proofs.Hex.{number_of-bits_of}

ones_number : (w : ℕ) → number_of (replicate w true) + 1 ≡ 2 ^ w
ones_number zero = refl
ones_number (suc w) = omega (arith, ones_number w, pow-suc 2 w)

module _ (device : Device) (d : IsDevice device) where
  abbrev opcode : List Bool
  opcode = bits_of device.ir device.opcode

  opcode_is : number_of opcode ≡ device.opcode
  opcode_is = number_of-bits_of device.ir device.opcode d.link.fits

  not_ones : bits_eq (ones device.ir) opcode ≡ true → ⊥
  not_ones e =
      let same : number_of (ones device.ir)
      ≡ number_of opcode = ap number_of (equal_lists (ones device.ir) opcode e) in
      d.link.not_bypass (omega (arith, same, opcode_is, ones_number device.ir))

  not_link : (o : Option (ℕ × ℕ)) → IsIdentity device.ir device.opcode o
      → bits_eq (elim o [ Some id ↦ bits_of device.ir id.1 | None ↦ ones device.ir ]) opcode ≡ true → ⊥
  not_link None i e = not_ones e
  not_link (Some id) i e =
      let same : number_of (bits_of device.ir id.1)
      ≡ number_of opcode = ap number_of (equal_lists (bits_of device.ir id.1) opcode e) in
      i.2 (sym (number_of-bits_of device.ir id.1 i.1.fits) ∙ same ∙ opcode_is)

  pub reset_unlinked : bits_eq (reset_instruction device) opcode ≡ false
  reset_unlinked =
      false_from_ne_true (bits_eq (reset_instruction device) opcode) (not_link device.idcode d.identity)
