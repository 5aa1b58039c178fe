-- Scans part after part are those of the format.
use Rattle.std.proofs.Common.{◌≡◌, ℕ, Bool, true, false, cond, List, refl, ap, sym, ◌∙◌, Option, Result, Ok}
use Rattle.std.proofs.Common.{Err, nat_lt}
use Rattle.std.specs.Prelude.{◌||◌}
use Rattle.svf_writer.specs.SeenCommands.{SeenScan}
use Rattle.svf_reader.specs.declared.parsed.Register.{Register}
use Rattle.svf_reader.specs.declared.so_far.ReadSoFar.{ReadSoFar}
use Rattle.svf_reader.specs.Commands.{Parts}
use Rattle.svf_reader.specs.Meaning.{Cause, LeftOut, SvfSyntax, HexWide, SvfLimit, TdiMissing, Step}
use Rattle.svf_reader.specs.Meaning.{part_wide, part_of, any_wide, scan_with, last_length, tdi_missing}
use Rattle.svf_reader.specs.Meaning.{with_length, with_leaving_clock, scan_clocks, emit_within_clock_limit}
use Rattle.svf_reader.specs.Meaning.{scan_command, scanned}
use Rattle.svf_reader.specs.Answers.{Fails, and_part, part_value, scan_value}
use Rattle.svf_reader.specs.declared.fault.SvfCause.{SvfCause}
use Rattle.svf_reader.specs.declared.fault.SvfCause.TheVariants.{LeftOut as IsLeftOut, SvfSyntax as Syntax}
use Rattle.svf_reader.specs.declared.fault.SvfCause.TheVariants.{SvfLimit as Limit, HexWide as Wide}
use Rattle.svf_reader.specs.declared.fault.SvfCause.TheVariants.{TdiMissing as NoTdi, OutOfMemory}

wide_first : (a b c d : Bool) (p q r s : Option (List Bool)) (len : ℕ) →
    and_part (cond a (Err HexWide) (Ok p)) (λ tdi. and_part (cond b (Err HexWide) (Ok q)) (λ tdo. and_part
    (cond c (Err HexWide) (Ok r)) (λ mask. and_part (cond d (Err HexWide) (Ok s)) (λ smask.
    let x : Result SeenScan Cause =
    Ok (record { len = len; tdi = tdi; tdo = tdo; mask = mask; smask = smask }) in x))))
    ≡ cond (a || (b || (c || d))) (Err HexWide)
    (Ok (record { len = len; tdi = p; tdo = q; mask = r; smask = s }))
wide_first true b c d p q r s len = refl
wide_first false true c d p q r s len = refl
wide_first false false true d p q r s len = refl
wide_first false false false true p q r s len = refl
wide_first false false false false p q r s len = refl

pub scan_value_is : (len : ℕ) (p : Parts)
    → scan_value len p ≡ cond (any_wide len p) (Err HexWide) (Ok (scan_with len p))
unfolding scan_value part_value
scan_value_is len p =
    wide_first (part_wide len p.tdi) (part_wide len p.tdo) (part_wide len p.mask) (part_wide len p.smask)
    (part_of len p.tdi) (part_of len p.tdo) (part_of len p.mask) (part_of len p.smask) len

-- a scan by the value of its parts
scanned_on : (kept : ReadSoFar) (register : Register) (len : ℕ) (p : Parts) (wide : Bool)
    (v : Result SeenScan Cause) → any_wide len p ≡ wide
    → v ≡ cond wide (Err HexWide) (Ok (scan_with len p)) → nat_lt 65536 len ≡ false
    → scanned kept register len p
    ≡ (elim v as (λ _. Result Step Cause) [
      | Ok s ↦ cond (tdi_missing (last_length register kept) len p)
          (Err TdiMissing) (emit_within_clock_limit (with_length register len kept) false
          (with_leaving_clock kept (scan_clocks register len)) (scan_command register s))
      | Err e ↦ Err e
    ])
unfolding scanned
scanned_on kept register len p true v ew ev short =
    ap (λ b. cond b (Err SvfLimit)
    (cond (any_wide len p) (Err HexWide) (cond (tdi_missing (last_length register kept) len p)
    (Err TdiMissing) (emit_within_clock_limit (with_length register len kept) false (with_leaving_clock kept
    (scan_clocks register len)) (scan_command register (scan_with len p)))))) short
    ∙ ap (λ b. cond b (Err HexWide) (cond (tdi_missing (last_length register kept) len p) (Err TdiMissing)
    (emit_within_clock_limit (with_length register len kept) false
    (with_leaving_clock kept (scan_clocks register len)) (scan_command register (scan_with len p))))) ew
    ∙ ap (λ (v : Result SeenScan Cause). elim v as (λ _. Result Step Cause) [
      | Ok s ↦ cond (tdi_missing (last_length register kept) len p) (Err TdiMissing) (emit_within_clock_limit
          (with_length register len kept) false (with_leaving_clock kept (scan_clocks register len))
          (scan_command register s))
      | Err e ↦ Err e
    ]) (sym ev)
scanned_on kept register len p false v ew ev short =
    ap (λ b. cond b (Err SvfLimit)
    (cond (any_wide len p) (Err HexWide) (cond (tdi_missing (last_length register kept) len p)
    (Err TdiMissing) (emit_within_clock_limit (with_length register len kept) false (with_leaving_clock kept
    (scan_clocks register len)) (scan_command register (scan_with len p)))))) short
    ∙ ap (λ b. cond b (Err HexWide) (cond (tdi_missing (last_length register kept) len p) (Err TdiMissing)
    (emit_within_clock_limit (with_length register len kept) false
    (with_leaving_clock kept (scan_clocks register len)) (scan_command register (scan_with len p))))) ew
    ∙ ap (λ (v : Result SeenScan Cause). elim v as (λ _. Result Step Cause) [
      | Ok s ↦ cond (tdi_missing (last_length register kept) len p) (Err TdiMissing) (emit_within_clock_limit
          (with_length register len kept) false (with_leaving_clock kept (scan_clocks register len))
          (scan_command register s))
      | Err e ↦ Err e
    ]) (sym ev)

pub scanned_ok : (kept : ReadSoFar) (register : Register) (len : ℕ) (p : Parts) (s : SeenScan)
    → nat_lt 65536 len ≡ false → scan_value len p ≡ Ok s
    → scanned kept register len p ≡ cond (tdi_missing (last_length register kept) len p) (Err TdiMissing)
    (emit_within_clock_limit (with_length register len kept) false
    (with_leaving_clock kept (scan_clocks register len)) (scan_command register s))
scanned_ok kept register len p s short e =
    scanned_on kept register len p (any_wide len p) (Ok s) refl (sym e ∙ scan_value_is len p) short

pub scanned_err : (kept : ReadSoFar) (register : Register) (len : ℕ) (p : Parts) (cause : Cause)
    → nat_lt 65536 len ≡ false → scan_value len p ≡ Err cause → scanned kept register len p ≡ Err cause
scanned_err kept register len p cause short e =
    scanned_on kept register len p (any_wide len p) (Err cause) refl (sym e ∙ scan_value_is len p) short

pub fails_on : {X Y : Type 0} (e : SvfCause) (a : Result X Cause) (b : Result Y Cause) → Fails e a
    → ((cause : Cause) → a ≡ Err cause → b ≡ Err cause) → Fails e b
fails_on (IsLeftOut word) a b h next = next (LeftOut word.items) h
fails_on Syntax a b h next = next SvfSyntax h
fails_on Limit a b h next = next SvfLimit h
fails_on Wide a b h next = next HexWide h
fails_on NoTdi a b h next = next TdiMissing h
fails_on OutOfMemory a b h next = tt

-- where TDI is there
pub scanned_ok_at : (kept : ReadSoFar) (register : Register) (len : ℕ) (p : Parts) (s : SeenScan)
    (missing : Bool) → nat_lt 65536 len ≡ false → scan_value len p ≡ Ok s
    → tdi_missing (last_length register kept) len p ≡ missing
    → scanned kept register len p
    ≡ cond missing (Err TdiMissing) (emit_within_clock_limit (with_length register len kept) false
    (with_leaving_clock kept (scan_clocks register len)) (scan_command register s))
scanned_ok_at kept register len p s missing short e is =
    scanned_ok kept register len p s short e
    ∙ ap (λ b. cond b (Err TdiMissing) (emit_within_clock_limit (with_length register len kept) false
    (with_leaving_clock kept (scan_clocks register len)) (scan_command register s))) is
