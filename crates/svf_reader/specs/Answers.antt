-- What a call answers, against what is to be read.
use Rattle.std.specs.Prelude.{◌≡◌, ℕ, Bool, cond, List, Option, Result, Ok, Err}
use Rattle.svf_writer.specs.SeenCommands.{SeenScan}
use Rattle.svf_reader.specs.Commands.{Parts}
use Rattle.ij_text.specs.declared.Place.{Place}
use Rattle.svf_reader.specs.declared.fault.SvfFault.{SvfFault}
use Rattle.svf_reader.specs.declared.fault.SvfFault.TheVariants.{LeftOut as FaultLeftOut}
use Rattle.svf_reader.specs.declared.fault.SvfFault.TheVariants.{SvfSyntax as FaultSyntax}
use Rattle.svf_reader.specs.declared.fault.SvfFault.TheVariants.{SvfLimit as FaultLimit, HexWide as FaultWide}
use Rattle.svf_reader.specs.declared.fault.SvfFault.TheVariants.{TdiMissing as FaultNoTdi}
use Rattle.svf_reader.specs.declared.fault.SvfFault.TheVariants.{OutOfMemory as FaultOutOfMemory}
use Rattle.svf_reader.specs.declared.fault.SvfCause.{SvfCause}
use Rattle.svf_reader.specs.declared.fault.SvfCause.TheVariants.{LeftOut as IsLeftOut, SvfSyntax as Syntax}
use Rattle.svf_reader.specs.declared.fault.SvfCause.TheVariants.{SvfLimit as Limit, HexWide as Wide}
use Rattle.svf_reader.specs.declared.fault.SvfCause.TheVariants.{TdiMissing as NoTdi, OutOfMemory}
use Rattle.svf_reader.specs.Meaning.{Cause, LeftOut, SvfSyntax, SvfLimit, HexWide, TdiMissing, part_wide}
use Rattle.svf_reader.specs.Meaning.{part_of, svf}
use Rattle.ij_text.specs.Places.{place_at}

-- the cause, unless memory ran out
abbrev pub Fails : {Y : Type 0} → SvfCause → Result Y Cause → Type 0
Fails (IsLeftOut word) read = read ≡ Err (LeftOut word.items)
Fails Syntax read = read ≡ Err SvfSyntax
Fails Limit read = read ≡ Err SvfLimit
Fails Wide read = read ≡ Err HexWide
Fails NoTdi read = read ≡ Err TdiMissing
Fails OutOfMemory read = Unit {0}

-- a call answers what is to be read, unless memory runs out
abbrev pub Gives : {X Y : Type 0} → (X → Y) → Result X SvfCause → Result Y Cause → Type 0
Gives view (Ok x) read = read ≡ Ok (view x)
Gives view (Err e) read = Fails e read

-- ---- scans, part after part

abbrev pub and_part : {X : Type 0} → Result (Option (List Bool)) Cause
    → (Option (List Bool) → Result X Cause) → Result X Cause
and_part (Ok part) next = next part
and_part (Err cause) next = Err cause

unfoldable pub part_value : ℕ → Option (List ℕ) → Result (Option (List Bool)) Cause
part_value len digits = cond (part_wide len digits) (Err HexWide) (Ok (part_of len digits))

unfoldable pub scan_value : ℕ → Parts → Result SeenScan Cause
scan_value len p =
    and_part (part_value len p.tdi) (λ tdi. and_part (part_value len p.tdo)
    (λ tdo. and_part (part_value len p.mask) (λ mask. and_part (part_value len p.smask) (λ smask.
    Ok (record { len = len; tdi = tdi; tdo = tdo; mask = mask; smask = smask })))))

-- ---- places

-- a text is refused for this cause, at the place of a command's first byte
abbrev pub IsRefused : List ℕ → Cause → Place → Type 0
IsRefused src cause at = (start : ℕ)
    × (svf src ≡ Err (record { cause = cause; start = start })) × (at ≡ place_at src start)

abbrev pub Refuses : List ℕ → SvfFault → Type 0
Refuses src (FaultLeftOut at word) = IsRefused src (LeftOut word.items) at
Refuses src (FaultSyntax at) = IsRefused src SvfSyntax at
Refuses src (FaultLimit at) = IsRefused src SvfLimit at
Refuses src (FaultWide at) = IsRefused src HexWide at
Refuses src (FaultNoTdi at) = IsRefused src TdiMissing at
Refuses src FaultOutOfMemory = Unit {0}

-- the cause with a place
abbrev pub AtPlace : SvfCause → Place → SvfFault → Type 0
AtPlace (IsLeftOut word) at fault = fault ≡ FaultLeftOut at word
AtPlace Syntax at fault = fault ≡ FaultSyntax at
AtPlace Limit at fault = fault ≡ FaultLimit at
AtPlace Wide at fault = fault ≡ FaultWide at
AtPlace NoTdi at fault = fault ≡ FaultNoTdi at
AtPlace OutOfMemory at fault = fault ≡ FaultOutOfMemory
