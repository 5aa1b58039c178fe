-- The scans that are read of a text have bits.
use Rattle.std.proofs.Common.{◌≡◌, ℕ, Bool, Option, Some, None, List, [], ◌∷◌, length, ◌∙◌, arith}
use Rattle.std.specs.Prelude.{unwrap_or}
use Rattle.svf_writer.specs.Fits.{AreFitAfter, FitsAfter, HasLength, TakesTdi}
use Rattle.svf_writer.specs.SeenCommands.{SIR, SDR, Reset, Idle, Run, SeenCommand, SeenScan}
use Rattle.svf_reader.specs.Scripts.{ReadCommandsFit}
use Rattle.tap_machine.specs.Play.{LastScan, after_scan, no_scan, played}
use Rattle.svf_notes.specs.Laws.{HaveBits, ReadScansHaveBits}

-- what is kept of the last scan of a kind has its length
abbrev pub Keeps : Option ℕ → LastScan → Type 0
Keeps last k = (n : ℕ) → last ≡ Some n → length k.tdi ≡ n

pub as_many : (last : Option ℕ) (k : LastScan) (s : SeenScan) → Keeps last k
    → FitsAfter last s → length (played k s).tdi ≡ s.len
as_many last k s keeps fits = cases s.tdi fits.tdi fits.taken
  where
    cases : (tdi : Option (List Bool)) → HasLength s.len tdi
        → TakesTdi last tdi s.len → length (unwrap_or tdi k.tdi) ≡ s.len
    cases None has takes = keeps s.len takes
    cases (Some bits) has takes = has

pub keeps_now : (last : Option ℕ) (k : LastScan) (s : SeenScan) → Keeps last k
    → FitsAfter last s → Keeps (Some s.len) (after_scan k s)
keeps_now last k s keeps fits n is =
    let same : s.len ≡ n = cc in
    as_many last k s keeps fits ∙ same

have_bits : (i d : Option ℕ) (ir dr : LastScan) (cs : List SeenCommand) → Keeps i ir → Keeps d dr
    → AreFitAfter i d cs → HaveBits ir dr cs
have_bits i d ir dr [] ki kd fit = tt
have_bits i d ir dr (SIR s ∷ cs) ki kd fit = (
  omega (arith, as_many i ir s ki fit.0, fit.0.some),
  have_bits (Some s.len) d (after_scan ir s) dr cs (keeps_now i ir s ki fit.0) kd fit.1,
)
have_bits i d ir dr (SDR s ∷ cs) ki kd fit = (
  omega (arith, as_many d dr s kd fit.0, fit.0.some),
  have_bits i (Some s.len) ir (after_scan dr s) cs ki (keeps_now d dr s kd fit.0) fit.1,
)
have_bits i d ir dr (Reset ∷ cs) ki kd fit = have_bits i d ir dr cs ki kd fit
have_bits i d ir dr (Idle ∷ cs) ki kd fit = have_bits i d ir dr cs ki kd fit
have_bits i d ir dr (Run n ∷ cs) ki kd fit = have_bits i d ir dr cs ki kd fit

pub no_length : Keeps None no_scan
no_length n is = absurd (cc)

pub read_have_bits : ReadCommandsFit → ReadScansHaveBits
read_have_bits fit src commands is =
    have_bits None None no_scan no_scan commands no_length no_length (fit src commands is)
