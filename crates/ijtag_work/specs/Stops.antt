-- Why a run stops short, the line that it then prints on the error stream, and its status.
use Rattle.std.specs.Prelude.{ℕ, List, [], ◌∷◌, codes}
use Rattle.ij_io.specs.Bytes.{concat}
use Rattle.ijtag_stages.specs.Refusals.{Refusal, refusal_text}
use Rattle.ijtag_work.specs.declared.status.Status.{Status}
use Rattle.ijtag_work.specs.declared.status.Status.TheVariants.{Usage as UsageStatus, Refused}
use Rattle.ijtag_work.specs.declared.status.Status.TheVariants.{ReadFault as ReadStatus}
use Rattle.ijtag_work.specs.declared.status.Status.TheVariants.{WriteFault as WriteStatus}
use Rattle.ijtag_work.specs.declared.status.Status.TheVariants.{OutOfMemory as MemoryStatus}

pub data Stop : Type 0 where
  -- the words are no command
  Usage : Stop
  -- a file or a text is refused
  Refuses : (refusal : Refusal) → Stop
  -- a load of this file failed
  ReadFault : (name : List ℕ) → Stop
  -- a store under this name failed
  WriteFault : (name : List ℕ) → Stop
  -- a write of the output failed
  OutputFault : Stop
  -- there was no memory
  NoMemory : Stop

-- the status of a run that stops so
abbrev pub status_of : Stop → Status
status_of Usage = UsageStatus
status_of (Refuses refusal) = Refused
status_of (ReadFault name) = ReadStatus
status_of (WriteFault name) = WriteStatus
status_of OutputFault = WriteStatus
status_of NoMemory = MemoryStatus

-- a text and a name on a line of their own
abbrev pub named_line : List ℕ → List ℕ → List ℕ
named_line text name = concat (text ∷ name ∷ codes "\n" ∷ [])

-- the text that reports a stop, of a program with this usage text: one line, but for the usage
unfoldable pub stop_text : List ℕ → Stop → List ℕ
stop_text usage Usage = usage
stop_text usage (Refuses refusal) = refusal_text refusal
stop_text usage (ReadFault name) = named_line (codes "read fault ") name
stop_text usage (WriteFault name) = named_line (codes "write fault ") name
stop_text usage OutputFault = codes "write fault output\n"
stop_text usage NoMemory = codes "out of memory\n"

-- the usage text of `ijtag`
abbrev pub usage_text : List ℕ
usage_text = codes "usage: ijtag compile|play|run|direct|make|migrate|audit|muxtest\n"

-- a stop that comes only before something is written but the files that a command writes first
abbrev pub IsEarly : Stop → Type 0
IsEarly Usage = Unit {0}
IsEarly (Refuses refusal) = Unit {0}
IsEarly (ReadFault name) = Unit {0}
IsEarly (WriteFault name) = ⊥
IsEarly OutputFault = ⊥
IsEarly NoMemory = ⊥

abbrev pub IsUsage : Stop → Type 0
IsUsage Usage = Unit {0}
IsUsage (Refuses refusal) = ⊥
IsUsage (ReadFault name) = ⊥
IsUsage (WriteFault name) = ⊥
IsUsage OutputFault = ⊥
IsUsage NoMemory = ⊥
