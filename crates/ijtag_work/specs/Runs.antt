-- What a run of any command accepts, leaves and stops at: said once, of the command's task.
use Rattle.std.specs.Prelude.{◌≡◌, ◌⊎◌, ℕ, Bool, true, false, List, [], ◌∷◌, Option, Some, None, IsTrue}
use Rattle.std.specs.Prelude.{IfSome}
use Rattle.std.specs.Option.{option_map, option_map_or}
use Rattle.ij_io.specs.Bytes.{Adds, AddsPart}
use Rattle.ij_io.specs.Causes.{Rose}
use Rattle.ij_io.specs.Files.{Files, file_at}
use Rattle.retargeter.specs.Files.{HoldsPart}
use Rattle.ijtag_work.specs.Loads.{Load, loaded, loaded_one, names_of, IsOneOf, IsNoneOf}
use Rattle.ijtag_work.specs.Leaves.{Leaves, Written}
use Rattle.ijtag_stages.specs.Work.{IsDecided, IsTotal}
use Rattle.ijtag_work.specs.Task.{Task, work}
use Rattle.ijtag_stages.specs.Refusals.{Part, Refusal}
use Rattle.ijtag_work.specs.Accepted.{Texts, accepted_of}
use Rattle.ijtag_work.specs.Stops.{Stop, Usage, Refuses, ReadFault, WriteFault, OutputFault, NoMemory}
use Rattle.ijtag_work.specs.Stops.{IsUsage}
use Rattle.ijtag_work.specs.declared.status.Status.{Status}
use Rattle.ijtag_work.specs.declared.status.Status.TheVariants.{Good, Differs, Usage as UsageStatus, Refused}
use Rattle.ijtag_work.specs.declared.status.Status.TheVariants.{ReadFault as ReadStatus}
use Rattle.ijtag_work.specs.declared.status.Status.TheVariants.{WriteFault as WriteStatus, OutOfMemory}

-- ---- what a run leaves, of files and of an output that may be told or not

-- each of these files holds its bytes
abbrev pub AllHold : List Written → Option Files → Option Files → Type 0
AllHold [] old new = Unit {0}
AllHold (w ∷ ws) old new = (file_at new w.name ≡ option_map (λ _. Some w.bytes) old) × AllHold ws old new

-- each of these files is as before
abbrev pub AllStay : List Written → Option Files → Option Files → Type 0
AllStay [] old new = Unit {0}
AllStay (w ∷ ws) old new = (file_at new w.name ≡ file_at old w.name) × AllStay ws old new

-- files that are written in turn: those before are whole, one is as before or holds some first bytes, and
-- those after it are as before
abbrev pub HoldInTurn : List Written → Option Files → Option Files → Type 0
HoldInTurn [] old new = Unit {0}
HoldInTurn (w ∷ ws) old new =
    ((file_at new w.name ≡ option_map (λ _. Some w.bytes) old) × HoldInTurn ws old new)
    ⊎ (HoldsPart old new w.name w.bytes × AllStay ws old new)

-- no file changes but these
abbrev pub OnlyTheseChange : List (List ℕ) → Option Files → Option Files → Type 0
OnlyTheseChange [] old new = new ≡ old
OnlyTheseChange (name ∷ names) old new = (other : List ℕ)
    → IsNoneOf (name ∷ names) other → file_at new other ≡ file_at old other

-- what is seen of files and of an output
pub record Seen : Type 0 where
  pub files : Option Files
  pub printed : Option (List ℕ)

abbrev pub seen : {S O : Type 0} → (S → Option Files) → (O → Option (List ℕ)) → S → O → Seen
seen files taken shelf out = record { files = files shelf; printed = taken out }

-- all of what the work leaves is there
pub record IsDone (work : Part Leaves) (old new : Seen) (differs : Bool) : Type 0 where
  pub leaves : Leaves
  pub given : work.gives leaves
  pub files : AllHold leaves.files old.files new.files
  pub printed : Adds old.printed new.printed leaves.printed
  pub verdict : differs ≡ leaves.differs

-- nothing is, or a first part of it: the files come first, in their order, and nothing is printed before they
-- are whole
pub record IsBegun (work : Part Leaves) (old new : Seen) : Type 0 where
  pub leaves : Leaves
  pub given : work.gives leaves
  pub files : HoldInTurn leaves.files old.files new.files
  pub printed : AddsPart old.printed new.printed leaves.printed
  pub in_order : (new.printed ≡ old.printed) ⊎ AllHold leaves.files old.files new.files

-- a first part of the files that are written before the texts are accepted, which have these names, and of no
-- other file
pub record IsFirstBegun (first : Part (List Written)) (names : List (List ℕ)) (old new : Seen) : Type 0 where
  pub written : List Written
  pub given : first.gives written
  pub files : HoldInTurn written old.files new.files
  pub others : OnlyTheseChange names old.files new.files
  pub printed : new.printed ≡ old.printed

abbrev pub IsUnchanged : Seen → Seen → Type 0
IsUnchanged old new = (new.files ≡ old.files) × (new.printed ≡ old.printed)

abbrev pub IsPartDone : Option Files → Task → Seen → Seen → Type 0
IsPartDone files task old new = IsUnchanged old new
    ⊎ (IsBegun (work files task) old new ⊎ IsFirstBegun task.begins task.first_writes old new)

-- where a text is refused, the files that are written before, which have these names, stand whole, and no
-- other file changes; where there are none, nothing changes
pub record AreFirstWritten (first : Part (List Written))
    (names : List (List ℕ)) (old new : Option Files) : Type 0 where
  pub whole : (written : List Written) → first.gives written → AllHold written old new
  pub others : OnlyTheseChange names old new
  pub same : ((written : List Written) → first.gives written → ⊥) → new ≡ old

abbrev pub AreKept : {C : Type 0} → (C → Task) → Option C → Option Files → Option Files → Type 0
AreKept task None old new = new ≡ old
AreKept task (Some command) old new =
    AreFirstWritten (task command).begins (task command).first_writes old new

-- no count changes but those of these names
abbrev pub OnlyTheseRise : List (List ℕ) → (List ℕ → ℕ) → (List ℕ → ℕ) → Type 0
OnlyTheseRise names before now = (other : List ℕ) → IsNoneOf names other → now other ≡ before other

-- the text was added to a stream, or a first part of it where the stream's count of faults rose
abbrev pub Tells : {K : Type 0} → (K → Option (List ℕ)) → (K → ℕ) → K → K → List ℕ → Type 0
Tells taken faults old new text = Adds (taken old) (taken new) text
    ⊎ (AddsPart (taken old) (taken new) text × Rose (faults old) (faults new))

-- where there is a command, and the files are told
abbrev pub IfTold : {C : Type 0} → Option C → Option Files → (C → Files → Type 0) → Type 0
IfTold words files P = IfSome words (λ command. IfSome files (λ f. P command f))

-- the names of the files that a command loads, or of those that it writes, and whether it prints; without a
-- command none is
abbrev pub loads_in : {C : Type 0} → (C → Task) → Option C → List (List ℕ)
loads_in task words = option_map_or (λ command. names_of (task command).loads) words []

abbrev pub writes_in : {C : Type 0} → (C → Task) → Option C → List (List ℕ)
writes_in task words = option_map_or (λ command. (task command).writes) words []

abbrev pub prints_in : {C : Type 0} → (C → Task) → Option C → Bool
prints_in task words = option_map_or (λ command. (task command).prints) words false

-- ---- counts of faults, before a run and after it: of loads and of stores by name, and of the output

pub record Counts : Type 0 where
  pub load : List ℕ → ℕ
  pub load_now : List ℕ → ℕ
  pub store : List ℕ → ℕ
  pub store_now : List ℕ → ℕ
  pub output : ℕ
  pub output_now : ℕ

abbrev pub counts : {S O : Type 0} → (S → List ℕ → ℕ) → (S → List ℕ → ℕ) → (O → ℕ) → S → S → O → O → Counts
counts loads stores faults shelf shelf' out out' =
    record {
      load = loads shelf;
      load_now = loads shelf';
      store = stores shelf;
      store_now = stores shelf';
      output = faults out;
      output_now = faults out';
    }

-- a count of one of these names rose
abbrev pub SomeRose : List (List ℕ) → (List ℕ → ℕ) → (List ℕ → ℕ) → Type 0
SomeRose [] before now = ⊥
SomeRose (name ∷ names) before now = Rose (before name) (now name) ⊎ SomeRose names before now

-- of a file that the command loads, or of one that it writes or of the output that it prints on
abbrev pub LoadRose : Task → Counts → Type 0
LoadRose task c = SomeRose (names_of task.loads) c.load c.load_now

-- of a file that is written before the texts are accepted
abbrev pub FirstRose : Task → Counts → Type 0
FirstRose task c = SomeRose task.first_writes c.store c.store_now

abbrev pub WriteRose : Task → Counts → Type 0
WriteRose task c = SomeRose task.writes c.store c.store_now
    ⊎ (IsTrue task.prints × Rose c.output c.output_now)

-- ---- why a run stops short

abbrev pub IsAccepted : Option Files → Task → Type 0
IsAccepted files task = (leaves : Leaves) × (work files task).gives leaves

-- the files that are written before may be given
abbrev pub CanBegin : Task → Type 0
CanBegin task = (written : List Written) × task.begins.gives written

-- a file is written only where all is accepted, or where it is one of those that are written before
abbrev pub CanWrite : Option Files → Task → List ℕ → Type 0
CanWrite files task name = IsAccepted files task ⊎ (CanBegin task × IsOneOf task.first_writes name)

-- this file is one of those that are loaded in this order, and those before it may be given
abbrev pub IsReached : Option Files → List Load → List ℕ → Type 0
IsReached files [] name = ⊥
IsReached files (first ∷ loads) name = (name ≡ first.name)
    ⊎ (((text : List ℕ) × (loaded_one files first).gives text) × IsReached files loads name)

-- a load of this file failed
abbrev pub IsReadFault : Option Files → List Load → (List ℕ → ℕ) → (List ℕ → ℕ) → List ℕ → Type 0
IsReadFault files loads before now name = IsReached files loads name × Rose (before name) (now name)

-- a write failed of one of the files that the command writes, or of the output that it prints on
abbrev pub IsWriteStop : Task → Counts → Stop → Type 0
IsWriteStop task c (WriteFault name) = IsOneOf task.writes name × Rose (c.store name) (c.store_now name)
IsWriteStop task c OutputFault = IsTrue task.prints × Rose c.output c.output_now
IsWriteStop task c Usage = ⊥
IsWriteStop task c (Refuses refusal) = ⊥
IsWriteStop task c (ReadFault name) = ⊥
IsWriteStop task c NoMemory = ⊥

-- the first refusal of the command's work; or a load failed that was come to; or a write failed of what could
-- be written
abbrev pub IsStop : Option Files → Task → Counts → Stop → Type 0
IsStop files task c (Refuses refusal) = (work files task).refuses refusal
IsStop files task c (ReadFault name) = IsReadFault files task.loads c.load c.load_now name
IsStop files task c (WriteFault name) = CanWrite files task name × IsWriteStop task c (WriteFault name)
IsStop files task c OutputFault = IsAccepted files task × IsWriteStop task c OutputFault
IsStop files task c NoMemory = Unit {0}
IsStop files task c Usage = ⊥

-- without a command, only the words are at fault
abbrev pub IsRunStop : {C : Type 0} → (C → Task) → Option C → Option Files → Counts → Stop → Type 0
IsRunStop task None files c stop = IsUsage stop
IsRunStop task (Some command) files c stop = IsStop files (task command) c stop

-- ---- statuses

-- where all was written
abbrev pub status_if : Bool → Status
status_if false = Good
status_if true = Differs

-- the status, unless memory ran out
abbrev pub IsOrMemory : Status → Status → Type 0
IsOrMemory result status = (result ≡ status) ⊎ (result ≡ OutOfMemory)

-- nothing was begun but the files that a command writes first
abbrev pub IsEarlyStatus : Status → Type 0
IsEarlyStatus Good = ⊥
IsEarlyStatus Differs = ⊥
IsEarlyStatus UsageStatus = Unit {0}
IsEarlyStatus Refused = Unit {0}
IsEarlyStatus ReadStatus = Unit {0}
IsEarlyStatus WriteStatus = ⊥
IsEarlyStatus OutOfMemory = ⊥

-- a first part may be there
abbrev pub IsPartStatus : Status → Type 0
IsPartStatus Good = ⊥
IsPartStatus Differs = ⊥
IsPartStatus UsageStatus = ⊥
IsPartStatus Refused = ⊥
IsPartStatus ReadStatus = ⊥
IsPartStatus WriteStatus = Unit {0}
IsPartStatus OutOfMemory = Unit {0}

-- ---- the work of each command comes to one end at most

abbrev pub AreDecided : {C : Type 0} → (C → Task) → Type 0
AreDecided {C} task = (files : Files) (command : C) → IsDecided (work (Some files) (task command))

-- ---- and to one end at least: what is asked is done, or it meets a refusal

abbrev pub AreTotal : {C : Type 0} → (C → Task) → Type 0
AreTotal {C} task = (files : Files) (command : C) → IsTotal (work (Some files) (task command))

-- ---- and where it may leave one thing or another, all differ alike, and nothing is refused

pub record IsSettled (part : Part Leaves) : Type 0 where
  pub alike : (a b : Leaves) → part.gives a → part.gives b → a.differs ≡ b.differs
  pub apart : (a : Leaves) (r : Refusal) → part.gives a → part.refuses r → ⊥

abbrev pub AreSettled : {C : Type 0} → (C → Task) → Type 0
AreSettled {C} task = (files : Files) (command : C) → IsSettled (work (Some files) (task command))

-- ---- what comes before the work of a command that accepts texts: its loads, and what its texts are accepted
-- as, are one

abbrev pub LoadsAreDecided : Type 0
LoadsAreDecided = (files : Files) (loads : List Load) → IsDecided (loaded (Some files) loads)

abbrev pub TextsAreDecided : Type 0
TextsAreDecided = (texts : Option Texts) → IsDecided (accepted_of texts)
