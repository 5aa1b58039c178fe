-- The status of a run, from why it stopped short or what it left.
use Rattle.std.specs.Prelude.{IfSome}
use Rattle.std.proofs.Common.{◌≡◌, ◌⊎◌, inl, inr, ℕ, Bool, false, true, Option, Some, None, List, [], ◌∷◌}
use Rattle.std.proofs.Common.{refl, sym, ap, ◌∙◌, subst}
use Rattle.ij_io.specs.Causes.{Rose}
use Rattle.ij_io.specs.Files.{Files}
use Rattle.ijtag_work.specs.Loads.{Load, names_of, IsOneOf}
use Rattle.ijtag_work.specs.Leaves.{Leaves}
use Rattle.ijtag_work.specs.Task.{Task, work}
use Rattle.ijtag_stages.specs.Refusals.{Refusal}
use Rattle.ijtag_work.specs.Runs.{Counts, Seen, IsReached, SomeRose, LoadRose, FirstRose, WriteRose}
use Rattle.ijtag_work.specs.Runs.{IsWriteStop, IsRunStop, IsStop, IsDone, IsOrMemory, IfTold, AreSettled}
use Rattle.ijtag_work.specs.Runs.{IsSettled, status_if}
use Rattle.ijtag_work.specs.Stops.{Stop, Usage, Refuses, ReadFault, WriteFault, OutputFault, NoMemory}
use Rattle.ijtag_work.specs.Stops.{status_of}
use Rattle.ijtag_work.specs.declared.status.Status.{Status}
use Rattle.ijtag_work.specs.declared.status.Status.TheVariants.{Refused, OutOfMemory}

-- a count of one of some names rose
some_rose : (names : List (List ℕ)) (before now : List ℕ → ℕ) (name : List ℕ) → IsOneOf names name
    → Rose (before name) (now name) → SomeRose names before now
some_rose [] before now name is rose = absurd is
some_rose (n ∷ names) before now name is rose =
    elim is [
      | inl same ↦ inl (subst (λ (x : List ℕ). Rose (before x) (now x)) same rose)
      | inr later ↦ inr (some_rose names before now name later rose)
    ]

-- what is come to is loaded
is_loaded : (files : Option Files) (ls : List Load) (name : List ℕ)
    → IsReached files ls name → IsOneOf (names_of ls) name
is_loaded files [] name is = absurd is
is_loaded files (l ∷ ls) name is =
    elim is [ inl same ↦ inl same | inr later ↦ inr (is_loaded files ls name later.1) ]

write_rose : (t : Task) (c : Counts) (stop : Stop) → IsWriteStop t c stop → WriteRose t c
write_rose t c (WriteFault name) is = inl (some_rose t.writes c.store c.store_now name is.0 is.1)
write_rose t c OutputFault is = inr is
write_rose t c Usage is = absurd is
write_rose t c (Refuses refusal) is = absurd is
write_rose t c (ReadFault name) is = absurd is
write_rose t c NoMemory is = absurd is

-- what ends in want of memory, or so
or_memory : (result status : Status)
    → (result ≡ OutOfMemory) ⊎ (result ≡ OutOfMemory) → IsOrMemory result status
or_memory result status ends = elim ends [ inl own ↦ inr own | inr memory ↦ inr memory ]

-- a stop of what is accepted
accepted_stops : (files : Files) (t : Task) → IsSettled (work (Some files) t)
    → (c : Counts) (stop : Stop) (result : Status) (leaves : Leaves) → (work (Some files) t).gives leaves
    → (LoadRose t c → ⊥) → (WriteRose t c → ⊥)
    → IsStop (Some files) t c stop → IsOrMemory result (status_of stop)
    → IsOrMemory result (status_if leaves.differs)
accepted_stops files t settled c Usage result leaves given no_load no_write is ends = absurd is
accepted_stops files t settled c (Refuses refusal) result leaves given no_load no_write is ends =
    absurd (settled.apart leaves refusal given is)
accepted_stops files t settled c (ReadFault name) result leaves given no_load no_write is ends =
    absurd (no_load
    (some_rose (names_of t.loads) c.load c.load_now name (is_loaded (Some files) t.loads name is.0) is.1))
accepted_stops files t settled c (WriteFault name) result leaves given no_load no_write is ends =
    absurd (no_write (write_rose t c (WriteFault name) is.1))
accepted_stops files t settled c OutputFault result leaves given no_load no_write is ends =
    absurd (no_write (write_rose t c OutputFault is.1))
accepted_stops files t settled c NoMemory result leaves given no_load no_write is ends =
    or_memory result (status_if leaves.differs) ends

pub complete_stop : {C : Type 0} (task : C → Task) → AreSettled task
    → (words : Option C) (files : Option Files) (c : Counts) (stop : Stop) (result : Status)
    → IsRunStop task words files c stop → IsOrMemory result (status_of stop)
    → IfSome words (λ command. IfSome files (λ f. (leaves : Leaves)
    → (work (Some f) (task command)).gives leaves → (LoadRose (task command) c → ⊥)
    → (WriteRose (task command) c → ⊥) → IsOrMemory result (status_if leaves.differs)))
complete_stop task settled None files c stop result is ends = tt
complete_stop task settled (Some command) None c stop result is ends = tt
complete_stop task settled (Some command) (Some f) c stop result is ends = λ leaves given no_load no_write.
    accepted_stops f (task command) (settled f command) c stop result leaves given no_load no_write is ends

-- what was done is what is accepted
pub complete_done : {C : Type 0} (task : C → Task) → AreSettled task → (words : Option C)
    (files : Option Files) (c : Counts) (old new : Seen) (differs : Bool) (result : Status)
    → IfSome words (λ command. IsDone (work files (task command)) old new differs)
    → result ≡ status_if differs → IfSome words (λ command. IfSome files (λ f. (leaves : Leaves)
    → (work (Some f) (task command)).gives leaves → (LoadRose (task command) c → ⊥)
    → (WriteRose (task command) c → ⊥) → IsOrMemory result (status_if leaves.differs)))
complete_done task settled None files c old new differs result done ends = tt
complete_done task settled (Some command) None c old new differs result done ends = tt
complete_done task settled (Some command) (Some f) c old new differs result done ends =
    λ leaves given no_load no_write. inl
    (ends ∙ ap status_if (done.verdict ∙ (settled f command).alike done.leaves leaves done.given given))

-- a stop of what meets a refusal
refused_stops : (files : Files) (t : Task) → IsSettled (work (Some files) t)
    → (c : Counts) (stop : Stop) (result : Status) (refusal : Refusal) → (work (Some files) t).refuses refusal
    → (LoadRose t c → ⊥) → (FirstRose t c → ⊥)
    → IsStop (Some files) t c stop → IsOrMemory result (status_of stop) → IsOrMemory result Refused
refused_stops files t settled c Usage result refusal first no_load no_first is ends = absurd is
refused_stops files t settled c (Refuses other) result refusal first no_load no_first is ends = ends
refused_stops files t settled c (ReadFault name) result refusal first no_load no_first is ends =
    absurd (no_load
    (some_rose (names_of t.loads) c.load c.load_now name (is_loaded (Some files) t.loads name is.0) is.1))
refused_stops files t settled c (WriteFault name) result refusal first no_load no_first is ends = elim is.0 [
  | inl all ↦ absurd (settled.apart all.0 refusal all.1 first)
  | inr before ↦ absurd (no_first (some_rose t.first_writes c.store c.store_now name before.1 is.1.1))
]
refused_stops files t settled c OutputFault result refusal first no_load no_first is ends =
    absurd (settled.apart is.0.0 refusal is.0.1 first)
refused_stops files t settled c NoMemory result refusal first no_load no_first is ends =
    or_memory result Refused ends

pub refuses_stop : {C : Type 0} (task : C → Task) → AreSettled task
    → (words : Option C) (files : Option Files) (c : Counts) (stop : Stop) (result : Status)
    → IsRunStop task words files c stop → IsOrMemory result (status_of stop)
    → IfSome words
    (λ command. IfSome files (λ f. (refusal : Refusal) → (work (Some f) (task command)).refuses refusal
    → (LoadRose (task command) c → ⊥) → (FirstRose (task command) c → ⊥) → IsOrMemory result Refused))
refuses_stop task settled None files c stop result is ends = tt
refuses_stop task settled (Some command) None c stop result is ends = tt
refuses_stop task settled (Some command) (Some f) c stop result is ends = λ refusal first no_load no_first.
    refused_stops f (task command) (settled f command) c stop result refusal first no_load no_first is ends

pub refuses_done : {C : Type 0} (task : C → Task) → AreSettled task → (words : Option C)
    (files : Option Files) (c : Counts) (old new : Seen) (differs : Bool) (result : Status)
    → IfSome words (λ command. IsDone (work files (task command)) old new differs)
    → IfSome words
    (λ command. IfSome files (λ f. (refusal : Refusal) → (work (Some f) (task command)).refuses refusal
    → (LoadRose (task command) c → ⊥) → (FirstRose (task command) c → ⊥) → IsOrMemory result Refused))
refuses_done task settled None files c old new differs result done = tt
refuses_done task settled (Some command) None c old new differs result done = tt
refuses_done task settled (Some command) (Some f) c old new differs result done =
    λ refusal first no_load no_first. absurd ((settled f command).apart done.leaves refusal done.given first)

-- one status for each verdict
verdict_is : (a b : Bool) → status_if a ≡ status_if b → a ≡ b
verdict_is false false same = refl
verdict_is true true same = refl
verdict_is false true same = absurd (cc)
verdict_is true false same = absurd (cc)

pub with_verdict : (P : Bool → Type 0) (verdict : Bool) (result : Status) → P verdict
    → result ≡ status_if verdict → (differs : Bool) → result ≡ status_if differs → P differs
with_verdict P verdict result holds ends differs same =
    subst P (verdict_is verdict differs (sym ends ∙ same)) holds

-- ---- where no count rises

none_rose : (names : List (List ℕ)) (before now : List ℕ → ℕ)
    → ((name : List ℕ) → Rose (before name) (now name) → ⊥) → SomeRose names before now → ⊥
none_rose [] before now none some = some
none_rose (name ∷ names) before now none some =
    elim some [ inl own ↦ none name own | inr later ↦ none_rose names before now none later ]

pub refuses_sure : {C : Type 0} (task : C
    → Task) (words : Option C) (f : Files) (c : Counts) (result : Status)
    → ((name : List ℕ) → Rose (c.load name) (c.load_now name) → ⊥)
    → ((name : List ℕ) → Rose (c.store name) (c.store_now name) → ⊥)
    → IfTold words (Some f) (λ command files. (refusal : Refusal)
    → (work (Some files) (task command)).refuses refusal → (LoadRose (task command) c → ⊥)
    → (FirstRose (task command) c → ⊥) → IsOrMemory result Refused)
    → IfSome words (λ command. (refusal : Refusal)
    → (work (Some f) (task command)).refuses refusal → IsOrMemory result Refused)
refuses_sure task None f c result none never told = tt
refuses_sure task (Some command) f c result none never told =
    λ refusal first. told refusal first (none_rose (names_of (task command).loads) c.load c.load_now none)
    (none_rose (task command).first_writes c.store c.store_now never)
