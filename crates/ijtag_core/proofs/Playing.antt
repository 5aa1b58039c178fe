-- What is known of a made design whose SVF text was written and played.
use Rattle.std.proofs.Common.{◌≡◌, ◌⊎◌, inl, inr, refl, ℕ, Bool, List, [], Result, Err}
use Rattle.ij_io.specs.declared.fault.StoreFault.{StoreFault}
use Rattle.ij_io.specs.declared.fault.StoreFault.TheVariants.{Failed, OutOfMemory}
use Rattle.ij_io.specs.Bytes.{Adds, AddsPart}
use Rattle.ij_io.specs.Causes.{Rose}
use Rattle.svf_writer.specs.SeenCommands.{SeenCommand}
use Rattle.ijtag_work.specs.Filed.{IsPartFiled}
use Rattle.ijtag_work.specs.Late.{IsPartOf}
use Rattle.ijtag_work.specs.Leaves.{Leaves}
use Rattle.ijtag_work.specs.Accepted.{SeenAccepted}
use Rattle.ijtag_work.specs.Order.{commands_of, made, made_of, made_totals, run_differs, written_text}
use Rattle.ijtag_work.specs.Runs.{Counts, IsDone, Seen}
use Rattle.ijtag_work.specs.Seen.{output_stop}
use Rattle.ijtag_work.specs.Stops.{Stop, Usage, Refuses, ReadFault, WriteFault, OutputFault, NoMemory}
use Rattle.ijtag_work.proofs.Ends.{all_done, file_cut, text_cut}
use Rattle.ijtag_work.proofs.Running.{found}
use Rattle.ijtag_core.specs.Svf.{HasCommands, IsPlayStop, IsSvfStop}

module _ (svf : List ℕ) (it : SeenAccepted) where
  -- what is left, with the SVF file alone
  abbrev pub left : List ℕ → List SeenCommand → Leaves
  left bytes commands = made [] svf bytes (made_totals it commands) (run_differs it commands)

  pub left_given : (bytes : List ℕ) (commands : List SeenCommand) → (written_text it).gives bytes
      → (commands_of bytes).gives commands → (made_of [] svf it).gives (left bytes commands)
  unfolding made_of
  left_given bytes commands given is = (bytes, given, (commands, is, refl))

  -- there is something, where there is a text
  pub some_left : (bytes : List ℕ) → (written_text it).gives bytes
      → (leaves : Leaves) × (made_of [] svf it).gives leaves
  some_left bytes given =
      let commands = found svf it bytes given in
      (left bytes commands.0, left_given bytes commands.0 given commands.1)

  pub svf_stop : (c : Counts) (stop : Stop) → IsSvfStop (written_text it) svf c.store c.store_now stop
      → IsPlayStop (made_of [] svf it) svf c stop
  svf_stop c (WriteFault n) is = (some_left is.0.0 is.0.1, is.1)
  svf_stop c NoMemory is = tt
  svf_stop c Usage is = absurd is
  svf_stop c (Refuses refusal) is = absurd is
  svf_stop c (ReadFault n) is = absurd is
  svf_stop c OutputFault is = absurd is

  module _ (old new : Seen) where
    pub svf_part : new.printed ≡ old.printed
        → ((new.files ≡ old.files) ⊎ IsPartFiled (written_text it) old.files new.files svf)
        → IsPartOf (made_of [] svf it) old new
    svf_part silent either = elim either [
      | inl same ↦ inl (same, silent)
      | inr part ↦
          let some = found svf it part.bytes part.given in
          file_cut (made_of [] svf it) svf part.bytes (made_totals it some.0) (run_differs it some.0)
          (left_given part.bytes some.0 part.given some.1) old new part.held silent
    ]

    module _ (commands : List SeenCommand)
        (h : HasCommands (written_text it) old.files new.files svf commands) where
      pub line_stop : {T : Type 0} (c : Counts) (fault : StoreFault)
          → (◌≡◌ {A = Result T StoreFault} (Err fault) (Err Failed) → Rose c.output c.output_now)
          → IsPlayStop (made_of [] svf it) svf c (output_stop fault)
      line_stop c Failed rose =
          ((left h.bytes commands, left_given h.bytes commands h.given h.found), rose refl)
      line_stop c OutOfMemory rose = tt

      pub line_part : AddsPart old.printed new.printed (made_totals it commands)
          → IsPartOf (made_of [] svf it) old new
      line_part =
          text_cut (made_of [] svf it) svf h.bytes (made_totals it commands) (run_differs it commands)
          (left_given h.bytes commands h.given h.found) old new h.held

      pub line_done : (differs : Bool) → Adds old.printed new.printed (made_totals it commands)
          → differs ≡ run_differs it commands → IsDone (made_of [] svf it) old new differs
      line_done =
          all_done (made_of [] svf it) svf h.bytes (made_totals it commands) (run_differs it commands)
          (left_given h.bytes commands h.given h.found) old new h.held
