-- What a run does after the texts that were accepted.
use Rattle.std.specs.Prelude.{option_map}
use Rattle.std.proofs.Common.{◌≡◌, ◌≤◌, refl, ℕ, Bool, Some, List, [], ◌∷◌, length, arith}
use Rattle.retargeter.specs.Files.{HoldsPart}
use Rattle.bench_report.specs.Report.{named_report}
use Rattle.headline.specs.Retargeting.{PlannedStep, script_of}
use Rattle.headline.specs.Script.{script_commands}
use Rattle.ij_io.specs.Bytes.{Adds, AddsPart}
use Rattle.ij_io.specs.Files.{file_at}
use Rattle.net_graph.specs.Resets.{start_holds}
use Rattle.run_report.specs.Places.{places, read_at}
use Rattle.retargeter.specs.Plans.{AreStepsOf}
use Rattle.ijtag_work.specs.Laws.{RunsDifferAlike}
use Rattle.svf_writer.specs.SeenCommands.{SeenCommand}
use Rattle.tap_machine.specs.Play.{is_empty}
use Rattle.ijtag_work.specs.Accepted.{SeenAccepted}
use Rattle.ijtag_work.specs.Leaves.{Leaves}
use Rattle.ijtag_work.specs.Order.{any_differs, commands_of, ran, reads_differ, run_differs, run_of}
use Rattle.ijtag_work.specs.Order.{run_report, written_text}
use Rattle.ijtag_work.specs.Late.{IsPartOf}
use Rattle.ijtag_work.specs.Runs.{Seen, IsDone}
use Rattle.ijtag_work.proofs.Ends.{all_done, file_cut, text_cut}
use Rattle.ijtag_work.proofs.Whole.{whole_is_part}

any_alike : {A B : Type 0} (xs : List A) (ys : List B)
    → is_empty xs ≡ is_empty ys → any_differs xs ≡ any_differs ys
any_alike [] [] same = refl
any_alike [] (y ∷ ys) same = absurd (cc)
any_alike (x ∷ xs) [] same = absurd (cc)
any_alike (x ∷ xs) (y ∷ ys) same = refl

-- ---- the SVF text and the play of its commands

module _ (name : List ℕ) (it : SeenAccepted) (bytes : List ℕ) (written : (written_text it).gives bytes) where
  -- it is no longer than an SVF file may be
  pub short : length bytes ≤ 134217728
  unfolding written_text
  short = omega (arith, written.few_bytes)

  -- a reader finds commands in the text
  pub found : (commands : List SeenCommand) × (commands_of bytes).gives commands
  unfolding written_text commands_of
  found = (
    script_commands it.device (script_of it.network.net (start_holds it.network.net) written.plans),
    written.read,
  )

  -- a compare of their play differs exactly where a read of the procedure's meaning does
  pub ran_alike : RunsDifferAlike → (commands : List SeenCommand) → (commands_of bytes).gives commands
      → run_differs it commands ≡ reads_differ it
  unfolding written_text commands_of
  ran_alike alike commands is =
      any_alike _ _
      (alike it.network.net it.network.form it.device it.models it.steps bytes commands written is)

  module _ (plans : (xs : List PlannedStep)
      × AreStepsOf it.network.net it.network.form (start_holds it.network.net) it.steps xs) where
    -- the report of their play
    abbrev pub report : List SeenCommand → List ℕ
    report commands =
        named_report (read_at (places it.network.net plans.0)) it.network.net it.device it.models commands

    pub told : (commands : List SeenCommand) → (run_report it commands).gives (report commands)
    unfolding run_report
    told commands = record { plans = plans.0; planned = plans.1; text = refl }

    given : (commands : List SeenCommand) → (commands_of bytes).gives commands
        → (run_of name it).gives (ran name bytes (report commands) (run_differs it commands))
    unfolding run_of
    given commands is = (bytes, written, (commands, is, (report commands, told commands, refl)))

    -- all of it could be done
    pub can_run : (leaves : Leaves) × (run_of name it).gives leaves
    can_run = (ran name bytes (report found.0) (run_differs it found.0), given found.0 found.1)

    module _ (old new : Seen) where
      -- the file is cut off
      pub write_part : HoldsPart old.files new.files name bytes
          → new.printed ≡ old.printed → IsPartOf (run_of name it) old new
      write_part =
          file_cut (run_of name it) name bytes (report found.0) (run_differs it found.0)
          (given found.0 found.1) old new

      module _ (whole : file_at new.files name ≡ option_map (λ _. Some bytes) old.files) where
        -- the file is whole, and nothing is printed
        pub silent_part : new.printed ≡ old.printed → IsPartOf (run_of name it) old new
        silent_part silent = write_part (whole_is_part old.files new.files name bytes whole) silent

        module _ (commands : List SeenCommand) (is : (commands_of bytes).gives commands) where
          -- the report is cut off
          pub print_part : AddsPart old.printed new.printed (report commands)
              → IsPartOf (run_of name it) old new
          print_part =
              text_cut (run_of name it) name bytes (report commands) (run_differs it commands)
              (given commands is) old new whole

          pub ran_done : (differs : Bool) → Adds old.printed new.printed (report commands)
              → differs ≡ run_differs it commands → IsDone (run_of name it) old new differs
          ran_done =
              all_done (run_of name it) name bytes (report commands) (run_differs it commands)
              (given commands is) old new whole
