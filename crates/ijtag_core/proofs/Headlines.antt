-- Where all of a command's work is done, the SVF file that it leaves is right; and what is promised besides
-- of an audit.
use Rattle.std.specs.Prelude.{IfSome, option_map}
use Rattle.std.proofs.Common.{◌≡◌, ◌∙◌, ap, subst, refl, ℕ, Bool, false, Option, Some, List, [], ◌∷◌, ◌++◌}
use Rattle.ij_io.specs.Files.{Files, file_at}
use Rattle.ijtag_work.specs.Accepted.{SeenAccepted, accepted_of}
use Rattle.ijtag_work.specs.Audited.{AuditIsTrue, IsPromised}
use Rattle.ijtag_work.specs.Command.{Command, Compile, Compiles, Run, Runs, Make, Makes, made_svf, Audits}
use Rattle.ijtag_work.specs.Command.{MuxTests}
use Rattle.ijtag_work.specs.Headline.{IsMadeRetargeted, IsRetargeted, IsRunRetargeted, LeavesRightSvf}
use Rattle.ijtag_work.specs.Laws.{RunsDifferAlike}
use Rattle.ijtag_work.specs.Leaves.{Leaves, Written}
use Rattle.ijtag_work.specs.Tested.{TestIsRight}
use Rattle.ijtag_work.specs.Order.{accepted_made, made_files, made_inputs, made_of, made_texts, run_of, task}
use Rattle.ijtag_work.specs.Order.{written_text}
use Rattle.ijtag_work.specs.Runs.{AllHold, IsDone, Seen}
use Rattle.ijtag_work.specs.Task.{work}
use Rattle.ijtag_work.proofs.Running.{ran_alike}
use Rattle.ijtag_core.proofs.Taking.{bytes_of_all, taken_are}

-- the last of some files
last_held : (ws : List Written) (w : Written) (old new : Option Files) → AllHold (ws ++ w ∷ []) old new
    → file_at new w.name ≡ option_map (λ _. Some w.bytes) old
last_held [] w old new held = held.0
last_held (v ∷ ws) w old new held = last_held ws w old new held.1

module _ (files : Option Files) (printed : Option (List ℕ)) (new : Seen) (differs : Bool) where
  abbrev before : Seen
  before = record { files = files; printed = printed }

  -- the files of what is left, where that is known
  held_as : (l m : Leaves) → l ≡ m → AllHold l.files files new.files → AllHold m.files files new.files
  held_as l m same held = subst (λ (x : Leaves). AllHold x.files files new.files) same held

  compile_right : (c : Compile) → IsDone (work files (task (Compiles c))) before new differs
      → IsRetargeted files c (file_at new.files c.svf)
  unfolding written_text
  compile_right c d =
      let g = d.given in
      record {
        texts = g.0;
        it = g.2.0;
        read = g.1;
        accepted = g.2.1;
        holds = record { bytes = g.2.2.0; written = (held_as _ _ g.2.2.2 d.files).0; right = g.2.2.1 };
      }

  module _ (alike : RunsDifferAlike) where
    run_right : (r : Run) → IsDone (work files (task (Runs r))) before new differs
        → IsRunRetargeted files r (file_at new.files r.svf) differs
    unfolding written_text run_of
    run_right r d =
        let g = d.given in
        let it = g.2.0 in
        let left = g.2.2 in
        record {
          texts = g.0;
          it = it;
          read = g.1;
          accepted = g.2.1;
          holds = record {
            right = record { bytes = left.0; written = (held_as _ _ left.2.2.2 d.files).0; right = left.1 };
            alike = d.verdict ∙ ap (λ (l : Leaves). l.differs) left.2.2.2
                ∙ ran_alike r.svf it left.0 left.1 alike left.2.0 left.2.1;
          };
        }

    made_taken : (m : Make) (ws : List Written) (it : SeenAccepted) → (made_files m).gives ws
        → (accepted_made ws).gives it → (accepted_of (made_inputs (made_texts m))).gives it
    unfolding accepted_made made_files
    made_taken m ws it given is =
        subst (λ (texts : List (List ℕ)). (accepted_of (made_inputs texts)).gives it)
        (taken_are ws is.0 is.1 ∙ ap bytes_of_all given.2) is.2

    make_right : (m : Make) → IsDone (work files (task (Makes m))) before new differs
        → IsMadeRetargeted files m (file_at new.files (made_svf m.stem)) differs
    unfolding written_text made_of
    make_right m d =
        let g = d.given.2 in
        let ws : List Written = g.0 in
        let it = g.2.0 in
        let left = g.2.2 in
        record {
          it = it;
          accepted = made_taken m ws it g.1 g.2.1;
          right = record {
            right = record {
              bytes = left.0;
              written =
                  last_held ws _ files new.files (held_as _ _ left.2.2 d.files);
              right = left.1;
            };
            alike = d.verdict ∙ ap (λ (l : Leaves). l.differs) left.2.2
                ∙ ran_alike (made_svf m.stem) it left.0 left.1 alike left.2.0 left.2.1;
          };
        }

    pub leaves_right : (words : Option Command)
        → IfSome words (λ command. IsDone (work files (task command)) before new differs)
        → LeavesRightSvf files (file_at new.files) differs words
    leaves_right (Some (Compiles c)) done = compile_right c done
    leaves_right (Some (Runs r)) done = run_right r done
    leaves_right (Some (Makes m)) done = make_right m done
    leaves_right _ done = tt

pub audit_right : (files : Option Files) (file : List ℕ → Option (Option (List ℕ))) (words : Option Command)
    → IfSome words (λ command. IsPromised command files file false) → AuditIsTrue files words
audit_right files file (Some (Audits a)) promised = promised refl
audit_right files file _ promised = tt

pub test_right : (files : Option Files) (file : List ℕ → Option (Option (List ℕ))) (words : Option Command)
    → IfSome words (λ command. IsPromised command files file false) → TestIsRight files file words
test_right files file (Some (MuxTests m)) promised = promised
test_right files file _ promised = tt
