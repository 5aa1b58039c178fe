-- What an audit that says yes means, and what it says of the text that a compile of the same files writes.
use Rattle.std.specs.Prelude.{All, ◌<◌, Ok, Result}
use Rattle.std.specs.Option.{option_map}
use Rattle.std.proofs.Common.{◌≡◌, ℕ, true, false, Option, Some, None, List, [], ◌∷◌, length, refl, sym, ap}
use Rattle.std.proofs.Common.{◌∙◌, subst, arith}
use Rattle.ij_io.specs.Files.{Files, bytes_of}
use Rattle.net_graph.specs.Devices.{IsDevice}
use Rattle.net_graph.specs.SeenSteps.{SeenStep}
use Rattle.net_graph.specs.Resets.{start_holds}
use Rattle.net_graph.specs.Steps.{IsStep}
use Rattle.svf_reader.specs.Meaning.{Refusal as SvfRefusal, svf}
use Rattle.svf_writer.specs.Fits.{AreFit}
use Rattle.svf_writer.specs.SeenCommands.{SeenCommand}
use Rattle.headline.specs.Script.{ScannedStep, script_commands}
use Rattle.headline.specs.Retargeting.{IsRetargetable, PlansAreScripts, script_of, DoesSteps}
use Rattle.headline.proofs.GroupPlaying.{selects_drive_nothing}
use Rattle.svf_audit.specs.Audit.{Reading, Verdict, Yes, No, audit as audit_commands}
use Rattle.merge_order.specs.StepLaws.{BitStepsAreOfTheNetwork}
use Rattle.pdl_parser.specs.Views.{seen_procs}
use Rattle.svf_audit.specs.Law.{AuditedPlaysDoAll}
use Rattle.svf_audit.specs.Own.{PlannedScriptsPass, PlansList}
use Rattle.svf_audit.specs.Report.{says_no}
use Rattle.ijtag_stages.specs.Nested.{IsNested}
use Rattle.ijtag_stages.specs.SvfText.{svf_text}
use Rattle.ijtag_stages.specs.declared.network.Network.{Network}
use Rattle.ijtag_work.specs.Accepted.{SeenAccepted, accepted, accepted_of, if_given, listed}
use Rattle.ijtag_work.specs.Audited.{DoAsMeant, OwnTextsPass, PassesOwnText, WrittenTextsPass}
use Rattle.ijtag_work.specs.Command.{Command, Audit, Audits}
use Rattle.ijtag_work.specs.Inputs.{OfAudit, OfProcedure, loads_of, texts_of}
use Rattle.ijtag_work.specs.Leaves.{Leaves, Written}
use Rattle.ijtag_work.specs.Loads.{loaded, loaded_one}
use Rattle.ijtag_work.specs.Order.{filed, line_of, task, told, verdict_of, written_text}
use Rattle.ijtag_work.specs.Task.{work}
use Rattle.ijtag_work.specs.Using.{IsUsable, seen_accepted, steps_of, there}
use Rattle.ijtag_work.specs.declared.accepted.Accepted.{Accepted}
use Rattle.ijtag_work.specs.declared.accepted.Procedure.{Procedure}
use Rattle.ijtag_work.specs.Runs.{Counts, IfTold, LoadRose, WriteRose, IsOrMemory, status_if}
use Rattle.ijtag_work.specs.declared.status.Status.{Status}

-- ---- a yes

readings_of : (v : Verdict) → says_no v ≡ false → (readings : List Reading) × (v ≡ Yes readings)
readings_of (Yes readings) agrees = (readings, refl)
readings_of (No scan cause) agrees = absurd (cc)

-- a procedure of a network that can be compiled for
record IsSound (it : SeenAccepted) : Type 0 where
  network : IsRetargetable it.network.net it.network.form
  device : IsDevice it.device
  steps : All (IsStep it.network.net) it.steps

steps_fit : BitStepsAreOfTheNetwork → (network : Network) → IsNested network.net network.form
    → (p : Option Procedure) → there p ≡ true
    → All (IsStep network.net) (listed (option_map (steps_of network) p))
steps_fit valid network nested None some = absurd (cc)
steps_fit valid network nested (Some p) some =
    valid (seen_procs p.procs) network.net network.form p.name.items nested.well_formed

-- so is what an audit accepts
audit_sound : BitStepsAreOfTheNetwork → (it : Accepted) → IsUsable it
    → there it.procedure ≡ true → IsSound (seen_accepted it)
audit_sound valid it can procedure = record {
  network = record {
    well_formed = can.nested.well_formed;
    describes = can.nested.describes;
    lawful = can.nested.lawful;
  };
  device = can.device;
  steps = steps_fit valid it.network can.nested it.procedure procedure;
}

pub plays_as_meant : AuditedPlaysDoAll → BitStepsAreOfTheNetwork → (it : Accepted) → IsUsable it
    → there it.procedure ≡ true → (commands : List SeenCommand) → AreFit commands
    → says_no (audit_commands it.network.net it.device (seen_accepted it).steps commands) ≡ false
    → DoAsMeant (seen_accepted it) commands
plays_as_meant law valid it can procedure commands fit agrees =
    let of : SeenAccepted = seen_accepted it in
    let sound : IsSound of = audit_sound valid it can procedure in
    let net = of.network.net in
    let said : Verdict = audit_commands net of.device of.steps commands in
    let yes : (readings : List Reading) × (said ≡ Yes readings) = readings_of said agrees in
    record {
      readings = yes.0;
      yes = yes.1;
      does = λ machines. law net of.device machines of.steps commands yes.0 sound.network.well_formed
          (selects_drive_nothing net of.network.form sound.network) sound.device sound.steps fit yes.1;
    }

-- ---- the text that is compiled

abbrev first_bytes : List Written → List ℕ
first_bytes [] = []
first_bytes (w ∷ ws) = w.bytes

ok_same : (a b : List SeenCommand) → ◌≡◌ {A = Result (List SeenCommand) SvfRefusal} (Ok a) (Ok b) → a ≡ b
ok_same a b e = cc

-- what a compile leaves, by the bytes of its file
bytes_same : (name : List ℕ) (a b : List ℕ) → filed name a ≡ filed name b → a ≡ b
bytes_same name a b e = ap (λ (l : Leaves). first_bytes l.files) e

module _ (scripts : PlansAreScripts) (pass : PlannedScriptsPass) (listed : PlansList) where
  own_yes : (it : SeenAccepted) (bytes : List ℕ) (commands : List SeenCommand)
      (r : DoesSteps it.network.net it.network.form it.device it.steps bytes)
      → commands ≡ script_commands it.device (script_of it.network.net (start_holds it.network.net) r.plans)
      → says_no (audit_commands it.network.net it.device it.steps commands) ≡ false
  own_yes it bytes commands r same =
      let net = it.network.net in
      let ds : List ScannedStep = script_of net (start_holds net) r.plans in
      let yes = pass net it.device ds r.network.well_formed r.right.valid.carried
      (scripts net it.network.form r.plans r.network r.planned)
      (listed net it.network.form r.plans r.network r.planned) in
      ap (λ (cs : List SeenCommand). says_no (audit_commands net it.device it.steps cs)) same
      ∙ ap (λ (ss : List SeenStep). says_no (audit_commands net it.device ss (script_commands it.device ds)))
      (sym r.right.does)
      ∙ ap says_no yes.1

  module _ (files : Files) (a : Audit) where
    abbrev bytes : List ℕ
    bytes = bytes_of files a.svf

    own_loaded : (texts : List (List ℕ)) → length bytes < 90000000
        → (loaded (Some files) (loads_of (OfProcedure a.procedure))).gives texts
        → (loaded (Some files) (loads_of (OfAudit a))).gives (bytes ∷ texts)
    unfolding loaded_one
    own_loaded texts few read = (bytes, (omega (arith, few), refl), (texts, read, refl))

    -- what is audited: the commands, for the procedure that is compiled
    abbrev with_commands : SeenAccepted → List SeenCommand → SeenAccepted
    with_commands it commands = record {
      network = it.network;
      device = it.device;
      models = it.models;
      svf = bytes;
      commands = commands;
      steps = it.steps;
    }

    own_accepted : (texts : List (List ℕ)) (it : SeenAccepted) (commands : List SeenCommand)
        → (accepted_of (texts_of (OfProcedure a.procedure) texts)).gives it → svf bytes ≡ Ok commands
        → (accepted_of (texts_of (OfAudit a) (bytes ∷ texts))).gives (with_commands it commands)
    unfolding accepted if_given svf_text
    own_accepted (icl ∷ pdl ∷ device ∷ []) it commands is read = (
      is.0,
      is.1,
      (
        is.2.0,
        is.2.1,
        (
          is.2.2.0,
          is.2.2.1,
          (
            Some commands,
            (commands, read, refl),
            (
              is.2.2.2.2.0,
              is.2.2.2.2.1,
              (
                is.2.2.2.2.2.0,
                is.2.2.2.2.2.1,
                (
                  is.2.2.2.2.2.2.0,
                  is.2.2.2.2.2.2.1,
                  ap (λ (x : SeenAccepted). with_commands x commands) is.2.2.2.2.2.2.2,
                ),
              ),
            ),
          ),
        ),
      ),
    )
    own_accepted _ it commands is read = absurd is

    own_passes : (texts : List (List ℕ)) (it : SeenAccepted)
        → (loaded (Some files) (loads_of (OfProcedure a.procedure))).gives texts
        → (accepted_of (texts_of (OfProcedure a.procedure) texts)).gives it
        → DoesSteps it.network.net it.network.form it.device it.steps bytes
        → (text : List ℕ) × (work (Some files) (task (Audits a))).gives (told text false)
    own_passes texts it read is r =
        let net = it.network.net in
        let commands : List SeenCommand =
        script_commands it.device (script_of net (start_holds net) r.plans) in
        let found : SeenAccepted = with_commands it commands in
        let agrees : says_no (verdict_of found) ≡ false = own_yes it bytes commands r refl in (
          line_of found,
          (
            bytes ∷ texts,
            own_loaded texts r.few_bytes read,
            (found, own_accepted texts it commands is r.read, ap (told (line_of found)) (sym agrees)),
          ),
        )

  pub own_texts : OwnTextsPass
  unfolding written_text
  own_texts files a own =
      let texts = own.0 in
      let read = own.1 in
      let it = own.2.0 in
      let is = own.2.1 in
      let bytes = own.2.2.0 in
      let right = own.2.2.1 in
      let same : bytes_of files a.svf ≡ bytes = bytes_same a.svf (bytes_of files a.svf) bytes own.2.2.2 in
      own_passes files a texts it read is (subst
      (λ (b : List ℕ). DoesSteps it.network.net it.network.form it.device it.steps b) (sym same) right)

  -- whichever commands a reader finds in such a text
  pub written_yes : WrittenTextsPass
  unfolding written_text
  written_yes it bytes commands right read =
      own_yes it bytes commands right (ok_same commands _ (sym read ∙ right.read))

-- ---- so the status of such an audit

pub own_good : OwnTextsPass → (words : Option Command) (files : Option Files) (c : Counts) (result : Status)
    → IfTold words files (λ command f. (leaves : Leaves) → (work (Some f) (task command)).gives leaves
    → (LoadRose (task command) c → ⊥) → (WriteRose (task command) c → ⊥)
    → IsOrMemory result (status_if leaves.differs))
    → PassesOwnText words files c result
own_good pass (Some (Audits a)) (Some f) c result complete =
    λ own no_load no_write. complete (told (pass f a own).0 false) (pass f a own).1 no_load no_write
own_good pass _ _ c result complete = tt
