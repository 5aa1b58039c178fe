-- The work of each command comes to an end: it can't be that it leaves nothing and refuses nothing.
use Rattle.std.specs.Prelude.{All}
use Rattle.std.proofs.Common.{◌≡◌, ◌∙◌, ◌≤◌, refl, sym, ap, subst, arith, inl, inr, ℕ, Option, Some, None}
use Rattle.std.proofs.Common.{List, [], ◌∷◌, length}
use Rattle.std.proofs.lemmas.Bool.Decides.{leb_tells}
use Rattle.ij_io.specs.Files.{Files, bytes_of}
use Rattle.headline.specs.Retargeting.{PlansAreRight}
use Rattle.headline.specs.Rounds.{StepIsPlannable, ProceduresArePlannable}
use Rattle.merge_order.specs.BitSteps.{BitStepsOf, bit_steps}
use Rattle.merge_order.specs.StepLaws.{BitCyclesAreFew, BitRoundsAreFew, BitStepsAreFew}
use Rattle.merge_order.specs.StepLaws.{BitStepsAreOfTheNetwork, BitStepsHavePaths}
use Rattle.net_graph.specs.Devices.{IsDevice}
use Rattle.net_graph.specs.SeenSteps.{SeenStep}
use Rattle.pdl_parser.specs.Values.{AProc}
use Rattle.retargeter.specs.Scripts.{AreFew, HasScript}
use Rattle.retargeter.proofs.Scripts.{has_script, script_is_right}
use Rattle.mux_test.specs.Test.{scanned}
use Rattle.svf_writer.specs.SeenCommands.{SeenCommand}
use Rattle.ijtag_stages.specs.DeviceText.{device_text}
use Rattle.ijtag_stages.specs.Fitted.{models_of}
use Rattle.ijtag_stages.specs.IclText.{icl_text}
use Rattle.ijtag_stages.specs.Laws.{StagesAreTotal}
use Rattle.ijtag_stages.specs.Nested.{IsNested}
use Rattle.ijtag_stages.specs.Networks.{network_below}
use Rattle.ijtag_stages.specs.declared.network.Network.{Network}
use Rattle.ijtag_stages.specs.PdlText.{pdl_text}
use Rattle.ijtag_stages.specs.Procedure.{procedure}
use Rattle.ijtag_stages.specs.Refusals.{Part}
use Rattle.ijtag_stages.specs.SvfText.{svf_text}
use Rattle.ijtag_stages.specs.TablesText.{tables_text}
use Rattle.ijtag_stages.specs.Work.{IsTotal}
use Rattle.ijtag_stages.proofs.Devices.{device_is_device}
use Rattle.ijtag_stages.proofs.Totals.{network_is_nested}
use Rattle.ijtag_stages.proofs.Turns.{give_total, in_turn_total}
use Rattle.ijtag_work.specs.Accepted.{SeenAccepted, Texts, accepted, accepted_of, followed, if_given, listed}
use Rattle.ijtag_work.specs.Command.{Command, Audits, Compiles, Directs, Make, Makes, Migrate, Migrates}
use Rattle.ijtag_work.specs.Command.{MuxTests, Plays, Runs, made_names, made_svf}
use Rattle.ijtag_work.specs.Inputs.{Inputs, OfAudit, OfDirect, OfNetwork, OfPlay, OfProcedure, loads_of}
use Rattle.ijtag_work.specs.Inputs.{texts_of}
use Rattle.ijtag_work.specs.Leaves.{Written}
use Rattle.ijtag_work.specs.Loads.{Load, loaded, loaded_one}
use Rattle.ijtag_work.specs.Order.{accepted_made, audit, commands_of, compile, compiled, direct, made_files}
use Rattle.ijtag_work.specs.Order.{made_inputs, made_of, make_work, mux_test, play, run, run_of, run_report}
use Rattle.ijtag_work.specs.Order.{taken, taken_one, task, within_limit, written_as, written_text}
use Rattle.ijtag_work.specs.Runs.{AreTotal}
use Rattle.ijtag_work.specs.Task.{Row, row_work, work}
use Rattle.ijtag_work.proofs.Made.{plannable}

-- ---- loads

one_total : (files : Files) (load : Load) → IsTotal (loaded_one (Some files) load)
unfolding loaded_one
one_total files load none free = elim (leb_tells (length (bytes_of files load.name)) load.limit) [
  | inl short ↦ none (bytes_of files load.name) (short.1, refl)
  | inr long ↦ free _ (refl, long.1)
]

loads_total : (files : Files) (loads : List Load) → IsTotal (loaded (Some files) loads)
loads_total files [] = give_total []
loads_total files (load ∷ loads) =
    in_turn_total (loaded_one (Some files) load) _ (one_total files load) (λ text given. in_turn_total
    (loaded (Some files) loads) _ (loads_total files loads) (λ texts later. give_total (text ∷ texts)))

-- as many texts as loads, each short enough
abbrev AreLoaded : List Load → List (List ℕ) → Type 0
AreLoaded [] [] = Unit {0}
AreLoaded [] (text ∷ texts) = ⊥
AreLoaded (load ∷ loads) [] = ⊥
AreLoaded (load ∷ loads) (text ∷ texts) = (length text ≤ load.limit) × AreLoaded loads texts

loaded_are : (files : Files) (loads : List Load) (texts : List (List ℕ))
    → (loaded (Some files) loads).gives texts → AreLoaded loads texts
unfolding loaded_one
loaded_are files [] texts g = subst (AreLoaded []) (sym g) tt
loaded_are files (load ∷ loads) texts g =
    let later = g.2 in
    subst (AreLoaded (load ∷ loads)) (sym later.2) (g.1.0, loaded_are files loads later.0 later.1)

-- those of procedures have a text of PDL
abbrev HasPdl : Inputs → Texts → Type 0
HasPdl (OfProcedure p) t = (pdl : List ℕ) × (t.pdl ≡ Some pdl)
HasPdl (OfDirect d) t = (pdl : List ℕ) × (t.pdl ≡ Some pdl)
HasPdl _ t = Unit {0}

-- what was loaded are the texts of a command
given : (i : Inputs) (texts : List (List ℕ)) → AreLoaded (loads_of i) texts
    → (t : Texts) × (texts_of i texts ≡ Some t) × (length t.icl ≤ 134217728) × HasPdl i t
given (OfNetwork n) [] are = absurd are
given (OfNetwork n) (icl ∷ []) are = absurd are.1
given (OfNetwork n) (icl ∷ device ∷ []) are = (_, refl, omega (arith, are.0), tt)
given (OfNetwork n) (icl ∷ device ∷ x ∷ xs) are = absurd are.1.1
given (OfProcedure p) [] are = absurd are
given (OfProcedure p) (icl ∷ []) are = absurd are.1
given (OfProcedure p) (icl ∷ pdl ∷ []) are = absurd are.1.1
given (OfProcedure p) (icl ∷ pdl ∷ device ∷ []) are = (_, refl, omega (arith, are.0), (pdl, refl))
given (OfProcedure p) (icl ∷ pdl ∷ device ∷ x ∷ xs) are = absurd are.1.1.1
given (OfDirect d) [] are = absurd are
given (OfDirect d) (icl ∷ []) are = absurd are.1
given (OfDirect d) (icl ∷ pdl ∷ []) are = absurd are.1.1
given (OfDirect d) (icl ∷ pdl ∷ device ∷ []) are = absurd are.1.1.1
given (OfDirect d) (icl ∷ pdl ∷ device ∷ tables ∷ []) are = (_, refl, omega (arith, are.0), (pdl, refl))
given (OfDirect d) (icl ∷ pdl ∷ device ∷ tables ∷ x ∷ xs) are = absurd are.1.1.1.1
given (OfPlay p) [] are = absurd are
given (OfPlay p) (svf ∷ []) are = absurd are.1
given (OfPlay p) (svf ∷ icl ∷ []) are = absurd are.1.1
given (OfPlay p) (svf ∷ icl ∷ device ∷ []) are = absurd are.1.1.1
given (OfPlay p) (svf ∷ icl ∷ device ∷ tables ∷ []) are = (_, refl, omega (arith, are.1.0), tt)
given (OfPlay p) (svf ∷ icl ∷ device ∷ tables ∷ x ∷ xs) are = absurd are.1.1.1.1
given (OfAudit a) [] are = absurd are
given (OfAudit a) (svf ∷ []) are = absurd are.1
given (OfAudit a) (svf ∷ icl ∷ []) are = absurd are.1.1
given (OfAudit a) (svf ∷ icl ∷ pdl ∷ []) are = absurd are.1.1.1
given (OfAudit a) (svf ∷ icl ∷ pdl ∷ device ∷ []) are = (_, refl, omega (arith, are.1.0), tt)
given (OfAudit a) (svf ∷ icl ∷ pdl ∷ device ∷ x ∷ xs) are = absurd are.1.1.1.1

-- ---- what there may be

if_total : {T A : Type 0} (it : Option T) (part : T → Part A)
    → ((t : T) → IsTotal (part t)) → IsTotal (if_given it part)
unfolding if_given
if_total None part is = give_total None
if_total (Some t) part is = in_turn_total (part t) _ (is t) (λ a given. give_total (Some a))

-- the bit steps of a procedure that was followed
steps_of_procedure : (network : Network) (name pdl : List ℕ) (o : Option (List ℕ))
    (steps : Option (List SeenStep)) → o ≡ Some pdl → (if_given o (followed network name)).gives steps
    → (procs : List AProc) × (listed steps ≡ (bit_steps procs network.net network.form name).steps)
unfolding if_given followed procedure
steps_of_procedure network name pdl None steps e g = absurd (cc)
steps_of_procedure network name pdl (Some text) steps e g =
    let found = g.1 in
    (found.0, ap listed g.2 ∙ sym (ap (λ (b : BitStepsOf). b.steps) found.2))

module _ (t : Texts) (it : SeenAccepted) (g : (accepted t).gives it) where
  -- a lawful network
  is_nested : IsNested it.network.net it.network.form
  unfolding accepted
  is_nested =
      let (
        modules,
        gm,
        (device, gd, (tables, gt, (commands, gc, (network, gn, (models, gf, (steps, gs, same)))))),
      ) = g in
      subst (λ (a : SeenAccepted). IsNested a.network.net a.network.form) (sym same)
      (network_is_nested modules t.top device network gn)

  is_device : IsDevice it.device
  unfolding accepted
  is_device =
      let (
        modules,
        gm,
        (device, gd, (tables, gt, (commands, gc, (network, gn, (models, gf, (steps, gs, same)))))),
      ) = g in
      subst (λ (a : SeenAccepted). IsDevice a.device) (sym same) (device_is_device t.device device gd)

  -- the bit steps of a procedure of the PDL text, where there is one
  are_steps : (pdl : List ℕ) → t.pdl ≡ Some pdl
      → (procs : List AProc) × (it.steps ≡ (bit_steps procs it.network.net it.network.form t.procedure).steps)
  unfolding accepted
  are_steps pdl e =
      let (
        modules,
        gm,
        (device, gd, (tables, gt, (commands, gc, (network, gn, (models, gf, (steps, gs, same)))))),
      ) = g in
      let found = steps_of_procedure network t.procedure pdl t.pdl steps e gs in (
        found.0,
        subst (λ (a : SeenAccepted). a.steps
            ≡ (bit_steps found.0 a.network.net a.network.form t.procedure).steps) (sym same) found.1,
      )

-- ---- the files of a made design

made_total : (m : Make) → IsTotal (made_files m)
unfolding made_files
made_total m none free = elim (leb_tells 1 m.size) [
  | inl some ↦ elim (leb_tells m.size 64) [
    | inl few ↦ none _ (some.1, few.1, refl)
    | inr many ↦ free _ (inr many.1, refl)
  ]
  | inr zero ↦ free _ (inl zero.1, refl)
]

taken_one_total : (w : Written) → IsTotal (taken_one w)
unfolding taken_one
taken_one_total w none free = elim (leb_tells (length w.bytes) 16777216)
    [ inl short ↦ none w.bytes (short.1, refl) | inr long ↦ free _ (long.1, refl) ]

taken_total : (ws : List Written) → IsTotal (taken ws)
taken_total [] = give_total []
taken_total (w ∷ ws) = in_turn_total (taken_one w) _ (taken_one_total w)
    (λ text given. in_turn_total (taken ws) _ (taken_total ws) (λ texts later. give_total (text ∷ texts)))

-- as many texts as files, each as short as a file may be
abbrev AreTaken : List Written → List (List ℕ) → Type 0
AreTaken [] [] = Unit {0}
AreTaken [] (text ∷ texts) = ⊥
AreTaken (w ∷ ws) [] = ⊥
AreTaken (w ∷ ws) (text ∷ texts) = (length text ≤ 16777216) × AreTaken ws texts

taken_are : (ws : List Written) (texts : List (List ℕ)) → (taken ws).gives texts → AreTaken ws texts
unfolding taken_one
taken_are [] texts g = subst (AreTaken []) (sym g) tt
taken_are (w ∷ ws) texts g =
    let later = g.2 in
    subst (AreTaken (w ∷ ws)) (sym later.2)
    (subst (λ (text : List ℕ). length text ≤ 16777216) (sym g.1.1) g.1.0, taken_are ws later.0 later.1)

-- the texts of the four files, as they are read
made_given : (ws : List Written) (a b c d : List ℕ) (m : Make)
    → ws ≡ written_as (made_names m.stem) (a ∷ b ∷ c ∷ d ∷ [])
    → (texts : List (List ℕ)) → (taken ws).gives texts
    → (t : Texts) × (pdl : List ℕ) × (made_inputs texts ≡ Some t)
    × (length t.icl ≤ 134217728) × (t.pdl ≡ Some pdl)
made_given ws a b c d m e texts g =
    four texts (subst (λ (ws : List Written). AreTaken ws texts) e (taken_are ws texts g))
  where
    four : (texts : List (List ℕ)) → AreTaken (written_as (made_names m.stem) (a ∷ b ∷ c ∷ d ∷ [])) texts
        → (t : Texts) × (pdl : List ℕ) × (made_inputs texts ≡ Some t)
        × (length t.icl ≤ 134217728) × (t.pdl ≡ Some pdl)
    four [] are = absurd are
    four (icl ∷ []) are = absurd are.1
    four (icl ∷ pdl ∷ []) are = absurd are.1.1
    four (icl ∷ pdl ∷ device ∷ []) are = absurd are.1.1.1
    four (icl ∷ pdl ∷ device ∷ tables ∷ []) are = (_, pdl, refl, omega (arith, are.0), refl)
    four (icl ∷ pdl ∷ device ∷ tables ∷ x ∷ xs) are = absurd are.1.1.1.1

-- ---- the limit of a mux test

limit_total : (it : SeenAccepted) → IsTotal (within_limit it)
unfolding within_limit
limit_total it none free = elim (leb_tells (length (scanned it.network.net it.network.form)) 8192)
    [ inl short ↦ none tt short.1 | inr long ↦ free _ (long.1, refl) ]

-- ---- the commands of a written text

read_total : (it : SeenAccepted) (bytes : List ℕ)
    → (written_text it).gives bytes → IsTotal (commands_of bytes)
unfolding written_text commands_of
read_total it bytes does none free = none _ does.read

module _ (stages : StagesAreTotal) (right : PlansAreRight) (valid : BitStepsAreOfTheNetwork)
    (paths : BitStepsHavePaths) (plan : ProceduresArePlannable)
    (few_steps : BitStepsAreFew) (few_rounds : BitRoundsAreFew) (few_cycles : BitCyclesAreFew) where
  -- ---- what texts are accepted as

  followed_total : (network : Network) (name pdl : List ℕ) → IsTotal (followed network name pdl)
  unfolding followed
  followed_total network name pdl =
      in_turn_total (pdl_text pdl) _ (stages.pdl pdl) (λ procs given. stages.procedure procs network name)

  accepted_total : (t : Texts) → length t.icl ≤ 134217728 → IsTotal (accepted t)
  unfolding accepted
  accepted_total t short =
      in_turn_total (icl_text t.icl) _ (stages.icl t.icl)
      (λ modules gm. in_turn_total (device_text t.device) _ (stages.device t.device)
      (λ device gd. in_turn_total (if_given t.tables tables_text) _
      (if_total t.tables tables_text stages.tables)
      (λ tables gt. in_turn_total (if_given t.svf svf_text) _ (if_total t.svf svf_text stages.svf)
      (λ commands gc. in_turn_total (network_below modules t.top device) _
      (stages.network t.icl modules t.top device short gm)
      (λ network gn. in_turn_total (if_given tables (models_of network.net)) _
      (if_total tables (models_of network.net) (stages.fit network.net))
      (λ models gf. in_turn_total (if_given t.pdl (followed network t.procedure)) _
      (if_total t.pdl (followed network t.procedure) (followed_total network t.procedure))
      (λ steps gs. give_total _)))))))

  row_total : (row : Row) (texts : List (List ℕ)) → AreLoaded (loads_of row.inputs) texts
      → ((t : Texts) → HasPdl row.inputs t → (it : SeenAccepted) → (accepted t).gives it
      → IsTotal (row.leaves it)) → IsTotal (row_work row texts)
  row_total row texts are leaves =
      let (t, e, short, pdl) = given row.inputs texts are in
      in_turn_total (accepted_of (texts_of row.inputs texts)) _
      (subst (λ (o : Option Texts). IsTotal (accepted_of o)) (sym e) (accepted_total t short))
      (λ it g. leaves t pdl it (subst (λ (o : Option Texts). (accepted_of o).gives it) e g))

  -- ---- the text of a procedure that was accepted

  module _ (t : Texts) (pdl : List ℕ) (is : t.pdl ≡ Some pdl)
      (it : SeenAccepted) (g : (accepted t).gives it) where
    has_text : HasScript it.network.net it.network.form it.device it.steps
    has_text =
        let n = is_nested t it g in
        let s = are_steps t it g pdl is in
        has_script it.network.net it.network.form it.device it.steps
        (record { well_formed = n.well_formed; describes = n.describes; lawful = n.lawful })
        (subst (All (StepIsPlannable it.network.net it.network.form)) (sym s.1) (plannable valid paths plan
        s.0 it.network.net it.network.form t.procedure n.well_formed n.describes))

    are_few : AreFew it.steps
    are_few =
        let s = are_steps t it g pdl is in
        subst AreFew (sym s.1) (record {
          few_steps = few_steps s.0 it.network.net it.network.form t.procedure;
          few_rounds = few_rounds s.0 it.network.net it.network.form t.procedure;
          few_cycles = few_cycles s.0 it.network.net it.network.form t.procedure;
        })

    text_total : IsTotal (written_text it)
    unfolding written_text
    text_total none free =
        let n = is_nested t it g in
        none has_text.0
        (script_is_right it.network.net it.network.form it.device it.steps right
        (record { well_formed = n.well_formed; describes = n.describes; lawful = n.lawful })
        (is_device t it g) are_few has_text.0 has_text.1)

    report_total : (commands : List SeenCommand) → IsTotal (run_report it commands)
    unfolding run_report
    report_total commands none free =
        none _ (record { plans = has_text.1.plans; planned = has_text.1.planned; text = refl })

    compiled_total : (name : List ℕ) → IsTotal (compiled name it)
    compiled_total name = in_turn_total (written_text it) _ text_total (λ bytes given. give_total _)

    run_total : (name : List ℕ) → IsTotal (run_of name it)
    unfolding run_of
    run_total name =
        in_turn_total (written_text it) _ text_total
        (λ bytes given. in_turn_total (commands_of bytes) _ (read_total it bytes given)
        (λ commands found. in_turn_total (run_report it commands) _
        (report_total commands) (λ text printed. give_total _)))

    made_of_total : (files : List Written) (svf : List ℕ) → IsTotal (made_of files svf it)
    unfolding made_of
    made_of_total files svf =
        in_turn_total (written_text it) _ text_total (λ bytes given. in_turn_total (commands_of bytes) _
        (read_total it bytes given) (λ commands found. give_total _))

  -- ---- each command

  migrate_total : (m : Migrate) (texts : List (List ℕ)) → AreLoaded (task (Migrates m)).loads texts
      → IsTotal ((task (Migrates m)).work_on texts)
  migrate_total m [] are = absurd are
  migrate_total m (tables ∷ []) are =
      in_turn_total (tables_text tables) _ (stages.tables tables) (λ ts given. give_total _)
  migrate_total m (tables ∷ x ∷ xs) are = absurd are.1

  make_total : (m : Make) (texts : List (List ℕ)) → IsTotal (make_work m texts)
  unfolding made_files accepted_made
  make_total m texts =
      in_turn_total (made_files m) _ (made_total m) (λ files made.
      in_turn_total (accepted_made files) _
      (in_turn_total (taken files) _ (taken_total files) (λ ts g.
      let (t, pdl, e, short, is) = made_given files _ _ _ _ m made.2 ts g in
      subst (λ (o : Option Texts). IsTotal (accepted_of o)) (sym e) (accepted_total t short)))
      (λ it g.
      let (t, pdl, e, short, is) = made_given files _ _ _ _ m made.2 g.0 g.1 in
      made_of_total t pdl is it
      (subst (λ (o : Option Texts). (accepted_of o).gives it) e g.2) files (made_svf m.stem)))

  work_on_total : (command : Command) (texts : List (List ℕ)) → AreLoaded (task command).loads texts
      → IsTotal ((task command).work_on texts)
  work_on_total (Compiles c) texts are =
      row_total (compile c) texts are (λ t (pdl, is) it g. compiled_total t pdl is it g c.svf)
  work_on_total (Plays p) texts are = row_total (play p) texts are (λ t _ it g. give_total _)
  work_on_total (Directs d) texts are = row_total (direct d) texts are (λ t _ it g. give_total _)
  work_on_total (Runs r) texts are =
      row_total (run r) texts are (λ t (pdl, is) it g. run_total t pdl is it g r.svf)
  work_on_total (Makes m) texts are = make_total m texts
  work_on_total (Migrates m) texts are = migrate_total m texts are
  work_on_total (Audits a) texts are = row_total (audit a) texts are (λ t _ it g. give_total _)
  work_on_total (MuxTests m) texts are = row_total (mux_test m) texts are
      (λ t _ it g. in_turn_total (within_limit it) _ (limit_total it) (λ short given. give_total _))

  pub works_total : AreTotal task
  works_total files command =
      in_turn_total (loaded (Some files) (task command).loads) _ (loads_total files (task command).loads)
      (λ texts given. work_on_total command texts (loaded_are files (task command).loads texts given))
