-- An audit of a whole planned script meets no cause.
use Rattle.std.proofs.Common.{◌≡◌, ℕ, zero, suc, ◌+◌, Bool, true, false, List, [], ◌∷◌, ◌++◌, Option, Some}
use Rattle.std.proofs.Common.{None, refl, sym, ap, ◌∙◌, subst, append_assoc}
use Rattle.std.specs.Prelude.{map, replicate, not, ◌==◌, Result, Ok, Err, option_and_then}
use Rattle.std.specs.Option.{is_some}
use Rattle.std.specs.List.{list_any}
use Rattle.std.proofs.lemmas.List.Elements.{All-nil}
use Rattle.ij_bits.specs.BitLists.{bits_eq, bits_of}
use Rattle.ij_bits.proofs.SameBits.{bits_same_self}
use Rattle.net_graph.specs.declared.device.Device.{Device}
use Rattle.net_graph.specs.declared.net.Net.{Net}
use Rattle.net_graph.specs.Nets.{IsNet}
use Rattle.net_graph.specs.Resets.{reset_holds, start_holds, zero_holds}
use Rattle.net_graph.specs.SeenSteps.{SeenGroup}
use Rattle.net_graph.specs.Signals.{Holds}
use Rattle.net_graph.specs.Steps.{IsGroup}
use Rattle.net_graph.proofs.Resetting.{reset_twice}
use Rattle.net_graph.proofs.Shapes.{shape, widths, reset-shape}
use Rattle.net_graph.proofs.Widths.{zero-shape}
use Rattle.svf_writer.specs.SeenCommands.{SeenCommand, SeenScan, SDR, Reset as StateReset, Idle as StateIdle}
use Rattle.svf_writer.specs.SeenCommands.{Run as RunTest}
use Rattle.svf_writer.specs.Written.{load_link}
use Rattle.tap_machine.specs.declared.Stable.TheVariants.{Idle as InIdle}
use Rattle.tap_machine.specs.Play.{after_scan, is_empty, scans_in}
use Rattle.headline.proofs.PlannedScripts.{planned_written}
use Rattle.headline.proofs.Reading.{written_scripts_are_read}
use Rattle.headline.specs.Planned.{ScansDo, RoundsArePlanned, IsPlanned}
use Rattle.headline.specs.Script.{Round, ScannedStep, Applied, Ran, WasReset, steps_of, rounds_commands}
use Rattle.headline.specs.Script.{all_commands, script_commands, script_text}
use Rattle.svf_audit.specs.declared.answer.Cause.{Cause}
use Rattle.svf_audit.specs.declared.answer.Cause.TheVariants.{Length, Compare, Run, Reset as ResetCause, End}
use Rattle.svf_audit.specs.Audit.{State, Reading, Yes, No, audit_from, start, step, reset, was_reset}
use Rattle.svf_audit.specs.Audit.{need_some, audit, Reading}
use Rattle.svf_audit.specs.Work.{Work, Group, Cycle, Reset, all_work, due, after_cycle, after_cycles}
use Rattle.svf_audit.specs.Work.{after_reset}
use Rattle.svf_audit.specs.Listed.{following_scan, after_scans, ScansList, RoundsList, after_rounds}
use Rattle.svf_audit.specs.Listed.{ScriptLists}
use Rattle.svf_audit.specs.Own.{PlannedScriptsPass, PlannedTextsPass}
use Rattle.svf_reader.specs.Meaning.{Refusal, svf}
use Rattle.svf_audit.proofs.Following.{ok}
use Rattle.svf_audit.proofs.Passing.{Stands, Steps, IsRedundant, need_is, due_after, opening_steps}
use Rattle.svf_audit.proofs.Passing.{opening_lands, group_steps, group_lands, none_expected}
use Rattle.ij_bits.proofs.Tests.{number_self}

abbrev nothings : ℕ → List (Option Bool)
nothings n = replicate n None

module _ (net : Net) (device : Device) (w : IsNet net) where
  abbrev Stand : State → List Work → Type 0
  Stand a left = Stands net device w a left

  abbrev Lists : Holds → List SeenScan → Type 0
  Lists h xs = ScansList net h xs

  -- ---- commands without a cause, one after the other

  pub record Goes (a : State) (cs : List SeenCommand) (after : Holds) (left : List Work) : Type 0 where
    pub to : State
    pub goes : (rest : List SeenCommand)
        → audit_from net device a (cs ++ rest) ≡ audit_from net device to rest
    pub stands : Stand to left
    pub holds : to.holds ≡ after

  by_step : (a b : State) (c : SeenCommand) (rest : List SeenCommand) → step net device a c ≡ ok b
      → audit_from net device a (c ∷ rest) ≡ audit_from net device b rest
  by_step a b c rest e =
      ap (λ (r : Result State Cause). elim r [
        | Ok z ↦ audit_from net device z rest
        | Err cause ↦ No (a.scans + scans_in (c ∷ [])) cause
      ]) e

  abbrev one : (a : State) (c : SeenCommand) (after : Holds) (left : List Work)
      → Steps net device w a c after left → Goes a (c ∷ []) after left
  one a c after left s =
      record { to = s.to; goes = λ rest. by_step a s.to c rest s.steps; stands = s.stands; holds = s.holds }

  then : (a : State) (xs ys : List SeenCommand) (middle after : Holds) (between left : List Work)
      → (g : Goes a xs middle between) → Goes g.to ys after left → Goes a (xs ++ ys) after left
  then a xs ys middle after between left g k =
      record {
        to = k.to;
        goes = λ rest. ap (audit_from net device a) (append_assoc xs ys rest)
            ∙ g.goes (ys ++ rest) ∙ k.goes rest;
        stands = k.stands;
        holds = k.holds;
      }

  -- ---- the scans of a group

  pub group_goes : (xs : List SeenScan) (a : State) (g : SeenGroup) (after : Holds) (left : List Work)
      → Stand a (Group g ∷ left) → IsGroup net g → ScansDo net g a.holds xs after → Lists a.holds xs
      → Goes a (map SDR xs) after left × (after_scans net a.holds xs ≡ after)
  group_goes [] a g after left st v p l = absurd p
  group_goes (x ∷ []) a g after left st v p l =
      let s = group_steps net device w a g x left st v p.0 l.0 in
      let there = group_lands net device w a g x left st v p.0 l.0 in (
        one a (SDR x) after left (record
            { to = s.to; steps = s.steps; stands = s.stands; holds = s.holds ∙ sym p.1 }),
        there ∙ sym p.1,
      )
  group_goes (x ∷ (y ∷ ys)) a g after left st v p l =
      let (next, o, rest) = p in
      let s = opening_steps net device w a x next (Group g ∷ left) st o l.0 in
      let there : following_scan net a.holds x
      ≡ next = opening_lands net device w a x next (Group g ∷ left) st o l.0 in
      let moved : ScansDo net g s.to.holds (y ∷ ys) after =
      subst (λ h. ScansDo net g h (y ∷ ys) after) (sym s.holds) rest in
      let lists : Lists s.to.holds (y ∷ ys) = subst (λ h. Lists h (y ∷ ys)) (there ∙ sym s.holds) l.1 in
      let (k, e) = group_goes (y ∷ ys) s.to g after left s.stands v moved lists in (
        then a (SDR x ∷ []) (map SDR (y ∷ ys)) next after (Group g ∷ left) left (one a (SDR x) next
            (Group g ∷ left) s) k,
        ap (λ h. after_scans net h (y ∷ ys)) (there ∙ sym s.holds) ∙ e,
      )

  -- ---- the rounds of an iApply

  pub rounds_go : (rs : List Round) (a : State) (after : Holds) (left : List Work)
      → Stand a (map Group (map (λ r. r.group) rs) ++ left)
      → RoundsArePlanned net a.holds rs after → RoundsList net a.holds rs
      → Goes a (rounds_commands rs) after left × (after_rounds net a.holds rs ≡ after)
  rounds_go [] a after left st p l =
      (record { to = a; goes = λ rest. refl; stands = st; holds = sym p }, sym p)
  rounds_go (r ∷ rs) a after left st p l =
      let (next, round, rest) = p in
      let later = map Group (map (λ r. r.group) rs) ++ left in
      let (g, e) = group_goes r.scans a r.group next later st round.valid round.scans l.0 in
      let moved = subst (λ h. RoundsArePlanned net h rs after) (sym g.holds) rest in
      let lists = subst (λ h. RoundsList net h rs) (e ∙ sym g.holds) l.1 in
      let (k, q) = rounds_go rs g.to after left g.stands moved lists in (
        then a (map SDR r.scans) (rounds_commands rs) next after later left g k,
        ap (λ h. after_rounds net h rs) (e ∙ sym g.holds) ∙ q,
      )

  -- ---- runs

  abbrev cycle_left : Holds → ℕ → List Work → Option (List Work)
  cycle_left h n ws = option_and_then (after_cycles h n) (after_cycle ws)

  cycles_left : (h : Holds) (n : ℕ) (left : List Work)
      → after_cycles h n (replicate n Cycle ++ left) ≡ Some left
  cycles_left h zero left = refl
  cycles_left h (suc n) left = cycles_left h n left

  -- what a run leaves: where it has no cycle, redundant pieces may still be there
  run_goes : (n : ℕ) (a : State) (left : List Work)
      → Stand a (replicate n Cycle ++ left) → Goes a (RunTest n ∷ []) a.holds left
  run_goes zero a left st =
      let to : State = record a { rest = InIdle } in
      record {
        to = to;
        goes = λ rest. refl;
        stands = record {
          linked = st.linked;
          rest = refl;
          shaped = st.shaped;
          front = st.front;
          waits = st.waits;
          redundant = st.redundant;
        };
        holds = refl;
      }
  run_goes (suc n) a left st =
      let to : State = record a { rest = InIdle; left = left } in
      let its : due a.holds a.left ≡ Cycle ∷ (replicate n Cycle ++ left) = ap (due a.holds) st.waits
      ∙ due_after net a.holds st.front (Cycle ∷ (replicate n Cycle ++ left)) st.redundant in
      let done : after_cycles a.holds (suc n) a.left
      ≡ Some left = ap (cycle_left a.holds n) its ∙ cycles_left a.holds n left in
      let steps : step net device a (RunTest (suc n))
      ≡ ok to = ap (λ o. need_some o Run (λ left. ok (record a { rest = InIdle; left = left }))) done in
      record {
        to = to;
        goes = λ rest. by_step a to (RunTest (suc n)) rest steps;
        stands = record {
          linked = st.linked;
          rest = refl;
          shaped = st.shaped;
          front =
              [];
          waits = refl;
          redundant = All-nil (IsRedundant net a.holds);
        };
        holds = refl;
      }

  -- ---- resets

  abbrev opcode : List Bool
  opcode = bits_of device.ir device.opcode

  abbrev link_scan : SeenScan
  link_scan = record { len = device.ir; tdi = Some opcode; tdo = None; mask = None; smask = None }

  abbrev loaded : State → State
  loaded a = record a {
    linked = bits_eq opcode opcode;
    rest = InIdle;
    ir = after_scan a.ir link_scan;
    scans = suc a.scans;
  }

  load_steps : (a : State) → step net device a (load_link device) ≡ ok (loaded a)
  load_steps a =
      need_is (device.ir == device.ir) Length _ (number_self device.ir)
      ∙ need_is (not (list_any is_some (nothings device.ir))) Compare _ (ap not (none_expected device.ir))

  -- from a state whose reset does no more work
  from_reset : (a : State) (left : List Work) → shape a.holds ≡ widths net → a.left ≡ left → Goes
      (was_reset net device a a.left) (StateIdle ∷ load_link device ∷ []) (reset_holds net a.holds) left
  from_reset a left s e =
      let b : State = was_reset net device a a.left in
      let c : State = record b { rest = InIdle } in
      record {
        to = loaded c;
        goes =
            λ rest. by_step c (loaded c) (load_link device) rest (load_steps c);
        stands =
            record {
              linked = bits_same_self opcode;
              rest = refl;
              shaped = reset-shape net a.holds ∙ s;
              front =
                  [];
              waits = e;
              redundant = All-nil (IsRedundant net (reset_holds net a.holds));
            };
        holds = refl;
      }

  reset_goes : (a : State) (left : List Work) → Stand a (Reset ∷ left)
      → Goes a (StateReset ∷ StateIdle ∷ load_link device ∷ []) (reset_holds net a.holds) left
  reset_goes a left st =
      let its : due a.holds a.left ≡ Reset ∷ left =
      ap (due a.holds) st.waits ∙ due_after net a.holds st.front (Reset ∷ left) st.redundant in
      let b : State = record a { left = left } in
      let steps : step net device a StateReset
      ≡ ok (was_reset net device b b.left) = ap (λ r. reset net device r a) st.rest
      ∙ ap (λ ws. need_some (after_reset ws) ResetCause (λ left. ok (was_reset net device a left))) its in
      let g = from_reset b left st.shaped refl in
      record {
        to = g.to;
        goes = λ rest. by_step a (was_reset net device b b.left) StateReset
            (StateIdle ∷ load_link device ∷ rest) steps ∙ g.goes rest;
        stands = g.stands;
        holds = g.holds;
      }

  -- ---- the whole script

  abbrev Says : State → List SeenCommand → Type 0
  Says a cs = (readings : List Reading) × (audit_from net device a cs ≡ Yes readings)

  at_the_end : (a : State) → Stand a [] → Says a []
  at_the_end a st =
      let gone : due a.holds a.left ≡ [] =
      ap (due a.holds) st.waits ∙ due_after net a.holds st.front [] st.redundant in
      (a.readings, ap (λ ws. elim (is_empty ws) [ true ↦ Yes a.readings | false ↦ No a.scans End ]) gone)

  and_on : (a : State) (cs rest : List SeenCommand) (after : Holds) (left : List Work)
      → (g : Goes a cs after left) → Says g.to rest → Says a (cs ++ rest)
  and_on a cs rest after left g k = (k.0, g.goes rest ∙ k.1)

  pub script_says : (ds : List ScannedStep) (a : State) → Stand a (all_work (steps_of ds))
      → IsPlanned net a.holds ds → ScriptLists net a.holds ds → Says a (all_commands device ds)
  script_says [] a st p l = at_the_end a st
  script_says (Applied rounds ∷ ds) a st p l =
      let (some, (after, these, rest)) = p in
      let left = all_work (steps_of ds) in
      let (g, e) = rounds_go rounds a after left st these l.0 in
      let moved = subst (λ h. IsPlanned net h ds) (sym g.holds) rest in
      let lists = subst (λ h. ScriptLists net h ds) (e ∙ sym g.holds) l.1 in
      and_on a (rounds_commands rounds) (all_commands device ds) after left g
      (script_says ds g.to g.stands moved lists)
  script_says (Ran n ∷ ds) a st p l =
      let left = all_work (steps_of ds) in
      let g = run_goes n a left st in
      and_on a (RunTest n ∷ []) (all_commands device ds) a.holds left g (script_says ds g.to g.stands (subst
      (λ h. IsPlanned net h ds) (sym g.holds) p.1) (subst (λ h. ScriptLists net h ds) (sym g.holds) l))
  script_says (WasReset ∷ ds) a st p l =
      let left = all_work (steps_of ds) in
      let g = reset_goes a left st in
      and_on a (StateReset ∷ StateIdle ∷ load_link device ∷ []) (all_commands device ds)
      (reset_holds net a.holds) left g (script_says ds g.to g.stands (subst (λ h. IsPlanned net h ds)
      (sym g.holds) p) (subst (λ h. ScriptLists net h ds) (sym g.holds) l))

pub planned_scripts_pass : PlannedScriptsPass
planned_scripts_pass net device ds w v p l =
    let a = start net device (steps_of ds) in
    let z = zero_holds net in
    let wide : shape a.holds ≡ widths net = reset-shape net z ∙ zero-shape net.regs.items in
    let g = from_reset net device w a (all_work (steps_of ds)) wide refl in
    let same : g.to.holds ≡ start_holds net = g.holds ∙ reset_twice net z in
    let k = script_says net device w ds g.to g.stands (subst (λ h. IsPlanned net h ds) (sym same) p)
    (subst (λ h. ScriptLists net h ds) (sym same) l) in
    (k.0, g.goes (all_commands device ds) ∙ k.1)

same_commands : (r : Result (List SeenCommand) Refusal) (xs ys : List SeenCommand)
    → r ≡ Ok xs → r ≡ Ok ys → xs ≡ ys
same_commands r xs ys e f = ap (λ r. elim r [ Ok zs ↦ zs | Err refusal ↦ xs ]) (sym e)
    ∙ ap (λ r. elim r [ Ok zs ↦ zs | Err refusal ↦ xs ]) f

pub planned_texts_pass : PlannedTextsPass
planned_texts_pass net device ds commands w v p l short read =
    let written = written_scripts_are_read device ds v (planned_written net (start_holds net) ds p) short in
    let is = same_commands (svf (script_text device ds)) (script_commands device ds) commands written read in
    subst (λ cs. (readings : List Reading) × (audit net device (steps_of ds) cs ≡ Yes readings)) is
    (planned_scripts_pass net device ds w v p l)
