-- A data scan of the network on the registers that an audit keeps, in the words of the definition.
use Rattle.std.proofs.Common.{◌≡◌, ℕ, suc, ◌+◌, add-one, Bool, true, false, List, length, sym, ap, ◌∙◌, subst}
use Rattle.std.specs.Prelude.{◌&&◌, ◌||◌, filter, not, Result, Ok, Err, OnOk, IfErr, IfOk}
use Rattle.std.specs.List.{list_any, list_all}
use Rattle.net_graph.specs.declared.device.Device.{Device}
use Rattle.net_graph.specs.declared.net.BitId.{BitId}
use Rattle.net_graph.specs.declared.net.Net.{Net}
use Rattle.net_graph.specs.Chain.{chain, put_chain}
use Rattle.net_graph.specs.Path.{is_select, route_of}
use Rattle.net_graph.specs.Resets.{reset_holds}
use Rattle.net_graph.specs.Signals.{Holds}
use Rattle.svf_writer.specs.SeenCommands.{SeenScan}
use Rattle.tap_machine.specs.declared.Stable.TheVariants.{Reset as InReset, Idle}
use Rattle.tap_machine.specs.Play.{after_scan, is_empty, played}
use Rattle.svf_audit.specs.Audit.{Reading, State, bits_on, changed, compares, do_group, has_row, scan}
use Rattle.svf_audit.specs.Audit.{scanned, was_reset}
use Rattle.svf_audit.specs.Auditing.{do_scan_work, ok, state_of, Step, Stops}
use Rattle.svf_audit.specs.LastParts.{seen_last}
use Rattle.svf_audit.specs.Left.{work_left}
use Rattle.svf_audit.specs.Registers.{differs, path_in, AreShifted}
use Rattle.svf_audit.specs.Work.{Work}
use Rattle.svf_audit.specs.declared.answer.Cause.{Cause}
use Rattle.svf_audit.specs.declared.auditor.Auditor.{Auditor}
use Rattle.svf_audit.specs.declared.auditor.Halt.{Halt}
use Rattle.svf_audit.specs.declared.auditor.Halt.TheVariants.{OutOfMemory as MemoryHalt, Cause as CauseHalt}
use Rattle.svf_audit.specs.declared.last_parts.LastParts.{LastParts}
use Rattle.svf_audit.specs.declared.registers.Registers.{Registers}
use Rattle.svf_audit.proofs.Going.{scan_acts}
use Rattle.svf_audit.proofs.Moving.{filter_both}
use Rattle.svf_audit.proofs.Walks.{none_kept}

not_or : (a b t : Bool) → (a || b) ≡ t → (not a && not b) ≡ not t
not_or true b t e = ap not e
not_or false b t e = ap not e

module _ (r : Registers) (s : AreShifted r) where
  pub changed_as : changed r.net.now (path_in r) r.holds r.after
      ≡ filter (λ b. not (is_select r.net.now b)) r.moved.items
  changed_as =
      filter_both (λ b. not (is_select r.net.now b)) (differs r.holds r.after) (bits_on r.holds (path_in r))
      ∙ ap (filter (λ b. not (is_select r.net.now b))) (sym s.moved)

  -- whether nothing is done
  pub silent_as : (acts some compared : Bool) → some ≡ compared
      → acts ≡ (list_any (λ b. not (is_select r.net.now b)) r.moved.items || some)
      → (is_empty (changed r.net.now (path_in r) r.holds r.after) && not compared) ≡ not acts
  silent_as acts some compared c e =
      let plain : BitId → Bool = λ b. not (is_select r.net.now b) in
      ap (λ bs. is_empty bs && not compared) changed_as
      ∙ ap (λ t. t && not compared) (none_kept plain r.moved.items)
      ∙ ap (λ t. not (list_any plain r.moved.items) && not t) (sym c)
      ∙ not_or (list_any plain r.moved.items) some acts (sym e)

pub act_silent : (net : Net) (device : Device) (a : State) (x : SeenScan) (now : Holds)
    → (is_empty (changed net (route_of net a.holds) a.holds now) && not (compares (played a.dr x))) ≡ true
    → do_scan_work net device a x now ≡ ok (scanned net device a x now a.readings a.left)
act_silent net device a x now e =
    ap (λ t. elim t [
      | true ↦ ok (scanned net device a x now a.readings a.left)
      | false ↦ do_group net device a x now
    ]) e

pub act_does : (net : Net) (device : Device) (a : State) (x : SeenScan) (now : Holds)
    → (is_empty (changed net (route_of net a.holds) a.holds now) && not (compares (played a.dr x))) ≡ false
    → do_scan_work net device a x now ≡ do_group net device a x now
act_does net device a x now e =
    ap (λ t. elim t [
      | true ↦ ok (scanned net device a x now a.readings a.left)
      | false ↦ do_group net device a x now
    ]) e

module _ (a : Auditor) (r : Registers) (x : SeenScan) (net : r.net.now ≡ a.registers.net.now)
    (holds : r.holds ≡ a.registers.holds) where
  abbrev path : List ℕ
  path = route_of a.registers.net.now a.registers.holds

  abbrev tdi : List Bool
  tdi = (played (seen_last a.dr) x).tdi

  abbrev pub after : Holds
  after = put_chain path tdi a.registers.holds

  pub chain_as : length (chain (path_in r) r.holds) ≡ length (chain path a.registers.holds)
  chain_as =
      ap (λ n. length (chain (route_of n r.holds) r.holds)) net
      ∙ ap (λ h. length (chain (route_of a.registers.net.now h) h)) holds

  pub after_as : AreShifted r → r.chain.items ≡ tdi → r.after ≡ after
  after_as s t =
      s.after
      ∙ ap (λ n. put_chain (route_of n r.holds) r.chain.items r.holds) net
      ∙ ap (λ h. put_chain (route_of a.registers.net.now h) r.chain.items h) holds
      ∙ ap (λ bits. put_chain path bits a.registers.holds) t

  pub rows_as : r.after ≡ after → list_all (has_row r.after) r.net.now.muxes.items
      ≡ list_all (has_row after) a.registers.net.now.muxes.items
  rows_as s =
      ap (λ n. list_all (has_row r.after) n.muxes.items) net
      ∙ ap (λ h. list_all (has_row h) a.registers.net.now.muxes.items) s

  -- what was done
  pub act_as : (readings more : List Reading) (left : List Work) → r.after ≡ after
      → do_scan_work r.net.now a.device.now (state_of (record a { registers = r }) readings) x r.after ≡ ok
      (scanned r.net.now a.device.now (state_of (record a { registers = r }) readings) x r.after more left)
      → do_scan_work a.registers.net.now a.device.now (state_of a readings) x after
      ≡ ok (scanned a.registers.net.now a.device.now (state_of a readings) x after more left)
  act_as readings more left s d =
      let Done : Net → Holds → Holds
      → Type 0 = λ n h k. do_scan_work n a.device.now (record (state_of a readings) { holds = h }) x k
      ≡ ok (scanned n a.device.now (record (state_of a readings) { holds = h }) x k more left) in
      subst (Done a.registers.net.now a.registers.holds) s
      (subst (λ h. Done a.registers.net.now h r.after) holds (subst (λ n. Done n r.holds r.after) net d))

  -- why nothing was
  pub act_fails : (readings : List Reading) (cause : Cause) → r.after ≡ after
      → do_scan_work r.net.now a.device.now (state_of (record a { registers = r }) readings) x r.after ≡ Err
      cause
      → do_scan_work a.registers.net.now a.device.now (state_of a readings) x after ≡ Err cause
  act_fails readings cause s d =
      let Fails : Net → Holds → Holds → Type 0 =
      λ n h k. do_scan_work n a.device.now (record (state_of a readings) { holds = h }) x k ≡ Err cause in
      subst (Fails a.registers.net.now a.registers.holds) s (subst
      (λ h. Fails a.registers.net.now h r.after) holds (subst (λ n. Fails n r.holds r.after) net d))

-- ---- answers that are handed on

pub on_ok : {A E : Type 0} (P Q : Type 0) (r : Result A E) → (P → Q) → OnOk r P → OnOk r Q
on_ok P Q (Ok x) f h = f h
on_ok P Q (Err e) f h = tt

pub if_err : {A E : Type 0} (P Q : E → Type 0) (r : Result A E)
    → ((e : E) → P e → Q e) → IfErr r P → IfErr r Q
if_err P Q (Ok x) f h = tt
if_err P Q (Err e) f h = f e h

pub if_ok : {A E : Type 0} (P Q : A → Type 0) (r : Result A E) → ((x : A) → P x → Q x) → IfOk r P → IfOk r Q
if_ok P Q (Ok x) f h = f x h
if_ok P Q (Err e) f h = tt

pub stops_as : (s t : Step) (a : Auditor)
    → ((rs : List Reading) (cause : Cause) → s a.registers.net.now a.device.now (state_of a rs) ≡ Err cause
    → t a.registers.net.now a.device.now (state_of a rs) ≡ Err cause)
    → (halt : Halt) → Stops s a halt → Stops t a halt
stops_as s t a f MemoryHalt h = tt
stops_as s t a f (CauseHalt cause) h = λ rs. f rs cause (h rs)

-- why a data scan of the network stops
pub scan_stops : (a : Auditor) (r : Registers) (x : SeenScan) (net : r.net.now ≡ a.registers.net.now)
    (holds : r.holds ≡ a.registers.holds) → r.after ≡ after a r x net holds
    → x.len ≡ length (chain (route_of a.registers.net.now a.registers.holds) a.registers.holds)
    → list_all (has_row (after a r x net holds)) a.registers.net.now.muxes.items ≡ true → (halt : Halt)
    → Stops (λ n d s. do_scan_work n d s x r.after) (record a { registers = r }) halt
    → Stops (λ n d s. scan n d s x) a halt
scan_stops a r x net holds s len rows MemoryHalt h = tt
scan_stops a r x net holds s len rows (CauseHalt cause) h =
    λ rs. scan_acts a.registers.net.now a.device.now (state_of a rs) x len rows
    ∙ act_fails a r x net holds rs cause s (h rs)

-- what a data scan leaves
pub data_goes : (net : Net) (a z : Auditor) (k : LastParts) (x : SeenScan) (rs more : List Reading)
    → z.linked ≡ a.linked → z.ir ≡ a.ir → z.scans ≡ a.scans → seen_last k ≡ after_scan (seen_last a.dr) x
    → ok (scanned net a.device.now (state_of a rs) x z.registers.holds more (work_left z.left))
    ≡ ok (state_of (record z { rest = Idle; dr = k; scans = z.scans + 1 }) more)
data_goes net a z k x rs more l i s e =
    ap (λ t. ok (record {
      holds = z.registers.holds;
      linked = t;
      rest = Idle;
      ir = seen_last a.ir;
      dr = after_scan (seen_last a.dr) x;
      scans = suc a.scans;
      readings = more;
      left = work_left z.left;
    }))
    (sym l)
    ∙ ap (λ t. ok (record {
      holds = z.registers.holds;
      linked = z.linked;
      rest = Idle;
      ir = seen_last t;
      dr = after_scan (seen_last a.dr) x;
      scans = suc a.scans;
      readings = more;
      left = work_left z.left;
    }))
    (sym i)
    ∙ ap (λ t. ok (record {
      holds = z.registers.holds;
      linked = z.linked;
      rest = Idle;
      ir = seen_last z.ir;
      dr = t;
      scans = suc a.scans;
      readings = more;
      left = work_left z.left;
    })) (sym e)
    ∙ ap (λ t. ok (record {
      holds = z.registers.holds;
      linked = z.linked;
      rest = Idle;
      ir = seen_last z.ir;
      dr = seen_last k;
      scans = t;
      readings = more;
      left = work_left z.left;
    }))
    (sym (add-one z.scans ∙ ap suc s))
