-- Shift stages beside a bench: where a clock changes some, these are on the active path, and the path stays.
use Rattle.std.proofs.Common.{◌≡◌, ℕ, Bool, true, false, cond, List, [], ◌∷◌, length, refl, ap, sym, ◌∙◌}
use Rattle.std.proofs.Common.{subst, arith, length-append}
use Rattle.instruments.specs.declared.Counts.{Counts}
use Rattle.instruments.specs.Machine.{Machine, count_log}
use Rattle.instruments.specs.OnNetwork.{outputs}
use Rattle.net_graph.specs.declared.net.Net.{Net}
use Rattle.net_graph.specs.Chain.{captures, chain, put_chain, shift}
use Rattle.net_graph.specs.declared.device.Device.{Device}
use Rattle.net_graph.specs.Held.{AreHolds}
use Rattle.net_graph.specs.Nets.{IsNet}
use Rattle.net_graph.specs.Path.{route_of}
use Rattle.net_graph.specs.Signals.{Holds}
use Rattle.net_graph.proofs.Chains.{chain-put_chain, put_chain-chain}
use Rattle.net_graph.proofs.Routes.{route_in}
use Rattle.net_graph.proofs.Shapes.{length-captures, length-chain, put_chain-shape, total}
use Rattle.net_bench.proofs.Wide.{captures_wide}
use Rattle.net_bench.specs.Bench.{Chip, State, begin_clock, capture_bits, clock, dr_bits, end_clock}
use Rattle.net_bench.specs.Bench.{fault_free, put_dr}
use Rattle.net_bench.specs.Bench.{run_from, select_of, update_dr}
use Rattle.net_bench.specs.Instruction.{Selected, Network, Identity, Bypass}
use Rattle.tap_machine.specs.declared.TapState.{TapState}
use Rattle.tap_machine.specs.declared.TapState.TheVariants.{TestLogicReset, RunTestIdle, CaptureDr, ShiftDr}
use Rattle.tap_machine.specs.declared.TapState.TheVariants.{UpdateDr, UpdateIr}
use Rattle.tap_machine.specs.Tap.{next}
use Rattle.std.specs.Prelude.{◌&&◌}
use Rattle.net_wave.specs.Changes.{changes_shift_stages}
use Rattle.net_graph.proofs.Exchange.{length-shift}

module _ (net : Net) (device : Device) (machines : List Machine) (is : IsNet net) where
  abbrev chip : Chip Counts
  chip = fault_free count_log net device machines

  -- stages that were put on a path are these again, put from there
  record IsStaged (p : List ℕ) (old new : Holds) : Type 0 where
    again : put_chain p (chain p new) old ≡ new
    shape : AreHolds net new

  module _ (s : State Counts) (h : AreHolds net s.stages) where
    abbrev p : List ℕ
    p = route_of net s.holds

    put : (bits : List Bool) → length bits ≡ length (chain p s.stages)
        → IsStaged p s.stages (put_chain p bits s.stages)
    put bits fits =
        record {
          again = ap (λ b. put_chain p b s.stages)
              (chain-put_chain p bits s.stages (route_in net s.holds s.stages is h) fits);
          shape = put_chain-shape p bits s.stages fits ∙ h;
        }

    same : IsStaged p s.stages s.stages
    same = record { again = put_chain-chain p s.stages; shape = h }

    captured_fits : length (captures net (outputs machines s.insts) s.holds p) ≡ length (chain p s.stages)
    captured_fits =
        length-captures net (outputs machines s.insts) s.holds p
        ∙ ap (total p) (captures_wide net net.regs.items is.regs ∙ sym h)
        ∙ sym (length-chain p s.stages)

    captured : (x : Selected) → IsStaged p s.stages (put_dr chip x (capture_bits chip x s) s).stages
    captured Network = put (captures net (outputs machines s.insts) s.holds p) captured_fits
    captured Identity = same
    captured Bypass = same

    shifted : (x : Selected) (tdi : Bool)
        → IsStaged p s.stages (put_dr chip x (shift (dr_bits chip x s) tdi) s).stages
    shifted Network tdi = put (shift (chain p s.stages) tdi) (length-shift (chain p s.stages) tdi)
    shifted Identity tdi = same
    shifted Bypass tdi = same

  put_holds : (x : Selected) (bits : List Bool) (s : State Counts) → (put_dr chip x bits s).holds ≡ s.holds
  put_holds Network bits s = refl
  put_holds Identity bits s = refl
  put_holds Bypass bits s = refl

  update_stages : (x : Selected) (s : State Counts) → (update_dr chip x s).stages ≡ s.stages
  update_stages Network s = refl
  update_stages Identity s = refl
  update_stages Bypass s = refl

  run_stages : (before : TapState) (s : State Counts) → (run_from chip before s).stages ≡ s.stages
  run_stages RunTestIdle s = refl
  run_stages _ s = refl

  enter_stages : (before after : TapState) (s : State Counts) → (end_clock chip before after s).stages ≡
      s.stages
  enter_stages before UpdateIr s = refl
  enter_stages before UpdateDr s = update_stages (select_of chip s) s
  enter_stages before TestLogicReset s = refl
  enter_stages before RunTestIdle s = run_stages before s
  enter_stages before _ s = refl

  abbrev after : TapState → Bool → Bool → State Counts → State Counts
  after tap tms tdi s = end_clock chip tap (next tap tms) (record (begin_clock chip tap tdi s) {
    tap = next
        tap tms;
  })

  -- after a clock: the shape of the stages, and that they are the old ones with those of the path
  abbrev Keeps : TapState → State Counts → State Counts → Type 0
  Keeps tap s t =
      AreHolds net t.stages × (cond (changes_shift_stages tap) (put_chain (route_of net t.holds)
      (chain (route_of net t.holds) t.stages) s.stages) s.stages ≡ t.stages)

  shifting : (s t : State Counts) → t.holds ≡ s.holds
      → IsStaged (route_of net s.holds) s.stages t.stages → AreHolds net t.stages
      × (put_chain (route_of net t.holds) (chain (route_of net t.holds) t.stages) s.stages ≡ t.stages)
  shifting s t holds staged = (
    staged.shape,
    ap (λ (h : Holds). put_chain (route_of net h) (chain (route_of net h) t.stages) s.stages)
        holds ∙ staged.again,
  )

  resting : (s t : State Counts) → AreHolds net s.stages → t.stages ≡ s.stages
      → AreHolds net t.stages × (s.stages ≡ t.stages)
  resting s t h e = (subst (λ (x : Holds). AreHolds net x) (sym e) h, sym e)

  keeps : (tap : TapState) (tms tdi : Bool) (s : State Counts)
      → AreHolds net s.stages → Keeps tap s (after tap tms tdi s)
  keeps CaptureDr false tdi s h =
      shifting s (after CaptureDr false tdi s) (put_holds (select_of chip s)
      (capture_bits chip (select_of chip s) s) s) (captured s h (select_of chip s))
  keeps CaptureDr true tdi s h =
      shifting s (after CaptureDr true tdi s) (put_holds (select_of chip s)
      (capture_bits chip (select_of chip s) s) s) (captured s h (select_of chip s))
  keeps ShiftDr false tdi s h =
      shifting s (after ShiftDr false tdi s) (put_holds (select_of chip s)
      (shift (dr_bits chip (select_of chip s) s) tdi) s) (shifted s h (select_of chip s) tdi)
  keeps ShiftDr true tdi s h =
      shifting s (after ShiftDr true tdi s) (put_holds (select_of chip s)
      (shift (dr_bits chip (select_of chip s) s) tdi) s) (shifted s h (select_of chip s) tdi)
  keeps tap tms tdi s h =
      resting s (after tap tms tdi s) h
      (enter_stages tap (next tap tms) (record (begin_clock chip tap tdi s) { tap = next tap tms }))

  pub clock_keeps : (tms tdi : Bool) (s t : State Counts) → t ≡ clock chip tms tdi s
      → AreHolds net s.stages → Keeps s.tap s t
  unfolding clock
  clock_keeps tms tdi s t e h = subst (Keeps s.tap s) (sym e) (keeps s.tap tms tdi s h)

  -- the stages that are kept beside the bench are its own
  pub stepped : (tms tdi : Bool) (s t : State Counts) (b : Net) (k : Bool) (old new : Holds)
      → t ≡ clock chip tms tdi s → b ≡ net → k ≡ changes_shift_stages s.tap → old ≡ s.stages → AreHolds net
      old
      → new ≡ cond k (put_chain (route_of b t.holds) (chain (route_of b t.holds) t.stages) old) old
      → AreHolds net new × (new ≡ t.stages)
  stepped tms tdi s t b k old new e n shifts same h is =
      let kept = clock_keeps tms tdi s t e (subst (λ (x : Holds). AreHolds net x) same h) in
      let all : new ≡ t.stages =
      is
      ∙ ap (λ (x : Net). cond k
      (put_chain (route_of x t.holds) (chain (route_of x t.holds) t.stages) old) old) n
      ∙ ap (λ (x : Bool). cond x
      (put_chain (route_of net t.holds) (chain (route_of net t.holds) t.stages) old) old) shifts
      ∙ ap (λ (x : Holds). cond (changes_shift_stages s.tap)
      (put_chain (route_of net t.holds) (chain (route_of net t.holds) t.stages) x) x) same
      ∙ kept.1 in
      (subst (λ (x : Holds). AreHolds net x) (sym all) kept.0, all)

  -- the same where they are kept at all
  pub kept_beside : (tms tdi : Bool) (s t : State Counts) (b : Net) (kept k : Bool) (old new : Holds)
      → t ≡ clock chip tms tdi s → b ≡ net → k ≡ changes_shift_stages s.tap
      → (kept ≡ true → old ≡ s.stages) → AreHolds net old
      → new ≡ cond (kept && k) (put_chain (route_of b t.holds) (chain (route_of b t.holds) t.stages) old) old
      → AreHolds net new × (kept ≡ true → new ≡ t.stages)
  kept_beside tms tdi s t b true k old new e n shifts same h is =
      let all = stepped tms tdi s t b k old new e n shifts (same refl) h is in (all.0, λ _. all.1)
  kept_beside tms tdi s t b false k old new e n shifts same h is =
      (subst (λ (x : Holds). AreHolds net x) (sym is) h, λ never. absurd (cc))
