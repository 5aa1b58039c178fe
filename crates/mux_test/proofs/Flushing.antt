-- One flush on a bench that rests with the link's instruction, whatever its path is.
use Rattle.std.proofs.Common.{◌≡◌, ◌≢◌, ℕ, suc, ◌<◌, ◌≤◌, Bool, true, false, List, [], ◌∷◌, ◌++◌, length}
use Rattle.std.proofs.Common.{Some, refl, sym, ap, ◌∙◌, subst, arith, length-append}
use Rattle.std.specs.Prelude.{replicate}
use Rattle.std.proofs.lemmas.List.{length-replicate}
use Rattle.ij_bits.specs.BitLists.{bits_of}
use Rattle.ij_bits.proofs.SameBits.{bits_same_self}
use Rattle.instruments.specs.OnNetwork.{changes}
use Rattle.net_graph.specs.Chain.{IsRoute, chain, shifted_out}
use Rattle.net_graph.specs.declared.device.Device.{Device}
use Rattle.net_graph.specs.declared.net.Net.{Net}
use Rattle.net_graph.specs.Nets.{IsNet}
use Rattle.net_graph.specs.Path.{route_of}
use Rattle.net_graph.specs.Signals.{Holds}
use Rattle.net_graph.proofs.Routes.{route_in}
use Rattle.net_graph.proofs.Shapes.{shape, widths, capture_widths, length-chain_same}
use Rattle.net_graph.proofs.Steps.{DifferOn, put_chain-to}
use Rattle.net_graph.proofs.Widths.{as_many_held, chain_fits}
use Rattle.svf_writer.specs.SeenCommands.{SDR, SeenScan}
use Rattle.tap_machine.specs.declared.Stable.TheVariants.{Idle as InIdle}
use Rattle.tap_machine.specs.declared.TapState.TheVariants.{RunTestIdle}
use Rattle.tap_machine.specs.Play.{masked, pins}
use Rattle.net_bench.specs.Bench.{Chip, State, select_of}
use Rattle.net_bench.specs.Instruction.{Selected, Network, Identity, Bypass, selected, selects_identity}
use Rattle.net_bench.specs.Laws.{IsShaped, Ready, captured, exchanged, stepped}
use Rattle.net_bench.specs.Playing.{compares_from, differing, play_from, resting, scan_compares}
use Rattle.net_bench.proofs.PublicLaws.{plays_rest, scans_of_any_length, shaped_is_ready, stays_shaped}
use Rattle.scan_packer.specs.Flushed.{scan_bits, marker, flush_tdo, flush_mask}
use Rattle.mux_test.specs.Test.{flush}
use Rattle.mux_test.proofs.Marker.{last_stay, first_out, none_differ, another_length}

abbrev pick : Device → List Bool → Bool → Selected
pick device ir b = elim b [
  | true ↦ Network
  | false ↦ elim (selects_identity device ir) [ true ↦ Identity | false ↦ Bypass ]
]

module _ {L : Type 0} (chip : Chip L) where
  -- a bench that rests with the link's instruction
  pub record Rests (s : State L) : Type 0 where
    pub idle : s.tap ≡ RunTestIdle
    pub link : s.ir_hold ≡ bits_of chip.device.ir chip.device.opcode
    pub shaped : IsShaped chip s

  network : (s : State L) → Rests s → select_of chip s ≡ Network
  network s r =
      let op = bits_of chip.device.ir chip.device.opcode in
      ap (selected chip.device) r.link ∙ ap (λ b. pick chip.device op b) (bits_same_self op)

  module _ (w : IsNet chip.net) (wide : capture_widths chip.net ≡ widths chip.net) (scans : ℕ) (s : State L)
      (r : Rests s) (after : Holds) (same_shape : shape after ≡ shape s.holds)
      (route : IsRoute (length chip.net.regs.items) (chip.path s.holds))
      (some : 0 < length (chain (route_of chip.net s.holds) s.holds)) where
    abbrev net : Net
    net = chip.net

    abbrev own : List ℕ
    own = route_of net s.holds

    abbrev f : SeenScan
    f = flush net s.holds after

    abbrev last : List Bool
    last = chain own after

    abbrev bits : List Bool
    bits = marker net ++ last

    abbrev c : List Bool
    c = captured chip s

    abbrev l : ℕ
    l = length (chain own s.holds)

    is_ready : Ready chip s
    is_ready = shaped_is_ready chip s wide r.shaped r.idle (network s r) route

    marker_long : length (marker net) ≡ suc (scan_bits net)
    marker_long = omega (
      arith,
      length-append (replicate (scan_bits net) false) (true ∷ []),
      length-replicate (scan_bits net) false,
    )

    at_least_one : 0 < length bits
    at_least_one = omega (arith, length-append (marker net) last, marker_long)

    -- a list that isn't empty
    some_bits : (bs : List Bool) → 0 < length bs → (t : Bool) × (ts : List Bool) × (Some bs ≡ Some (t ∷ ts))
    some_bits [] h = absurd (omega (arith, h))
    some_bits (t ∷ ts) h = (t, ts, refl)

    -- whatever the path is, the controller rests in Run-Test/Idle afterwards
    pub idle_on : resting (play_from chip scans (SDR f ∷ []) s) ≡ InIdle
    idle_on = plays_rest chip scans (SDR f ∷ []) InIdle s r.idle (some_bits bits at_least_one, tt)

    own_fits : l ≤ scan_bits net
    own_fits = chain_fits net own s.holds r.shaped.holds (route_in net s.holds s.holds w r.shaped.holds)

    last_long : length last ≡ l
    last_long = length-chain_same own after s.holds same_shape

    few_captured : length c ≤ scan_bits net
    few_captured =
        let few = chain_fits net (chip.path s.holds) s.stages r.shaped.stages is_ready.route in
        omega (arith, is_ready.captured_fits, few)

    captured_long : length c ≡ length (chain (chip.path s.holds) s.holds)
    captured_long =
        is_ready.captured_fits ∙ length-chain_same
        (chip.path s.holds) s.stages s.holds (r.shaped.stages ∙ sym r.shaped.holds)

    finds : compares_from chip scans (SDR f ∷ []) s ≡ scan_compares (suc scans) 0
        (masked (flush_tdo net s.holds own) (flush_mask net s.holds own)) (shifted_out c bits)
    finds = (scans_of_any_length chip scans f bits s is_ready refl at_least_one).1

    -- a path of another length is found
    pub found : length (chain (chip.path s.holds) s.holds) ≢ l
        → 1 ≤ length (differing (compares_from chip scans (SDR f ∷ []) s))
    found n =
        subst (λ cs. 1 ≤ length (differing cs)) (sym finds) (another_length (scan_bits net) l c last own_fits
        few_captured last_long (suc scans) (λ e. n (sym captured_long ∙ e)))

    -- on the path that is meant no compare differs, and the path takes what it is to hold
    module _ (same : chip.path s.holds ≡ own) (d : DifferOn own s.holds after) where
      own_long : length c ≡ l
      own_long = captured_long ∙ ap (λ p. length (chain p s.holds)) same

      held_route : IsRoute (length s.holds) (chip.path s.holds)
      held_route = subst (λ k. IsRoute k (chip.path s.holds))
          (sym (as_many_held net s.holds r.shaped.holds)) route

      pub plays : play_from chip scans (SDR f ∷ []) s ≡ stepped chip s after
      plays =
          (scans_of_any_length chip scans f bits s is_ready refl at_least_one).0
          ∙ ap (exchanged chip s) (last_stay c (marker net) last (last_long ∙ sym own_long))
          ∙ ap (λ q. exchanged chip s (chain q after)) (sym same)
          ∙ ap (λ x. record (stepped chip s after) {
            holds = x;
            insts =
                changes chip.log chip.net chip.machines s.holds x s.insts;
          }) (put_chain-to (chip.path s.holds)
          s.holds after held_route (subst (λ q. DifferOn q s.holds after) (sym same) d))

      as_many : (k j : ℕ) → length c ≡ k → length (marker net) ≡ j
          → differing (scan_compares (suc scans) 0 (masked (replicate k false ++ marker net)
          (replicate k false ++ replicate j true)) (c ++ marker net)) ≡ []
      as_many k j e g =
          ap (λ z. differing (scan_compares (suc scans) 0 (masked (replicate z false ++ marker net)
          (replicate z false ++ replicate j true)) (c ++ marker net))) (sym e)
          ∙ ap (λ z. differing (scan_compares (suc scans) 0 (masked (replicate (length c) false ++ marker net)
          (replicate (length c) false ++ replicate z true)) (c ++ marker net))) (sym g)
          ∙ none_differ c (marker net) (suc scans) 0

      pub none : differing (compares_from chip scans (SDR f ∷ []) s) ≡ []
      none =
          ap differing (finds ∙ ap (scan_compares (suc scans) 0
          (masked (flush_tdo net s.holds own) (flush_mask net s.holds own))) (first_out c
          (marker net) last (subst (λ k. 0 < k) (sym own_long) some) (last_long ∙ sym own_long)))
          ∙ as_many l (suc (scan_bits net)) own_long marker_long

      pub rests_on : Rests (play_from chip scans (SDR f ∷ []) s)
      rests_on =
          record {
            idle = ap (λ (z : State L). z.tap) plays;
            link = ap (λ (z : State L). z.ir_hold) plays
                ∙ r.link;
            shaped = stays_shaped chip (pins (resting s) scans (SDR f ∷ [])) s wide r.shaped;
          }

      pub holds_on : (play_from chip scans (SDR f ∷ []) s).holds ≡ after
      holds_on = ap (λ (z : State L). z.holds) plays

      pub insts_on : (play_from chip scans (SDR f ∷ []) s).insts
          ≡ changes chip.log chip.net chip.machines s.holds after s.insts
      insts_on = ap (λ (z : State L). z.insts) plays
