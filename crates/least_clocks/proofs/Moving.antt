-- The clocks of work from a state on: what the state and the work have to do with them.
use Rattle.std.proofs.Common.{◌≡◌, ⊎_elim, ℕ, zero, suc, ◌+◌, ◌≤◌, Bool, true, false, List, [], ◌∷◌, ◌++◌}
use Rattle.std.proofs.Common.{Some, None, refl, sym, ap, ◌∙◌, subst, arith}
use Rattle.std.specs.Prelude.{All, map, not, ◌&&◌, filter, cond}
use Rattle.std.specs.List.{list_all}
use Rattle.std.proofs.lemmas.Bool.{cases_Bool}
use Rattle.std.proofs.lemmas.List.Elements.{All-head, All-tail, All-weaker}
use Rattle.std.proofs.lemmas.Option.{none-some}
use Rattle.ij_bits.specs.BitLists.{same_bit}
use Rattle.ij_bits.proofs.Lists.{then_some}
use Rattle.net_graph.specs.declared.branch.Branch.{Branch}
use Rattle.net_graph.specs.declared.device.Device.{Device}
use Rattle.net_graph.specs.declared.net.Net.{Net}
use Rattle.net_graph.specs.declared.step.WriteBit.{WriteBit}
use Rattle.net_graph.specs.Path.{is_in}
use Rattle.net_graph.specs.Resets.{reset_holds}
use Rattle.net_graph.specs.SeenSteps.{SeenGroup}
use Rattle.net_graph.specs.Signals.{Holds}
use Rattle.net_graph.specs.Steps.{IsDataBit, IsGroup}
use Rattle.net_graph.specs.Writes.{write_all}
use Rattle.net_graph.proofs.DataBits.{SameData, write_same, reset_same}
use Rattle.net_graph.proofs.Shapes.{shape, widths, reset-shape}
use Rattle.net_graph.proofs.Writing.{IsHeld, write_all-shape}
use Rattle.net_tree.specs.Form.{Items}
use Rattle.tap_machine.specs.declared.Stable.{Stable}
use Rattle.tap_machine.specs.declared.Stable.TheVariants.{Reset as InReset, Idle as InIdle}
use Rattle.tap_machine.specs.Play.{is_empty}
use Rattle.svf_audit.specs.Work.{Work, Group, Cycle, Reset, has_value, is_redundant, due, after_cycle}
use Rattle.svf_audit.specs.Work.{after_cycles}
use Rattle.svf_audit.proofs.Working.{IsWork}
use Rattle.least_clocks.specs.Inside.{is_one_of, bits_within_rows}
use Rattle.least_clocks.specs.Least.{State, clocks_to_idle, clocks_to_link, first_path, first_scan}
use Rattle.least_clocks.specs.Least.{is_on_first, is_passed, own_scan, rows_around, read, round_clocks}
use Rattle.least_clocks.specs.Least.{round_scan_clocks, least_from}

abbrev pub state : Bool → Bool → Stable → Holds → State
state fresh linked rest holds = record { fresh = fresh; linked = linked; rest = rest; holds = holds }

-- ---- the same data bits

module _ (net : Net) (h k : Holds) (same : SameData net h k) where
  value_same : (w : WriteBit) → IsDataBit net w.bit → has_value h w ≡ has_value k w
  value_same w d = ap (λ v. same_bit v w.value) (same w.bit d.data_bit)

  values_same : (ws : List WriteBit) → All (λ w. IsDataBit net w.bit) ws
      → list_all (has_value h) ws ≡ list_all (has_value k) ws
  values_same [] a = refl
  values_same (w ∷ ws) a =
      let e = value_same w (All-head (λ w. IsDataBit net w.bit) w ws a) in
      let es = values_same ws (All-tail (λ w. IsDataBit net w.bit) w ws a) in
      λ j. e j && es j

  changes_same : (ws : List WriteBit) → All (λ w. IsDataBit net w.bit) ws
      → filter (λ w. not (has_value h w)) ws ≡ filter (λ w. not (has_value k w)) ws
  changes_same [] a = refl
  changes_same (w ∷ ws) a =
      let e = value_same w (All-head (λ w. IsDataBit net w.bit) w ws a) in
      let es = changes_same ws (All-tail (λ w. IsDataBit net w.bit) w ws a) in
      λ j. cond (not (e j)) (w ∷ es j) (es j)

  redundant_same : (g : SeenGroup) → IsGroup net g → is_redundant h (Group g) ≡ is_redundant k (Group g)
  redundant_same g v = ap (λ t. is_empty g.reads && t) (values_same g.writes v.written)

  on_first_same : (g : SeenGroup) → IsGroup net g → is_on_first net h g ≡ is_on_first net k g
  on_first_same g v =
      ap (λ ws. list_all (is_in (first_path net)) (map (λ (w : WriteBit). w.bit.reg) ws ++ read g))
      (changes_same g.writes v.written)

  passed_same : (form : Items) (g : SeenGroup) → IsGroup net g → is_passed form h g ≡ is_passed form k g
  passed_same form g v =
      ap (λ ws. is_one_of (rows_around form (map (λ w. w.bit.reg) ws) ++ rows_around form (read g)))
      (changes_same g.writes v.written)

held : (net : Net) (h : Holds) → shape h ≡ widths net → (ws : List WriteBit)
    → All (λ w. IsDataBit net w.bit) ws → All (λ w. IsHeld (shape h) w.bit) ws
held net h e ws a =
    All-weaker (λ w. IsDataBit net w.bit) (λ w. IsHeld (shape h) w.bit)
    (λ w b. subst (λ ns. IsHeld ns w.bit) (sym e) b.there) ws a

module _ (net : Net) (form : Items) (device : Device) where
  abbrev from : Bool → Bool → Stable → Holds → List Work → ℕ
  from f l r h ws = least_from net form device (state f l r h) ws

  abbrev scans : Bool → (Branch → Bool) → Bool → ℕ
  scans false passed on = bits_within_rows net form passed + 5
  scans true passed on = first_scan net + cond on 0 (bits_within_rows net form passed + 5)

  abbrev round : Bool → Bool → Stable → (Branch → Bool) → Bool → ℕ
  round f l r passed on = clocks_to_idle r + (clocks_to_link device l + scans f passed on)

  round_is : (f l : Bool) (r : Stable) (h : Holds) (g : SeenGroup)
      → round_clocks net form device (state f l r h) g
      ≡ round f l r (is_passed form h g) (is_on_first net h g)
  round_is false l r h g = refl
  round_is true l r h g = refl

  abbrev pub with_round : Bool → ℕ → ℕ → ℕ → ℕ
  with_round t skipped here later = elim t [ true ↦ skipped | false ↦ here + later ]

  -- only the data bits count
  pub same_clocks : (f l : Bool) (r : Stable) (h k : Holds) (ws : List Work) → shape h ≡ widths net
      → shape k ≡ widths net → All (IsWork net) ws → SameData net h k → from f l r h ws ≡ from f l r k ws
  same_clocks f l r h k [] x y a s = refl
  same_clocks f l r h k (Group g ∷ ws) x y a s =
      let v = All-head (IsWork net) (Group g) ws a in
      let rest = All-tail (IsWork net) (Group g) ws a in
      let test = redundant_same net h k s g v in
      let rows = passed_same net h k s form g v in
      let on = on_first_same net h k s g v in
      let here = round_is f l r h g ∙ (λ j. round f l r (rows j) (on j)) ∙ sym (round_is f l r k g) in
      let skipped = same_clocks f l r h k ws x y rest s in
      let after = write_same net g.writes h k (x ∙ sym y) (held net h x g.writes v.written) s in
      let later = same_clocks false true InIdle (write_all h g.writes) (write_all k g.writes) ws
      (write_all-shape g.writes h ∙ x) (write_all-shape g.writes k ∙ y) rest after in
      λ j. with_round (test j) (skipped j) (here j) (later j)
  same_clocks f l r h k (Cycle ∷ ws) x y a s =
      ap (λ n. clocks_to_idle r + suc n)
      (same_clocks f l InIdle h k ws x y (All-tail (IsWork net) Cycle ws a) s)
  same_clocks f l r h k (Reset ∷ ws) x y a s =
      ap (λ n. clocks_to_idle r + (5 + n))
      (same_clocks f false InReset (reset_holds net h) (reset_holds net k) ws (reset-shape net h ∙ x)
      (reset-shape net k ∙ y) (All-tail (IsWork net) Reset ws a) (reset_same net h k (x ∙ sym y) s))

  -- ---- a round

  skips : (f l : Bool) (r : Stable) (h : Holds) (g : SeenGroup) (ws : List Work)
      → is_redundant h (Group g) ≡ true → from f l r h (Group g ∷ ws) ≡ from f l r h ws
  skips f l r h g ws e =
      ap (λ t. with_round t (from f l r h ws) (round_clocks net form device (state f l r h) g)
      (from false true InIdle (write_all h g.writes) ws)) e

  pub takes : (f l : Bool) (r : Stable) (h : Holds) (g : SeenGroup) (ws : List Work)
      → is_redundant h (Group g) ≡ false → from f l r h (Group g ∷ ws)
      ≡ clocks_to_idle r + (clocks_to_link device l + round_scan_clocks net form f h g)
      + from false true InIdle (write_all h g.writes) ws
  takes f l r h g ws e =
      ap (λ t. with_round t (from f l r h ws) (round_clocks net form device (state f l r h) g)
      (from false true InIdle (write_all h g.writes) ws)) e

  -- ---- what it takes to move on

  pub leave : (f l : Bool) (r : Stable) (h : Holds) (ws : List Work)
      → from f l r h ws ≤ clocks_to_idle r + from f l InIdle h ws
  leave f l r h [] = omega arith
  leave f l r h (Group g ∷ ws) =
      ⊎_elim (λ t. omega (arith, skips f l r h g ws t, skips f l InIdle h g ws t, leave f l r h ws))
      (λ t. omega (arith, takes f l r h g ws t, takes f l InIdle h g ws t))
      (cases_Bool (is_redundant h (Group g)))
  leave f l r h (Cycle ∷ ws) = omega arith
  leave f l r h (Reset ∷ ws) = omega arith

  link_short : (l : Bool) → clocks_to_link device l ≤ device.ir + 6
  link_short true = omega arith
  link_short false = omega arith

  pub link : (f l : Bool) (r : Stable) (h : Holds) (ws : List Work)
      → from f l r h ws ≤ device.ir + 6 + from f true r h ws
  link f l r h [] = omega arith
  link f l r h (Group g ∷ ws) =
      ⊎_elim (λ t. omega (arith, skips f l r h g ws t, skips f true r h g ws t, link f l r h ws))
      (λ t. omega (arith, takes f l r h g ws t, takes f true r h g ws t, link_short l))
      (cases_Bool (is_redundant h (Group g)))
  link f l r h (Cycle ∷ ws) = omega (arith, link f l InIdle h ws)
  link f l r h (Reset ∷ ws) = omega arith

  pub linked_least : (f l : Bool) (r : Stable) (h : Holds) (ws : List Work)
      → from f true r h ws ≤ from f l r h ws
  linked_least f l r h [] = omega arith
  linked_least f l r h (Group g ∷ ws) =
      ⊎_elim (λ t. omega (arith, skips f l r h g ws t, skips f true r h g ws t, linked_least f l r h ws))
      (λ t. omega (arith, takes f l r h g ws t, takes f true r h g ws t))
      (cases_Bool (is_redundant h (Group g)))
  linked_least f l r h (Cycle ∷ ws) = omega (arith, linked_least f l InIdle h ws)
  linked_least f l r h (Reset ∷ ws) = omega arith

  pub unlinked_most : (f l : Bool) (r : Stable) (h : Holds) (ws : List Work)
      → from f l r h ws ≤ from f false r h ws
  unlinked_most f true r h ws = linked_least f false r h ws
  unlinked_most f false r h ws = omega arith

  another : (on : Bool) (n : ℕ) → cond on 0 n ≤ n
  another true n = omega arith
  another false n = omega arith

  -- the first scan
  pub scanned_once : (l : Bool) (r : Stable) (h : Holds) (ws : List Work)
      → from true l r h ws ≤ first_scan net + from false l r h ws
  scanned_once l r h [] = omega arith
  scanned_once l r h (Group g ∷ ws) =
      ⊎_elim (λ t. omega (arith, skips true l r h g ws t, skips false l r h g ws t, scanned_once l r h ws))
      (λ t. omega (
        arith,
        takes true l r h g ws t,
        takes false l r h g ws t,
        another (is_on_first net h g) (own_scan net form h g),
      )) (cases_Bool (is_redundant h (Group g)))
  scanned_once l r h (Cycle ∷ ws) = omega (arith, scanned_once l InIdle h ws)
  scanned_once l r h (Reset ∷ ws) = omega (arith, scanned_once false InReset (reset_holds net h) ws)

  -- ---- what is due

  pub due_clocks : (f l : Bool) (r : Stable) (h : Holds) (ws : List Work)
      → from f l r h (due h ws) ≡ from f l r h ws
  due_clocks f l r h [] = refl
  due_clocks f l r h (Group g ∷ ws) =
      ⊎_elim
      (λ t. ap (λ b. from f l r h (elim b [ true ↦ due h ws | false ↦ Group g ∷ ws ])) t
      ∙ due_clocks f l r h ws ∙ sym (skips f l r h g ws t))
      (λ t. ap (λ b. from f l r h (elim b [ true ↦ due h ws | false ↦ Group g ∷ ws ])) t)
      (cases_Bool (is_redundant h (Group g)))
  due_clocks f l r h (Cycle ∷ ws) = refl
  due_clocks f l r h (Reset ∷ ws) = refl

pub due_work : (net : Net) (h : Holds) (ws : List Work) → All (IsWork net) ws → All (IsWork net) (due h ws)
due_work net h [] a = a
due_work net h (Group g ∷ ws) a =
    ⊎_elim
    (λ t. subst (All (IsWork net))
    (sym (ap (λ b. elim b as (λ _. List Work) [ true ↦ due h ws | false ↦ Group g ∷ ws ]) t))
    (due_work net h ws (All-tail (IsWork net) (Group g) ws a)))
    (λ t. subst (All (IsWork net))
    (sym (ap (λ b. elim b as (λ _. List Work) [ true ↦ due h ws | false ↦ Group g ∷ ws ]) t)) a)
    (cases_Bool (is_redundant h (Group g)))
due_work net h (Cycle ∷ ws) a = a
due_work net h (Reset ∷ ws) a = a

abbrev head_of : Work → List Work → Work
head_of w [] = w
head_of w (x ∷ xs) = x

-- what is due first isn't redundant
pub due_first : (h : Holds) (ws : List Work) (w : Work) (vs : List Work)
    → due h ws ≡ w ∷ vs → is_redundant h w ≡ false
due_first h [] w vs e = absurd cc
due_first h (Group g ∷ ws) w vs e =
    ⊎_elim
    (λ t. due_first h ws w vs
    (sym (ap (λ b. elim b as (λ _. List Work) [ true ↦ due h ws | false ↦ Group g ∷ ws ]) t) ∙ e))
    (λ t. ap (λ l. is_redundant h (head_of w l))
    (sym e ∙ ap (λ b. elim b as (λ _. List Work) [ true ↦ due h ws | false ↦ Group g ∷ ws ]) t) ∙ t)
    (cases_Bool (is_redundant h (Group g)))
due_first h (Cycle ∷ ws) w vs e = ap (λ l. is_redundant h (head_of w l)) (sym e)
due_first h (Reset ∷ ws) w vs e = ap (λ l. is_redundant h (head_of w l)) (sym e)

-- ---- run cycles

same_cycle : (w ws : List Work) → after_cycle w ≡ Some ws → w ≡ Cycle ∷ ws
same_cycle [] ws e = absurd (none-some ws e)
same_cycle (Group g ∷ vs) ws e = absurd (none-some ws e)
same_cycle (Reset ∷ vs) ws e = absurd (none-some ws e)
same_cycle (Cycle ∷ vs) ws e = ap (λ o. Cycle ∷ elim o [ Some x ↦ x | None ↦ vs ]) e

module _ (net : Net) (form : Items) (device : Device) (f l : Bool) (h : Holds) where
  abbrev idle_from : List Work → ℕ
  idle_from ws = least_from net form device (state f l InIdle h) ws

  pub cycles_clocks : (n : ℕ) (left now : List Work)
      → after_cycles h n left ≡ Some now → idle_from left ≡ n + idle_from now
  cycles_clocks zero left now e =
      let same = ap (λ o. idle_from (elim o as (λ _. List Work) [ Some x ↦ x | None ↦ left ])) e in
      omega (arith, same)
  cycles_clocks (suc n) left now e =
      let (ws, q, later) = then_some (after_cycles h n) (after_cycle (due h left)) now e in
      let one = sym (due_clocks net form device f l InIdle h left)
      ∙ ap idle_from (same_cycle (due h left) ws q) in
      omega (arith, cycles_clocks n ws now later, one)

pub cycles_work : (net : Net) (h : Holds) (n : ℕ) (left now : List Work) → after_cycles h n left ≡ Some now
    → All (IsWork net) left → All (IsWork net) now
cycles_work net h zero left now e a =
    subst (All (IsWork net)) (ap (λ o. elim o as (λ _. List Work) [ Some x ↦ x | None ↦ left ]) e) a
cycles_work net h (suc n) left now e a =
    let (ws, q, f) = then_some (after_cycles h n) (after_cycle (due h left)) now e in
    let rest = All-tail (IsWork net) Cycle ws
    (subst (All (IsWork net)) (same_cycle (due h left) ws q) (due_work net h left a)) in
    cycles_work net h n ws now f rest
