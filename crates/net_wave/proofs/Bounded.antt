-- How wide variables are at most, and how many lines declare them.
use Rattle.std.proofs.Common.{ℕ, zero, suc, ◌-◌, ◌*◌, ◌/◌, ◌^◌, ◌<◌, ◌≤◌, Bool, true, false, cond, List, []}
use Rattle.std.proofs.Common.{◌∷◌, ◌++◌, length, map, get_or, arith, length-append}
use Rattle.std.specs.Prelude.{◌==◌, All, sum}
use Rattle.std.proofs.lemmas.List.Elements.{All-cons, All-head, All-nil, All-tail}
use Rattle.std.proofs.lemmas.List.Sums.{sum_by-cons}
use native.Mathlib.Nat.{suc-mul}
use Rattle.instruments.specs.Models.{IsModel, IsWord}
use Rattle.instruments.specs.Seen.{SeenModel, SeenWord}
use Rattle.net_graph.specs.declared.device.Device.{Device}
use Rattle.net_graph.specs.declared.net.Inst.{Inst}
use Rattle.net_graph.specs.declared.net.Net.{Net}
use Rattle.net_graph.specs.declared.net.Node.{Node as NodeOf}
use Rattle.net_graph.specs.declared.net.PortOut.{PortOut}
use Rattle.net_graph.specs.Named.{width_of}
use Rattle.net_graph.specs.Nets.{IsInst, IsNet}
use Rattle.net_graph.specs.Path.{rows_of}
use Rattle.net_graph.proofs.Tracing.{reg_count}
use Rattle.net_wave.specs.declared.var.Item.{Item}
use Rattle.net_wave.specs.declared.var.Item.TheVariants.{Open, Declare, Close}
use Rattle.net_wave.specs.declared.var.Scope.TheVariants.{Node, Words}
use Rattle.net_wave.specs.declared.var.Var.{Var}
use Rattle.net_wave.specs.declared.var.Var.TheVariants.{Tms, Tdi, Tdo, Expect, Differs, Tap, Instruction}
use Rattle.net_wave.specs.declared.var.Var.TheVariants.{Scan, Bit, Update, Shift, OnPath, Row, Input, Output}
use Rattle.net_wave.specs.declared.var.Var.TheVariants.{Word}
use Rattle.net_wave.specs.declared.var.WaveKind.{WaveKind}
use Rattle.net_wave.specs.declared.var.WaveKind.TheVariants.{Pins, State, All as AllOf}
use Rattle.net_wave.specs.Header.{shape}
use Rattle.net_wave.specs.Values.{binary_length, drivers, output_width, word_width}
use Rattle.net_wave.specs.Vars.{close_item, closing, depth, shows_chip_state, input_count, input_item}
use Rattle.net_wave.specs.Vars.{inst_item}
use Rattle.net_wave.specs.Vars.{inst_items, inst_node, insts_in, items, mux_item, mux_items, mux_node}
use Rattle.net_wave.specs.Vars.{muxes_in, node_items, opening, output_count, output_item, pin_items}
use Rattle.net_wave.specs.Vars.{register_item, register_items, register_node, registers_in, up_to, vars}
use Rattle.net_wave.specs.Vars.{vars_of, word_count, word_item}
use Rattle.net_wave.proofs.Modelled.{drivers_few}
use Rattle.net_wave.proofs.Wide.{wide_is}
use Rattle.instruments.proofs.Outputs.{bits_within_limit}

-- ---- widths

in_sum : (ns : List ℕ) (k : ℕ) → get_or ns k 0 ≤ sum ns
in_sum [] k = omega arith
in_sum (n ∷ ns) zero = omega (arith, sum_by-cons (λ m. m) n ns)
in_sum (n ∷ ns) (suc k) = omega (arith, sum_by-cons (λ m. m) n ns, in_sum ns k)

binary_short : (k n : ℕ) → binary_length k n ≤ k
binary_short zero n = omega arith
binary_short (suc k) n = by (n == 0) (binary_short k (n / 2))
  where
    by : (b : Bool) → binary_length k (n / 2) ≤ k → cond b 0 (suc (binary_length k (n / 2))) ≤ suc k
    by true h = omega arith
    by false h = omega (arith, h)

outs_narrow : (outs : List PortOut) (p : ℕ) → All (λ port. port.width ≤ 64) outs
    → get_or (map (λ port. port.width) outs) p 0 ≤ 64
outs_narrow [] p h = omega arith
outs_narrow (x ∷ xs) zero h = All-head (λ (port : PortOut). port.width ≤ 64) x xs h
outs_narrow (x ∷ xs) (suc p) h = outs_narrow xs p (All-tail (λ (port : PortOut). port.width ≤ 64) x xs h)

inst_narrow : (net : Net) (insts : List Inst) (i p : ℕ) → All (IsInst net) insts
    → get_or (get_or (map (λ inst. map (λ port. port.width) inst.outs.items) insts) i []) p 0 ≤ 64
inst_narrow net [] i p h = omega arith
inst_narrow net (x ∷ xs) zero p h = outs_narrow x.outs.items p (All-head (IsInst net) x xs h).outputs
inst_narrow net (x ∷ xs) (suc i) p h = inst_narrow net xs i p (All-tail (IsInst net) x xs h)

model_narrow : (models : List SeenModel) (i w : ℕ) → All IsModel models → word_width models i w ≤ 64
model_narrow [] i w h = omega arith
model_narrow (m ∷ ms) zero w h = bits_within_limit m.words w (All-head IsModel m ms h).words
model_narrow (m ∷ ms) (suc i) w h = model_narrow ms i w (All-tail IsModel m ms h)

module _ (net : Net) (device : Device) (models : List SeenModel) (is : IsNet net)
    (are : All IsModel models) (short : device.ir < 2 ^ 64) where
  reg_narrow : (r : ℕ) → width_of net r < 2 ^ 64
  reg_narrow r = omega (arith, in_sum (map (λ reg. reg.width) net.regs.items) r, is.bits_within_limit)

  narrow : (v : Var) → (shape net device models v).width < 2 ^ 64
  narrow Tms = omega arith
  narrow Tdi = omega arith
  narrow Tdo = omega arith
  narrow Expect = omega arith
  narrow Differs = omega arith
  narrow Tap = omega arith
  narrow Instruction = short
  narrow Scan = omega arith
  narrow Bit = omega arith
  narrow (Update r) = reg_narrow r
  narrow (Shift r) = reg_narrow r
  narrow (OnPath r) = omega arith
  narrow (Row m) = omega (arith, binary_short 32 (length (rows_of net m)))
  narrow (Input i p) = omega (arith, wide_is (length (drivers net i p)), drivers_few net i p is)
  narrow (Output i p) =
      omega (arith, wide_is (output_width net i p), inst_narrow net net.insts.items i p is.insts)
  narrow (Word i w) = omega (arith, wide_is (word_width models i w), model_narrow models i w are)

  pub all_narrow : (vs : List Var) → All (λ v. (shape net device models v).width < 2 ^ 64) vs
  all_narrow [] = All-nil (λ v. (shape net device models v).width < 2 ^ 64)
  all_narrow (v ∷ vs) =
      All-cons (λ v. (shape net device models v).width < 2 ^ 64) v vs (narrow v) (all_narrow vs)

-- ---- lines

up_to_short : {T : Type 0} (f : ℕ → List T) (n m : ℕ)
    → ((k : ℕ) → k < n → length (f k) ≤ m) → length (up_to f n) ≤ n * m
up_to_short f zero m h = omega arith
up_to_short f (suc n) m h =
    omega (
      arith,
      length-append (up_to f n) (f n),
      up_to_short f n m (λ k l. h k (omega (arith, l))),
      h n (omega arith),
      suc-mul n m,
    )

either_short : {T : Type 0} (b : Bool) (xs ys : List T) (m : ℕ) → length xs ≤ m
    → length ys ≤ m → length (cond b xs ys) ≤ m
either_short true xs ys m h g = h
either_short false xs ys m h g = g

counts_few : {X Y : Type 0} (P : X → Type 0) (parts : X → List Y) (most : ℕ)
    → ((x : X) → P x → length (parts x) ≤ most) → (xs : List X) (k : ℕ) → All P xs
    → get_or (map (λ x. length (parts x)) xs) k 0 ≤ most
counts_few P parts most to [] k h = omega arith
counts_few P parts most to (x ∷ xs) zero h = to x (All-head P x xs h)
counts_few P parts most to (x ∷ xs) (suc k) h = counts_few P parts most to xs k (All-tail P x xs h)

words_few : (models : List SeenModel) (i : ℕ) → All IsModel models → word_count models i ≤ 8
words_few [] i h = omega arith
words_few (m ∷ ms) zero h = (All-head IsModel m ms h).few_words
words_few (m ∷ ms) (suc i) h = words_few ms i (All-tail IsModel m ms h)

vars_short : (is : List Item) → length (vars_of is) ≤ length is
vars_short [] = omega arith
vars_short (Open s ∷ is) = omega (arith, vars_short is)
vars_short (Declare v ∷ is) = omega (arith, vars_short is)
vars_short (Close ∷ is) = omega (arith, vars_short is)

module _ (net : Net) (models : List SeenModel) (is : IsNet net) (are : All IsModel models) where
  register_short : (kind : WaveKind) (r : ℕ) → length (register_items kind r) ≤ 5
  register_short Pins r = omega arith
  register_short State r = omega arith
  register_short AllOf r = omega arith

  inst_short : (i : ℕ) → length (inst_items net models i) ≤ 42
  inst_short i =
      let ins = up_to (input_item i) (input_count net i) in
      let outs = up_to (output_item i) (output_count net i) in
      let words = up_to (word_item i) (word_count models i) in
      omega (
        arith,
        length-append ins (outs ++ (Open Words ∷ (words ++ Close ∷ []))),
        length-append outs (Open Words ∷ (words ++ Close ∷ [])),
        length-append words (Close ∷ []),
        up_to_short (input_item i) (input_count net i) 1 (λ k l. omega arith),
        up_to_short (output_item i) (output_count net i) 1 (λ k l. omega arith),
        up_to_short (word_item i) (word_count models i) 1 (λ k l. omega arith),
        counts_few (IsInst net) (λ (inst : Inst). inst.ins.items) 16
            (λ inst h. h.few_inputs) net.insts.items i is.insts,
        counts_few (IsInst net) (λ (inst : Inst). inst.outs.items) 16
            (λ inst h. h.few_outputs) net.insts.items i is.insts,
        words_few models i are,
      )

  deep : (k : ℕ) → depth net k ≤ 64
  deep k = counts_few (λ (node : NodeOf). length node.path.items ≤ 64) (λ (node : NodeOf). node.path.items) 64
      (λ node h. h) net.nodes.items k is.few_levels

  node_short : (kind : WaveKind) (k : ℕ) → length (node_items kind net models k) ≤ 34371
  node_short kind k =
      let insts = insts_in net models k in
      let regs = registers_in kind net k in
      let muxes = muxes_in net k in
      let ends = closing net k in
      omega (
        arith,
        length-append (opening k) (insts ++ (regs ++ (muxes ++ ends))),
        length-append insts (regs ++ (muxes ++ ends)),
        length-append regs (muxes ++ ends),
        length-append muxes ends,
        either_short (k == 0) [] (Open (Node k) ∷ []) 1 (omega arith) (omega arith),
        up_to_short (inst_item net models k) (length net.insts.items) 42 (λ i l. either_short
            (inst_node net i == k) (inst_items net models i) [] 42 (inst_short i) (omega arith)),
        up_to_short (register_item kind net k) (length net.regs.items) 5 (λ r l. either_short
            (register_node net r == k) (register_items kind r) [] 5 (register_short kind r) (omega arith)),
        up_to_short (mux_item net k) (length net.muxes.items) 3
            (λ m l. either_short (mux_node net m == k) (mux_items m) [] 3 (omega arith) (omega arith)),
        up_to_short close_item (suc (depth net k) - depth net (suc k)) 1 (λ i l. omega arith),
        deep k,
        is.few_insts,
        reg_count net is,
        is.few_muxes,
      )

  pub vars_few : (kind : WaveKind) → length (vars kind net models) < 2 ^ 32
  vars_few kind =
      let nodes = up_to (node_items kind net models) (length net.nodes.items) in
      let rest = cond (shows_chip_state kind) nodes (Close ∷ []) in
      omega (
        arith,
        vars_short (items kind net models),
        length-append pin_items rest,
        either_short (shows_chip_state
            kind) nodes (Close ∷ []) (8192 * 34371) (omega (
              arith,
              up_to_short (node_items kind net models)
                  (length net.nodes.items) 34371 (λ k l. node_short kind k),
              is.few_nodes,
            )) (omega arith),
      )
