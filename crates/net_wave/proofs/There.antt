-- What scopes and variables name is there.
use Rattle.std.proofs.Common.{◌≡◌, ℕ, zero, suc, ◌+◌, ◌-◌, ◌<◌, Bool, true, false, cond, All, List, [], ◌∷◌}
use Rattle.std.proofs.Common.{◌++◌, length, get_or, take, drop, add-one, append-nil, refl, ap, sym, ◌∙◌}
use Rattle.std.proofs.Common.{arith}
use Rattle.std.proofs.Math.Seq.{take-length, take-suc}
use Rattle.std.proofs.lemmas.List.Elements.{All-append, All-cons, All-head, All-nil, All-tail}
use Rattle.instruments.specs.Seen.{SeenModel}
use Rattle.net_graph.specs.declared.net.Net.{Net}
use Rattle.net_wave.specs.declared.var.Item.{Item}
use Rattle.net_wave.specs.declared.var.Item.TheVariants.{Open, Declare, Close}
use Rattle.net_wave.specs.declared.var.Scope.TheVariants.{Node, Register, Multiplexer, Words}
use Rattle.net_wave.specs.declared.var.Var.{Var}
use Rattle.net_wave.specs.declared.var.Var.TheVariants.{Tms, Tdi, Tdo, Expect, Differs, Tap, Instruction}
use Rattle.net_wave.specs.declared.var.Var.TheVariants.{Scan, Bit, Update, Shift, OnPath, Row, Input, Output}
use Rattle.net_wave.specs.declared.var.Var.TheVariants.{Word}
use Rattle.net_wave.specs.declared.var.WaveKind.{WaveKind}
use Rattle.net_wave.specs.Vars.{IsItem, IsVar, close_item, closing, declared_by, depth, shows_shift_stages}
use Rattle.net_wave.specs.Vars.{shows_chip_state}
use Rattle.net_wave.specs.Vars.{input_count, input_item, inst_item, inst_items, inst_node, insts_in, items}
use Rattle.net_wave.specs.Vars.{mux_item, mux_items, mux_node, muxes_in, node_items, opening, output_count}
use Rattle.net_wave.specs.Vars.{output_item, pin_items, register_item, register_items, register_node}
use Rattle.net_wave.specs.Vars.{registers_in, up_to, vars_of, word_count, word_item}
use Rattle.std.specs.Prelude.{◌==◌}

all_up_to : {T : Type 0} (P : T → Type 0) (f : ℕ → List T) (n : ℕ)
    → ((k : ℕ) → k < n → All P (f k)) → All P (up_to f n)
all_up_to P f zero h = All-nil P
all_up_to P f (suc n) h =
    All-append P (up_to f n) (f n) (all_up_to P f n (λ k l. h k (omega (arith, l)))) (h n (omega arith))

all_if : {T : Type 0} (P : T → Type 0) (k : Bool) (xs : List T) → All P xs → All P (cond k xs [])
all_if P true xs h = h
all_if P false xs h = All-nil P

either : {T : Type 0} (P : T → Type 0) (k : Bool) (xs ys : List T)
    → All P xs → All P ys → All P (cond k xs ys)
either P true xs ys h g = h
either P false xs ys h g = g

module _ (net : Net) (models : List SeenModel) where
  abbrev Is : Item → Type 0
  Is = IsItem net models

  one : (i : Item) → Is i → All Is (i ∷ [])
  one i h = All-cons Is i [] h (All-nil Is)

  pins_there : All Is pin_items
  pins_there = All-cons Is (Declare Tms) (Declare Tdi ∷ Declare Tdo ∷ Declare Expect ∷ Declare Differs
      ∷ Declare Tap ∷ Declare Instruction ∷ Declare Scan ∷ Declare Bit ∷ []) tt
      (All-cons Is (Declare Tdi) (Declare Tdo ∷ Declare Expect ∷ Declare Differs ∷ Declare Tap
      ∷ Declare Instruction ∷ Declare Scan ∷ Declare Bit ∷ []) tt (All-cons Is (Declare Tdo) (Declare Expect
      ∷ Declare Differs ∷ Declare Tap ∷ Declare Instruction ∷ Declare Scan ∷ Declare Bit ∷ []) tt (All-cons Is
      (Declare Expect) (Declare Differs ∷ Declare Tap ∷ Declare Instruction ∷ Declare Scan ∷ Declare Bit ∷ [])
      tt (All-cons Is (Declare Differs) (Declare Tap ∷ Declare Instruction ∷ Declare Scan ∷ Declare Bit ∷ [])
      tt (All-cons Is (Declare Tap) (Declare Instruction ∷ Declare Scan ∷ Declare Bit ∷ []) tt
      (All-cons Is (Declare Instruction) (Declare Scan ∷ Declare Bit ∷ []) tt
      (All-cons Is (Declare Scan) (Declare Bit ∷ []) tt (one (Declare Bit) tt))))))))

  register_there : (kind : WaveKind) (r : ℕ) → r < length net.regs.items → All Is (register_items kind r)
  register_there kind r h =
      All-cons Is (Open (Register r)) (Declare (Update r)
      ∷ (cond (shows_shift_stages kind) (Declare (Shift r) ∷ []) [] ++ Declare (OnPath r) ∷ Close ∷ [])) h
      (All-cons Is (Declare (Update r))
      (cond (shows_shift_stages kind) (Declare (Shift r) ∷ []) [] ++ Declare (OnPath r) ∷ Close ∷ []) h
      (All-append Is (cond (shows_shift_stages kind) (Declare (Shift r) ∷ []) []) (Declare (OnPath r) ∷
      Close ∷ [])
      (all_if Is (shows_shift_stages kind) (Declare (Shift r) ∷ []) (one (Declare (Shift r)) h))
      (All-cons Is (Declare (OnPath r)) (Close ∷ []) h (one Close tt))))

  mux_there : (m : ℕ) → m < length net.muxes.items → All Is (mux_items m)
  mux_there m h = All-cons Is (Open (Multiplexer m)) (Declare (Row m) ∷ Close ∷ []) h
      (All-cons Is (Declare (Row m)) (Close ∷ []) h (one Close tt))

  inst_there : (i : ℕ) → length models ≡ length net.insts.items
      → i < length net.insts.items → All Is (inst_items net models i)
  inst_there i same h =
      let words = up_to (word_item i) (word_count models i) in
      let outs = up_to (output_item i) (output_count net i) in
      let there : i < length models = omega (arith, same, h) in
      All-append Is (up_to (input_item i) (input_count net i)) (outs ++ (Open Words ∷ (words ++ Close ∷ [])))
      (all_up_to Is (input_item i) (input_count net i) (λ p l. one (Declare (Input i p)) (h, l)))
      (All-append Is outs (Open Words ∷ (words ++ Close ∷ []))
      (all_up_to Is (output_item i) (output_count net i) (λ p l. one (Declare (Output i p)) (h, l)))
      (All-cons Is (Open Words) (words ++ Close ∷ []) tt
      (All-append Is words (Close ∷ []) (all_up_to Is (word_item i) (word_count models i)
      (λ w l. one (Declare (Word i w)) (there, l))) (one Close tt))))

  node_there : (kind : WaveKind) (k : ℕ) → length models ≡ length net.insts.items
      → k < length net.nodes.items → All Is (node_items kind net models k)
  node_there kind k same h =
      let regs = registers_in kind net k in
      let muxes = muxes_in net k in
      All-append Is (opening k) (insts_in net models k ++ (regs ++ (muxes ++ closing net k)))
      (either Is (k == 0) [] (Open (Node k) ∷ []) (All-nil Is) (one (Open (Node k)) h))
      (All-append Is (insts_in net models k) (regs ++ (muxes ++ closing net k))
      (all_up_to Is (inst_item net models k) (length net.insts.items)
      (λ i l. all_if Is (inst_node net i == k) (inst_items net models i) (inst_there i same l)))
      (All-append Is regs (muxes ++ closing net k)
      (all_up_to Is (register_item kind net k) (length net.regs.items)
      (λ r l. all_if Is (register_node net r == k) (register_items kind r) (register_there kind r l)))
      (All-append Is muxes (closing net k)
      (all_up_to Is (mux_item net k) (length net.muxes.items)
      (λ m l. all_if Is (mux_node net m == k) (mux_items m) (mux_there m l)))
      (all_up_to Is close_item (suc (depth net k) - depth net (suc k)) (λ i l. one Close tt)))))

  -- those after the pins
  abbrev pub later_items : WaveKind → List Item
  later_items kind = cond (shows_chip_state kind)
      (up_to (node_items kind net models) (length net.nodes.items)) (Close ∷ [])

  pub later_there : (kind : WaveKind) → length models ≡ length net.insts.items → All Is (later_items kind)
  later_there kind same =
      let nodes = up_to (node_items kind net models) (length net.nodes.items) in
      either Is (shows_chip_state kind) nodes (Close ∷ []) (all_up_to Is (node_items kind net models)
      (length net.nodes.items) (λ k l. node_there kind k same l)) (one Close tt)

  pub items_there : (kind : WaveKind)
      → length models ≡ length net.insts.items → All Is (items kind net models)
  items_there kind same =
      All-append Is pin_items (later_items kind) pins_there (later_there kind same)

  pub after_pins : (kind : WaveKind) (is : List Item) → is ≡ items kind net models
      → take (length is - 9) (drop 9 is) ≡ later_items kind
  after_pins kind is same =
      let count : length (items kind net models) - 9 ≡ length (later_items kind) = omega arith in
      ap (λ (l : List Item). take (length l - 9) (drop 9 l)) same
      ∙ ap (λ (n : ℕ). take n (later_items kind)) count
      ∙ take-length (later_items kind)

  pub vars_there : (is : List Item) → All Is is → All (IsVar net models) (vars_of is)
  vars_there [] h = All-nil (IsVar net models)
  vars_there (Open s ∷ is) h = vars_there is (All-tail Is (Open s) is h)
  vars_there (Declare v ∷ is) h = All-cons (IsVar net models) v (vars_of is) (All-head Is (Declare v) is h)
      (vars_there is (All-tail Is (Declare v) is h))
  vars_there (Close ∷ is) h = vars_there is (All-tail Is Close is h)

pub vars_more : (is : List Item) (i : Item) → vars_of (is ++ i ∷ []) ≡ vars_of is ++ vars_of (i ∷ [])
vars_more [] i = refl
vars_more (Open s ∷ is) i = vars_more is i
vars_more (Declare v ∷ is) i = ap (λ vs. v ∷ vs) (vars_more is i)
vars_more (Close ∷ is) i = vars_more is i

pub vars_next : (is : List Item) (k : ℕ) (d : Item) (seen more : List Var)
    → k < length is → seen ≡ vars_of (take k is)
    → more ≡ seen ++ declared_by (get_or is k d) → more ≡ vars_of (take (k + 1) is)
vars_next is k d seen more h so_far added =
    let i = get_or is k d in
    let cut : take (k + 1) is ≡ take k is ++ i ∷ [] = ap (λ n. take n is) (add-one k) ∙ take-suc is k d h in
    added
    ∙ ap (λ l. l ++ declared_by i) so_far
    ∙ ap (λ l. vars_of (take k is) ++ l) (sym (append-nil (declared_by i)))
    ∙ sym (ap vars_of cut ∙ vars_more (take k is) i)
