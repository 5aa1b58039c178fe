-- Each variable that is asked is declared once.
use Rattle.std.proofs.Common.{◌≡◌, ◌⊎◌, inl, inr, ℕ, zero, suc, ◌+◌, ◌-◌, ◌<◌, ◌≤◌, All, Bool, true, false}
use Rattle.std.proofs.Common.{cond, List, [], ◌∷◌, ◌++◌, length, map, get_or, refl, ap, sym, ◌∙◌, subst}
use Rattle.std.proofs.Common.{arith}
use Rattle.std.specs.Prelude.{◌==◌, ◌&&◌}
use Rattle.std.proofs.lemmas.Bool.Decides.{nat_tests}
use Rattle.std.proofs.lemmas.List.Elements.{All-head, All-tail}
use Rattle.net_graph.specs.declared.net.Inst.{Inst}
use Rattle.net_graph.specs.declared.net.Mux.{Mux}
use Rattle.net_graph.specs.declared.net.Net.{Net}
use Rattle.net_graph.specs.declared.net.Reg.{Reg}
use Rattle.net_graph.specs.declared.net.Thing.{Thing}
use Rattle.net_graph.specs.Named.{thing_of}
use Rattle.net_graph.specs.Nets.{IsNet, IsInst, IsMux, IsReg, IsThing}
use Rattle.instruments.specs.Seen.{SeenModel}
use Rattle.net_wave.specs.declared.var.Item.{Item}
use Rattle.net_wave.specs.declared.var.Item.TheVariants.{Open, Close}
use Rattle.net_wave.specs.declared.var.Scope.TheVariants.{Node, Words}
use Rattle.net_wave.specs.declared.var.Var.{Var}
use Rattle.net_wave.specs.declared.var.Var.TheVariants.{Tms, Tdi, Tdo, Expect, Differs, Tap, Instruction}
use Rattle.net_wave.specs.declared.var.Var.TheVariants.{Scan, Bit, Update, Shift, OnPath, Row, Input, Output}
use Rattle.net_wave.specs.declared.var.Var.TheVariants.{Word}
use Rattle.net_wave.specs.declared.var.WaveKind.{WaveKind}
use Rattle.net_wave.specs.declared.var.WaveKind.TheVariants.{Pins, State, All as AllOf}
use Rattle.net_wave.specs.Vars.{IsVar, close_item, closing, depth, shows_shift_stages, shows_chip_state}
use Rattle.net_wave.specs.Vars.{input_count}
use Rattle.net_wave.specs.Vars.{input_item, inst_items, inst_node, insts_in, mux_items, mux_node, muxes_in}
use Rattle.net_wave.specs.Vars.{node_items, opening, output_count, output_item, pin_items, register_items}
use Rattle.net_wave.specs.Vars.{register_node, registers_in, up_to, vars, word_count, word_item}
use Rattle.net_wave.specs.Whole.{is_asked, same_var, times}
use Rattle.net_wave.proofs.Counted.{none_to, one_to, section_none, section_one, section_other, seen}
use Rattle.net_wave.proofs.Counted.{seen_both}

-- ---- nodes of things

number_below : {T : Type 0} (P : T → Type 0) (f : T → ℕ) (n : ℕ) → ((x : T) → P x → f x < n)
    → (xs : List T) (k : ℕ) → All P xs → k < length xs → get_or (map f xs) k 0 < n
number_below P f n small [] k all h = absurd (omega (arith, h))
number_below P f n small (x ∷ xs) zero all h = small x (All-head P x xs all)
number_below P f n small (x ∷ xs) (suc k) all h =
    number_below P f n small xs k (All-tail P x xs all) (omega (arith, h))

module _ (net : Net) (is : IsNet net) where
  inst_there : (i : ℕ) → i < length net.insts.items → inst_node net i < length net.nodes.items
  inst_there i h = number_below (IsInst net) (λ (x : Inst). x.node) (length net.nodes.items)
      (λ x p. p.node) net.insts.items i is.insts h

  mux_there : (m : ℕ) → m < length net.muxes.items → mux_node net m < length net.nodes.items
  mux_there m h = number_below (IsMux net) (λ (x : Mux). x.node) (length net.nodes.items)
      (λ x p. p.node) net.muxes.items m is.muxes h

  register_there : (r : ℕ) → r < length net.regs.items → register_node net r < length net.nodes.items
  register_there r h =
      number_below (IsThing net) (λ (x : Thing). x.node) (length net.nodes.items)
      (λ x p. p.node) net.things.items (thing_of net r) is.things
      (number_below (IsReg net) (λ (x : Reg). x.thing) (length net.things.items)
      (λ x p. p.thing) net.regs.items r is.regs h)

-- ---- what is tested

below : (r n : ℕ) → (r < n) ⊎ (r < n → ⊥)
below zero zero = inr (λ h. omega (arith, h))
below zero (suc n) = inl (omega arith)
below (suc r) zero = inr (λ h. omega (arith, h))
below (suc r) (suc n) = elim (below r n) [
  | inl h ↦ inl (omega (arith, h))
  | inr h ↦ inr (λ g. h (omega (arith, g)))
]

-- one test, and two
here : (r : ℕ) → ◌≡◌ {A = ℕ} (cond (r == r) 1 0) 1
here r = let yes : (r == r) ≡ true = grind (arith, nat_tests) in ap (λ (b : Bool). cond b 1 0) yes

other : (r i : ℕ) → (i ≡ r → ⊥) → ◌≡◌ {A = ℕ} (cond (r == i) 1 0) 0
other r i e = cases (r == i) refl
  where
    cases : (b : Bool) → (r == i) ≡ b → ◌≡◌ {A = ℕ} (cond b 1 0) 0
    cases true d = absurd (e (grind (arith, nat_tests)))
    cases false d = refl

both_here : (i p : ℕ) → ◌≡◌ {A = ℕ} (cond ((i == i) && (p == p)) 1 0) 1
both_here i p =
    let one : (i == i) ≡ true = grind (arith, nat_tests) in
    let two : (p == p) ≡ true = grind (arith, nat_tests) in
    ap (λ (b : Bool). cond (b && (p == p)) 1 0) one ∙ ap (λ (b : Bool). cond b 1 0) two

first_other : (i j p q : ℕ) → (j ≡ i → ⊥) → ◌≡◌ {A = ℕ} (cond ((i == j) && (p == q)) 1 0) 0
first_other i j p q e = cases (i == j) refl
  where
    cases : (b : Bool) → (i == j) ≡ b → ◌≡◌ {A = ℕ} (cond (b && (p == q)) 1 0) 0
    cases true d = absurd (e (grind (arith, nat_tests)))
    cases false d = refl

second_other : (i j p q : ℕ) → (q ≡ p → ⊥) → ◌≡◌ {A = ℕ} (cond ((i == j) && (p == q)) 1 0) 0
second_other i j p q e = cases (i == j) (p == q) refl
  where
    cases : (a b : Bool) → (p == q) ≡ b → ◌≡◌ {A = ℕ} (cond (a && b) 1 0) 0
    cases a true d = absurd (e (grind (arith, nat_tests)))
    cases true false d = refl
    cases false false d = refl

module _ (kind : WaveKind) (net : Net) (models : List SeenModel) (is : IsNet net) (v : Var) where
  abbrev nodes : List Item
  nodes = up_to (node_items kind net models) (length net.nodes.items)

  opening_none : (k : ℕ) → seen v (opening k) ≡ 0
  opening_none k = cases (k == 0)
    where
      cases : (b : Bool) → seen v (cond b [] (Open (Node k) ∷ [])) ≡ 0
      cases true = refl
      cases false = refl

  closing_none : (k : ℕ) → seen v (closing net k) ≡ 0
  closing_none k = none_to v close_item (suc (depth net k) - depth net (suc k)) (λ i l. refl)

  node_is : (k : ℕ) → seen v (node_items kind net models k)
      ≡ seen v (insts_in net models k) + (seen v (registers_in kind net k) + seen v (muxes_in net k))
  node_is k =
      let a = opening k in
      let b = insts_in net models k in
      let c = registers_in kind net k in
      let d = muxes_in net k in
      let e = closing net k in
      omega (
        arith,
        seen_both v a (b ++ (c ++ (d ++ e))),
        seen_both v b (c ++ (d ++ e)),
        seen_both v c (d ++ e),
        seen_both v d e,
        opening_none k,
        closing_none k,
      )

  abbrev NoInst : Type 0
  NoInst = (i : ℕ) → i < length net.insts.items → seen v (inst_items net models i) ≡ 0

  abbrev NoRegister : Type 0
  NoRegister = (r : ℕ) → r < length net.regs.items → seen v (register_items kind r) ≡ 0

  abbrev NoMux : Type 0
  NoMux = (m : ℕ) → m < length net.muxes.items → seen v (mux_items m) ≡ 0

  no_inst : NoInst → (k : ℕ) → seen v (insts_in net models k) ≡ 0
  no_inst h k = section_none v (inst_node net) (inst_items net models) (length net.insts.items) k h

  no_register : NoRegister → (k : ℕ) → seen v (registers_in kind net k) ≡ 0
  no_register h k = section_none v (register_node net) (register_items kind) (length net.regs.items) k h

  no_mux : NoMux → (k : ℕ) → seen v (muxes_in net k) ≡ 0
  no_mux h k = section_none v (mux_node net) mux_items (length net.muxes.items) k h

  none : NoInst → NoRegister → NoMux → seen v nodes ≡ 0
  none a b c =
      none_to v (node_items kind net models) (length net.nodes.items)
      (λ k l. omega (arith, node_is k, no_inst a k, no_register b k, no_mux c k))

  of_inst : (j : ℕ) → j < length net.insts.items → seen v (inst_items net models j) ≡ 1
      → ((i : ℕ) → (i ≡ j → ⊥) → seen v (inst_items net models i) ≡ 0) → NoRegister → NoMux → seen v nodes ≡ 1
  of_inst j l here others b c =
      let n = inst_node net j in
      one_to v (node_items kind net models) (length net.nodes.items) n (inst_there net is j l)
      (omega (
        arith,
        node_is n,
        section_one v (inst_node net) (inst_items net models)
            (length net.insts.items) n j l refl here others,
        no_register b n,
        no_mux c n,
      ))
      (λ k m d. omega (
        arith,
        node_is k,
        section_other v (inst_node net) (inst_items net models)
            (length net.insts.items) k j (λ e. d (sym e)) others,
        no_register b k,
        no_mux c k,
      ))

  of_register : (j : ℕ) → j < length net.regs.items → seen v (register_items kind j) ≡ 1
      → ((i : ℕ) → (i ≡ j → ⊥) → seen v (register_items kind i) ≡ 0) → NoInst → NoMux → seen v nodes ≡ 1
  of_register j l here others a c =
      let n = register_node net j in
      one_to v (node_items kind net models) (length net.nodes.items) n (register_there net is j l)
      (omega (
        arith,
        node_is n,
        section_one v (register_node net) (register_items kind)
            (length net.regs.items) n j l refl here others,
        no_inst a n,
        no_mux c n,
      ))
      (λ k m d. omega (
        arith,
        node_is k,
        section_other v (register_node net) (register_items kind)
            (length net.regs.items) k j (λ e. d (sym e)) others,
        no_inst a k,
        no_mux c k,
      ))

  of_mux : (j : ℕ) → j < length net.muxes.items → seen v (mux_items j) ≡ 1
      → ((i : ℕ) → (i ≡ j → ⊥) → seen v (mux_items i) ≡ 0) → NoInst → NoRegister → seen v nodes ≡ 1
  of_mux j l here others a b =
      let n = mux_node net j in
      one_to v (node_items kind net models) (length net.nodes.items) n (mux_there net is j l)
      (omega (
        arith,
        node_is n,
        section_one v (mux_node net) mux_items
            (length net.muxes.items) n j l refl here others,
        no_inst a n,
        no_register b n,
      ))
      (λ k m d. omega (
        arith,
        node_is k,
        section_other v (mux_node net) mux_items (length net.muxes.items) k j
            (λ e. d (sym e)) others,
        no_inst a k,
        no_register b k,
      ))

  -- ---- of one instrument

  inst_is : (j : ℕ) → seen v (inst_items net models j)
      ≡ seen v (up_to (input_item j) (input_count net j)) + (seen v
      (up_to (output_item j) (output_count net j)) + seen v (up_to (word_item j) (word_count models j)))
  inst_is j =
      let a = up_to (input_item j) (input_count net j) in
      let b = up_to (output_item j) (output_count net j) in
      let c = up_to (word_item j) (word_count models j) in
      omega (
        arith,
        seen_both v a (b ++ (Open Words ∷ (c ++ Close ∷ []))),
        seen_both v b (Open Words ∷ (c ++ Close ∷ [])),
        seen_both v c (Close ∷ []),
      )

  -- ---- of the whole

  abbrev rest : List Item
  rest = cond (shows_chip_state kind) nodes (Close ∷ [])

  total : times v (vars kind net models) ≡ seen v pin_items + seen v rest
  total = seen_both v pin_items rest

  rest_is : shows_chip_state kind ≡ true → seen v rest ≡ seen v nodes
  rest_is e = ap (λ (b : Bool). seen v (cond b nodes (Close ∷ []))) e

  rest_none : shows_chip_state kind ≡ false → seen v rest ≡ 0
  rest_none e = ap (λ (b : Bool). seen v (cond b nodes (Close ∷ []))) e

  abbrev Decided : Type 0
  Decided =
      ((is_asked kind v ≡ true) × IsVar net models v × (times v (vars kind net models) ≡ 1))
      ⊎ ((is_asked kind v ≡ true → IsVar net models v → ⊥) × (times v (vars kind net models) ≡ 0))

  -- a variable that isn't a pin, by whether it names something
  of_chip : seen v pin_items ≡ 0 → is_asked kind v ≡ shows_chip_state kind
      → IsVar net models v ⊎ (IsVar net models v → ⊥) → (IsVar net models v → seen v nodes ≡ 1)
      → ((IsVar net models v → ⊥) → seen v nodes ≡ 0) → Decided
  of_chip pins asked is_var one never = cases (shows_chip_state kind) refl is_var
    where
      cases : (b : Bool) → shows_chip_state kind ≡ b → IsVar net models v ⊎ (IsVar net models v → ⊥) → Decided
      cases true e (inl h) = inl (asked ∙ e, h, total ∙ omega (arith, pins, rest_is e, one h))
      cases true e (inr h) = inr (λ a i. h i, total ∙ omega (arith, pins, rest_is e, never h))
      cases false e either = inr (
        λ a i. absurd (let wrong : false ≡ true = sym e ∙ sym asked ∙ a in cc),
        total ∙ omega (arith, pins, rest_none e),
      )

  of_pin : seen v pin_items ≡ 1 → is_asked kind v ≡ true
      → IsVar net models v → NoInst → NoRegister → NoMux → Decided
  of_pin pins asked is_var a b c = cases (shows_chip_state kind) refl
    where
      cases : (x : Bool) → shows_chip_state kind ≡ x → Decided
      cases true e = inl (asked, is_var, total ∙ omega (arith, pins, rest_is e, none a b c))
      cases false e = inl (asked, is_var, total ∙ omega (arith, pins, rest_none e))

  -- one that isn't asked
  of_none : seen v pin_items ≡ 0 → is_asked kind v ≡ false → NoInst → NoRegister → NoMux → Decided
  of_none pins asked a b c =
      inr (
        λ x i. absurd (let wrong : true ≡ false = sym x ∙ asked in cc),
        total ∙ cases (shows_chip_state kind) refl,
      )
    where
      cases : (x : Bool) → shows_chip_state kind ≡ x → seen v pin_items + seen v rest ≡ 0
      cases true e = omega (arith, pins, rest_is e, none a b c)
      cases false e = omega (arith, pins, rest_none e)

-- ---- each variable

module _ (kind : WaveKind) (net : Net) (models : List SeenModel) (is : IsNet net)
    (as_many : length models ≡ length net.insts.items) where
  -- what a register, a multiplexer and an instrument declare of a variable
  update_of : (kind : WaveKind) (r i : ℕ) → seen (Update r) (register_items kind i) ≡ cond (r == i) 1 0
  update_of Pins r i = omega arith
  update_of State r i = omega arith
  update_of AllOf r i = omega arith

  shift_of : (kind : WaveKind) (r i : ℕ)
      → seen (Shift r) (register_items kind i) ≡ cond (shows_shift_stages kind && (r == i)) 1 0
  shift_of Pins r i = refl
  shift_of State r i = refl
  shift_of AllOf r i = omega arith

  path_of : (kind : WaveKind) (r i : ℕ) → seen (OnPath r) (register_items kind i) ≡ cond (r == i) 1 0
  path_of Pins r i = omega arith
  path_of State r i = omega arith
  path_of AllOf r i = omega arith

  no_reg : (v : Var) → ((kind : WaveKind) (i : ℕ) → seen v (register_items kind i) ≡ 0) → (i : ℕ)
      → i < length net.regs.items → seen v (register_items kind i) ≡ 0
  no_reg v h i l = h kind i

  -- a variable that is of no instrument
  abbrev NoPort : Var → Type 0
  NoPort v =
      (j q : ℕ) → (seen v (input_item j q) ≡ 0)
      × (seen v (output_item j q) ≡ 0) × (seen v (word_item j q) ≡ 0)

  no_port : (v : Var) → NoPort v → (j : ℕ) → j < length net.insts.items → seen v (inst_items net models j) ≡ 0
  no_port v h j l =
      inst_is kind net models is v j
      ∙ omega (
        arith,
        none_to v (input_item j) (input_count net j) (λ q m. (h j q).0),
        none_to v (output_item j) (output_count net j) (λ q m. (h j q).1),
        none_to v (word_item j) (word_count models j) (λ q m. (h j q).2),
      )

  abbrev Settled : Var → Type 0
  Settled v = Decided kind net models is v

  by_register : (v : Var) (r : ℕ) → seen v pin_items ≡ 0 → is_asked kind v ≡ shows_chip_state kind
      → (IsVar net models v → r < length net.regs.items) → (r < length net.regs.items → IsVar net models v)
      → ((i : ℕ) → seen v (register_items kind i) ≡ cond (r == i) 1 0) → NoPort v
      → ((m : ℕ) → seen v (mux_items m) ≡ 0) → Settled v
  by_register v r pins asked there back of ports muxes =
      of_chip kind net models is v pins asked
      (elim (below r (length net.regs.items)) [ inl h ↦ inl (back h) | inr h ↦ inr (λ i. h (there i)) ])
      (λ h. of_register kind net models is v r (there h) (of r ∙ here r)
      (λ i d. of i ∙ other r i d) (no_port v ports) (λ m l. muxes m))
      (λ h. none kind net models is v (no_port v ports)
      (λ i l. of i ∙ other r i (λ d. h (back (omega (arith, l, d))))) (λ m l. muxes m))

  none_if : (b : Bool) → b ≡ false → ◌≡◌ {A = ℕ} (cond b 1 0) 0
  none_if b e = ap (λ (x : Bool). cond x 1 0) e

  -- a variable that is of no register
  not_reg : (v : Var) (k : WaveKind) (i : ℕ) → same_var v (Update i) ≡ false → same_var v (Shift i) ≡ false
      → same_var v (OnPath i) ≡ false → seen v (register_items k i) ≡ 0
  not_reg v Pins i a b c = omega (arith, none_if (same_var v (Update i)) a, none_if (same_var v (OnPath i)) c)
  not_reg v State i a b c =
      omega (arith, none_if (same_var v (Update i)) a, none_if (same_var v (OnPath i)) c)
  not_reg v AllOf i a b c =
      omega (
        arith,
        none_if (same_var v (Update i)) a,
        none_if (same_var v (Shift i)) b,
        none_if (same_var v (OnPath i)) c,
      )

  by_pin : (v : Var) → seen v pin_items ≡ 1 → is_asked kind v ≡ true → IsVar net models v
      → ((i : ℕ) → seen v (register_items kind i) ≡ 0) → NoPort v
      → ((m : ℕ) → seen v (mux_items m) ≡ 0) → Settled v
  by_pin v pins asked there regs ports muxes =
      of_pin kind net models is v pins asked there (no_port v ports) (λ i l. regs i) (λ m l. muxes m)

  by_mux : (v : Var) (m : ℕ) → seen v pin_items ≡ 0 → is_asked kind v ≡ shows_chip_state kind
      → (IsVar net models v → m < length net.muxes.items) → (m < length net.muxes.items → IsVar net models v)
      → ((j : ℕ) → seen v (mux_items j) ≡ cond (m == j) 1 0) → NoPort v
      → ((i : ℕ) → seen v (register_items kind i) ≡ 0) → Settled v
  by_mux v m pins asked there back of ports regs =
      of_chip kind net models is v pins asked
      (elim (below m (length net.muxes.items)) [ inl h ↦ inl (back h) | inr h ↦ inr (λ i. h (there i)) ])
      (λ h. of_mux kind net models is v m (there h) (of m ∙ here m)
      (λ j d. of j ∙ other m j d) (no_port v ports) (λ i l. regs i))
      (λ h. none kind net models is v (no_port v ports) (λ i l. regs i)
      (λ j l. of j ∙ other m j (λ d. h (back (omega (arith, l, d))))))

  -- a port or word of an instrument
  by_port : (v : Var) (i p : ℕ) (item : ℕ → ℕ → List Item) (count : ℕ → ℕ)
      → seen v pin_items ≡ 0 → is_asked kind v ≡ shows_chip_state kind
      → (IsVar net models v → (i < length net.insts.items) × (p < count i))
      → ((i < length net.insts.items) → (p < count i) → IsVar net models v)
      → ((j : ℕ) → seen v (inst_items net models j) ≡ seen v (up_to (item j) (count j)))
      → ((j q : ℕ) → seen v (item j q) ≡ cond ((i == j) && (p == q)) 1 0)
      → ((r : ℕ) → seen v (register_items kind r) ≡ 0) → ((m : ℕ) → seen v (mux_items m) ≡ 0) → Settled v
  by_port v i p item count pins asked there back of one regs muxes =
      of_chip kind net models is v pins asked
      (elim (below i (length net.insts.items)) [
        | inl h ↦ elim (below p (count i)) [
          | inl g ↦ inl (back h g)
          | inr g ↦ inr (λ x. g (there x).1)
        ]
        | inr h ↦ inr (λ x. h (there x).0)
      ])
      (λ h. of_inst kind net models is v i (there h).0
      (of i ∙ one_to v (item i) (count i) p (there h).1 (one i p ∙ both_here i p)
      (λ q l d. one i q ∙ second_other i i p q d))
      (λ j d. of j ∙ none_to v (item j) (count j) (λ q l. one j q ∙ first_other i j p q d))
      (λ r l. regs r) (λ m l. muxes m))
      (λ h. none kind net models is v (λ j l. of j ∙ gone h j l (j == i) refl)
      (λ r l. regs r) (λ m l. muxes m))
    where
      gone : (IsVar net models v → ⊥) → (j : ℕ) → j < length net.insts.items → (b : Bool)
          → (j == i) ≡ b → seen v (up_to (item j) (count j)) ≡ 0
      gone h j l true e =
          let same : j ≡ i = grind (arith, nat_tests) in
          let few : (q : ℕ) → q < count j → q ≡ p
          → ⊥ = λ q m d. h (back (omega (arith, l, same)) (omega (arith, m, d, ap count same))) in
          none_to v (item j) (count j) (λ q m. one j q ∙ second_other i j p q (few q m))
      gone h j l false e =
          let differ : j ≡ i → ⊥ = λ d. grind (arith, nat_tests) in
          none_to v (item j) (count j) (λ q m. one j q ∙ first_other i j p q differ)

  state_too : (k : WaveKind) → shows_shift_stages k ≡ true → shows_chip_state k ≡ true
  state_too Pins e = absurd (cc)
  state_too State e = refl
  state_too AllOf e = refl

  shift_by : (r i : ℕ) (b : Bool) → shows_shift_stages kind ≡ b
      → seen (Shift r) (register_items kind i) ≡ cond (b && (r == i)) 1 0
  shift_by r i b e =
      subst (λ (x : Bool). seen (Shift r) (register_items kind i)
      ≡ cond (x && (r == i)) 1 0) e (shift_of kind r i)

  by_shift : (r : ℕ) (b : Bool) → shows_shift_stages kind ≡ b → Settled (Shift r)
  by_shift r true e =
      by_register (Shift r) r refl (e ∙ sym (state_too kind e)) (λ h. h) (λ h. h)
      (λ i. shift_by r i true e) (λ j q. (refl, refl, refl)) (λ m. refl)
  by_shift r false e =
      of_none kind net models is (Shift r) refl e (no_port (Shift r) (λ j q. (refl, refl, refl)))
      (λ i l. shift_by r i false e) (λ m l. refl)

  settled : (v : Var) → Settled v
  settled Tms = by_pin Tms refl refl tt (λ i. not_reg Tms kind i refl refl refl)
      (λ j q. (refl, refl, refl)) (λ m. refl)
  settled Tdi = by_pin Tdi refl refl tt (λ i. not_reg Tdi kind i refl refl refl)
      (λ j q. (refl, refl, refl)) (λ m. refl)
  settled Tdo = by_pin Tdo refl refl tt (λ i. not_reg Tdo kind i refl refl refl)
      (λ j q. (refl, refl, refl)) (λ m. refl)
  settled Expect = by_pin Expect refl refl tt
      (λ i. not_reg Expect kind i refl refl refl) (λ j q. (refl, refl, refl)) (λ m. refl)
  settled Differs = by_pin Differs refl refl tt
      (λ i. not_reg Differs kind i refl refl refl) (λ j q. (refl, refl, refl)) (λ m. refl)
  settled Tap = by_pin Tap refl refl tt (λ i. not_reg Tap kind i refl refl refl)
      (λ j q. (refl, refl, refl)) (λ m. refl)
  settled Instruction =
      by_pin Instruction refl refl tt (λ i. not_reg Instruction kind i refl refl refl)
      (λ j q. (refl, refl, refl)) (λ m. refl)
  settled Scan = by_pin Scan refl refl tt (λ i. not_reg Scan kind i refl refl refl)
      (λ j q. (refl, refl, refl)) (λ m. refl)
  settled Bit = by_pin Bit refl refl tt (λ i. not_reg Bit kind i refl refl refl)
      (λ j q. (refl, refl, refl)) (λ m. refl)
  settled (Update r) =
      by_register (Update r) r refl refl (λ h. h) (λ h. h)
      (update_of kind r) (λ j q. (refl, refl, refl)) (λ m. refl)
  settled (Shift r) = by_shift r (shows_shift_stages kind) refl
  settled (OnPath r) =
      by_register (OnPath r) r refl refl (λ h. h) (λ h. h)
      (path_of kind r) (λ j q. (refl, refl, refl)) (λ m. refl)
  settled (Row m) =
      by_mux (Row m) m refl refl (λ h. h) (λ h. h) (λ j. omega arith) (λ j q. (refl, refl, refl))
      (λ i. not_reg (Row m) kind i refl refl refl)
  settled (Input i p) =
      by_port (Input i p) i p input_item (input_count net) refl refl (λ h. h) (λ h g. (h, g))
      (λ j. inst_is kind net models is (Input i p) j
      ∙ omega (
        arith,
        none_to (Input i p) (output_item j) (output_count net j) (λ q m. refl),
        none_to (Input i p) (word_item j) (word_count models j) (λ q m. refl),
      ))
      (λ j q. omega arith) (λ r. not_reg (Input i p) kind r refl refl refl) (λ m. refl)
  settled (Output i p) =
      by_port (Output i p) i p output_item (output_count net) refl refl (λ h. h) (λ h g. (h, g))
      (λ j. inst_is kind net models is (Output i p) j
      ∙ omega (
        arith,
        none_to (Output i p) (input_item j) (input_count net j) (λ q m. refl),
        none_to (Output i p) (word_item j) (word_count models j) (λ q m. refl),
      ))
      (λ j q. omega arith) (λ r. not_reg (Output i p) kind r refl refl refl) (λ m. refl)
  settled (Word i w) =
      by_port (Word i w) i w word_item (word_count models) refl refl
      (λ h. (omega (arith, as_many, h.0), h.1)) (λ h g. (omega (arith, as_many, h), g))
      (λ j. inst_is kind net models is (Word i w) j
      ∙ omega (
        arith,
        none_to (Word i w) (input_item j) (input_count net j) (λ q m. refl),
        none_to (Word i w) (output_item j) (output_count net j) (λ q m. refl),
      ))
      (λ j q. omega arith) (λ r. not_reg (Word i w) kind r refl refl refl) (λ m. refl)

  told : (v : Var) → Settled v
      → (is_asked kind v ≡ true → IsVar net models v → times v (vars kind net models) ≡ 1)
      × (1 ≤ times v (vars kind net models) → (is_asked kind v ≡ true) × IsVar net models v)
  told v (inl h) = (λ a i. h.2, λ l. (h.0, h.1))
  told v (inr h) = (λ a i. absurd (h.0 a i), λ l. absurd (omega (arith, l, h.1)))

  pub whole : (v : Var) → (is_asked kind v ≡ true → IsVar net models v → times v (vars kind net models) ≡ 1)
      × (1 ≤ times v (vars kind net models) → (is_asked kind v ≡ true) × IsVar net models v)
  whole v = told v (settled v)
