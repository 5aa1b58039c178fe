-- Names of ICL have no line feed and no blank; so none of the names that a wave declares has where the free
-- ones have none.
use Rattle.std.proofs.Common.{◌≡◌, ◌≢◌, ℕ, zero, suc, ◌-◌, true, false, List, [], ◌∷◌, length, map, get_or}
use Rattle.std.proofs.Common.{refl, ap, sym, ◌∙◌}
use Rattle.std.specs.Prelude.{All, IsTrue, codes}
use Rattle.std.specs.Char.{is_ascii_digit}
use Rattle.std.specs.List.{list_all}
use Rattle.std.proofs.lemmas.Bool.{and_parts, or_left}
use Rattle.std.proofs.lemmas.List.Elements.{All-cons, All-from_recursion, All-head, All-nil, All-tail}
use Rattle.ij_bits.specs.Room.{Listed}
use Rattle.ij_text.specs.Words.{begins_name, in_name, is_name}
use Rattle.instruments.specs.Seen.{SeenModel, SeenWord}
use Rattle.net_graph.specs.declared.net.Inst.{Inst}
use Rattle.net_graph.specs.declared.net.Mux.{Mux}
use Rattle.net_graph.specs.declared.net.Net.{Net}
use Rattle.net_graph.specs.declared.net.Node.{Node as NodeOf}
use Rattle.net_graph.specs.declared.net.Thing.{Thing}
use Rattle.net_graph.specs.Named.{thing_of}
use Rattle.net_graph.specs.Nets.{IsMux, IsNet, IsThing}
use Rattle.net_graph.specs.PathNames.{node_names}
use Rattle.net_wave.specs.declared.var.Item.{Item}
use Rattle.net_wave.specs.declared.var.Item.TheVariants.{Open, Declare, Close}
use Rattle.net_wave.specs.declared.var.Scope.{Scope}
use Rattle.net_wave.specs.declared.var.Scope.TheVariants.{Node, Register, Multiplexer, Words}
use Rattle.net_wave.specs.declared.var.Var.{Var}
use Rattle.net_wave.specs.declared.var.Var.TheVariants.{Tms, Tdi, Tdo, Expect, Differs, Tap, Instruction}
use Rattle.net_wave.specs.declared.var.Var.TheVariants.{Scan, Bit, Update, Shift, OnPath, Row, Input, Output}
use Rattle.net_wave.specs.declared.var.Var.TheVariants.{Word}
use Rattle.net_wave.specs.declared.var.WaveKind.{WaveKind}
use Rattle.net_wave.specs.declared.var.WaveKind.TheVariants.{Pins, State, All as AllOf}
use Rattle.net_wave.specs.Files.{FreeNamesAreWords, IsWord}
use Rattle.net_wave.specs.Header.{scope_name, var_name}
use Rattle.net_wave.specs.Names.{NamedWithout, NamesWithout, Without}
use Rattle.net_wave.specs.Vars.{shows_chip_state, items}

all_map : {X Y : Type 0} (P : Y → Type 0) (f : X → Y) (xs : List X) → All (λ x. P (f x)) xs → All P (map f xs)
all_map P f [] h = All-nil P
all_map P f (x ∷ xs) h = All-cons P (f x) (map f xs) (All-head (λ y. P (f y)) x xs h)
    (all_map P f xs (All-tail (λ y. P (f y)) x xs h))

-- what is asked of each list holds of the one at a place, and of none
all_at : {Y : Type 0} (P : Y → Type 0) (ls : List (List Y)) (k : ℕ)
    → All (λ l. All P l) ls → All P (get_or ls k [])
all_at P [] k h = All-nil P
all_at P (l ∷ ls) zero h = All-head (λ x. All P x) l ls h
all_at P (l ∷ ls) (suc k) h = all_at P ls k (All-tail (λ x. All P x) l ls h)

all_to : {X : Type 0} (P Q : X → Type 0) → ((x : X) → P x → Q x) → (xs : List X) → All P xs → All Q xs
all_to P Q to [] h = All-nil Q
all_to P Q to (x ∷ xs) h = All-cons Q x xs (to x (All-head P x xs h)) (all_to P Q to xs (All-tail P x xs h))

every : {X : Type 0} (P : X → Type 0) → ((x : X) → P x) → (xs : List X) → All P xs
every P h [] = All-nil P
every P h (x ∷ xs) = All-cons P x xs (h x) (every P h xs)

-- ---- a byte that no name of ICL has, and no name of the format

module _ (b : ℕ) (out : in_name b ≡ false) where
  letter : (x : ℕ) → in_name x ≡ true → x ≢ b
  letter x h e = absurd (let wrong : true ≡ false = sym h ∙ ap in_name e ∙ out in cc)

  letters : (xs : List ℕ) → list_all in_name xs ≡ true → Without b xs
  letters [] h = All-nil (λ x. x ≢ b)
  letters (x ∷ xs) h =
      let both = and_parts (in_name x) (list_all in_name xs) h in
      All-cons (λ y. y ≢ b) x xs (letter x both.0) (letters xs both.1)

  named : (name : List ℕ) → IsTrue (is_name name) → Without b name
  named [] h = All-nil (λ x. x ≢ b)
  named (x ∷ xs) h =
      let both = and_parts (begins_name x) (list_all in_name xs) h in
      All-cons (λ y. y ≢ b) x xs
      (letter x (or_left (begins_name x) (is_ascii_digit x) both.0)) (letters xs both.1)

  module _ (net : Net) (is : IsNet net) where
    path_without : (k : ℕ) → All (λ (name : Listed ℕ). IsTrue (is_name name.items)) (node_names net k)
    path_without k =
        all_at (λ (name : Listed ℕ). IsTrue (is_name name.items))
        (map (λ (node : NodeOf). node.path.items) net.nodes.items) k
        (all_map (λ (l : List (Listed ℕ)). All (λ (name : Listed ℕ). IsTrue (is_name name.items)) l)
        (λ (node : NodeOf). node.path.items) net.nodes.items is.path_names)

    scope_without : (s : Scope) → Without b (scope_name net s)
    scope_without (Node k) =
        let names = node_names net k in
        all_at (λ x. x ≢ b) (map (λ (name : Listed ℕ). name.items) names) (length names - 1)
        (all_map (Without b) (λ (name : Listed ℕ). name.items) names (all_to
        (λ (name : Listed ℕ). IsTrue (is_name name.items)) (λ (name : Listed ℕ). Without b name.items)
        (λ name h. named name.items h) names (path_without k)))
    scope_without (Register r) =
        all_at (λ x. x ≢ b) (map (λ (thing : Thing). thing.name.items) net.things.items) (thing_of net r)
        (all_map (Without b) (λ (thing : Thing). thing.name.items) net.things.items
        (all_to (IsThing net) (λ (thing : Thing). Without b thing.name.items)
        (λ thing h. named thing.name.items h.named) net.things.items is.things))
    scope_without (Multiplexer m) =
        all_at (λ x. x ≢ b) (map (λ (mux : Mux). mux.name.items) net.muxes.items) m
        (all_map (Without b) (λ (mux : Mux). mux.name.items) net.muxes.items
        (all_to (IsMux net) (λ (mux : Mux). Without b mux.name.items)
        (λ mux h. named mux.name.items h.named) net.muxes.items is.muxes))
    scope_without Words = named (codes "words") refl

    -- names of ports and words
    module _ (models : List SeenModel)
        (ins : All (λ inst. All (λ port. Without b port.name.items) inst.ins.items) net.insts.items)
        (outs : All (λ inst. All (λ port. Without b port.name.items) inst.outs.items) net.insts.items)
        (words : All (λ m. All (λ word. Without b word.name) m.words) models) where
      var_without : (v : Var) → Without b (var_name net models v)
      var_without Tms = named (codes "TMS") refl
      var_without Tdi = named (codes "TDI") refl
      var_without Tdo = named (codes "TDO") refl
      var_without Expect = named (codes "expect") refl
      var_without Differs = named (codes "differs") refl
      var_without Tap = named (codes "tap") refl
      var_without Instruction = named (codes "instruction") refl
      var_without Scan = named (codes "scan") refl
      var_without Bit = named (codes "bit") refl
      var_without (Update r) = named (codes "update") refl
      var_without (Shift r) = named (codes "shift") refl
      var_without (OnPath r) = named (codes "on_path") refl
      var_without (Row m) = named (codes "row") refl
      var_without (Input i p) =
          let names : Inst → List (List ℕ) = λ inst. map (λ port. port.name.items) inst.ins.items in
          all_at (λ x. x ≢ b) (get_or (map names net.insts.items) i []) p
          (all_at (Without b) (map names net.insts.items) i
          (all_map (λ l. All (Without b) l) names net.insts.items
          (all_to (λ (inst : Inst). All (λ port. Without b port.name.items) inst.ins.items)
          (λ (inst : Inst). All (Without b) (names inst)) (λ inst h. all_map (Without b)
          (λ port. port.name.items) inst.ins.items h) net.insts.items ins)))
      var_without (Output i p) =
          let names : Inst → List (List ℕ) = λ inst. map (λ port. port.name.items) inst.outs.items in
          all_at (λ x. x ≢ b) (get_or (map names net.insts.items) i []) p
          (all_at (Without b) (map names net.insts.items) i
          (all_map (λ l. All (Without b) l) names net.insts.items
          (all_to (λ (inst : Inst). All (λ port. Without b port.name.items) inst.outs.items)
          (λ (inst : Inst). All (Without b) (names inst)) (λ inst h. all_map (Without b)
          (λ port. port.name.items) inst.outs.items h) net.insts.items outs)))
      var_without (Word i w) =
          let here : List SeenWord = get_or (map (λ (m : SeenModel). m.words) models) i [] in
          all_at (λ x. x ≢ b) (map (λ (word : SeenWord). word.name) here) w
          (all_map (Without b) (λ (word : SeenWord). word.name) here
          (all_at (λ (word : SeenWord). Without b word.name) (map (λ (m : SeenModel). m.words) models) i
          (all_map (λ (l : List SeenWord). All (λ (word : SeenWord). Without b word.name) l)
          (λ (m : SeenModel). m.words) models words)))

      item_without : (i : Item) → NamedWithout b net models i
      item_without (Open s) = scope_without s
      item_without (Declare v) = var_without v
      item_without Close = tt

  module _ (of : (x : ℕ) → (x ≢ 10) × (x ≢ 32) → x ≢ b) where
    word_without : (name : List ℕ) → IsWord name → Without b name
    word_without name h = all_to (λ x. (x ≢ 10) × (x ≢ 32)) (λ x. x ≢ b) of name h

    words_without : {X Y : Type 0} (parts : X → List Y) (name : Y → List ℕ) (xs : List X)
        → All (λ x. All (λ y. IsWord (name y)) (parts x)) xs
        → All (λ x. All (λ y. Without b (name y)) (parts x)) xs
    words_without parts name xs h =
        all_to (λ x. All (λ y. IsWord (name y)) (parts x)) (λ x. All (λ y. Without b (name y)) (parts x))
        (λ x g. all_to (λ y. IsWord (name y)) (λ y. Without b (name y))
        (λ y w. word_without (name y) w) (parts x) g) xs h

    pub names_without : (kind : WaveKind) (net : Net) (models : List SeenModel) (top : List ℕ) → IsNet net
        → FreeNamesAreWords kind net models top → NamesWithout b kind net models top
    names_without kind net models top is free =
        record { outermost = word_without top free.outermost; others = others kind free }
      where
        shown : (kind : WaveKind) → shows_chip_state kind ≡ true → FreeNamesAreWords kind net models top
            → All (NamedWithout b net models) (items kind net models)
        shown kind e free =
            every (NamedWithout b net models) (item_without net is models (words_without (λ (inst : Inst).
            inst.ins.items) (λ port. port.name.items) net.insts.items (free.inputs e)) (words_without
            (λ (inst : Inst). inst.outs.items) (λ port. port.name.items) net.insts.items (free.outputs e))
            (words_without (λ (m : SeenModel). m.words) (λ word. word.name) models (free.words e)))
            (items kind net models)

        others : (kind : WaveKind) → FreeNamesAreWords kind net models top
            → All (NamedWithout b net models) (items kind net models)
        others Pins free =
            All-from_recursion (NamedWithout b net models) (items Pins net models) (
              named (codes "TMS") refl,
              (
                named (codes "TDI") refl,
                (
                  named (codes "TDO") refl,
                  (
                    named (codes "expect") refl,
                    (
                      named (codes "differs") refl,
                      (
                        named (codes "tap") refl,
                        (
                          named (codes "instruction") refl,
                          (named (codes "scan") refl, (named (codes "bit") refl, (tt, tt))),
                        ),
                      ),
                    ),
                  ),
                ),
              ),
            )
        others State free = shown State refl free
        others AllOf free = shown AllOf refl free
