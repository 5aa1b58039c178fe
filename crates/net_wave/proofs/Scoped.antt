-- Each variable is declared in the scopes of its node.
use Rattle.std.proofs.Common.{◌≡◌, ℕ, zero, suc, ◌-◌, ◌<◌, ◌≤◌, Bool, true, false, cond, List, [], ◌∷◌, ◌++◌}
use Rattle.std.proofs.Common.{drop, take, length, map, get_or, refl, ap, sym, ◌∙◌, subst, arith}
use Rattle.std.proofs.Common.{length-append, length-take}
use Rattle.std.specs.Prelude.{◌==◌, codes}
use Rattle.std.proofs.lemmas.Bool.Decides.{nat_tests}
use Rattle.std.proofs.lemmas.List.{get_or_push, length-map}
use Rattle.ij_bits.specs.Room.{Listed}
use Rattle.instruments.specs.Seen.{SeenModel}
use Rattle.net_graph.specs.declared.net.Net.{Net}
use Rattle.net_graph.specs.declared.net.Node.{Node as NodeOf}
use Rattle.net_graph.specs.Nets.{IsNet, path_of}
use Rattle.net_graph.specs.PathNames.{node_names}
use Rattle.tap_machine.proofs.Shifts.{drop_twice}
use Rattle.net_wave.specs.declared.var.Item.{Item}
use Rattle.net_wave.specs.declared.var.Item.TheVariants.{Open, Declare, Close}
use Rattle.net_wave.specs.declared.var.Scope.TheVariants.{Node, Words}
use Rattle.net_wave.specs.declared.var.Var.{Var}
use Rattle.net_wave.specs.declared.var.Var.TheVariants.{Update, Input, Output, Word}
use Rattle.net_wave.specs.declared.var.WaveKind.{WaveKind}
use Rattle.net_wave.specs.declared.var.WaveKind.TheVariants.{Pins, State, All as AllOf}
use Rattle.net_wave.specs.Header.{mux_name, node_name, register_name, scope_name}
use Rattle.net_wave.specs.Laws.{scopes_from}
use Rattle.net_wave.specs.Scopes.{IsPreorder, ScopesArePaths, inside, node_scopes, path_at, scopes_of}
use Rattle.net_wave.specs.Vars.{close_item, closing, depth, shows_chip_state, input_count, input_item}
use Rattle.net_wave.specs.Vars.{inst_item}
use Rattle.net_wave.specs.Vars.{inst_items, inst_node, insts_in, mux_item, mux_items, mux_node, muxes_in}
use Rattle.net_wave.specs.Vars.{node_items, opening, output_count, output_item, pin_items, register_item}
use Rattle.net_wave.specs.Vars.{register_items, register_node, registers_in, up_to, vars_of, word_count}
use Rattle.net_wave.specs.Vars.{word_item}

abbrev Scopes : Type 0
Scopes = List (List ℕ)

-- ---- lists

map_both : {X Y : Type 0} (f : X → Y) (xs ys : List X) → map f (xs ++ ys) ≡ map f xs ++ map f ys
map_both f [] ys = refl
map_both f (x ∷ xs) ys = ap (λ l. f x ∷ l) (map_both f xs ys)

drop_all : {X : Type 0} (xs : List X) → drop 0 xs ≡ xs
drop_all [] = refl
drop_all (x ∷ xs) = refl

vars_both : (is js : List Item) → vars_of (is ++ js) ≡ vars_of is ++ vars_of js
vars_both [] js = refl
vars_both (Open s ∷ is) js = vars_both is js
vars_both (Declare v ∷ is) js = ap (λ l. v ∷ l) (vars_both is js)
vars_both (Close ∷ is) js = vars_both is js

-- ---- scopes

inside_push : (scopes names : Scopes) (name : List ℕ)
    → inside scopes (names ++ name ∷ []) ≡ name ∷ inside scopes names
inside_push scopes [] name = refl
inside_push scopes (n ∷ names) name = inside_push (n ∷ scopes) names name

inside_both : (scopes xs ys : Scopes) → inside scopes (xs ++ ys) ≡ inside (inside scopes xs) ys
inside_both scopes [] ys = refl
inside_both scopes (x ∷ xs) ys = inside_both (x ∷ scopes) xs ys

-- as many are closed as there are names
inside_dropped : (names scopes : Scopes) (n : ℕ) → n ≡ length names → drop n (inside scopes names) ≡ scopes
inside_dropped [] scopes zero e = drop_all scopes
inside_dropped [] scopes (suc n) e = absurd (omega (arith, e))
inside_dropped (x ∷ names) scopes zero e = absurd (omega (arith, e))
inside_dropped (x ∷ names) scopes (suc n) e = sym (drop_twice n (inside (x ∷ scopes) names))
    ∙ ap (drop 1) (inside_dropped names (x ∷ scopes) n (omega (arith, e)))

take_drop : {X : Type 0} (n : ℕ) (xs : List X) → take n xs ++ drop n xs ≡ xs
take_drop zero [] = refl
take_drop zero (x ∷ xs) = refl
take_drop (suc n) [] = refl
take_drop (suc n) (x ∷ xs) = ap (λ l. x ∷ l) (take_drop n xs)

left_long : {X : Type 0} (n : ℕ) (xs : List X) → length (drop n xs) ≡ length xs - n
left_long zero [] = omega arith
left_long zero (x ∷ xs) = omega arith
left_long (suc n) [] = omega arith
left_long (suc n) (x ∷ xs) = omega (arith, left_long n xs)

-- closing all but this many
inside_taken : (names scopes : Scopes) (m : ℕ) → m ≤ length names
    → drop (length names - m) (inside scopes names) ≡ inside scopes (take m names)
inside_taken names scopes m h =
    ap (λ l. drop (length names - m) (inside scopes l)) (sym (take_drop m names))
    ∙ ap (drop (length names - m)) (inside_both scopes (take m names) (drop m names))
    ∙ inside_dropped (drop m names) (inside scopes (take m names))
    (length names - m) (sym (left_long m names))

module _ (net : Net) (top : List ℕ) where
  abbrev after : Scopes → List Item → Scopes
  after s [] = s
  after s (Open x ∷ is) = after (scope_name net x ∷ s) is
  after s (Declare v ∷ is) = after s is
  after s (Close ∷ is) = after (drop 1 s) is

  after_both : (is js : List Item) (s : Scopes) → after s (is ++ js) ≡ after (after s is) js
  after_both [] js s = refl
  after_both (Open x ∷ is) js s = after_both is js (scope_name net x ∷ s)
  after_both (Declare v ∷ is) js s = after_both is js s
  after_both (Close ∷ is) js s = after_both is js (drop 1 s)

  from_both : (is js : List Item) (s : Scopes)
      → scopes_from net s (is ++ js) ≡ scopes_from net s is ++ scopes_from net (after s is) js
  from_both [] js s = refl
  from_both (Open x ∷ is) js s = from_both is js (scope_name net x ∷ s)
  from_both (Declare v ∷ is) js s = ap (λ l. s ∷ l) (from_both is js s)
  from_both (Close ∷ is) js s = from_both is js (drop 1 s)

  -- items declare each variable in its scopes, and lead from some open scopes to others
  record Lead (s : Scopes) (is : List Item) (t : Scopes) : Type 0 where
    found : scopes_from net s is ≡ map (scopes_of net top) (vars_of is)
    ends : after s is ≡ t

  lead_both : (s t u : Scopes) (is js : List Item) → Lead s is t → Lead t js u → Lead s (is ++ js) u
  lead_both s t u is js h g =
      record {
        found =
            from_both is js s
            ∙ ap (λ (l : List Scopes). l ++ scopes_from net (after s is) js) h.found
            ∙ ap (λ (x : Scopes). map (scopes_of net top) (vars_of is) ++ scopes_from net x js) h.ends
            ∙ ap (λ (l : List Scopes). map (scopes_of net top) (vars_of is) ++ l) g.found
            ∙ sym (map_both (scopes_of net top) (vars_of is) (vars_of js))
            ∙ sym (ap (map (scopes_of net top)) (vars_both is js));
        ends = after_both is js s ∙ ap (λ (x : Scopes). after x js) h.ends ∙ g.ends;
      }

  nothing : (s : Scopes) → Lead s [] s
  nothing s = record { found = refl; ends = refl }

  lead_to : (s : Scopes) (f : ℕ → List Item) (n : ℕ)
      → ((k : ℕ) → k < n → Lead s (f k) s) → Lead s (up_to f n) s
  lead_to s f zero h = nothing s
  lead_to s f (suc n) h =
      lead_both s s s (up_to f n) (f n) (lead_to s f n (λ k l. h k (omega (arith, l)))) (h n (omega arith))

  lead_if : (s : Scopes) (b : Bool) (is : List Item) → (b ≡ true → Lead s is s) → Lead s (cond b is []) s
  lead_if s true is h = h refl
  lead_if s false is h = nothing s

  declared : (s : Scopes) (v : Var) → s ≡ scopes_of net top v → Lead s (Declare v ∷ []) s
  declared s v e = record { found = ap (λ x. x ∷ []) e; ends = refl }

  -- ---- what is in a node

  module _ (k : ℕ) where
    abbrev here : Scopes
    here = node_scopes net top k

    at : (n : ℕ) → (n == k) ≡ true → here ≡ node_scopes net top n
    at n e = let same : k ≡ n = grind (arith, nat_tests) in ap (node_scopes net top) same

    register_leads : (kind : WaveKind) (r : ℕ) → (register_node net r == k) ≡ true
        → Lead here (register_items kind r) here
    register_leads Pins r e =
        let own : register_name net r ∷ here
        ≡ scopes_of net top (Update r) = ap (λ s. register_name net r ∷ s) (at (register_node net r) e) in
        record { found = ap (λ x. x ∷ x ∷ []) own; ends = drop_all here }
    register_leads State r e =
        let own : register_name net r ∷ here
        ≡ scopes_of net top (Update r) = ap (λ s. register_name net r ∷ s) (at (register_node net r) e) in
        record { found = ap (λ x. x ∷ x ∷ []) own; ends = drop_all here }
    register_leads AllOf r e =
        let own : register_name net r ∷ here
        ≡ scopes_of net top (Update r) = ap (λ s. register_name net r ∷ s) (at (register_node net r) e) in
        record { found = ap (λ x. x ∷ x ∷ x ∷ []) own; ends = drop_all here }

    mux_leads : (m : ℕ) → (mux_node net m == k) ≡ true → Lead here (mux_items m) here
    mux_leads m e =
        record { found = ap (λ s. (mux_name net m ∷ s) ∷ []) (at (mux_node net m) e); ends = drop_all here }

    inst_leads : (models : List SeenModel) (i : ℕ) → (inst_node net i == k) ≡ true
        → Lead here (inst_items net models i) here
    inst_leads models i e =
        let ins = up_to (input_item i) (input_count net i) in
        let outs = up_to (output_item i) (output_count net i) in
        let words = up_to (word_item i) (word_count models i) in
        let own = codes "words" ∷ here in
        let is = at (inst_node net i) e in
        lead_both here here here ins (outs ++ (Open Words ∷ (words ++ Close ∷ [])))
        (lead_to here (input_item i) (input_count net i) (λ p l. declared here (Input i p) is))
        (lead_both here here here outs (Open Words ∷ (words ++ Close ∷ []))
        (lead_to here (output_item i) (output_count net i) (λ p l. declared here (Output i p) is))
        (lead_both here own here (Open Words ∷ [])
        (words ++ Close ∷ []) (record { found = refl; ends = refl })
        (lead_both own own here words (Close ∷ []) (lead_to own (word_item i) (word_count models i)
        (λ w l. declared own (Word i w) (ap (λ s. codes "words" ∷ s) is)))
        (record { found = refl; ends = drop_all here }))))

    closes : (n : ℕ) (s : Scopes) → Lead s (up_to close_item n) (drop n s)
    closes zero s = record { found = refl; ends = sym (drop_all s) }
    closes (suc n) s = lead_both s (drop n s) (drop (suc n) s) (up_to close_item n) (Close ∷ []) (closes n s)
        (record { found = refl; ends = drop_twice n s })

  -- ---- nodes

  names_are : (nodes : List NodeOf) (k : ℕ) → get_or (map path_of nodes) k []
      ≡ map (λ (name : Listed ℕ). name.items) (get_or (map (λ (node : NodeOf). node.path.items) nodes) k [])
  names_are [] k = refl
  names_are (x ∷ xs) zero = refl
  names_are (x ∷ xs) (suc k) = names_are xs k

  deep : (nodes : List NodeOf) (k : ℕ) → get_or (map (λ (node : NodeOf). length node.path.items) nodes) k 0
      ≡ length (get_or (map path_of nodes) k [])
  deep [] k = refl
  deep (x ∷ xs) zero = sym (length-map x.path.items (λ (name : Listed ℕ). name.items))
  deep (x ∷ xs) (suc k) = deep xs k

  -- the scopes that are open before a node
  abbrev open_at : ℕ → Scopes
  open_at zero = top ∷ []
  open_at (suc k) = drop (suc (depth net k) - depth net (suc k)) (node_scopes net top k)

  last_name : (k : ℕ) (front : Scopes) (name : List ℕ)
      → path_at net k ≡ front ++ name ∷ [] → node_name net k ≡ name
  last_name k front name e =
      let names = node_names net k in
      let all : map (λ (x : Listed ℕ). x.items) names
      ≡ front ++ name ∷ [] = sym (names_are net.nodes.items k) ∙ e in
      let many : length names - 1 ≡ length front = omega (
        arith,
        length-map names (λ (x : Listed ℕ). x.items),
        ap length all,
        length-append front (name ∷ []),
      ) in
      ap (λ (l : Scopes). get_or l (length names - 1) []) all ∙ ap
      (λ (n : ℕ). get_or (front ++ name ∷ []) n []) many ∙ get_or_push front name [] (length front) refl

  opening_is : (k : ℕ) → opening (suc k) ≡ Open (Node (suc k)) ∷ []
  opening_is k =
      let other : (suc k == 0) ≡ false = grind (arith, nat_tests) in
      ap (λ (b : Bool). cond b [] (Open (Node (suc k)) ∷ [])) other

  opens : IsNet net → IsPreorder net → (k : ℕ) → k < length net.nodes.items
      → Lead (open_at k) (opening k) (node_scopes net top k)
  opens is pre zero h = record { found = refl; ends = ap (inside (top ∷ [])) (sym is.top_path) }
  opens is pre (suc k) h =
      let f = pre k h in
      let before = path_at net k in
      let front = take f.kept before in
      let deep_is : depth net (suc k) ≡ suc f.kept = deep net.nodes.items (suc k) ∙ ap length f.is
      ∙ omega (arith, length-append front (f.name ∷ []), length-take f.kept before, f.within) in
      let closed : suc (depth net k) - depth net (suc k)
      ≡ length before - f.kept = omega (arith, deep_is, deep net.nodes.items k) in
      let there : open_at (suc k) ≡ inside (top ∷ []) front = ap (λ (n : ℕ). drop n (node_scopes net top k))
      closed ∙ inside_taken before (top ∷ []) f.kept f.within in
      let ends : node_name net (suc k) ∷ open_at (suc k) ≡ node_scopes net top (suc k) =
      ap (λ (name : List ℕ). name ∷ open_at (suc k)) (last_name (suc k) front f.name f.is)
      ∙ ap (λ (s : Scopes). f.name ∷ s) there
      ∙ sym (inside_push (top ∷ []) front f.name)
      ∙ ap (inside (top ∷ [])) (sym f.is) in
      subst (λ (is : List Item). Lead (open_at (suc k)) is (node_scopes net top (suc k)))
      (sym (opening_is k)) (record { found = refl; ends = ends })

  node_leads : (kind : WaveKind) (models : List SeenModel) → IsNet net → IsPreorder net → (k : ℕ)
      → k < length net.nodes.items → Lead (open_at k) (node_items kind net models k) (open_at (suc k))
  node_leads kind models is pre k h =
      let s = node_scopes net top k in
      let insts = insts_in net models k in
      let regs = registers_in kind net k in
      let muxes = muxes_in net k in
      let ends = closing net k in
      lead_both (open_at k) s (open_at (suc k)) (opening k)
      (insts ++ (regs ++ (muxes ++ ends))) (opens is pre k h)
      (lead_both s s (open_at (suc k)) insts (regs ++ (muxes ++ ends))
      (lead_to s (inst_item net models k) (length net.insts.items)
      (λ i l. lead_if s (inst_node net i == k) (inst_items net models i) (inst_leads k models i)))
      (lead_both s s (open_at (suc k)) regs (muxes ++ ends)
      (lead_to s (register_item kind net k) (length net.regs.items)
      (λ r l. lead_if s (register_node net r == k) (register_items kind r) (register_leads k kind r)))
      (lead_both s s (open_at (suc k)) muxes ends (lead_to s (mux_item net k) (length net.muxes.items)
      (λ m l. lead_if s (mux_node net m == k) (mux_items m) (mux_leads k m)))
      (closes k (suc (depth net k) - depth net (suc k)) s))))

  nodes_lead : (kind : WaveKind) (models : List SeenModel) → IsNet net → IsPreorder net → (n : ℕ)
      → n ≤ length net.nodes.items → Lead (top ∷ []) (up_to (node_items kind net models) n) (open_at n)
  nodes_lead kind models is pre zero h = nothing (top ∷ [])
  nodes_lead kind models is pre (suc n) h =
      lead_both (top ∷ []) (open_at n) (open_at (suc n))
      (up_to (node_items kind net models) n) (node_items kind net models n)
      (nodes_lead kind models is pre n (omega (arith, h))) (node_leads kind models is pre n h)

  pins_lead : Lead (top ∷ []) pin_items (top ∷ [])
  pins_lead = record { found = refl; ends = refl }

  abbrev Found : List Item → Type 0
  Found is = scopes_from net (top ∷ []) is ≡ map (scopes_of net top) (vars_of is)

  all_found : (b : Bool) (is : List Item) (t : Scopes) → Lead (top ∷ []) is t
      → Found (pin_items ++ cond b is (Close ∷ []))
  all_found true is t h = (lead_both (top ∷ []) (top ∷ []) t pin_items is pins_lead h).found
  all_found false is t h = (lead_both (top ∷ []) (top ∷ []) [] pin_items (Close ∷ []) pins_lead
      (record { found = refl; ends = refl })).found

pub scopes_are_paths : ScopesArePaths
scopes_are_paths kind net models top is pre =
    all_found net top (shows_chip_state kind) (up_to (node_items kind net models) (length net.nodes.items))
    (open_at net top (length net.nodes.items))
    (nodes_lead net top kind models is pre (length net.nodes.items) (omega arith))
