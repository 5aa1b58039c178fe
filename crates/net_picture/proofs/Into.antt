-- The edges into a node are its sources.
use Rattle.std.proofs.Common.{◌≡◌, ℕ, zero, suc, ◌+◌, ◌<◌, ◌≤◌, Bool, true, false, List, [], ◌∷◌, ◌++◌}
use Rattle.std.proofs.Common.{length, map, refl, sym, ap, ◌∙◌, arith, append-nil, nat_lt, cond}
use Rattle.std.specs.Prelude.{◌==◌}
use Rattle.std.specs.List.{flat_map, range_with_len}
use Rattle.std.proofs.lemmas.Bool.Decides.{nat_tests}
use Rattle.std.proofs.lemmas.List.Elements.{filter-append}
use Rattle.net_graph.specs.declared.net.Net.{Net}
use Rattle.net_graph.specs.Path.{rows_of}
use Rattle.net_tree.specs.Lawful.{selects_of}
use Rattle.net_picture.specs.Edges.{Node, Tdi, Tdo, Register, Multiplexer, Edge, edge_to_register}
use Rattle.net_picture.specs.Edges.{edge_of_row, edge_of_select, edges_to_mux, edge_to_scan_out, edges}
use Rattle.net_picture.specs.Edges.{same_node, edges_into, sources}

differs : (a b : ℕ) → a < b → (a == b) ≡ false
differs a b less = grind (arith, nat_tests)

differs_too : (a b : ℕ) → b < a → (a == b) ≡ false
differs_too a b less = grind (arith, nat_tests)

same : (a b : ℕ) → a ≡ b → (a == b) ≡ true
same a b e = grind (arith, nat_tests)

module _ (to : Node) where
  into_both : (xs ys : List Edge) → edges_into to (xs ++ ys) ≡ edges_into to xs ++ edges_into to ys
  into_both xs ys = filter-append (λ e. same_node to e.to) xs ys

  none_both : (xs ys : List Edge) → edges_into to xs ≡ []
      → edges_into to ys ≡ [] → edges_into to (xs ++ ys) ≡ []
  none_both xs ys one other =
      into_both xs ys ∙ ap (λ (es : List Edge). es ++ edges_into to ys) one ∙ other

  -- edges to one node
  module _ {T : Type 0} (edge : T → Edge) (node : Node) (is : (x : T) → (edge x).to ≡ node) where
    all_into : (xs : List T) → same_node to node ≡ true → edges_into to (map edge xs) ≡ map edge xs
    all_into [] e = refl
    all_into (x ∷ xs) e =
        ap (λ (k : Bool). cond k (edge x ∷ edges_into to (map edge xs)) (edges_into to (map edge xs)))
        (ap (same_node to) (is x) ∙ e)
        ∙ ap (λ (es : List Edge). edge x ∷ es) (all_into xs e)

    none_into : (xs : List T) → same_node to node ≡ false → edges_into to (map edge xs) ≡ []
    none_into [] e = refl
    none_into (x ∷ xs) e =
        ap (λ (k : Bool). cond k (edge x ∷ edges_into to (map edge xs)) (edges_into to (map edge xs)))
        (ap (same_node to) (is x) ∙ e)
        ∙ none_into xs e

  module _ (net : Net) where
    mux_all : (m : ℕ) → same_node to (Multiplexer m) ≡ true
        → edges_into to (edges_to_mux net m) ≡ edges_to_mux net m
    mux_all m e =
        let rows = range_with_len 0 (length (rows_of net m)) in
        into_both (map (edge_of_row net m) rows) (map (edge_of_select m) (selects_of net m))
        ∙ ap (λ (es : List Edge). es ++ edges_into to (map (edge_of_select m) (selects_of net m)))
        (all_into (edge_of_row net m) (Multiplexer m) (λ q. refl) rows e)
        ∙ ap (λ (es : List Edge). map (edge_of_row net m) rows ++ es)
        (all_into (edge_of_select m) (Multiplexer m) (λ b. refl) (selects_of net m) e)

    mux_none : (m : ℕ) → same_node to (Multiplexer m) ≡ false → edges_into to (edges_to_mux net m) ≡ []
    mux_none m e =
        let rows = range_with_len 0 (length (rows_of net m)) in
        none_both (map (edge_of_row net m) rows) (map (edge_of_select m) (selects_of net m))
        (none_into (edge_of_row net m) (Multiplexer m) (λ q. refl) rows e)
        (none_into (edge_of_select m) (Multiplexer m) (λ b. refl) (selects_of net m) e)

    muxes_none : (a n : ℕ) → ((m : ℕ) → a ≤ m → m < a + n → same_node to (Multiplexer m) ≡ false)
        → edges_into to (flat_map (edges_to_mux net) (range_with_len a n)) ≡ []
    muxes_none a zero none = refl
    muxes_none a (suc n) none =
        none_both (edges_to_mux net a) (flat_map (edges_to_mux net) (range_with_len (a + 1) n))
        (mux_none a (none a (omega arith) (omega arith)))
        (muxes_none (a + 1) n (λ m low high. none m (omega (arith, low)) (omega (arith, high))))

    registers_none : (a n : ℕ) → ((r : ℕ) → a ≤ r → r < a + n → same_node to (Register r) ≡ false)
        → edges_into to (map (edge_to_register net) (range_with_len a n)) ≡ []
    registers_none a zero none = refl
    registers_none a (suc n) none =
        let rest = edges_into to (map (edge_to_register net) (range_with_len (a + 1) n)) in
        ap (λ (k : Bool). cond k (edge_to_register net a ∷ rest) rest) (none a (omega arith) (omega arith))
        ∙ registers_none (a + 1) n (λ r low high. none r (omega (arith, low)) (omega (arith, high)))

module _ (net : Net) where
  one_register : (r a n : ℕ) → a ≤ r → r < a + n
      → edges_into (Register r) (map (edge_to_register net) (range_with_len a n))
      ≡ edge_to_register net r ∷ []
  one_register r a zero low high = absurd (omega (arith, low, high))
  one_register r a (suc n) low high =
      here (r == a) refl (λ other. one_register r (a + 1) n (omega (arith, other)) (omega (arith, high)))
    where
      rest : List Edge
      rest = edges_into (Register r) (map (edge_to_register net) (range_with_len (a + 1) n))

      here : (k : Bool) → (r == a) ≡ k → (a < r → rest ≡ edge_to_register net r ∷ [])
          → cond (r == a) (edge_to_register net a ∷ rest) rest ≡ edge_to_register net r ∷ []
      here true e later =
          let is : r ≡ a = grind (arith, nat_tests) in
          ap (λ (k : Bool). cond k (edge_to_register net a ∷ rest) rest) e
          ∙ ap (λ (es : List Edge). edge_to_register net a ∷ es) (registers_none (Register r) net (a + 1) n
          (λ q above below. differs r q (omega (arith, is, above))))
          ∙ ap (λ (q : ℕ). edge_to_register net q ∷ []) (sym is)
      here false e later =
          let other : a < r = grind (arith, nat_tests) in
          ap (λ (k : Bool). cond k (edge_to_register net a ∷ rest) rest) e ∙ later other

  one_mux : (m a n : ℕ) → a ≤ m → m < a + n
      → edges_into (Multiplexer m) (flat_map (edges_to_mux net) (range_with_len a n)) ≡ edges_to_mux net m
  one_mux m a zero low high = absurd (omega (arith, low, high))
  one_mux m a (suc n) low high =
      here (m == a) refl (λ other. one_mux m (a + 1) n (omega (arith, other)) (omega (arith, high)))
    where
      rest : List Edge
      rest = flat_map (edges_to_mux net) (range_with_len (a + 1) n)

      here : (k : Bool) → (m == a) ≡ k → (a < m → edges_into (Multiplexer m) rest ≡ edges_to_mux net m)
          → edges_into (Multiplexer m) (edges_to_mux net a ++ rest) ≡ edges_to_mux net m
      here true e later =
          let is : m ≡ a = grind (arith, nat_tests) in
          into_both (Multiplexer m) (edges_to_mux net a) rest
          ∙ ap (λ (es : List Edge). es ++ edges_into (Multiplexer m) rest) (mux_all (Multiplexer m) net a e)
          ∙ ap (λ (es : List Edge). edges_to_mux net a ++ es) (muxes_none (Multiplexer m) net (a + 1) n
          (λ q above below. differs m q (omega (arith, is, above))))
          ∙ append-nil (edges_to_mux net a) ∙ ap (edges_to_mux net) (sym is)
      here false e later =
          let other : a < m = grind (arith, nat_tests) in
          into_both (Multiplexer m) (edges_to_mux net a) rest
          ∙ ap (λ (es : List Edge). es ++ edges_into (Multiplexer m) rest) (mux_none (Multiplexer m) net a e)
          ∙ later other

  -- of the three kinds of edges
  parts : (to : Node) (one two three : List Edge)
      → edges_into to (map (edge_to_register net) (range_with_len 0 (length net.regs.items))) ≡ one
      → edges_into to (flat_map (edges_to_mux net) (range_with_len 0 (length net.muxes.items))) ≡ two
      → edges_into to (edge_to_scan_out net ∷ []) ≡ three
      → edges_into to (edges net) ≡ one ++ (two ++ three)
  parts to one two three a b c =
      let regs = map (edge_to_register net) (range_with_len 0 (length net.regs.items)) in
      let muxes = flat_map (edges_to_mux net) (range_with_len 0 (length net.muxes.items)) in
      into_both to regs (muxes ++ edge_to_scan_out net ∷ [])
      ∙ ap (λ (es : List Edge). es ++ edges_into to (muxes ++ edge_to_scan_out net ∷ [])) a
      ∙ ap (λ (es : List Edge). one ++ es) (into_both to muxes (edge_to_scan_out net ∷ [])
      ∙ ap (λ (es : List Edge). es ++ edges_into to (edge_to_scan_out net ∷ [])) b
      ∙ ap (λ (es : List Edge). two ++ es) c)

  registers_into : (r : ℕ)
      → edges_into (Register r) (map (edge_to_register net) (range_with_len 0 (length net.regs.items)))
      ≡ cond (nat_lt r (length net.regs.items)) (edge_to_register net r ∷ []) []
  registers_into r = here (nat_lt r (length net.regs.items)) refl
    where
      here : (k : Bool) → nat_lt r (length net.regs.items) ≡ k
          → edges_into (Register r) (map (edge_to_register net) (range_with_len 0 (length net.regs.items)))
          ≡ cond k (edge_to_register net r ∷ []) []
      here true e =
          let less : r < length net.regs.items = grind (arith, nat_tests) in
          one_register r 0 (length net.regs.items) (omega arith) (omega (arith, less))
      here false e =
          let more : length net.regs.items ≤ r = grind (arith, nat_tests) in
          registers_none (Register r) net 0 (length net.regs.items)
          (λ q low high. differs_too r q (omega (arith, more, high)))

  muxes_into : (m : ℕ)
      → edges_into (Multiplexer m) (flat_map (edges_to_mux net) (range_with_len 0 (length net.muxes.items)))
      ≡ cond (nat_lt m (length net.muxes.items)) (edges_to_mux net m) []
  muxes_into m = here (nat_lt m (length net.muxes.items)) refl
    where
      here : (k : Bool) → nat_lt m (length net.muxes.items) ≡ k → edges_into (Multiplexer m)
          (flat_map (edges_to_mux net) (range_with_len 0 (length net.muxes.items)))
          ≡ cond k (edges_to_mux net m) []
      here true e =
          let less : m < length net.muxes.items = grind (arith, nat_tests) in
          one_mux m 0 (length net.muxes.items) (omega arith) (omega (arith, less))
      here false e =
          let more : length net.muxes.items ≤ m = grind (arith, nat_tests) in
          muxes_none (Multiplexer m) net 0 (length net.muxes.items)
          (λ q low high. differs_too m q (omega (arith, more, high)))

  pub into : (to : Node) → edges_into to (edges net) ≡ sources net to
  into Tdi =
      parts Tdi [] [] [] (registers_none Tdi net 0 (length net.regs.items) (λ r low high. refl))
      (muxes_none Tdi net 0 (length net.muxes.items) (λ m low high. refl)) refl
  into Tdo =
      parts Tdo [] [] (edge_to_scan_out net ∷ []) (registers_none Tdo net 0 (length net.regs.items)
      (λ r low high. refl)) (muxes_none Tdo net 0 (length net.muxes.items) (λ m low high. refl)) refl
  into (Register r) =
      let one = cond (nat_lt r (length net.regs.items)) (edge_to_register net r ∷ []) [] in
      parts (Register r) one [] [] (registers_into r)
      (muxes_none (Register r) net 0 (length net.muxes.items) (λ m low high. refl)) refl ∙ append-nil one
  into (Multiplexer m) =
      let two = cond (nat_lt m (length net.muxes.items)) (edges_to_mux net m) [] in
      parts (Multiplexer m) [] two [] (registers_none (Multiplexer m) net 0 (length net.regs.items)
      (λ r low high. refl)) (muxes_into m) refl ∙ append-nil two
