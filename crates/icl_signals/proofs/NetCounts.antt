-- How many bits, multiplexers and instruments the network of a hierarchy has.
use Rattle.std.proofs.Common.{◌≡◌, ◌+◌, ◌≤◌, ℕ, Bool, List, [], ◌∷◌, map, length, filter, flat_map, sum}
use Rattle.std.proofs.Common.{sum_by, refl, sym, ap, ◌∙◌, arith, length-append}
use Rattle.std.specs.List.{enumerate_from}
use Rattle.std.proofs.lemmas.List.{length-map}
use Rattle.std.proofs.lemmas.List.Elements.{filter-append}
use Rattle.std.proofs.lemmas.List.Sums.{sum-map, sum_by-cons, sum_by-append}
use Rattle.icl_elab.specs.WellFormed.{is_register, is_mux, is_instrument, width_that, count_that, IsHierarchy}
use Rattle.icl_references.specs.Roles.{Role, CellOf, part_width}
use Rattle.net_graph.specs.declared.net.Net.{Net}
use Rattle.net_graph.specs.declared.net.Reg.{Reg}
use Rattle.icl_signals.specs.declared.wires.Wire.{Wire}
use Rattle.icl_signals.specs.Moves.{Entry, entries_in}
use Rattle.icl_signals.specs.Connecting.{entries_that, instruments}
use Rattle.icl_signals.proofs.ApartItems.{kept_items}
use Rattle.icl_signals.proofs.NetSignals.{IsShaped}
use Rattle.icl_signals.proofs.NetThings.{whats}

sum_of_map : {A B : Type 0} (f : A → B) (g : B → ℕ) (xs : List A)
    → sum_by g (map f xs) ≡ sum_by (λ x. g (f x)) xs
sum_of_map f g [] = refl
sum_of_map f g (x ∷ xs) = sum_by-cons g (f x) (map f xs)
    ∙ ap (λ (n : ℕ). g (f x) + n) (sum_of_map f g xs) ∙ sym (sum_by-cons (λ y. g (f y)) x xs)

module _ (test : Role → Bool) where
  abbrev keep : List Entry → List Entry
  keep es = filter (λ (e : Entry). test e.what.role) es

  cell_width : (s : ℕ) (c : CellOf)
      → sum_by (λ (e : Entry). part_width e.what) (keep (entries_in (s, c))) ≡ width_that test c
  cell_width s c = sym (sum_of_map (λ (e : Entry). e.what) part_width (keep (entries_in (s, c))))
      ∙ ap (sum_by part_width) (whats test s 0 c.parts)

  cell_count : (s : ℕ) (c : CellOf) → length (keep (entries_in (s, c))) ≡ count_that test c
  cell_count s c = sym (length-map (keep (entries_in (s, c))) (λ (e : Entry). e.what))
      ∙ ap length (whats test s 0 c.parts)

  all_widths : (s : ℕ) (cells : List CellOf)
      → sum_by (λ (e : Entry). part_width e.what) (keep (flat_map entries_in (enumerate_from s cells)))
      ≡ sum_by (width_that test) cells
  all_widths s [] = refl
  all_widths s (c ∷ cells) =
      let rest = flat_map entries_in (enumerate_from (s + 1) cells) in
      let both = ap (sum_by (λ (e : Entry). part_width e.what))
      (filter-append (λ (e : Entry). test e.what.role) (entries_in (s, c)) rest)
      ∙ sum_by-append (λ (e : Entry). part_width e.what) (keep (entries_in (s, c))) (keep rest) in
      let more = sum_by-cons (width_that test) c cells in
      let one = cell_width s c in
      let others = all_widths (s + 1) cells in
      omega (arith, both, more, one, others)

  all_counts : (s : ℕ) (cells : List CellOf)
      → length (keep (flat_map entries_in (enumerate_from s cells))) ≡ sum_by (count_that test) cells
  all_counts s [] = refl
  all_counts s (c ∷ cells) =
      let rest = flat_map entries_in (enumerate_from (s + 1) cells) in
      let both = ap length (filter-append (λ (e : Entry). test e.what.role) (entries_in (s, c)) rest)
      ∙ length-append (keep (entries_in (s, c))) (keep rest) in
      let more = sum_by-cons (count_that test) c cells in
      let one = cell_count s c in
      let others = all_counts (s + 1) cells in
      omega (arith, both, more, one, others)

module _ (cells : List CellOf) (entry : Wire) (net : Net)
    (shaped : IsShaped cells entry net) (h : IsHierarchy cells) where
  pub bits_within_limit : sum (map (λ (reg : Reg). reg.width) net.regs.items) ≤ 4096
  bits_within_limit =
      let same : sum (map (λ (reg : Reg). reg.width) net.regs.items)
      ≡ sum_by (width_that is_register) cells = ap sum shaped.widths
      ∙ sum-map (λ (e : Entry). part_width e.what) (entries_that is_register cells)
      ∙ all_widths is_register 0 cells in
      let few = h.bits_within_limit in
      omega (arith, same, few)

  pub few_muxes : length net.muxes.items ≤ 1024
  few_muxes =
      let same = shaped.muxes in
      let count = all_counts is_mux 0 cells in
      let few = h.few_muxes in
      omega (arith, same, count, few)

  pub few_insts : length net.insts.items ≤ 256
  few_insts =
      let same = shaped.insts in
      let count : length (instruments cells) ≡ length (filter is_instrument cells) =
      sym (length-map (instruments cells) (λ (c : ℕ × CellOf). c.1))
      ∙ ap length (kept_items is_instrument 0 cells) in
      let few = h.few_instruments in
      omega (arith, same, count, few)

  pub few_nodes : length net.nodes.items ≤ 8192
  few_nodes =
      let same = shaped.nodes in
      let few = h.few_cells in
      omega (arith, same, few)
