-- The active path depends on the bits that select alone.
use Rattle.std.proofs.Common.{◌≡◌, ℕ, zero, suc, true, ◌+◌, List, ◌∷◌, length, Option, Some, None, refl, sym}
use Rattle.std.proofs.Common.{ap, ◌∙◌}
use Rattle.std.specs.Prelude.{map, option_map, reverse}
use Rattle.std.specs.Option.{option_and_then}
use Rattle.std.proofs.lemmas.Bool.{true≢false}
use Rattle.net_graph.specs.declared.net.BitId.{BitId}
use Rattle.net_graph.specs.declared.net.Net.{Net}
use Rattle.net_graph.specs.declared.net.Point.{Point}
use Rattle.net_graph.specs.declared.net.Point.TheVariants.{Entry, Reg, Mux as FromMux}
use Rattle.net_graph.specs.Path.{is_select, mux_source, path as scan_path, reg_source, rows_of, select_bits}
use Rattle.net_graph.specs.Path.{trace}
use Rattle.net_graph.specs.SeenSteps.{SeenGroup}
use Rattle.net_graph.specs.Signals.{Holds, hold_at, row_point}
use Rattle.net_graph.specs.Steps.{IsDataBit, IsGroup}
use Rattle.net_graph.specs.Writes.{write_all}
use Rattle.net_graph.proofs.Writing.{write_all-other}
use Rattle.net_tree.specs.Lawful.{selects_of}
use Rattle.path_planner.proofs.Among.{among_all, among_map_back, contains_among}
use Rattle.path_planner.proofs.Apart.{part_in}
use Rattle.path_planner.proofs.Step.{map_among, selects}

pub then_alike : (f g : Point → Option (List ℕ)) → ((p : Point) → f p ≡ g p) → (o : Option Point)
    → option_and_then f o ≡ option_and_then g o
then_alike f g e None = refl
then_alike f g e (Some p) = e p

module _ (net : Net) (s t : Holds) (same : (b : BitId)
    → is_select net b ≡ true → hold_at t b ≡ hold_at s b) where
  source_same : (m : ℕ) → mux_source net t m ≡ mux_source net s m
  source_same m =
      ap (row_point (rows_of net m)) (map_among (hold_at t) (hold_at s) (selects_of net m) (λ c i. same c
      (selects c (select_bits net) (part_in (λ mux. mux.select.items) c net.muxes.items m i))))

  trace_same : (n : ℕ) (p : Point) → trace net t n p ≡ trace net s n p
  trace_same n Entry = refl
  trace_same zero (Reg r) = refl
  trace_same zero (FromMux m) = refl
  trace_same (suc n) (Reg r) = ap (option_map (λ rs. r ∷ rs)) (trace_same n (reg_source net r))
  trace_same (suc n) (FromMux m) =
      ap (option_and_then (trace net t n)) (source_same m)
      ∙ then_alike (trace net t n) (trace net s n) (trace_same n) (mux_source net s m)

  pub path_same : scan_path net t ≡ scan_path net s
  path_same =
      ap (option_map reverse) (trace_same (length net.regs.items + length net.muxes.items) net.out)

-- the writes of a group, which select nothing, leave it as it is
pub path_stays : (net : Net) (g : SeenGroup) (holds : Holds) → IsGroup net g
    → scan_path net (write_all holds g.writes) ≡ scan_path net holds
path_stays net g holds v =
    path_same net holds (write_all holds g.writes) (λ b t. write_all-other g.writes holds b (λ k.
    let (w, i, e) = among_map_back (λ w. w.bit) b g.writes (contains_among b (map (λ w. w.bit) g.writes) k) in
    true≢false (sym t ∙ ap (is_select net) (sym e)
    ∙ (among_all (λ w. IsDataBit net w.bit) w g.writes v.written i).data_bit)))
