-- The scans of a group's plans can be done.
use Rattle.std.proofs.Common.{◌≡◌, true, List, [], ◌∷◌, ◌++◌, refl, sym, ap, ◌∙◌, subst}
use Rattle.std.specs.Prelude.{All, map, IsTrue}
use Rattle.std.proofs.lemmas.List.{append-nil}
use Rattle.std.proofs.lemmas.List.Elements.{All-nil, All-weaker}
use Rattle.ij_bits.specs.Different.{AreDifferent}
use Rattle.net_graph.specs.declared.net.BitId.{BitId}
use Rattle.net_graph.specs.declared.net.Net.{Net}
use Rattle.net_graph.specs.declared.step.ReadBit.{ReadBit}
use Rattle.net_graph.specs.declared.step.WriteBit.{WriteBit}
use Rattle.net_graph.specs.Groups.{registers_of, IsEmpty}
use Rattle.net_graph.specs.Named.{IsBitOf}
use Rattle.net_graph.specs.Path.{is_select, select_bits}
use Rattle.net_graph.specs.SeenSteps.{SeenGroup}
use Rattle.net_graph.specs.Signals.{Holds}
use Rattle.net_graph.specs.Steps.{IsDataBit}
use Rattle.net_graph.specs.Writes.{write_all}
use Rattle.net_tree.specs.Form.{Items}
use Rattle.path_planner.specs.Least.{AreOnPath}
use Rattle.path_planner.specs.Opening.{CanOpen}
use Rattle.path_planner.specs.Plans.{Settles, AreScans}
use Rattle.path_planner.specs.Scannable.{IsScannable}
use Rattle.path_planner.specs.Settling.{all_on}
use Rattle.path_planner.proofs.Among.{all_among, among_all}
use Rattle.path_planner.proofs.Apart.{in_part}
use Rattle.path_planner.proofs.Plans.{planned}
use Rattle.path_planner.proofs.Step.{selected}
use Rattle.path_planner.proofs.Values.{select_there}
use Rattle.scan_packer.specs.Packing.{CanScan, plan_of}
pub use Rattle.scan_packer.proofs.Held.{plan_held}

module _ (net : Net) (form : Items) (g : SeenGroup) where
  module _ (holds : Holds) (c : CanOpen net form g holds) where
    select_bit : (b : BitId) → is_select net b ≡ true → IsBitOf net b
    select_bit b t =
        let (m, l, a) = in_part (λ mux. mux.select.items) b net.muxes.items
        (selected b (select_bits net) t) in
        select_there net m b c.well_formed l a

    -- the group itself
    group_on : AreOnPath net (registers_of g) holds → CanScan net holds g
    group_on (path, e, on) = (
      path,
      e,
      record {
        widths = c.listed.widths;
        writes = All-weaker
            (λ (x : WriteBit). IsDataBit net x.bit) (λ (x : WriteBit). IsBitOf net x.bit) (λ x d. d.there)
            g.writes c.group.written;
        reads = All-weaker (λ (x : ReadBit). IsDataBit net x.bit)
            (λ (x : ReadBit). IsBitOf net x.bit) (λ x d. d.there) g.reads c.group.read;
        written_once = c.group.written_once;
        read_once = c.group.read_once;
        on_path = on;
      },
    )

    -- a plan that opens the way to it
    opening_on : (p : SeenGroup) → Settles net form g holds p
        → AreOnPath net (registers_of p) holds → CanScan net holds p
    opening_on p s (path, e, on) = (
      path,
      e,
      record {
        widths = c.listed.widths;
        writes = all_among (λ (w : WriteBit). IsBitOf net w.bit) p.writes
            (λ w i. select_bit w.bit (among_all (λ w. IsTrue (is_select net w.bit)) w p.writes s.selects i));
        reads = subst (All (λ (r : ReadBit). IsBitOf net r.bit)) (sym s.reads_nothing)
            (All-nil (λ (r : ReadBit). IsBitOf net r.bit));
        written_once = s.once;
        read_once = subst (λ (rs : List ReadBit). AreDifferent (map (λ r. r.bit) rs))
            (sym s.reads_nothing) tt;
        on_path = on;
      },
    )

    pub opening_scan : (p : SeenGroup) → Settles net form g holds p → CanScan net holds p
    opening_scan p s =
        opening_on p s (subst (λ rs. AreOnPath net rs holds)
        (sym (ap (λ rs. map (λ w. w.bit.reg) p.writes ++ map (λ r. r.bit.reg) rs) s.reads_nothing
        ∙ append-nil (map (λ w. w.bit.reg) p.writes))) s.on_path)

    module _ (named : ¬ IsEmpty g) (t : all_on net (registers_of g) holds ≡ true) where
      alone : AreScans net holds (g ∷ [])
      alone = (planned net form g holds (g ∷ []) c (named, refl, t)).scans

      pub group_scan : CanScan net holds g
      group_scan = group_on alone.0.named

      pub group_listed : IsScannable net (write_all holds g.writes)
      group_listed = alone.1

-- a plan by its two lists
pub plan_same : (ws us : List WriteBit) (rs qs : List ReadBit)
    → ws ≡ us → rs ≡ qs → plan_of ws rs ≡ plan_of us qs
plan_same ws us rs qs e f = λ i. record { writes = e i; reads = f i }
