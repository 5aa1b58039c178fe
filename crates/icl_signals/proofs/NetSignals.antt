-- Signals, points and bits of the network of a hierarchy name what is there.
use Rattle.std.proofs.Common.{◌≡◌, ◌+◌, ◌<◌, ℕ, Bool, true, false, List, [], map, length, get_or, IsSomeAnd}
use Rattle.std.proofs.Common.{Some, Ok, sym, ap, subst, ◌∙◌, arith}
use Rattle.std.specs.List.{enumerate_from}
use Rattle.std.proofs.lemmas.List.{length-map}
use Rattle.ij_bits.specs.BitLists.{flip_if}
use Rattle.ij_text.specs.declared.Place.{Place}
use Rattle.icl_elab.specs.WellFormed.{is_register, is_mux, is_thing, is_data_out, is_instrument}
use Rattle.icl_references.specs.declared.hier.Ref.{Ref}
use Rattle.icl_references.specs.declared.hier.Ref.TheVariants.{Fixed, Bit as RefBit}
use Rattle.icl_references.specs.Roles.{PartOf, CellOf, part_at, part_width}
use Rattle.icl_elab.specs.Laws.{IsRefOf, AreWired}
use Rattle.icl_frames.proofs.Answering.{both, ok_is}
use Rattle.net_graph.specs.declared.net.BitId.{BitId}
use Rattle.net_graph.specs.declared.net.Inst.{Inst}
use Rattle.net_graph.specs.declared.net.Mux.{Mux}
use Rattle.net_graph.specs.declared.net.Net.{Net}
use Rattle.net_graph.specs.declared.net.Point.{Point}
use Rattle.net_graph.specs.declared.net.Point.TheVariants.{Entry as FromEntry, Reg as FromReg, Mux as FromMux}
use Rattle.net_graph.specs.declared.net.PortOut.{PortOut}
use Rattle.net_graph.specs.declared.net.Reg.{Reg}
use Rattle.net_graph.specs.declared.net.Sig.{Sig}
use Rattle.net_graph.specs.declared.net.Sig.TheVariants.{Absent, Zero, One, Bit, Out}
use Rattle.net_graph.specs.declared.net.Spot.{Spot}
use Rattle.net_graph.specs.declared.net.Thing.{Thing}
use Rattle.net_graph.specs.Named.{IsBitOf, IsPointOf, IsSignalOf, IsInputOf, width_of, output_widths}
use Rattle.icl_signals.specs.declared.wires.Wire.{Wire}
use Rattle.icl_signals.specs.declared.wires.Driver.TheVariants.{Another, ARegisterBit, AMuxOutput}
use Rattle.icl_signals.specs.declared.wires.Driver.TheVariants.{AnInstrumentOutput, TheEntry, AFreeInput}
use Rattle.icl_signals.specs.declared.wires.Driver.TheVariants.{NothingAtAll}
use Rattle.icl_signals.specs.declared.wires.End.{End}
use Rattle.icl_signals.specs.declared.wires.End.TheVariants.{AtConstant, AtBit, InLoop}
use Rattle.icl_signals.specs.Moves.{Entry, is_instrument_cell, driver_of}
use Rattle.icl_signals.specs.Traces.{signal_bits, follow, trace}
use Rattle.icl_signals.specs.Laws.{Stop}
use Rattle.icl_signals.specs.Connecting.{entries_that, number_among, instruments, instrument_number}
use Rattle.icl_signals.specs.Connecting.{output_number, parts_that, constant, register_bit, output_of}
use Rattle.icl_signals.specs.Connecting.{data_end, scan_end, select_bit, input_bit, data_from, scan_from}
use Rattle.icl_signals.specs.Connecting.{select_from, input_from, register_of, mux_of, instrument_of, spot_of}
use Rattle.icl_signals.specs.Connecting.{refs_of, thing_of, node_of, paths_from}
use Rattle.icl_signals.proofs.Chains.{EndsOrGoesOn, ends}
use Rattle.icl_signals.proofs.Standing.{IsAtPart, IsAtSome, stands_at, in_cell}
use Rattle.icl_signals.proofs.Paired.{paired_length, paired_maps, each_paired, mapped_paired}
use Rattle.icl_signals.proofs.EntryNumbers.{the_entry, entry_of_number, instrument_there, output_there}
use Rattle.icl_signals.proofs.TraceEnds.{IsBitThere, EndsThere, trace_there}
use Rattle.icl_signals.proofs.NetParts.{IsNetOf, register_is, IsInstrumentOf, instrument_is, thing_is}
use Rattle.std.proofs.lemmas.List.FromFn.{length-enumerate_from}
use Rattle.std.proofs.lemmas.Option.{slice_get_within}
use Rattle.ij_bits.proofs.Lists.{get_mapped}

-- ---- the network's lists are those of the hierarchy's parts

abbrev pub output_widths_of : ℕ × CellOf → List ℕ
output_widths_of c = map (λ (p : ℕ × PartOf). part_width p.1) (parts_that is_data_out c.1)

abbrev pub bits_of_entry : List CellOf → Wire → Entry → List Spot
bits_of_entry cells entry e = map (spot_of cells entry) (refs_of cells entry e e.what.role)

pub record IsShaped (cells : List CellOf) (entry : Wire) (net : Net) : Type 0 where
  pub widths : map (λ (reg : Reg). reg.width) net.regs.items
      ≡ map (λ (e : Entry). part_width e.what) (entries_that is_register cells)
  pub numbers : map (λ (reg : Reg). reg.thing) net.regs.items
      ≡ map (λ (e : Entry). number_among is_thing cells e.cell e.part) (entries_that is_register cells)
  pub regs : length net.regs.items ≡ length (entries_that is_register cells)
  pub muxes : length net.muxes.items ≡ length (entries_that is_mux cells)
  pub outputs : map (λ (i : Inst). map (λ (port : PortOut). port.width) i.outs.items) net.insts.items
      ≡ map output_widths_of (instruments cells)
  pub insts : length net.insts.items ≡ length (instruments cells)
  pub nodes : length net.nodes.items ≡ length cells
  pub bits : map (λ (t : Thing). t.bits.items) net.things.items
      ≡ map (bits_of_entry cells entry) (entries_that is_thing cells)
  pub things : length net.things.items ≡ length (entries_that is_thing cells)

widths_same : (cells : List CellOf) (entry : Wire) (c : ℕ × CellOf) (i : Inst)
    → IsInstrumentOf cells entry c i
    → map (λ (port : PortOut). port.width) i.outs.items ≡ output_widths_of c
widths_same cells entry c i h =
    sym (paired_maps (λ (p : ℕ × PartOf) (o : PortOut). output_of p ≡ o)
    (λ p. part_width p.1) (λ o. o.width)
    (λ p o e. ap (λ (x : PortOut). x.width) e)
    (parts_that is_data_out c.1) i.outs.items
    (mapped_paired output_of (parts_that is_data_out c.1) i.outs.items h.outs))

pub net_shaped : (cells : List CellOf) (net : Net) (n : IsNetOf cells net) → IsShaped cells n.entry net
net_shaped cells net n =
    let R = λ (e : Entry) (reg : Reg). register_of cells n.entry e ≡ Ok reg in
    let S = λ (c : ℕ × CellOf) (i : Inst). instrument_of cells n.entry c ≡ Ok i in
    let T = λ (e : Entry) (t : Thing). thing_of cells n.entry e ≡ t in
    let regs = each_paired (register_of cells n.entry)
    (entries_that is_register cells) net.regs.items n.regs in
    let muxes = each_paired (mux_of cells n.entry)
    (entries_that is_mux cells) net.muxes.items n.muxes in
    let insts = each_paired (instrument_of cells n.entry)
    (instruments cells) net.insts.items n.insts in
    let things = mapped_paired (thing_of cells n.entry)
    (entries_that is_thing cells) net.things.items n.things in
    record {
      widths =
          sym (paired_maps R (λ e. part_width e.what) (λ reg. reg.width)
          (λ e reg h. (register_is cells n.entry e reg h).width)
          (entries_that is_register cells) net.regs.items regs);
      numbers =
          sym (paired_maps R (λ e. number_among is_thing cells e.cell e.part) (λ reg. reg.thing)
          (λ e reg h. (register_is cells n.entry e reg h).thing)
          (entries_that is_register cells) net.regs.items regs);
      regs = sym (paired_length R (entries_that is_register cells) net.regs.items regs);
      muxes =
          sym (paired_length (λ (e : Entry) (m : Mux). mux_of cells n.entry e ≡ Ok m)
          (entries_that is_mux cells) net.muxes.items muxes);
      outputs =
          sym (paired_maps S output_widths_of (λ i. map (λ (port : PortOut). port.width) i.outs.items)
          (λ c i h. sym (widths_same cells n.entry c i (instrument_is cells n.entry c i h)))
          (instruments cells) net.insts.items insts);
      insts = sym (paired_length S (instruments cells) net.insts.items insts);
      nodes = sym (ap length n.nodes)
          ∙ length-map (enumerate_from 0 cells) (node_of (paths_from [] cells))
          ∙ length-enumerate_from 0 cells;
      bits =
          sym (paired_maps T (bits_of_entry cells n.entry) (λ t. t.bits.items)
          (λ e t h. (thing_is cells n.entry e t h).bits)
          (entries_that is_thing cells) net.things.items things);
      things = sym (paired_length T (entries_that is_thing cells) net.things.items things);
    }

-- ---- what a trace's end says

module _ (cells : List CellOf) (entry : Wire) where
  abbrev pub TrueEnds : End → Type 0
  TrueEnds (AtConstant b) = Unit {0}
  TrueEnds (AtBit w inverted stands) = driver_of cells entry w ≡ stands
  TrueEnds InLoop = Unit {0}

  told : (n : ℕ) (a : Stop) (e : End) → EndsOrGoesOn cells entry n a e → TrueEnds e
  told n a (AtBit w inverted stands) h = h.1
  told n a (AtConstant b) h = tt
  told n a InLoop h = tt

  pub trace_told : (r : Ref) → TrueEnds (trace cells entry r)
  unfolding trace
  trace_told (Fixed b) = tt
  trace_told (RefBit cell part pos turned) =
      let a : Stop =
      record { wire = record { cell = cell; part = part; pos = pos }; inverted = flip_if turned false } in
      told (signal_bits cells + 1) a (follow cells entry (signal_bits cells + 1) a.inverted a.wire)
      (ends cells entry (signal_bits cells + 1) a)

-- a signal that something drives
abbrev pub IsDriven : Net → Sig → Type 0
IsDriven net Absent = ⊥
IsDriven net Zero = Unit {0}
IsDriven net One = Unit {0}
IsDriven net (Bit b inverted) = IsBitOf net b
IsDriven net (Out inst port pos inverted) = pos < get_or (output_widths net inst) port 0

pub driven_signal : (net : Net) (s : Sig) → IsDriven net s → IsSignalOf net s
driven_signal net Absent h = tt
driven_signal net Zero h = tt
driven_signal net One h = tt
driven_signal net (Bit b inverted) h = h
driven_signal net (Out inst port pos inverted) h = h

-- a register, a multiplexer and an instrument's output, where a bit stands for one
module _ (cells : List CellOf) (entry : Wire) (net : Net) (shaped : IsShaped cells entry net) where
  pub register_wide : (cell part : ℕ) (p : PartOf)
      → part_at cells cell part ≡ Some p → is_register p.role ≡ true
      → width_of net (number_among is_register cells cell part) ≡ part_width p
  register_wide cell part p h t =
      ap (λ l. get_or l (number_among is_register cells cell part) 0) shaped.widths
      ∙ get_mapped (λ (e : Entry). part_width e.what) 0 (entries_that is_register cells)
      (number_among is_register cells cell part) (the_entry cell part p)
      (entry_of_number is_register cells cell part p h t)

  -- a bit that is there of a part that is there
  pos_there : (w : Wire) (p : PartOf) → part_at cells w.cell w.part ≡ Some p
      → IsBitThere cells w → w.pos < part_width p
  pos_there w p e h = subst (λ o. IsSomeAnd o (λ q. w.pos < part_width q)) e h

  pub register_bit_there : (w : Wire) (p : PartOf)
      → part_at cells w.cell w.part ≡ Some p → is_register p.role ≡ true
      → IsBitThere cells w → IsBitOf net (register_bit cells w)
  register_bit_there w p e t h =
      let lt = pos_there w p e h in
      let wide = register_wide w.cell w.part p e t in
      omega (arith, lt, wide)

  at_register : (w : Wire) → driver_of cells entry w ≡ ARegisterBit
      → IsAtPart ARegisterBit (is_instrument_cell cells w.cell) (part_at cells w.cell w.part)
  at_register w e = subst (λ s. IsAtSome s (is_instrument_cell cells w.cell) (part_at cells w.cell w.part)) e
      (stands_at cells entry w)

  at_mux : (w : Wire) → driver_of cells entry w ≡ AMuxOutput
      → IsAtPart AMuxOutput (is_instrument_cell cells w.cell) (part_at cells w.cell w.part)
  at_mux w e = subst (λ s. IsAtSome s (is_instrument_cell cells w.cell) (part_at cells w.cell w.part)) e
      (stands_at cells entry w)

  at_output : (w : Wire) → driver_of cells entry w ≡ AnInstrumentOutput
      → IsAtPart AnInstrumentOutput (is_instrument_cell cells w.cell) (part_at cells w.cell w.part)
  at_output w e = subst (λ s. IsAtSome s (is_instrument_cell cells w.cell) (part_at cells w.cell w.part)) e
      (stands_at cells entry w)

  output_there_in : (w : Wire) → driver_of cells entry w ≡ AnInstrumentOutput → IsBitThere cells w
      → w.pos < get_or (output_widths net (instrument_number cells w.cell))
      (output_number cells w.cell w.part) 0
  output_there_in w e h =
      let a = at_output w e in
      let c = in_cell cells w.cell w.part a.part a.there in
      let lt = pos_there w a.part a.there h in
      let inst : is_instrument c.inside ≡ true =
      sym (get_mapped is_instrument false cells w.cell c.inside c.cell_is) ∙ a.role.1 in
      let row : output_widths net (instrument_number cells w.cell) ≡ output_widths_of (w.cell, c.inside) =
      ap (λ l. get_or l (instrument_number cells w.cell) []) shaped.outputs
      ∙ get_mapped output_widths_of [] (instruments cells) (instrument_number cells w.cell) (w.cell, c.inside)
      (instrument_there cells w.cell c.inside c.cell_is inst)
      in
      let wide : get_or (output_widths net (instrument_number cells w.cell))
      (output_number cells w.cell w.part) 0 ≡ part_width a.part =
      ap (λ l. get_or l (output_number cells w.cell w.part) 0) row
      ∙ get_mapped (λ (p : ℕ × PartOf). part_width p.1) 0
      (parts_that is_data_out c.inside) (output_number cells w.cell w.part)
      (w.part, a.part) (output_there cells w.cell w.part c.inside a.part c.cell_is c.part_is a.role.0)
      in
      omega (arith, lt, wide)

  pub constant_driven : (b : Bool) → IsDriven net (constant b)
  constant_driven true = tt
  constant_driven false = tt

  -- ---- data signals

  data_driven : (at : Place) (e : End) (s : Sig) → EndsThere cells entry e
      → data_end cells at e ≡ Ok s → IsDriven net s
  data_driven at (AtConstant b) s t h = subst (IsDriven net) (ok_is (constant b) s h) (constant_driven b)
  data_driven at (AtBit w inverted ARegisterBit) s t h =
      let a = at_register w t.1 in
      subst (IsDriven net) (ok_is (Bit (register_bit cells w) inverted) s h)
      (register_bit_there w a.part a.there a.role t.0)
  data_driven at (AtBit w inverted AnInstrumentOutput) s t h =
      subst (IsDriven net) (ok_is
      (Out (instrument_number cells w.cell) (output_number cells w.cell w.part) w.pos inverted) s h)
      (output_there_in w t.1 t.0)
  data_driven at (AtBit w inverted AFreeInput) s t h =
      subst (IsDriven net) (ok_is (constant inverted) s h) (constant_driven inverted)
  data_driven at (AtBit w inverted AMuxOutput) s t h = absurd cc
  data_driven at (AtBit w inverted TheEntry) s t h = absurd cc
  data_driven at (AtBit w inverted NothingAtAll) s t h = absurd cc
  data_driven at (AtBit w inverted (Another r)) s t h = absurd cc
  data_driven at InLoop s t h = absurd cc

  module _ (wired : AreWired cells) where
    pub data_there : (at : Place) (r : Ref) (s : Sig) → IsRefOf cells r
        → data_from cells entry at r ≡ Ok s → IsDriven net s
    data_there at r s g h = data_driven at (trace cells entry r) s (trace_there cells entry wired r g) h

    select_good : (at : Place) (s : Sig) (b : BitId) → IsDriven net s → select_bit at s ≡ Ok b → IsBitOf net b
    select_good at (Bit c false) b d h = subst (IsBitOf net) (ok_is c b h) d
    select_good at (Bit c true) b d h = absurd cc
    select_good at Absent b d h = absurd cc
    select_good at Zero b d h = absurd cc
    select_good at One b d h = absurd cc
    select_good at (Out inst port pos inverted) b d h = absurd cc

    pub select_there : (at : Place) (r : Ref) (b : BitId) → IsRefOf cells r
        → select_from cells entry at r ≡ Ok b → IsBitOf net b
    select_there at r b g h =
        let a = both (data_from cells entry at r) (select_bit at) b h in
        select_good at a.first b (data_there at r a.first g a.is) a.then'

    input_good : (at : Place) (s t : Sig) → IsDriven net s → input_bit at s ≡ Ok t → IsInputOf net t
    input_good at (Bit c inverted) t d h = subst (IsInputOf net) (ok_is (Bit c inverted) t h) d
    input_good at Absent t d h = absurd d
    input_good at Zero t d h = subst (IsInputOf net) (ok_is Zero t h) tt
    input_good at One t d h = subst (IsInputOf net) (ok_is One t h) tt
    input_good at (Out inst port pos inverted) t d h = absurd cc

    pub input_there : (at : Place) (r : Ref) (s : Sig) → IsRefOf cells r
        → input_from cells entry at r ≡ Ok s → IsInputOf net s
    input_there at r s g h =
        let a = both (data_from cells entry at r) (input_bit at) s h in
        input_good at a.first s (data_there at r a.first g a.is) a.then'

  -- ---- scan sources

  register_there : (w : Wire) → driver_of cells entry w ≡ ARegisterBit
      → number_among is_register cells w.cell w.part < length net.regs.items
  register_there w e =
      let a = at_register w e in
      let lt = slice_get_within (entries_that is_register cells)
      (number_among is_register cells w.cell w.part)
      (the_entry w.cell w.part a.part)
      (entry_of_number is_register cells w.cell w.part a.part a.there a.role) in
      let long = shaped.regs in
      omega (arith, lt, long)

  mux_there : (w : Wire) → driver_of cells entry w ≡ AMuxOutput
      → number_among is_mux cells w.cell w.part < length net.muxes.items
  mux_there w e =
      let a = at_mux w e in
      let lt = slice_get_within (entries_that is_mux cells)
      (number_among is_mux cells w.cell w.part) (the_entry w.cell w.part a.part)
      (entry_of_number is_mux cells w.cell w.part a.part a.there a.role) in
      let long = shaped.muxes in
      omega (arith, lt, long)

  scan_good : (at : Place) (e : End) (p : Point) → TrueEnds cells entry e
      → scan_end cells at e ≡ Ok p → IsPointOf net p
  scan_good at (AtConstant b) p t h = absurd cc
  scan_good at (AtBit w inverted ARegisterBit) p t h = subst (IsPointOf net)
      (ok_is (FromReg (number_among is_register cells w.cell w.part)) p h) (register_there w t)
  scan_good at (AtBit w inverted AMuxOutput) p t h = subst (IsPointOf net)
      (ok_is (FromMux (number_among is_mux cells w.cell w.part)) p h) (mux_there w t)
  scan_good at (AtBit w inverted TheEntry) p t h = subst (IsPointOf net) (ok_is FromEntry p h) tt
  scan_good at (AtBit w inverted AnInstrumentOutput) p t h = absurd cc
  scan_good at (AtBit w inverted AFreeInput) p t h = absurd cc
  scan_good at (AtBit w inverted NothingAtAll) p t h = absurd cc
  scan_good at (AtBit w inverted (Another r)) p t h = absurd cc
  scan_good at InLoop p t h = absurd cc

  pub scan_there : (at : Place) (r : Ref) (p : Point) → scan_from cells entry at r ≡ Ok p → IsPointOf net p
  scan_there at r p h = scan_good at (trace cells entry r) p (trace_told cells entry r) h
