-- The network of a hierarchy, part by part.
use Rattle.std.proofs.Common.{◌≡◌, ℕ, List, map, Option, Ok, refl, sym, ap, ◌∙◌}
use Rattle.ij_text.specs.declared.Place.{Place}
use Rattle.ij_bits.specs.Room.{full}
use Rattle.ij_text.specs.Numbers.{tern_bits}
use Rattle.icl_declarations.specs.Faults.{each}
use Rattle.icl_declarations.specs.Values.{OpenBits}
use Rattle.icl_elab.specs.WellFormed.{is_register, is_mux, is_thing, is_data_in, is_data_out}
use Rattle.icl_references.specs.declared.hier.Ref.{Ref}
use Rattle.icl_references.specs.Roles.{Choice, Role, AScanRegister, AScanMux, PartOf, CellOf, part_width}
use Rattle.icl_references.specs.Roles.{seen_word}
use Rattle.icl_frames.proofs.Answering.{both, ok_is}
use Rattle.net_graph.specs.declared.net.Inst.{Inst}
use Rattle.net_graph.specs.declared.net.Mux.{Mux}
use Rattle.net_graph.specs.declared.net.Net.{Net}
use Rattle.net_graph.specs.declared.net.PortIn.{PortIn}
use Rattle.net_graph.specs.declared.net.Reg.{Reg}
use Rattle.net_graph.specs.declared.net.Row.{Row}
use Rattle.net_graph.specs.declared.net.Thing.{Thing}
use Rattle.icl_signals.specs.declared.wires.Wire.{Wire}
use Rattle.icl_signals.specs.Moves.{Entry}
use Rattle.icl_signals.specs.OpenNumbers.{tern_of}
use Rattle.icl_signals.specs.Connecting.{entries_that, number_among, instruments, parts_that, own_bits}
use Rattle.icl_signals.specs.Connecting.{one_bit_of, resets, output_of, scan_from, scan_source, captures}
use Rattle.icl_signals.specs.Connecting.{register_from, register_of, select_from, row_from, mux_from, mux_of}
use Rattle.icl_signals.specs.Connecting.{input_from, input_of, instrument_of, spot_of, refs_of, thing_of}
use Rattle.icl_signals.specs.Connecting.{nodes_of, ends, network}
use Rattle.icl_signals.proofs.OneNumber.{bits_back, terns_had, words_had}

pub record IsNetOf (cells : List CellOf) (net : Net) : Type 0 where
  pub entry : Wire
  pub exit : Wire
  pub place : Place
  pub output : scan_from cells entry place (one_bit_of exit.cell exit.part 0) ≡ Ok net.out
  pub regs : each (register_of cells entry) (entries_that is_register cells)
      ≡ Ok net.regs.items
  pub muxes : each (mux_of cells entry) (entries_that is_mux cells) ≡ Ok net.muxes.items
  pub insts : each (instrument_of cells entry) (instruments cells) ≡ Ok net.insts.items
  pub nodes : nodes_of cells ≡ net.nodes.items
  pub things : map (thing_of cells entry) (entries_that is_thing cells) ≡ net.things.items

pub net_is : (cells : List CellOf) (link instr : List ℕ) (net : Net)
    → network cells link instr ≡ Ok net → IsNetOf cells net
unfolding network
net_is cells link instr net h =
    let e = both (ends cells link instr) _ net h in
    let out = both (scan_from cells e.first.entry e.first.exit_place
    (one_bit_of e.first.exit.cell e.first.exit.part 0)) _
    net e.then' in
    let regs = both (each (register_of cells e.first.entry) (entries_that is_register cells)) _
    net out.then' in
    let muxes =
    both (each (mux_of cells e.first.entry) (entries_that is_mux cells)) _ net regs.then' in
    let insts =
    both (each (instrument_of cells e.first.entry) (instruments cells)) _ net muxes.then' in
    let n : Net =
    record {
      regs = full regs.first;
      muxes = full muxes.first;
      insts = full insts.first;
      out = out.first;
      nodes = full (nodes_of cells);
      things = full (map (thing_of cells e.first.entry) (entries_that is_thing cells));
    } in
    let same = ok_is n net insts.then' in
    record {
      entry = e.first.entry;
      exit = e.first.exit;
      place = e.first.exit_place;
      output = out.is ∙ ap (λ (x : Net). Ok x.out) same;
      regs = regs.is ∙ ap (λ (x : Net). Ok x.regs.items) same;
      muxes = muxes.is ∙ ap (λ (x : Net). Ok x.muxes.items) same;
      insts = insts.is ∙ ap (λ (x : Net). Ok x.insts.items) same;
      nodes = ap (λ (x : Net). x.nodes.items) same;
      things = ap (λ (x : Net). x.things.items) same;
    }

module _ (cells : List CellOf) (entry : Wire) where
  pub record IsRegisterOf (e : Entry) (reg : Reg) : Type 0 where
    pub scan : Option Ref
    pub capture : Option (List Ref)
    pub reset : Option OpenBits
    pub role : e.what.role ≡ AScanRegister scan capture reset
    pub from : scan_source cells entry e.what.at scan ≡ Ok reg.from
    pub signals : captures cells entry e.what.at (part_width e.what) capture ≡ Ok reg.capture.items
    pub width : part_width e.what ≡ reg.width
    pub values : resets (part_width e.what) reset ≡ tern_bits reg.reset
    pub thing : number_among is_thing cells e.cell e.part ≡ reg.thing

  pub register_is : (e : Entry) (reg : Reg)
      → register_of cells entry e ≡ Ok reg → IsRegisterOf e reg
  unfolding register_of
  register_is e reg h = by_role e.what.role refl h
    where
      by_role : (role : Role) → e.what.role ≡ role
          → register_from cells entry e role ≡ Ok reg → IsRegisterOf e reg
      by_role (AScanRegister scan capture reset) r g =
          let from = both (scan_source cells entry e.what.at scan) _ reg g in
          let signals =
          both (captures cells entry e.what.at (part_width e.what) capture) _ reg from.then' in
          let n : Reg =
          record {
            width = part_width e.what;
            from = from.first;
            capture = full signals.first;
            reset = tern_of (resets (part_width e.what) reset);
            thing = number_among is_thing cells e.cell e.part;
          } in
          let same = ok_is n reg signals.then' in
          record {
            scan = scan;
            capture = capture;
            reset = reset;
            role = r;
            from = from.is ∙ ap (λ (x : Reg). Ok x.from) same;
            signals = signals.is ∙ ap (λ (x : Reg). Ok x.capture.items) same;
            width = ap (λ (x : Reg). x.width) same;
            values =
                sym (bits_back (resets (part_width e.what) reset))
                ∙ ap (λ (x : Reg). tern_bits x.reset) same;
            thing = ap (λ (x : Reg). x.thing) same;
          }
      by_role role r g = absurd cc

  pub record IsMuxOf (e : Entry) (mux : Mux) : Type 0 where
    pub select : List Ref
    pub rows : List Choice
    pub role : e.what.role ≡ AScanMux select rows
    pub bits : each (select_from cells entry e.what.at) select ≡ Ok mux.select.items
    pub sources : each (row_from cells entry e.what.at) rows ≡ Ok mux.rows.items
    pub node : e.cell ≡ mux.node
    pub name : e.what.name ≡ mux.name.items

  pub mux_is : (e : Entry) (mux : Mux) → mux_of cells entry e ≡ Ok mux → IsMuxOf e mux
  unfolding mux_of
  mux_is e mux h = by_role e.what.role refl h
    where
      by_role : (role : Role) → e.what.role ≡ role
          → mux_from cells entry e role ≡ Ok mux → IsMuxOf e mux
      by_role (AScanMux select rows) r g =
          let bits = both (each (select_from cells entry e.what.at) select) _ mux g in
          let sources = both (each (row_from cells entry e.what.at) rows) _ mux bits.then' in
          let n : Mux =
          record {
            select = full bits.first;
            rows = full sources.first;
            node = e.cell;
            name = full e.what.name;
          } in
          let same = ok_is n mux sources.then' in
          record {
            select = select;
            rows = rows;
            role = r;
            bits = bits.is ∙ ap (λ (x : Mux). Ok x.select.items) same;
            sources = sources.is ∙ ap (λ (x : Mux). Ok x.rows.items) same;
            node = ap (λ (x : Mux). x.node) same;
            name = ap (λ (x : Mux). x.name.items) same;
          }
      by_role role r g = absurd cc

  pub record IsRowOf (at : Place) (c : Choice) (row : Row) : Type 0 where
    pub from : scan_from cells entry at c.source ≡ Ok row.from
    pub values : c.values ≡ map tern_bits row.values.items

  pub row_is : (at : Place) (c : Choice) (row : Row)
      → row_from cells entry at c ≡ Ok row → IsRowOf at c row
  row_is at c row h =
      let from = both (scan_from cells entry at c.source) _ row h in
      let n : Row = record { values = full (map tern_of c.values); from = from.first } in
      let same = ok_is n row from.then' in
      record {
        from = from.is ∙ ap (λ (x : Row). Ok x.from) same;
        values = sym (terns_had c.values) ∙ ap (λ (x : Row). map tern_bits x.values.items) same;
      }

  pub record IsInstrumentOf (c : ℕ × CellOf) (inst : Inst) : Type 0 where
    pub node : c.0 ≡ inst.node
    pub ins : each (input_of cells entry c.0) (parts_that is_data_in c.1) ≡ Ok inst.ins.items
    pub outs : map output_of (parts_that is_data_out c.1) ≡ inst.outs.items

  pub instrument_is : (c : ℕ × CellOf) (inst : Inst)
      → instrument_of cells entry c ≡ Ok inst → IsInstrumentOf c inst
  unfolding instrument_of
  instrument_is c inst h =
      let ins = both (each (input_of cells entry c.0) (parts_that is_data_in c.1)) _ inst h in
      let n : Inst =
      record { node = c.0; ins = full ins.first; outs = full (map output_of (parts_that is_data_out c.1)) } in
      let same = ok_is n inst ins.then' in
      record {
        node = ap (λ (x : Inst). x.node) same;
        ins = ins.is ∙ ap (λ (x : Inst). Ok x.ins.items) same;
        outs = ap (λ (x : Inst). x.outs.items) same;
      }

  pub record IsInputPortOf (cell : ℕ) (p : ℕ × PartOf) (port : PortIn) : Type 0 where
    pub name : p.1.name ≡ port.name.items
    pub bits : each (input_from cells entry p.1.at)
        (own_bits (record { cell = cell; part = p.0; what = p.1 })) ≡ Ok port.bits.items

  pub input_is : (cell : ℕ) (p : ℕ × PartOf) (port : PortIn)
      → input_of cells entry cell p ≡ Ok port → IsInputPortOf cell p port
  input_is cell p port h =
      let bits = both (each (input_from cells entry p.1.at)
      (own_bits (record { cell = cell; part = p.0; what = p.1 }))) _ port h in
      let n : PortIn = record { name = full p.1.name; bits = full bits.first } in
      let same = ok_is n port bits.then' in
      record {
        name = ap (λ (x : PortIn). x.name.items) same;
        bits = bits.is ∙ ap (λ (x : PortIn). Ok x.bits.items) same;
      }

  pub record IsThingOf (e : Entry) (t : Thing) : Type 0 where
    pub node : e.cell ≡ t.node
    pub name : e.what.name ≡ t.name.items
    pub left : e.what.left ≡ t.left
    pub right : e.what.right ≡ t.right
    pub bits : map (spot_of cells entry) (refs_of cells entry e e.what.role) ≡ t.bits.items
    pub words : e.what.words ≡ map seen_word t.words.items

  pub thing_is : (e : Entry) (t : Thing) → thing_of cells entry e ≡ t → IsThingOf e t
  unfolding thing_of
  thing_is e t h =
      record {
        node = ap (λ (x : Thing). x.node) h;
        name = ap (λ (x : Thing). x.name.items) h;
        left = ap (λ (x : Thing). x.left) h;
        right = ap (λ (x : Thing). x.right) h;
        bits = ap (λ (x : Thing). x.bits.items) h;
        words = sym (words_had e.what.words) ∙ ap (λ (x : Thing). map seen_word x.words.items) h;
      }
