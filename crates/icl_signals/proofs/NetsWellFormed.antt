-- The network of every well formed hierarchy is well formed.
use Rattle.std.proofs.Common.{ℕ, List, arith}
use Rattle.std.specs.Prelude.{Result, Ok, Err, IfOk}
use Rattle.icl_references.specs.Roles.{CellOf}
use Rattle.icl_elab.specs.WellFormed.{IsHierarchy}
use Rattle.net_graph.specs.declared.net.Net.{Net}
use Rattle.net_graph.specs.Nets.{IsNet}
use Rattle.icl_signals.specs.declared.fault.ConnectFault.{ConnectFault}
use Rattle.ij_text.specs.Options.{same}
use Rattle.icl_signals.specs.Refusals.{Gives}
use Rattle.icl_signals.specs.Connecting.{network, one_bit_of}
use Rattle.icl_signals.specs.WellFormed.{NetsAreWellFormed}
use Rattle.icl_signals.proofs.NetParts.{net_is}
use Rattle.icl_signals.proofs.NetSignals.{net_shaped, scan_there}
use Rattle.icl_signals.proofs.NetRegisters.{registers_good}
use Rattle.icl_signals.proofs.NetMuxes.{muxes_good}
use Rattle.icl_signals.proofs.NetInstruments.{instruments_good, instrument_nodes}
use Rattle.icl_signals.proofs.NetThings.{things_good, have_things, thing_names}
use Rattle.icl_signals.proofs.NetNodes.{paths_differ, path_names, few_levels, top_path}
use Rattle.icl_signals.proofs.NetCounts.{bits_within_limit, few_muxes, few_insts, few_nodes}

pub nets_are_well_formed : NetsAreWellFormed
nets_are_well_formed cells link instr net h e =
    let n = net_is cells link instr net e in
    let shaped = net_shaped cells net n in
    let top = h.top in
    let nodes = shaped.nodes in
    record {
      regs = registers_good cells net n shaped h.wired;
      muxes = muxes_good cells net n shaped h.wired h.cells_are;
      insts = instruments_good cells net n shaped h.wired h.cells_are;
      output = scan_there cells n.entry net shaped n.place
          (one_bit_of n.exit.cell n.exit.part 0) net.out n.output;
      things = things_good cells net n shaped h.wired h.cells_are;
      top = omega (arith, top, nodes);
      top_path = top_path cells h net n;
      node_paths = paths_differ cells h net n;
      path_names = path_names cells h net n;
      inst_nodes = instrument_nodes cells net n;
      thing_names = thing_names cells net n h.cells_are;
      reg_things = have_things cells n.entry net shaped h.wired;
      bits_within_limit = bits_within_limit cells n.entry net shaped h;
      few_muxes = few_muxes cells n.entry net shaped h;
      few_insts = few_insts cells n.entry net shaped h;
      few_nodes = few_nodes cells n.entry net shaped h;
      few_levels = few_levels cells h net n;
    }

pub well_formed_if : (r : Result Net ConnectFault) (cells : List CellOf) (link instr : List ℕ)
    → Gives same r (network cells link instr) → IfOk r (λ net. IsHierarchy cells → IsNet net)
well_formed_if (Ok net) cells link instr g = λ h. nets_are_well_formed cells link instr net h g
well_formed_if (Err e) cells link instr g = tt
