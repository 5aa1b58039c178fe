-- The registers of the network of a hierarchy are well formed.
use Rattle.std.proofs.Common.{◌≡◌, ℕ, zero, suc, true, List, length, replicate, IfSome, Option, Some, None}
use Rattle.std.proofs.Common.{Ok, sym, ap, subst, ◌∙◌, arith}
use Rattle.std.specs.Prelude.{All}
use Rattle.std.specs.List.{AllByRecursion}
use Rattle.std.proofs.lemmas.List.{length-replicate}
use Rattle.std.proofs.lemmas.List.Elements.{All-from_recursion}
use Rattle.ij_text.specs.declared.Place.{Place}
use Rattle.icl_declarations.specs.Values.{OpenBits}
use Rattle.icl_elab.specs.WellFormed.{is_register, is_thing}
use Rattle.icl_references.specs.declared.hier.Ref.{Ref}
use Rattle.icl_references.specs.Roles.{AScanRegister, CellOf, part_width}
use Rattle.icl_elab.specs.Laws.{IsRefOf, AreWide, IsRole, AreWired}
use Rattle.icl_frames.proofs.Answering.{ok_is}
use Rattle.net_graph.specs.declared.net.Net.{Net}
use Rattle.net_graph.specs.declared.net.Point.{Point}
use Rattle.net_graph.specs.declared.net.Reg.{Reg}
use Rattle.net_graph.specs.declared.net.Sig.{Sig}
use Rattle.net_graph.specs.declared.net.Sig.TheVariants.{Absent}
use Rattle.net_graph.specs.Named.{IsPointOf, IsSignalOf}
use Rattle.net_graph.specs.Nets.{IsReg}
use Rattle.icl_signals.specs.declared.wires.Wire.{Wire}
use Rattle.icl_signals.specs.Moves.{Entry}
use Rattle.icl_signals.specs.Connecting.{entries_that, number_among, resets, data_from, scan_source, captures}
use Rattle.icl_signals.specs.Connecting.{register_of}
use Rattle.icl_signals.proofs.Joined.{part_wired}
use Rattle.icl_signals.proofs.Paired.{paired_length, paired_all, each_paired}
use Rattle.icl_signals.proofs.EntryNumbers.{IsKept, all_kept_known, the_entry, entry_of_number}
use Rattle.icl_signals.proofs.NetParts.{IsNetOf, register_is}
use Rattle.icl_signals.proofs.NetSignals.{IsShaped, driven_signal, data_there, scan_there}
use Rattle.icl_signals.proofs.PartFacts.{some_width}
use Rattle.std.proofs.lemmas.Option.{slice_get_within}
use Rattle.ij_text.proofs.Numbers.{tern_length}

all_replicated : {A : Type 0} (P : A → Type 0) (n : ℕ) (x : A) → P x → AllByRecursion P (replicate n x)
all_replicated P zero x h = tt
all_replicated P (suc n) x h = (h, all_replicated P n x h)

length_resets : (width : ℕ) (reset : Option OpenBits)
    → IfSome reset (λ bits. length bits ≡ width) → length (resets width reset) ≡ width
length_resets width None h = length-replicate width None
length_resets width (Some bits) h = h

module _ (cells : List CellOf) (entry : Wire) (net : Net) (shaped : IsShaped cells entry net) where
  source_there : (at : Place) (o : Option Ref) (p : Point)
      → scan_source cells entry at o ≡ Ok p → IsPointOf net p
  source_there at None p h = absurd cc
  source_there at (Some r) p h = scan_there cells entry net shaped at r p h

  module _ (wired : AreWired cells) where
    captures_long : (at : Place) (width : ℕ) (o : Option (List Ref)) (signals : List Sig)
        → IfSome o (AreWide (IsRefOf cells) width)
        → captures cells entry at width o ≡ Ok signals → length signals ≡ width
    captures_long at width None signals w h =
        ap length (sym (ok_is (replicate width Absent) signals h)) ∙ length-replicate width Absent
    captures_long at width (Some refs) signals w h =
        sym (paired_length (λ (r : Ref) (s : Sig). data_from cells entry at r ≡ Ok s) refs signals
        (each_paired (data_from cells entry at) refs signals h)) ∙ w.1

    captures_there : (at : Place) (width : ℕ) (o : Option (List Ref)) (signals : List Sig)
        → IfSome o (AreWide (IsRefOf cells) width) → captures cells entry at width o ≡ Ok signals
        → AllByRecursion (IsSignalOf net) signals
    captures_there at width None signals w h =
        subst (AllByRecursion (IsSignalOf net)) (ok_is (replicate width Absent) signals h)
        (all_replicated (IsSignalOf net) width Absent tt)
    captures_there at width (Some refs) signals w h =
        paired_all (IsRefOf cells) (λ (r : Ref) (s : Sig). data_from cells entry at r ≡ Ok s) (IsSignalOf net)
        (λ r s g d. driven_signal net s (data_there cells entry net shaped wired at r s g d)) refs signals w.0
        (each_paired (data_from cells entry at) refs signals h)

    pub register_good : (e : Entry) (reg : Reg) → IsKept cells is_register e
        → register_of cells entry e ≡ Ok reg → IsReg net reg
    register_good e reg k h =
        let r = register_is cells entry e reg h in
        let part = part_wired cells wired e.cell e.part e.what k.0 in
        let role : IsRole (IsRefOf cells) (part_width e.what) (AScanRegister r.scan r.capture r.reset) =
        subst (IsRole (IsRefOf cells) (part_width e.what)) r.role part.role in
        let is_there : is_thing e.what.role ≡ true = ap is_thing r.role in
        let below = slice_get_within (entries_that is_thing cells) (number_among is_thing cells e.cell e.part)
        (the_entry e.cell e.part e.what) (entry_of_number is_thing cells e.cell e.part e.what k.0 is_there) in
        let some = some_width e.what in
        let width = r.width in
        let thing = r.thing in
        let things = shaped.things in
        record {
          at_least_one_bit = omega (arith, some, width);
          source = source_there e.what.at r.scan reg.from r.from;
          captures = captures_long e.what.at
              (part_width e.what) r.capture reg.capture.items role.1 r.signals ∙ width;
          signals = All-from_recursion (IsSignalOf net) reg.capture.items
              (captures_there e.what.at (part_width e.what) r.capture reg.capture.items role.1 r.signals);
          resets = sym (tern_length reg.reset) ∙ ap length (sym r.values)
              ∙ length_resets (part_width e.what) r.reset role.2 ∙ width;
          thing = omega (arith, below, thing, things);
        }

pub registers_good : (cells : List CellOf) (net : Net) (n : IsNetOf cells net)
    → IsShaped cells n.entry net → AreWired cells
    → All (IsReg net) net.regs.items
registers_good cells net n shaped wired =
    All-from_recursion (IsReg net) net.regs.items
    (paired_all (IsKept cells is_register)
    (λ (e : Entry) (reg : Reg). register_of cells n.entry e ≡ Ok reg) (IsReg net)
    (register_good cells n.entry net shaped wired)
    (entries_that is_register cells) net.regs.items (all_kept_known cells is_register)
    (each_paired (register_of cells n.entry) (entries_that is_register cells) net.regs.items n.regs))
