-- Each cell gets what its instance binds.
use Rattle.std.proofs.Common.{◌≡◌, ◌+◌, ℕ, List, [], ◌∷◌, map, Ok, Err, Result, refl, ap, ◌∙◌}
use Rattle.std.specs.Prelude.{zip, unwrap_or, IfOk}
use Rattle.std.specs.List.{enumerate_from}
use Rattle.icl_lexer.specs.Values.{SeenModule}
use Rattle.icl_declarations.specs.declared.fault.ElabFault.{ElabFault}
use Rattle.icl_declarations.specs.Faults.{Gives}
use Rattle.icl_declarations.specs.Ranges.{width}
use Rattle.icl_frames.specs.FirstPass.{Frame}
use Rattle.icl_references.specs.declared.hier.Hier.{Hier}
use Rattle.icl_elab.specs.declared.pass.Placed.{Placed}
use Rattle.icl_elab.specs.declared.pass.CellParts.{CellParts}
use Rattle.icl_elab.specs.Bindings.{Bound}
use Rattle.icl_elab.specs.Hierarchy.{bindings_of, with_bound, part_in, cell_in, hierarchy}
use Rattle.icl_elab.specs.Laws.{AreNumbered, AreWired}
use Rattle.icl_references.specs.Names.{Member, here_of, members}
use Rattle.icl_elab.specs.Placing.{made, part_with, parts_with, port_bound, port_of, ports_from}
use Rattle.icl_references.specs.Roles.{Role, ScanInput, ScanOutput, DataInput, DataOutput, ControlPort}
use Rattle.icl_references.specs.Roles.{AScanRegister, AScanMux, AnAliasOf, AnInstance, AnInterfaceOf}
use Rattle.icl_references.specs.Roles.{AnAccessLink, PartOf, CellOf, seen_hier}
use Rattle.icl_elab.specs.FoundParts.{Found}
use Rattle.icl_elab.specs.SeenCells.{PartHead, head_of_member, head_of_placed, heads_of_cells, heads_of_frame}
use Rattle.icl_elab.specs.SeenCells.{seen_cell_parts, seen_placed}
use Rattle.icl_frames.specs.Written.{AreWritten}
use Rattle.icl_elab.specs.WellFormed.{IsHierarchy}
use Rattle.icl_elab.proofs.NamedCells.{hierarchies_are_well_formed}
use Rattle.icl_elab.specs.Preorder.{AreInstances}
use Rattle.icl_elab.proofs.SameCells.{hierarchies_are_preorder}
use Rattle.icl_elab.proofs.Wiring.{hierarchies_are_wired}
use Rattle.icl_elab.proofs.Numbers.{hierarchies_are_numbered}
use Rattle.ij_bits.proofs.Lists.{head_same, tail_same}

-- ---- parts

bound_is : (bs : List Bound) (m : Member) (role : Role)
    → unwrap_or (port_bound bs m.part (width m.bounds) role) role ≡ with_bound bs m role
bound_is bs m (ScanInput bound) = refl
bound_is bs m (ScanOutput source) = refl
bound_is bs m (DataInput bound) = refl
bound_is bs m (DataOutput source) = refl
bound_is bs m ControlPort = refl
bound_is bs m (AScanRegister scan capture reset) = refl
bound_is bs m (AScanMux select rows) = refl
bound_is bs m (AnAliasOf refs) = refl
bound_is bs m (AnInstance cell) = refl
bound_is bs m (AnInterfaceOf ports) = refl
bound_is bs m (AnAccessLink selections) = refl

abbrev from_head : List Bound → PartHead → Found → PartOf
from_head bs h f = record {
  name = h.name;
  at = h.at;
  left = h.left;
  right = h.right;
  role =
      unwrap_or (port_bound bs h.number (width (record { left = h.left; right = h.right })) f.role) f.role;
  words = f.words;
}

part_is : (bs : List Bound) (m : Member) (p : Placed) → head_of_placed p ≡ head_of_member m
    → part_with p (port_of bs p) ≡ part_in bs (m, seen_placed p)
part_is bs m p h =
    let f = seen_placed p in
    ap (λ (z : PartHead). from_head bs z f) h
    ∙ ap (λ (r : Role). record {
      name = m.item.name;
      at = m.item.at;
      left = m.bounds.left;
      right = m.bounds.right;
      role = r;
      words = f.words;
    }) (bound_is bs m f.role)

parts_are : (bs : List Bound) (ms : List Member) (ps : List Placed)
    → map head_of_placed ps ≡ map head_of_member ms
    → parts_with ps (map (port_of bs) ps) ≡ map (part_in bs) (zip ms (map seen_placed ps))
parts_are bs [] [] h = refl
parts_are bs [] (p ∷ ps) h = absurd cc
parts_are bs (m ∷ ms) [] h = absurd cc
parts_are bs (m ∷ ms) (p ∷ ps) h =
    let first = part_is bs m p (head_same _ _ _ _ h) in
    let rest = parts_are bs ms ps (tail_same _ _ _ _ h) in
    ap (λ (x : PartOf). x ∷ parts_with ps (map (port_of bs) ps)) first
    ∙ ap (λ (l : List PartOf). part_in bs (m, seen_placed p) ∷ l) rest

-- ---- cells

pub cells_are : (founds : List (List Found)) (s : ℕ) (fs : List Frame) (cs : List CellParts)
    → heads_of_cells cs ≡ map heads_of_frame fs
    → made fs cs (ports_from founds s fs cs)
    ≡ map (cell_in founds) (zip (map here_of (enumerate_from s fs)) (map seen_cell_parts cs))
cells_are founds s [] cs h = refl
cells_are founds s (f ∷ fs) [] h = absurd cc
cells_are founds s (f ∷ fs) (c ∷ cs) h =
    let bs = bindings_of founds s f.parent in
    let first = parts_are bs (members f) c.parts.items (head_same _ _ _ _ h) in
    let rest = cells_are founds (s + 1) fs cs (tail_same _ _ _ _ h) in
    ap (λ (ps : List PartOf). record {
      name = f.name;
      parent = f.parent;
      module_name = f.block.name;
      parts = ps;
    } ∷ made fs cs (ports_from founds (s + 1) fs cs)) first
    ∙ ap (λ (l : List CellOf). record {
      name = f.name;
      parent = f.parent;
      module_name = f.block.name;
      parts = map (part_in bs) (zip (members f) (map seen_placed c.parts.items));
    } ∷ l) rest

-- ---- what is known of the hierarchy

pub wired_if : (r : Result Hier ElabFault) (blocks : List SeenModule) (top : List ℕ)
    → Gives seen_hier r (hierarchy blocks top) → IfOk r (λ h. AreWired (seen_hier h))
wired_if (Ok h) blocks top g = hierarchies_are_wired blocks top (seen_hier h) g
wired_if (Err e) blocks top g = tt

pub numbered_if : (r : Result Hier ElabFault) (blocks : List SeenModule) (top : List ℕ)
    → Gives seen_hier r (hierarchy blocks top) → IfOk r (λ h. AreNumbered (seen_hier h))
numbered_if (Ok h) blocks top g = hierarchies_are_numbered blocks top (seen_hier h) g
numbered_if (Err e) blocks top g = tt

pub instances_if : (r : Result Hier ElabFault) (blocks : List SeenModule) (top : List ℕ)
    → Gives seen_hier r (hierarchy blocks top) → IfOk r (λ h. AreInstances blocks top (seen_hier h))
instances_if (Ok h) blocks top g = hierarchies_are_preorder blocks top (seen_hier h) g
instances_if (Err e) blocks top g = tt

pub well_formed_if : (r : Result Hier ElabFault) (blocks : List SeenModule) (top : List ℕ)
    → Gives seen_hier r (hierarchy blocks top) → IfOk r (λ h. AreWritten blocks → IsHierarchy (seen_hier h))
well_formed_if (Ok h) blocks top g = λ w. hierarchies_are_well_formed blocks top (seen_hier h) w g
well_formed_if (Err e) blocks top g = tt
