-- Each part is of its item's kind.
use Rattle.std.proofs.Common.{◌≡◌, Bool, true, false, ◌&&◌, ◌||◌, List, [], ◌∷◌, length, Some, Ok, refl, sym}
use Rattle.std.proofs.Common.{subst, ◌∙◌}
use Rattle.std.specs.List.{list_any}
use Rattle.icl_lexer.specs.declared.tree.PortKind.{PortKind}
use Rattle.icl_lexer.specs.declared.tree.PortKind.TheVariants.{ScanInPort, ScanOutPort, DataInPort}
use Rattle.icl_lexer.specs.declared.tree.PortKind.TheVariants.{DataOutPort, SelectPort, CaptureEnPort}
use Rattle.icl_lexer.specs.declared.tree.PortKind.TheVariants.{ShiftEnPort, UpdateEnPort, ResetPort, TCKPort}
use Rattle.icl_lexer.specs.declared.tree.PortKind.TheVariants.{TMSPort, TRSTPort, ClockPort, ToSelectPort}
use Rattle.icl_lexer.specs.declared.tree.PortKind.TheVariants.{ToCaptureEnPort, ToShiftEnPort, ToUpdateEnPort}
use Rattle.icl_lexer.specs.declared.tree.PortKind.TheVariants.{ToResetPort, ToTCKPort, ToTMSPort, ToTRSTPort}
use Rattle.icl_lexer.specs.declared.tree.PortKind.TheVariants.{ToClockPort, ToIRSelectPort}
use Rattle.icl_lexer.specs.Values.{SeenSig, SeenProp, ASource, ALaunchEdge, ALoadValue, ARefEnum, APolarity}
use Rattle.icl_lexer.specs.Values.{AScanInSource, ACaptureSource, AResetValue, ATogether, SeenWhat, APort}
use Rattle.icl_lexer.specs.Values.{ARegister, AMux, AChild, AnAlias, SomeWords, AParameter, AnInterface}
use Rattle.icl_lexer.specs.Values.{ALink, AnAttribute}
use Rattle.icl_declarations.specs.Faults.{◌>>=◌, refuse_if, each, over, RowsOverlap}
use Rattle.icl_declarations.specs.Parts.{is_source, is_signal, port_that, is_scan_in, is_scan_out}
use Rattle.icl_declarations.specs.Parts.{is_data_in as is_data_in_kind, is_data_out as is_data_out_kind}
use Rattle.icl_declarations.specs.Parts.{is_data_port as is_data_port_item, is_register as is_register_item}
use Rattle.icl_declarations.specs.Parts.{is_mux as is_mux_item, is_barred_in_instrument as is_barred_item}
use Rattle.icl_declarations.specs.Ranges.{width}
use Rattle.icl_frames.specs.FirstPass.{Frame}
use Rattle.icl_frames.proofs.Answering.{both, ok_is, over_all}
use Rattle.icl_references.specs.Names.{Here, Member, members, cell_of_instance}
use Rattle.icl_references.specs.Signals.{data_signals, select_signals, alias_signals, control_signals}
use Rattle.icl_references.specs.Roles.{Role, ScanInput, ScanOutput, DataInput, DataOutput, ControlPort}
use Rattle.icl_references.specs.Roles.{AScanRegister, AScanMux, AnAliasOf, AnInstance, AnInterfaceOf}
use Rattle.icl_references.specs.Roles.{AnAccessLink}
use Rattle.icl_references.specs.Muxes.{some_meet, row_in, mux_role}
use Rattle.icl_elab.specs.Bindings.{Bound, bind, all_whole}
use Rattle.icl_elab.specs.FoundParts.{Found, found, words_named, first_scan, source_role, port_prop}
use Rattle.icl_elab.specs.FoundParts.{port_role, register_prop, register_found, nothing_said, alias_prop}
use Rattle.icl_elab.specs.FoundParts.{instance_found, port_number, selection, found_at, part_found}
use Rattle.icl_elab.specs.Hierarchy.{with_bound}
use Rattle.icl_elab.specs.WellFormed.{is_register, is_mux, is_data_in, is_data_out, is_data_port, is_thing}
use Rattle.icl_elab.specs.WellFormed.{is_barred_in_instrument}
use Rattle.std.proofs.Math.Bool.{or-false}

-- what the kind of an item says of a role
abbrev pub IsOfKind : SeenWhat → Role → Type 0
IsOfKind what role =
    (is_register role ≡ is_register_item what)
    × (is_mux role ≡ is_mux_item what)
    × (is_data_in role ≡ port_that is_data_in_kind what)
    × (is_data_out role ≡ port_that is_data_out_kind what)
    × (is_data_port role ≡ is_data_port_item what)
    × (is_barred_in_instrument role ≡ is_barred_item what)
    × (is_thing role ≡ true → is_signal what ≡ true)

-- the role of a port of this kind, with a source or without
abbrev IsPortOf : PortKind → Bool → Role → Type 0
IsPortOf kind has role =
    (is_register role ≡ false)
    × (is_mux role ≡ false)
    × (is_data_in role ≡ is_data_in_kind kind)
    × (is_data_out role ≡ is_data_out_kind kind)
    × (is_data_port role ≡ (is_data_in_kind kind || is_data_out_kind kind))
    × (is_barred_in_instrument role ≡ ((is_scan_in kind || is_scan_out kind) || (is_data_out_kind kind &&
    has)))

swapped : (a b c : Bool) → (b || (a || c)) ≡ ((a || b) || c)
swapped true true c = refl
swapped true false c = refl
swapped false true c = refl
swapped false false c = refl

barred_port : (a b : Bool) → (a || b) ≡ (a || false || false || false || b)
barred_port true b = refl
barred_port false b = refl

port_of_kind : (kind : PortKind) (has : Bool) (role : Role) → IsPortOf kind has role
    → (is_barred_in_instrument role ≡ ((is_scan_in kind || is_scan_out kind) || false || false || false ||
    (is_data_out_kind kind && has)))
port_of_kind kind has role h =
    h.5 ∙ barred_port (is_scan_in kind || is_scan_out kind) (is_data_out_kind kind && has)

module _ (frames : List Frame) (here : Here) where
  control_of : (kind : PortKind) (has : Bool) (role r : Role) (ss : List SeenSig) → IsPortOf kind has role
      → (control_signals frames here ss >>= λ u. Ok role) ≡ Ok r → IsPortOf kind has r
  control_of kind has role r ss g h =
      let a = both (control_signals frames here ss) _ r h in
      subst (IsPortOf kind has) (ok_is role r a.then') g

  source_of : (kind : PortKind) (has : Bool) (m : Member) (role r : Role) (ss : List SeenSig)
      → IsPortOf kind has role
      → source_role frames here kind m role ss ≡ Ok r → IsPortOf kind true r
  source_of ScanOutPort has m role r ss g h =
      let a = both (first_scan frames here m.item.at ss) _ r h in subst (IsPortOf ScanOutPort true)
      (ok_is (ScanOutput (Some a.first)) r a.then') (refl, refl, refl, refl, refl, refl)
  source_of DataOutPort has m role r ss g h =
      let a = both (data_signals frames here m.item.at (width m.bounds) ss) _ r h in
      subst (IsPortOf DataOutPort true) (ok_is (DataOutput (Some a.first)) r a.then')
      (refl, refl, refl, refl, refl, refl)
  source_of ScanInPort has m role r ss g h = control_of ScanInPort has role r ss g h
  source_of DataInPort has m role r ss g h = control_of DataInPort has role r ss g h
  source_of SelectPort has m role r ss g h = control_of SelectPort has role r ss g h
  source_of CaptureEnPort has m role r ss g h = control_of CaptureEnPort has role r ss g h
  source_of ShiftEnPort has m role r ss g h = control_of ShiftEnPort has role r ss g h
  source_of UpdateEnPort has m role r ss g h = control_of UpdateEnPort has role r ss g h
  source_of ResetPort has m role r ss g h = control_of ResetPort has role r ss g h
  source_of TCKPort has m role r ss g h = control_of TCKPort has role r ss g h
  source_of TMSPort has m role r ss g h = control_of TMSPort has role r ss g h
  source_of TRSTPort has m role r ss g h = control_of TRSTPort has role r ss g h
  source_of ClockPort has m role r ss g h = control_of ClockPort has role r ss g h
  source_of ToSelectPort has m role r ss g h = control_of ToSelectPort has role r ss g h
  source_of ToCaptureEnPort has m role r ss g h = control_of ToCaptureEnPort has role r ss g h
  source_of ToShiftEnPort has m role r ss g h = control_of ToShiftEnPort has role r ss g h
  source_of ToUpdateEnPort has m role r ss g h = control_of ToUpdateEnPort has role r ss g h
  source_of ToResetPort has m role r ss g h = control_of ToResetPort has role r ss g h
  source_of ToTCKPort has m role r ss g h = control_of ToTCKPort has role r ss g h
  source_of ToTMSPort has m role r ss g h = control_of ToTMSPort has role r ss g h
  source_of ToTRSTPort has m role r ss g h = control_of ToTRSTPort has role r ss g h
  source_of ToClockPort has m role r ss g h = control_of ToClockPort has role r ss g h
  source_of ToIRSelectPort has m role r ss g h = control_of ToIRSelectPort has role r ss g h

  prop_of : (kind : PortKind) (has : Bool) (m : Member) (f g : Found) (p : SeenProp)
      → IsPortOf kind has f.role
      → port_prop frames here kind m f p ≡ Ok g → IsPortOf kind (is_source p || has) g.role
  unfolding port_prop
  prop_of kind has m f g (ASource ss) i h =
      let a = both (source_role frames here kind m f.role ss) _ g h in
      subst (λ (x : Found). IsPortOf kind true x.role) (ok_is (record f { role = a.first }) g a.then')
      (source_of kind has m f.role a.first ss i a.is)
  prop_of kind has m f g (ARefEnum name) i h =
      let a = both (words_named here.frame m name) _ g h in
      subst (λ (x : Found). IsPortOf kind has x.role) (ok_is (record f { words = a.first }) g a.then') i
  prop_of kind has m f g (ALaunchEdge e) i h = subst (λ (x : Found). IsPortOf kind has x.role) (ok_is f g h) i
  prop_of kind has m f g (ALoadValue v) i h = subst (λ (x : Found). IsPortOf kind has x.role) (ok_is f g h) i
  prop_of kind has m f g (APolarity n) i h = subst (λ (x : Found). IsPortOf kind has x.role) (ok_is f g h) i
  prop_of kind has m f g (AScanInSource x) i h =
      subst (λ (x : Found). IsPortOf kind has x.role) (ok_is f g h) i
  prop_of kind has m f g (ACaptureSource x) i h =
      subst (λ (x : Found). IsPortOf kind has x.role) (ok_is f g h) i
  prop_of kind has m f g (AResetValue v) i h = subst (λ (x : Found). IsPortOf kind has x.role) (ok_is f g h) i
  prop_of kind has m f g ATogether i h = subst (λ (x : Found). IsPortOf kind has x.role) (ok_is f g h) i

  props_of : (kind : PortKind) (has : Bool) (m : Member) (f g : Found) (props : List SeenProp)
      → IsPortOf kind has f.role
      → over (port_prop frames here kind m) f props ≡ Ok g
      → IsPortOf kind (list_any is_source props || has) g.role
  props_of kind has m f g [] i h = subst (λ (x : Found). IsPortOf kind has x.role) (ok_is f g h) i
  props_of kind has m f g (p ∷ props) i h =
      let a = both (port_prop frames here kind m f p)
      (λ x. over (port_prop frames here kind m) x props) g h in
      subst (λ (b : Bool). IsPortOf kind b g.role) (swapped (is_source p) (list_any is_source props) has)
      (props_of kind (is_source p || has) m a.first g props
      (prop_of kind has m f a.first p i a.is) a.then')

  first_role : (kind : PortKind) → IsPortOf kind false (port_role frames here kind)
  first_role ScanInPort = (refl, refl, refl, refl, refl, refl)
  first_role ScanOutPort = (refl, refl, refl, refl, refl, refl)
  first_role DataInPort = (refl, refl, refl, refl, refl, refl)
  first_role DataOutPort = (refl, refl, refl, refl, refl, refl)
  first_role SelectPort = (refl, refl, refl, refl, refl, refl)
  first_role CaptureEnPort = (refl, refl, refl, refl, refl, refl)
  first_role ShiftEnPort = (refl, refl, refl, refl, refl, refl)
  first_role UpdateEnPort = (refl, refl, refl, refl, refl, refl)
  first_role ResetPort = (refl, refl, refl, refl, refl, refl)
  first_role TCKPort = (refl, refl, refl, refl, refl, refl)
  first_role TMSPort = (refl, refl, refl, refl, refl, refl)
  first_role TRSTPort = (refl, refl, refl, refl, refl, refl)
  first_role ClockPort = (refl, refl, refl, refl, refl, refl)
  first_role ToSelectPort = (refl, refl, refl, refl, refl, refl)
  first_role ToCaptureEnPort = (refl, refl, refl, refl, refl, refl)
  first_role ToShiftEnPort = (refl, refl, refl, refl, refl, refl)
  first_role ToUpdateEnPort = (refl, refl, refl, refl, refl, refl)
  first_role ToResetPort = (refl, refl, refl, refl, refl, refl)
  first_role ToTCKPort = (refl, refl, refl, refl, refl, refl)
  first_role ToTMSPort = (refl, refl, refl, refl, refl, refl)
  first_role ToTRSTPort = (refl, refl, refl, refl, refl, refl)
  first_role ToClockPort = (refl, refl, refl, refl, refl, refl)
  first_role ToIRSelectPort = (refl, refl, refl, refl, refl, refl)

  port_kind : (kind : PortKind) (m : Member) (f : Found) (props : List SeenProp)
      → over (port_prop frames here kind m) (found (port_role frames here kind)) props ≡ Ok f
      → IsPortOf kind (list_any is_source props) f.role
  port_kind kind m f props h =
      subst (λ (b : Bool). IsPortOf kind b f.role) (or-false (list_any is_source props))
      (props_of kind false m (found (port_role frames here kind)) f props (first_role kind) h)

  -- ---- other parts

  abbrev HasRole : Role → Found → Type 0
  HasRole role f = f.role ≡ role

  alias_role : (m : Member) (role : Role) (f g : Found) (p : SeenProp)
      → HasRole role f → alias_prop frames here m f p ≡ Ok g
      → HasRole role g
  unfolding alias_prop
  alias_role m role f g (ARefEnum name) i h =
      let a = both (words_named here.frame m name) _ g h in
      subst (HasRole role) (ok_is (record f { words = a.first }) g a.then') i
  alias_role m role f g (ASource x) i h = subst (HasRole role) (ok_is f g h) i
  alias_role m role f g (ALaunchEdge e) i h = subst (HasRole role) (ok_is f g h) i
  alias_role m role f g (ALoadValue v) i h = subst (HasRole role) (ok_is f g h) i
  alias_role m role f g (APolarity n) i h = subst (HasRole role) (ok_is f g h) i
  alias_role m role f g (AScanInSource x) i h = subst (HasRole role) (ok_is f g h) i
  alias_role m role f g (ACaptureSource x) i h = subst (HasRole role) (ok_is f g h) i
  alias_role m role f g (AResetValue v) i h = subst (HasRole role) (ok_is f g h) i
  alias_role m role f g ATogether i h = subst (HasRole role) (ok_is f g h) i

  kind_found : (m : Member) (what : SeenWhat) (f : Found)
      → found_at frames here m what ≡ Ok f → IsOfKind what f.role
  unfolding mux_role
  kind_found m (APort kind range props) f h =
      let p = port_kind kind m f props h in
      (p.0, p.1, p.2, p.3, p.4, port_of_kind kind (list_any is_source props) f.role p, λ t. refl)
  kind_found m (ARegister range props) f h =
      let a = both (over (register_prop frames here m) (nothing_said frames here) props) _ f h in
      subst (λ (x : Found). IsOfKind (ARegister range props) x.role) (ok_is
      (register_found frames here a.first) f a.then') (refl, refl, refl, refl, refl, refl, λ t. refl)
  kind_found m (AMux select rows) f h =
      let a = both (mux_role frames here m.item.at select rows) _ f h in
      let b = both (select_signals frames here m.item.at select) _ a.first a.is in
      let c = both (each (row_in frames here m.item.at (length b.first)) rows) _ a.first b.then' in
      let d = both (refuse_if (some_meet c.first) (RowsOverlap m.item.at)) _ a.first c.then' in
      let e : IsOfKind (AMux select rows) a.first =
      subst (IsOfKind (AMux select rows)) (ok_is (AScanMux b.first c.first) a.first d.then')
      (refl, refl, refl, refl, refl, refl, λ t. refl) in
      subst (λ (x : Found). IsOfKind (AMux select rows) x.role) (ok_is (found a.first) f a.then') e
  kind_found m (AChild module' binds) f h =
      let a = both (cell_of_instance frames here m.item.at m.item.name m.item.what)
      (instance_found frames here m.item.at binds) f h in
      let b = both (over (bind frames here a.first.frame) [] binds) _ f a.then' in
      let c = both
      (all_whole frames here a.first.frame m.item.at (members a.first.frame) b.first) _ f b.then' in
      subst (λ (x : Found). IsOfKind (AChild module' binds) x.role) (ok_is _ f c.then')
      (refl, refl, refl, refl, refl, refl, λ t. refl)
  kind_found m (AnAlias range sigs props) f h =
      let a = both (alias_signals frames here m.item.at (width m.bounds) sigs) _ f h in
      let r = over_all (alias_prop frames here m) (HasRole (AnAliasOf a.first)) (λ x y p g e. alias_role m
      (AnAliasOf a.first) x y p g e) (found (AnAliasOf a.first)) f props refl a.then' in
      subst (IsOfKind (AnAlias range sigs props)) (sym r) (refl, refl, refl, refl, refl, refl, λ t. refl)
  kind_found m (AnInterface ports) f h =
      let a = both (each (port_number frames here m.item.at) ports) _ f h in
      subst (λ (x : Found). IsOfKind (AnInterface ports) x.role) (ok_is
      (found (AnInterfaceOf a.first)) f a.then') (refl, refl, refl, refl, refl, refl, λ t. absurd cc)
  kind_found m (ALink kind entity instrs) f h =
      let a = both (each (selection frames here m.item.at) instrs) _ f h in
      subst (λ (x : Found). IsOfKind (ALink kind entity instrs) x.role) (ok_is
      (found (AnAccessLink a.first)) f a.then') (refl, refl, refl, refl, refl, refl, λ t. absurd cc)
  kind_found m (SomeWords words) f h =
      subst (λ (x : Found). IsOfKind (SomeWords words) x.role) (ok_is (found ControlPort) f h)
      (refl, refl, refl, refl, refl, refl, λ t. absurd cc)
  kind_found m (AParameter local value) f h =
      subst (λ (x : Found). IsOfKind (AParameter local value) x.role) (ok_is (found ControlPort) f h)
      (refl, refl, refl, refl, refl, refl, λ t. absurd cc)
  kind_found m (AnAttribute value) f h =
      subst (λ (x : Found). IsOfKind (AnAttribute value) x.role) (ok_is (found ControlPort) f h)
      (refl, refl, refl, refl, refl, refl, λ t. absurd cc)

  pub part_kind : (m : Member) (f : Found) → part_found frames here m ≡ Ok f → IsOfKind m.item.what f.role
  unfolding part_found
  part_kind m f h = kind_found m m.item.what f h

-- what a port is bound to doesn't change its kind
pub bound_kind : (bs : List Bound) (m : Member) (what : SeenWhat) (role : Role) → IsOfKind what role
    → IsOfKind what (with_bound bs m role)
bound_kind bs m what (ScanInput bound) h = h
bound_kind bs m what (ScanOutput source) h = h
bound_kind bs m what (DataInput bound) h = h
bound_kind bs m what (DataOutput source) h = h
bound_kind bs m what ControlPort h = h
bound_kind bs m what (AScanRegister scan capture reset) h = h
bound_kind bs m what (AScanMux select rows) h = h
bound_kind bs m what (AnAliasOf refs) h = h
bound_kind bs m what (AnInstance cell) h = h
bound_kind bs m what (AnInterfaceOf ports) h = h
bound_kind bs m what (AnAccessLink selections) h = h
