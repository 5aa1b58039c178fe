-- What instances, interfaces and access links number is what they should.
use Rattle.std.proofs.Common.{◌≡◌, ◌+◌, ℕ, Bool, true, false, not, ◌&&◌, cond, List, [], ◌∷◌, length, map}
use Rattle.std.proofs.Common.{Option, Some, None, Ok, refl, sym, ap, subst, ◌∙◌, arith}
use Rattle.std.specs.Prelude.{IsSomeAnd, find, zip, slice_get}
use Rattle.std.specs.List.{AllByRecursion, enumerate_from}
use Rattle.std.specs.Str.{bytes_eq}
use Rattle.std.proofs.lemmas.Bool.{eqb-true, and_parts, true≢false}
use Rattle.std.proofs.lemmas.Slice.Eq.{bytes_eq-Decides}
use Rattle.ij_text.specs.declared.Place.{Place}
use Rattle.icl_lexer.specs.declared.tree.PortKind.{PortKind}
use Rattle.icl_lexer.specs.declared.tree.PortKind.TheVariants.{ScanInPort, ScanOutPort, DataInPort}
use Rattle.icl_lexer.specs.declared.tree.PortKind.TheVariants.{DataOutPort, SelectPort, CaptureEnPort}
use Rattle.icl_lexer.specs.declared.tree.PortKind.TheVariants.{ShiftEnPort, UpdateEnPort, ResetPort, TCKPort}
use Rattle.icl_lexer.specs.declared.tree.PortKind.TheVariants.{TMSPort, TRSTPort, ClockPort, ToSelectPort}
use Rattle.icl_lexer.specs.declared.tree.PortKind.TheVariants.{ToCaptureEnPort, ToShiftEnPort, ToUpdateEnPort}
use Rattle.icl_lexer.specs.declared.tree.PortKind.TheVariants.{ToResetPort, ToTCKPort, ToTMSPort, ToTRSTPort}
use Rattle.icl_lexer.specs.declared.tree.PortKind.TheVariants.{ToClockPort, ToIRSelectPort}
use Rattle.icl_lexer.specs.Values.{SeenSig, SeenRow, SeenProp, ASource, ALaunchEdge, ALoadValue, ARefEnum}
use Rattle.icl_lexer.specs.Values.{APolarity, AScanInSource, ACaptureSource, AResetValue, ATogether}
use Rattle.icl_lexer.specs.Values.{SeenLinkInstr, SeenWhat, APort, ARegister, AMux, AChild, AnAlias}
use Rattle.icl_lexer.specs.Values.{SomeWords, AParameter, AnInterface, ALink, AnAttribute}
use Rattle.icl_declarations.specs.Faults.{◌>>=◌, refuse_if, each, over, WrongKind, RowsOverlap}
use Rattle.icl_declarations.specs.Parts.{is_port, is_interface}
use Rattle.icl_declarations.specs.Ranges.{width}
use Rattle.icl_frames.specs.FirstPass.{Frame, first_pass}
use Rattle.icl_references.specs.Names.{Here, here_of, Member, members, member_that, known_member, named}
use Rattle.icl_references.specs.Names.{is_in, is_child_cell, child_cell, known_cell, cell_of_instance}
use Rattle.icl_references.specs.Signals.{data_signals, select_signals, alias_signals, control_signals}
use Rattle.icl_references.specs.Roles.{Selection, Role, ScanInput, ScanOutput, DataInput, DataOutput}
use Rattle.icl_references.specs.Roles.{ControlPort, AScanRegister, AScanMux, AnAliasOf, AnInstance}
use Rattle.icl_references.specs.Roles.{AnInterfaceOf, AnAccessLink, PartOf, CellOf, part_of, part_at}
use Rattle.icl_references.specs.Muxes.{some_meet, row_in, mux_role}
use Rattle.icl_elab.specs.Bindings.{Bound, bind, all_whole}
use Rattle.icl_elab.specs.FoundParts.{Found, found, words_named, first_scan, source_role, port_prop}
use Rattle.icl_elab.specs.FoundParts.{port_role, register_prop, register_found, nothing_said, alias_prop}
use Rattle.icl_elab.specs.FoundParts.{instance_found, port_number, selection, found_at, part_found}
use Rattle.icl_elab.specs.SecondPass.{cell_found, cells_of, second_pass}
use Rattle.icl_elab.specs.Hierarchy.{bindings_of, with_bound, part_in, cell_in, put_together, hierarchy}
use Rattle.icl_elab.specs.Laws.{is_port_role, is_interface_role, HasNumbers, IsChildOf, IsInstanceOf}
use Rattle.icl_elab.specs.Laws.{IsPortOf, IsSelectedBy, IsNumbered, AreNumbered, HierarchiesAreNumbered}
use Rattle.icl_frames.proofs.Answering.{both, ok_is, each_all, over_all}
use Rattle.icl_references.proofs.Targets.{IsHere, known_is, child_there, named_there, member_there}
use Rattle.icl_frames.proofs.Paired.{Paired}
use Rattle.icl_elab.proofs.Wiring.{each_paired, pair_at, get_map, here_at, all_here, all_true}
use Rattle.std.proofs.lemmas.Option.{same_Some}

-- ---- what is found passes the test

find_passes : {A : Type 0} (p : A → Bool) (xs : List A) (y : A) → find p xs ≡ Some y → p y ≡ true
find_passes p [] y h = absurd cc
find_passes {A} p (x ∷ xs) y h = by_test (p x) refl h (λ g. find_passes p xs y g)
  where
    by_test : (b : Bool) → p x ≡ b → cond b (Some x) (find p xs) ≡ Some y
        → (find p xs ≡ Some y → p y ≡ true) → p y ≡ true
    by_test true e g again = subst (λ (z : A). p z ≡ true) (same_Some x y g) e
    by_test false e g again = again g

is_in_same : (o : Option ℕ) (cell : ℕ) → is_in o cell ≡ true → o ≡ Some cell
is_in_same None cell h = absurd cc
is_in_same (Some parent) cell h = ap (λ n. Some n) (eqb-true parent cell h)

-- the cell of an instance, in the first pass
pub record IsInstanceFrame (frames : List Frame) (cell : ℕ) (name : List ℕ) (child : ℕ) : Type 0 where
  pub frame : Frame
  pub is : slice_get frames child ≡ Some frame
  pub parent : frame.parent ≡ Some cell
  pub named : frame.name ≡ name

abbrev pub IsHereInstance : List Frame → ℕ → List ℕ → Here → Type 0
IsHereInstance frames cell name h = (slice_get frames h.number ≡ Some h.frame)
    × (h.frame.parent ≡ Some cell) × (h.frame.name ≡ name)

child_is : (frames : List Frame) (cell : ℕ) (name : List ℕ) (c : ℕ × Frame)
    → child_cell frames cell name ≡ Some c → IsHereInstance frames cell name (here_of c)
child_is frames cell name c h =
    let t : is_child_cell cell name c ≡ true =
    find_passes (is_child_cell cell name) (enumerate_from 0 frames) c h in
    let p = and_parts (is_in c.1.parent cell) (bytes_eq name c.1.name) t in (
      child_there frames cell name c h,
      is_in_same c.1.parent cell p.0,
      sym ((bytes_eq-Decides name c.1.name).0 p.1),
    )

known_child : (frames : List Frame) (at : Place) (cell : ℕ) (name : List ℕ) (h : Here)
    → known_cell at (child_cell frames cell name) ≡ Ok h → IsHereInstance frames cell name h
known_child frames at cell name h e = by_child (child_cell frames cell name) refl e
  where
    by_child : (o : Option (ℕ × Frame)) → child_cell frames cell name ≡ o
        → known_cell at o ≡ Ok h → IsHereInstance frames cell name h
    by_child None f g = absurd cc
    by_child (Some c) f g =
        subst (IsHereInstance frames cell name) (ok_is (here_of c) h g) (child_is frames cell name c f)

inside_child : (frames : List Frame) (here : Here) (at : Place) (name : List ℕ) (what : SeenWhat) (h : Here)
    → cell_of_instance frames here at name what ≡ Ok h → IsHereInstance frames here.number name h
inside_child frames here at name (AChild module' binds) h e = known_child frames at here.number name h e
inside_child frames here at name (APort kind range props) h e = absurd cc
inside_child frames here at name (ARegister range props) h e = absurd cc
inside_child frames here at name (AMux select rows) h e = absurd cc
inside_child frames here at name (AnAlias range sigs props) h e = absurd cc
inside_child frames here at name (SomeWords words) h e = absurd cc
inside_child frames here at name (AParameter local value) h e = absurd cc
inside_child frames here at name (AnInterface ports) h e = absurd cc
inside_child frames here at name (ALink kind entity instrs) h e = absurd cc
inside_child frames here at name (AnAttribute value) h e = absurd cc

instance_frame : (frames : List Frame) (cell : ℕ) (name : List ℕ) (h : Here)
    → IsHereInstance frames cell name h → IsInstanceFrame frames cell name h.number
instance_frame frames cell name h i = record { frame = h.frame; is = i.0; parent = i.1; named = i.2 }

-- a part that passes a test
pub record IsMemberThat (test : SeenWhat → Bool) (frame : Frame) (part : ℕ) : Type 0 where
  pub member : Member
  pub is : slice_get (members frame) part ≡ Some member
  pub passes : test member.item.what ≡ true

-- an interface of a child
pub record IsSelectedFrame (frames : List Frame) (cell : ℕ) (s : Selection) : Type 0 where
  pub name : List ℕ
  pub child : IsInstanceFrame frames cell name s.cell
  pub interface : IsMemberThat is_interface child.frame s.interface

refuses_not : (t : Bool) (at : Place) (u : Unit {0}) → refuse_if (not t) (WrongKind at) ≡ Ok u → t ≡ true
refuses_not true at u h = refl
refuses_not false at u h = absurd cc

module _ (frames : List Frame) (here : Here) where
  port_is : (at : Place) (name : List ℕ) (k : ℕ)
      → port_number frames here at name ≡ Ok k → IsMemberThat is_port here.frame k
  port_is at name k h =
      let a = both (named here.frame at name) _ k h in
      let b = both (refuse_if (not (is_port a.first.item.what)) (WrongKind at)) _ k a.then' in
      subst (IsMemberThat is_port here.frame) (ok_is a.first.part k b.then')
      (record {
        member = a.first;
        is = named_there here.frame at name a.first a.is;
        passes = refuses_not (is_port a.first.item.what) at b.first b.is;
      })

  interface_is : (at : Place) (frame : Frame) (name : List ℕ) (m : Member)
      → known_member at name (member_that is_interface frame name) ≡ Ok m
      → IsMemberThat is_interface frame m.part
  interface_is at frame name m h =
      let e = known_is at name (member_that is_interface frame name) m h in
      let t = find_passes (λ (n : Member). is_interface n.item.what && bytes_eq name n.item.name)
      (members frame) m e in
      record {
        member = m;
        is = member_there is_interface frame name m e;
        passes =
            (and_parts (is_interface m.item.what) (bytes_eq name m.item.name) t).0;
      }

  selected_is : (at : Place) (i : SeenLinkInstr) (s : Selection)
      → selection frames here at i ≡ Ok s → IsSelectedFrame frames here.number s
  unfolding instance_frame
  selected_is at i s h =
      let a = both (named here.frame at i.cell) _ s h in
      let b = both (cell_of_instance frames here at a.first.item.name a.first.item.what) _ s a.then' in
      let c = both
      (known_member at i.interface (member_that is_interface b.first.frame i.interface)) _ s b.then' in
      subst (IsSelectedFrame frames here.number)
      (ok_is (record { name = i.name; cell = b.first.number; interface = c.first.part }) s c.then')
      (record {
        name = a.first.item.name;
        child = instance_frame frames here.number a.first.item.name b.first
            (inside_child frames here at a.first.item.name a.first.item.what b.first b.is);
        interface = interface_is at b.first.frame i.interface c.first c.is;
      })

  -- ---- what the second pass finds

  abbrev pub FrameNumbers : Member → Role → Type 0
  FrameNumbers m role = HasNumbers (IsInstanceFrame frames here.number m.item.name)
      (IsMemberThat is_port here.frame) (IsSelectedFrame frames here.number) role

  -- its numbers, and its kind
  pub record IsFoundNumbered (m : Member) (what : SeenWhat) (f : Found) : Type 0 where
    pub numbers : FrameNumbers m f.role
    pub port : is_port what ≡ true → is_port_role f.role ≡ true
    pub interface : is_interface what ≡ true → is_interface_role f.role ≡ true

  -- a role that is neither an instance nor an interface nor a link
  abbrev IsPlain : Role → Type 0
  IsPlain (AnInstance cell) = ⊥
  IsPlain (AnInterfaceOf ports) = ⊥
  IsPlain (AnAccessLink selections) = ⊥
  IsPlain role = Unit {0}

  plain_numbers : (m : Member) (role : Role) → IsPlain role → FrameNumbers m role
  plain_numbers m (ScanInput bound) p = tt
  plain_numbers m (ScanOutput source) p = tt
  plain_numbers m (DataInput bound) p = tt
  plain_numbers m (DataOutput source) p = tt
  plain_numbers m ControlPort p = tt
  plain_numbers m (AScanRegister scan capture reset) p = tt
  plain_numbers m (AScanMux select rows) p = tt
  plain_numbers m (AnAliasOf refs) p = tt
  plain_numbers m (AnInstance cell) p = absurd p
  plain_numbers m (AnInterfaceOf ports) p = absurd p
  plain_numbers m (AnAccessLink selections) p = absurd p

  port_plain : (role : Role) → is_port_role role ≡ true → IsPlain role
  port_plain (ScanInput bound) p = tt
  port_plain (ScanOutput source) p = tt
  port_plain (DataInput bound) p = tt
  port_plain (DataOutput source) p = tt
  port_plain ControlPort p = tt
  port_plain (AScanRegister scan capture reset) p = tt
  port_plain (AScanMux select rows) p = tt
  port_plain (AnAliasOf refs) p = tt
  port_plain (AnInstance cell) p = absurd cc
  port_plain (AnInterfaceOf ports) p = absurd cc
  port_plain (AnAccessLink selections) p = absurd cc

  -- ---- ports

  abbrev IsPortFound : Found → Type 0
  IsPortFound f = is_port_role f.role ≡ true

  abbrev IsPortRole : Role → Type 0
  IsPortRole role = is_port_role role ≡ true

  control_kept : (role r : Role) (ss : List SeenSig) → IsPortRole role
      → (control_signals frames here ss >>= λ u. Ok role) ≡ Ok r → IsPortRole r
  control_kept role r ss g h =
      let a = both (control_signals frames here ss) _ r h in subst IsPortRole (ok_is role r a.then') g

  source_kept : (kind : PortKind) (m : Member) (role r : Role) (ss : List SeenSig) → IsPortRole role
      → source_role frames here kind m role ss ≡ Ok r → IsPortRole r
  source_kept ScanOutPort m role r ss g h =
      let a = both (first_scan frames here m.item.at ss) _ r h in
      subst IsPortRole (ok_is (ScanOutput (Some a.first)) r a.then') refl
  source_kept DataOutPort m role r ss g h =
      let a = both (data_signals frames here m.item.at (width m.bounds) ss) _ r h in
      subst IsPortRole (ok_is (DataOutput (Some a.first)) r a.then') refl
  source_kept ScanInPort m role r ss g h = control_kept role r ss g h
  source_kept DataInPort m role r ss g h = control_kept role r ss g h
  source_kept SelectPort m role r ss g h = control_kept role r ss g h
  source_kept CaptureEnPort m role r ss g h = control_kept role r ss g h
  source_kept ShiftEnPort m role r ss g h = control_kept role r ss g h
  source_kept UpdateEnPort m role r ss g h = control_kept role r ss g h
  source_kept ResetPort m role r ss g h = control_kept role r ss g h
  source_kept TCKPort m role r ss g h = control_kept role r ss g h
  source_kept TMSPort m role r ss g h = control_kept role r ss g h
  source_kept TRSTPort m role r ss g h = control_kept role r ss g h
  source_kept ClockPort m role r ss g h = control_kept role r ss g h
  source_kept ToSelectPort m role r ss g h = control_kept role r ss g h
  source_kept ToCaptureEnPort m role r ss g h = control_kept role r ss g h
  source_kept ToShiftEnPort m role r ss g h = control_kept role r ss g h
  source_kept ToUpdateEnPort m role r ss g h = control_kept role r ss g h
  source_kept ToResetPort m role r ss g h = control_kept role r ss g h
  source_kept ToTCKPort m role r ss g h = control_kept role r ss g h
  source_kept ToTMSPort m role r ss g h = control_kept role r ss g h
  source_kept ToTRSTPort m role r ss g h = control_kept role r ss g h
  source_kept ToClockPort m role r ss g h = control_kept role r ss g h
  source_kept ToIRSelectPort m role r ss g h = control_kept role r ss g h

  prop_kept : (kind : PortKind) (m : Member) (f g : Found) (p : SeenProp) → IsPortFound f
      → port_prop frames here kind m f p ≡ Ok g → IsPortFound g
  unfolding port_prop
  prop_kept kind m f g (ASource ss) i h =
      let a = both (source_role frames here kind m f.role ss) _ g h in
      subst IsPortFound (ok_is (record f { role = a.first }) g a.then')
      (source_kept kind m f.role a.first ss i a.is)
  prop_kept kind m f g (ARefEnum name) i h =
      let a = both (words_named here.frame m name) _ g h in
      subst IsPortFound (ok_is (record f { words = a.first }) g a.then') i
  prop_kept kind m f g (ALaunchEdge e) i h = subst IsPortFound (ok_is f g h) i
  prop_kept kind m f g (ALoadValue v) i h = subst IsPortFound (ok_is f g h) i
  prop_kept kind m f g (APolarity n) i h = subst IsPortFound (ok_is f g h) i
  prop_kept kind m f g (AScanInSource x) i h = subst IsPortFound (ok_is f g h) i
  prop_kept kind m f g (ACaptureSource x) i h = subst IsPortFound (ok_is f g h) i
  prop_kept kind m f g (AResetValue v) i h = subst IsPortFound (ok_is f g h) i
  prop_kept kind m f g ATogether i h = subst IsPortFound (ok_is f g h) i

  kind_is : (kind : PortKind) → IsPortFound (found (port_role frames here kind))
  kind_is ScanInPort = refl
  kind_is ScanOutPort = refl
  kind_is DataInPort = refl
  kind_is DataOutPort = refl
  kind_is SelectPort = refl
  kind_is CaptureEnPort = refl
  kind_is ShiftEnPort = refl
  kind_is UpdateEnPort = refl
  kind_is ResetPort = refl
  kind_is TCKPort = refl
  kind_is TMSPort = refl
  kind_is TRSTPort = refl
  kind_is ClockPort = refl
  kind_is ToSelectPort = refl
  kind_is ToCaptureEnPort = refl
  kind_is ToShiftEnPort = refl
  kind_is ToUpdateEnPort = refl
  kind_is ToResetPort = refl
  kind_is ToTCKPort = refl
  kind_is ToTMSPort = refl
  kind_is ToTRSTPort = refl
  kind_is ToClockPort = refl
  kind_is ToIRSelectPort = refl

  -- ---- aliases

  abbrev IsPlainFound : Found → Type 0
  IsPlainFound f = IsPlain f.role

  alias_kept : (m : Member) (f g : Found) (p : SeenProp) → IsPlainFound f
      → alias_prop frames here m f p ≡ Ok g → IsPlainFound g
  unfolding alias_prop
  alias_kept m f g (ARefEnum name) i h =
      let a = both (words_named here.frame m name) _ g h in
      subst IsPlainFound (ok_is (record f { words = a.first }) g a.then') i
  alias_kept m f g (ASource x) i h = subst IsPlainFound (ok_is f g h) i
  alias_kept m f g (ALaunchEdge e) i h = subst IsPlainFound (ok_is f g h) i
  alias_kept m f g (ALoadValue v) i h = subst IsPlainFound (ok_is f g h) i
  alias_kept m f g (APolarity n) i h = subst IsPlainFound (ok_is f g h) i
  alias_kept m f g (AScanInSource x) i h = subst IsPlainFound (ok_is f g h) i
  alias_kept m f g (ACaptureSource x) i h = subst IsPlainFound (ok_is f g h) i
  alias_kept m f g (AResetValue v) i h = subst IsPlainFound (ok_is f g h) i
  alias_kept m f g ATogether i h = subst IsPlainFound (ok_is f g h) i

  -- ---- parts

  plain_found : (m : Member) (what : SeenWhat) (f : Found) → is_port what ≡ false → is_interface what ≡ false
      → IsPlainFound f → IsFoundNumbered m what f
  plain_found m what f a b p = record {
    numbers = plain_numbers m f.role p;
    port = λ e. absurd (true≢false (sym e ∙ a));
    interface = λ e. absurd (true≢false (sym e ∙ b));
  }

  mux_plain : (at : Place) (select : List SeenSig) (rows : List SeenRow) (role : Role)
      → mux_role frames here at select rows ≡ Ok role → IsPlain role
  unfolding mux_role
  mux_plain at select rows role h =
      let a = both (select_signals frames here at select) _ role h in
      let b = both (each (row_in frames here at (length a.first)) rows) _ role a.then' in
      let c = both (refuse_if (some_meet b.first) (RowsOverlap at)) _ role b.then' in
      subst IsPlain (ok_is (AScanMux a.first b.first) role c.then') tt

  found_is : (m : Member) (what : SeenWhat) (f : Found)
      → found_at frames here m what ≡ Ok f → IsFoundNumbered m what f
  found_is m (APort kind range props) f h =
      let p = over_all (port_prop frames here kind m) IsPortFound (λ x y q g e. prop_kept kind m x y q g e)
      (found (port_role frames here kind)) f props (kind_is kind) h in
      record {
        numbers = plain_numbers m f.role (port_plain f.role p);
        port = λ e. p;
        interface = λ e. absurd cc;
      }
  found_is m (ARegister range props) f h =
      let a = both (over (register_prop frames here m) (nothing_said frames here) props) _ f h in
      plain_found m (ARegister range props) f refl refl
      (subst IsPlainFound (ok_is (register_found frames here a.first) f a.then') tt)
  found_is m (AMux select rows) f h =
      let a = both (mux_role frames here m.item.at select rows) _ f h in
      plain_found m (AMux select rows) f refl refl (subst IsPlainFound (ok_is (found a.first) f a.then')
      (mux_plain m.item.at select rows a.first a.is))
  found_is m (AChild module' binds) f h =
      let a = both (cell_of_instance frames here m.item.at m.item.name m.item.what)
      (instance_found frames here m.item.at binds) f h in
      let b = both (over (bind frames here a.first.frame) [] binds) _ f a.then' in
      let c = both
      (all_whole frames here a.first.frame m.item.at (members a.first.frame) b.first) _ f b.then' in
      subst (IsFoundNumbered m (AChild module' binds)) (ok_is
      (record { role = AnInstance a.first.number; words = []; bound = c.first }) f c.then') (record {
        numbers = instance_frame frames here.number m.item.name a.first
            (inside_child frames here m.item.at m.item.name m.item.what a.first a.is);
        port = λ e. absurd cc;
        interface = λ e. absurd cc;
      })
  found_is m (AnAlias range sigs props) f h =
      let a = both (alias_signals frames here m.item.at (width m.bounds) sigs) _ f h in
      plain_found m (AnAlias range sigs props) f refl refl (over_all (alias_prop frames here m) IsPlainFound
      (λ x y p g e. alias_kept m x y p g e) (found (AnAliasOf a.first)) f props tt a.then')
  found_is m (AnInterface ports) f h =
      let a = both (each (port_number frames here m.item.at) ports) _ f h in
      subst (IsFoundNumbered m (AnInterface ports))
      (ok_is (found (AnInterfaceOf a.first)) f a.then') (record {
        numbers = each_all (port_number frames here m.item.at) (IsMemberThat is_port here.frame)
            (λ name k e. port_is m.item.at name k e) ports a.first a.is;
        port = λ e. absurd cc;
        interface = λ e. refl;
      })
  found_is m (ALink kind entity instrs) f h =
      let a = both (each (selection frames here m.item.at) instrs) _ f h in
      subst (IsFoundNumbered m (ALink kind entity instrs))
      (ok_is (found (AnAccessLink a.first)) f a.then') (record {
        numbers = each_all (selection frames here m.item.at) (IsSelectedFrame frames here.number)
            (λ i s e. selected_is m.item.at i s e) instrs a.first a.is;
        port = λ e. absurd cc;
        interface = λ e. absurd cc;
      })
  found_is m (SomeWords words) f h =
      plain_found m (SomeWords words) f refl refl (subst IsPlainFound (ok_is (found ControlPort) f h) tt)
  found_is m (AParameter local value) f h = plain_found m (AParameter local value) f refl refl
      (subst IsPlainFound (ok_is (found ControlPort) f h) tt)
  found_is m (AnAttribute value) f h =
      plain_found m (AnAttribute value) f refl refl (subst IsPlainFound (ok_is (found ControlPort) f h) tt)

  abbrev pub IsMemberNumbered : Member → Found → Type 0
  IsMemberNumbered m f = IsFoundNumbered m m.item.what f

  part_is : (m : Member) (f : Found) → part_found frames here m ≡ Ok f → IsMemberNumbered m f
  unfolding part_found
  part_is m f h = found_is m m.item.what f h

-- ---- what ports are bound to changes no number and no kind

module _ (bs : List Bound) (m : Member) where
  bound_port : (role : Role) → is_port_role role ≡ true → is_port_role (with_bound bs m role) ≡ true
  bound_port (ScanInput bound) p = refl
  bound_port (ScanOutput source) p = refl
  bound_port (DataInput bound) p = refl
  bound_port (DataOutput source) p = refl
  bound_port ControlPort p = refl
  bound_port (AScanRegister scan capture reset) p = absurd cc
  bound_port (AScanMux select rows) p = absurd cc
  bound_port (AnAliasOf refs) p = absurd cc
  bound_port (AnInstance cell) p = absurd cc
  bound_port (AnInterfaceOf ports) p = absurd cc
  bound_port (AnAccessLink selections) p = absurd cc

  bound_interface : (role : Role) → is_interface_role role ≡ true
      → is_interface_role (with_bound bs m role) ≡ true
  bound_interface (ScanInput bound) p = absurd cc
  bound_interface (ScanOutput source) p = absurd cc
  bound_interface (DataInput bound) p = absurd cc
  bound_interface (DataOutput source) p = absurd cc
  bound_interface ControlPort p = absurd cc
  bound_interface (AScanRegister scan capture reset) p = absurd cc
  bound_interface (AScanMux select rows) p = absurd cc
  bound_interface (AnAliasOf refs) p = absurd cc
  bound_interface (AnInstance cell) p = absurd cc
  bound_interface (AnInterfaceOf ports) p = refl
  bound_interface (AnAccessLink selections) p = absurd cc

-- ---- the hierarchy

module _ (frames : List Frame) where
  abbrev pub IsCellNumbered : Here → List Found → Type 0
  IsCellNumbered here fs = Paired (IsMemberNumbered frames here) (members here.frame) fs

  cell_is : (here : Here) (fs : List Found) → cell_found frames here ≡ Ok fs → IsCellNumbered here fs
  unfolding cell_found
  cell_is here fs h = each_paired (part_found frames here) (λ m. Unit {0}) (IsMemberNumbered frames here)
      (λ m f q g. part_is frames here m f g) (members here.frame) fs (all_true frames (members here.frame)) h

  pass_is : (founds : List (List Found)) → second_pass frames ≡ Ok founds
      → Paired IsCellNumbered (cells_of frames) founds
  unfolding second_pass
  pass_is founds h = each_paired (cell_found frames) (λ here. Unit {0}) IsCellNumbered
      (λ here fs q g. cell_is here fs g) (cells_of frames) founds (all_true frames (cells_of frames)) h

  module _ (founds : List (List Found)) (all_found : Paired IsCellNumbered (cells_of frames) founds) where
    abbrev cells : List CellOf
    cells = put_together frames founds

    instance_kept : (cell : ℕ) (name : List ℕ) (child : ℕ)
        → IsInstanceFrame frames cell name child → IsInstanceOf cells cell name child
    instance_kept cell name child i =
        let here : Here = record { number = child; frame = i.frame } in
        let c = pair_at IsCellNumbered (cells_of frames) founds child here all_found
        (here_at frames child i.frame i.is) in
        let at_cell : slice_get cells child ≡ Some (cell_in founds (here, c.other)) =
        get_map (cell_in founds) (zip (cells_of frames) founds) child (here, c.other) c.both_are in
        subst (λ (o : Option CellOf). IsSomeAnd o (λ c. (c.parent ≡ Some cell) × (c.name ≡ name)))
        (sym at_cell) (i.parent, i.named)

    child_kept : (cell : ℕ) (name : List ℕ) (child : ℕ)
        → IsInstanceFrame frames cell name child → IsChildOf cells cell child
    child_kept cell name child i = by_cell (slice_get cells child) (instance_kept cell name child i)
      where
        by_cell : (o : Option CellOf) → IsSomeAnd o (λ c. (c.parent ≡ Some cell) × (c.name ≡ name))
            → IsSomeAnd o (λ c. c.parent ≡ Some cell)
        by_cell None g = absurd g
        by_cell (Some c) g = g.0

    -- a part of a cell, in the hierarchy
    record IsPartThere (cell part : ℕ) (frame : Frame) (m : Member) : Type 0 where
      bs : List Bound
      other : Found
      numbered : IsMemberNumbered frames (record { number = cell; frame = frame }) m other
      is : part_at cells cell part ≡ Some (part_in bs (m, other))

    part_there : (cell part : ℕ) (frame : Frame) (m : Member) → slice_get frames cell ≡ Some frame
        → slice_get (members frame) part ≡ Some m → IsPartThere cell part frame m
    part_there cell part frame m i j =
        let here : Here = record { number = cell; frame = frame } in
        let c = pair_at IsCellNumbered (cells_of frames) founds cell here all_found
        (here_at frames cell frame i) in
        let p = pair_at (IsMemberNumbered frames here) (members frame) c.other part m c.goes j in
        let bs : List Bound = bindings_of founds cell frame.parent in
        let at_cell : slice_get cells cell ≡ Some (cell_in founds (here, c.other)) =
        get_map (cell_in founds) (zip (cells_of frames) founds) cell (here, c.other) c.both_are in
        let at_part : slice_get (map (part_in bs) (zip (members frame) c.other)) part
        ≡ Some (part_in bs (m, p.other)) =
        get_map (part_in bs) (zip (members frame) c.other) part (m, p.other) p.both_are in
        record {
          bs = bs;
          other = p.other;
          numbered = p.goes;
          is = ap (λ (o : Option CellOf). part_of o part) at_cell ∙ at_part;
        }

    port_kept : (cell : ℕ) (frame : Frame) (part : ℕ) → slice_get frames cell ≡ Some frame
        → IsMemberThat is_port frame part → IsPortOf cells cell part
    port_kept cell frame part i p =
        let t = part_there cell part frame p.member i p.is in
        let n = t.numbered in
        subst (λ (o : Option PartOf). IsSomeAnd o (λ p. is_port_role p.role ≡ true)) (sym t.is)
        (bound_port t.bs p.member t.other.role (n.port p.passes))

    selected_kept : (cell : ℕ) (s : Selection) → IsSelectedFrame frames cell s → IsSelectedBy cells cell s
    selected_kept cell s i =
        let child = i.child in
        let p = i.interface in
        let t = part_there s.cell s.interface child.frame p.member child.is p.is in
        let n = t.numbered in (
          child_kept cell i.name s.cell child,
          subst (λ (o : Option PartOf). IsSomeAnd o (λ p. is_interface_role p.role ≡ true)) (sym t.is)
              (bound_interface t.bs p.member t.other.role (n.interface p.passes)),
        )

    ports_kept : (cell : ℕ) (frame : Frame) (ports : List ℕ) → slice_get frames cell ≡ Some frame
        → AllByRecursion (IsMemberThat is_port frame) ports → AllByRecursion (IsPortOf cells cell) ports
    ports_kept cell frame [] i h = tt
    ports_kept cell frame (k ∷ ports) i h = (port_kept cell frame k i h.0, ports_kept cell frame ports i h.1)

    all_selected : (cell : ℕ) (selections : List Selection)
        → AllByRecursion (IsSelectedFrame frames cell) selections
        → AllByRecursion (IsSelectedBy cells cell) selections
    all_selected cell [] h = tt
    all_selected cell (s ∷ selections) h = (selected_kept cell s h.0, all_selected cell selections h.1)

    abbrev Numbers : Here → Member → Role → Type 0
    Numbers here m role = HasNumbers (IsInstanceOf cells here.number m.item.name)
        (IsPortOf cells here.number) (IsSelectedBy cells here.number) role

    role_kept : (here : Here) (is_here : IsHere frames here) (bs : List Bound) (m : Member) (role : Role)
        → FrameNumbers frames here m role → Numbers here m (with_bound bs m role)
    role_kept here i bs m (ScanInput bound) h = tt
    role_kept here i bs m (ScanOutput source) h = tt
    role_kept here i bs m (DataInput bound) h = tt
    role_kept here i bs m (DataOutput source) h = tt
    role_kept here i bs m ControlPort h = tt
    role_kept here i bs m (AScanRegister scan capture reset) h = tt
    role_kept here i bs m (AScanMux select rows) h = tt
    role_kept here i bs m (AnAliasOf refs) h = tt
    role_kept here i bs m (AnInstance cell) h = instance_kept here.number m.item.name cell h
    role_kept here i bs m (AnInterfaceOf ports) h = ports_kept here.number here.frame ports i h
    role_kept here i bs m (AnAccessLink selections) h = all_selected here.number selections h

    parts_kept : (here : Here) (is_here : IsHere frames here) (bs : List Bound) (ms : List Member)
        (fs : List Found) → Paired (IsMemberNumbered frames here) ms fs
        → AllByRecursion (IsNumbered cells here.number) (map (part_in bs) (zip ms fs))
    parts_kept here i bs [] [] p = tt
    parts_kept here i bs [] (f ∷ fs) p = absurd p
    parts_kept here i bs (m ∷ ms) [] p = absurd p
    parts_kept here i bs (m ∷ ms) (f ∷ fs) p =
        let n = p.0 in (role_kept here i bs m f.role n.numbers, parts_kept here i bs ms fs p.1)

    cells_kept : (s : ℕ) (rest : List Frame) (fss : List (List Found))
        → AllByRecursion (IsHere frames) (map here_of (enumerate_from s rest))
        → Paired IsCellNumbered (map here_of (enumerate_from s rest)) fss
        → AllByRecursion (λ (c : ℕ × CellOf). AllByRecursion (IsNumbered cells c.0) c.1.parts)
        (enumerate_from s (map (cell_in founds) (zip (map here_of (enumerate_from s rest)) fss)))
    cells_kept s [] [] i p = tt
    cells_kept s [] (fs ∷ fss) i p = absurd p
    cells_kept s (f ∷ rest) [] i p = absurd p
    cells_kept s (f ∷ rest) (fs ∷ fss) i p =
        let here : Here = record { number = s; frame = f } in (
          parts_kept here i.0 (bindings_of founds s f.parent) (members f) fs p.0,
          cells_kept (s + 1) rest fss i.1 p.1,
        )

    numbered : AreNumbered cells
    numbered = cells_kept 0 frames founds
        (all_here frames frames 0 (λ i. let e : 0 + i ≡ i = omega arith in ap (slice_get frames) e)) all_found

pub hierarchies_are_numbered : HierarchiesAreNumbered
unfolding hierarchy
hierarchies_are_numbered blocks top cells h =
    let a = both (first_pass blocks top) _ cells h in
    let b = both (second_pass a.first) _ cells a.then' in
    subst AreNumbered (ok_is (put_together a.first b.first) cells b.then')
    (numbered a.first b.first (pass_is a.first b.first b.is))
