-- The words of a part differ in their names, and a multiplexer has a select bit and rows.
use Rattle.std.proofs.Common.{◌≡◌, ◌+◌, ◌-◌, ◌≤◌, ◌<◌, ◌^◌, ℕ, suc, Bool, true, false, not, cond, ◌&&◌, List}
use Rattle.std.proofs.Common.{[], ◌∷◌, length, map, Option, Some, None, Result, Ok, Err, refl, sym, ap, subst}
use Rattle.std.proofs.Common.{◌∙◌, arith}
use Rattle.std.specs.Prelude.{find, IfSome, nat_le}
use Rattle.std.specs.List.{AllByRecursion}
use Rattle.std.proofs.lemmas.Bool.{true≢false, and_parts, leb-true}
use Rattle.std.proofs.lemmas.List.{length-append, length-map}
use Rattle.std.proofs.lemmas.List.FromFn.{length-map-range_with_len}
use Rattle.ij_bits.specs.Different.{AreDifferent}
use Rattle.ij_text.specs.declared.Place.{Place}
use Rattle.icl_lexer.specs.declared.tree.PortKind.{PortKind}
use Rattle.icl_lexer.specs.Values.{SeenRange, SeenSigWhat, ANumber, APath, SeenSig, SeenRow, SeenEnumWord}
use Rattle.icl_lexer.specs.Values.{SeenProp, ASource, ALaunchEdge, ALoadValue, ARefEnum, APolarity}
use Rattle.icl_lexer.specs.Values.{AScanInSource, ACaptureSource, AResetValue, ATogether, SeenWhat, APort}
use Rattle.icl_lexer.specs.Values.{ARegister, AMux, AChild, AnAlias, SomeWords, AParameter, AnInterface}
use Rattle.icl_lexer.specs.Values.{ALink, AnAttribute, SeenItem}
use Rattle.icl_declarations.specs.Faults.{Answer, ◌>>=◌, refuse_if, each, over, BadRange, WrongKind}
use Rattle.icl_declarations.specs.Faults.{RowsOverlap}
use Rattle.icl_declarations.specs.Values.{OpenBits, ParamValue, AnInteger, SomeBits, AText, Params}
use Rattle.icl_declarations.specs.Expressions.{evaluate, fault_place}
use Rattle.icl_declarations.specs.Widths.{value_in, joined}
use Rattle.icl_declarations.specs.declared.ranges.Bounds.{Bounds}
use Rattle.icl_declarations.specs.declared.ranges.Stretch.{Stretch}
use Rattle.icl_declarations.specs.Parts.{inner_names, words_in, is_mux as is_mux_item}
use Rattle.icl_declarations.specs.Ranges.{width, position_of, has_index, runs_along, position_range, whole}
use Rattle.icl_declarations.specs.Ranges.{indices, named_positions}
use Rattle.icl_frames.specs.FirstPass.{Frame}
use Rattle.icl_frames.specs.Written.{IsWrittenWhat}
use Rattle.icl_frames.proofs.Answering.{both, ok_is, over_all}
use Rattle.icl_references.specs.declared.hier.Ref.{Ref}
use Rattle.icl_references.specs.Names.{Here, Member, members, cell_of_instance, path_from}
use Rattle.icl_references.specs.Signals.{bits_of, is_data_source, data_signal, data_signals, data_meant}
use Rattle.icl_references.specs.Signals.{data_path, select_signals, alias_signals, constants, closed}
use Rattle.icl_references.specs.Signals.{free_number, number_bits, scan_signal}
use Rattle.icl_references.specs.Roles.{Choice, Role, ScanInput, ScanOutput, DataInput, DataOutput}
use Rattle.icl_references.specs.Roles.{ControlPort, AScanRegister, AScanMux, AnAliasOf, AnInstance}
use Rattle.icl_references.specs.Roles.{AnInterfaceOf, AnAccessLink, Word}
use Rattle.icl_references.specs.Muxes.{some_meet, row_in, mux_role}
use Rattle.icl_elab.specs.Bindings.{Bound, bind, all_whole}
use Rattle.icl_elab.specs.FoundParts.{Found, found, Said, words_named, known_enum, enum_named, word_of}
use Rattle.icl_elab.specs.FoundParts.{source_role, port_prop, port_role, register_prop, register_found}
use Rattle.icl_elab.specs.FoundParts.{nothing_said, alias_prop, instance_found, port_number, selection}
use Rattle.icl_elab.specs.FoundParts.{found_at, part_found}
use Rattle.icl_elab.specs.Hierarchy.{with_bound}
use Rattle.icl_elab.specs.WellFormed.{is_mux, HasRows}
use Rattle.icl_elab.proofs.SoundValues.{IsSound, AreSound, evaluate_sound}

-- ---- lists

find_good : {A : Type 0} (P : A → Type 0) (test : A → Bool) (xs : List A)
    → AllByRecursion P xs → IfSome (find test xs) P
find_good P test [] h = tt
find_good P test (x ∷ xs) h = by_test (test x) (find_good P test xs h.1)
  where
    by_test : (b : Bool) → IfSome (find test xs) P → IfSome (cond b (Some x) (find test xs)) P
    by_test true again = h.0
    by_test false again = again

each_long : {A B E : Type 0} (f : A → Result B E) (xs : List A) (ys : List B)
    → each f xs ≡ Ok ys → length ys ≡ length xs
each_long f [] ys h = ap length (sym (ok_is [] ys h))
each_long f (x ∷ xs) ys h =
    let a = both (f x) (λ y. each f xs >>= λ zs. Ok (y ∷ zs)) ys h in
    let b = both (each f xs) (λ zs. Ok (a.first ∷ zs)) ys a.then' in
    ap length (sym (ok_is (a.first ∷ b.first) ys b.then')) ∙ ap suc (each_long f xs b.first b.is)

-- ---- words

in_words : (what : SeenWhat) → AreDifferent (inner_names what)
    → AreDifferent (map (λ (w : SeenEnumWord). w.name) (words_in what))
in_words (SomeWords words) h = h
in_words (APort kind range props) h = tt
in_words (ARegister range props) h = tt
in_words (AMux select rows) h = tt
in_words (AChild module' binds) h = tt
in_words (AnAlias range sigs props) h = tt
in_words (AParameter local value) h = tt
in_words (AnInterface ports) h = tt
in_words (ALink kind entity instrs) h = tt
in_words (AnAttribute value) h = tt

abbrev pub HasInner : Frame → Type 0
HasInner frame = AllByRecursion (λ (item : SeenItem). AreDifferent (inner_names item.what)) frame.block.items

abbrev pub AreWordsApart : List Word → Type 0
AreWordsApart ws = AreDifferent (map (λ (w : Word). w.name) ws)

names_same : (ps : Params) (at : Place) (wide : ℕ) (vs : List SeenEnumWord) (ws : List Word)
    → each (word_of ps at wide) vs ≡ Ok ws
    → map (λ (w : Word). w.name) ws ≡ map (λ (v : SeenEnumWord). v.name) vs
names_same ps at wide [] ws h = ap (map (λ (w : Word). w.name)) (sym (ok_is [] ws h))
names_same ps at wide (v ∷ vs) ws h =
    let a = both (word_of ps at wide v) (λ w. each (word_of ps at wide) vs >>= λ us. Ok (w ∷ us)) ws h in
    let b = both (each (word_of ps at wide) vs) (λ us. Ok (a.first ∷ us)) ws a.then' in
    let c = both (value_in ps at wide v.value) _ a.first a.is in
    let e : a.first.name ≡ v.name =
    ap (λ (w : Word). w.name) (sym (ok_is (record { name = v.name; value = c.first }) a.first c.then')) in
    ap (map (λ (w : Word). w.name)) (sym (ok_is (a.first ∷ b.first) ws b.then'))
    ∙ ap (λ (n : List ℕ). n ∷ map (λ (w : Word). w.name) b.first) e
    ∙ ap (λ (l : List (List ℕ)). v.name ∷ l) (names_same ps at wide vs b.first b.is)

enum_apart : (at : Place) (name : List ℕ) (o : Option SeenItem) (vs : List SeenEnumWord)
    → IfSome o (λ item. AreDifferent (inner_names item.what)) → known_enum at name o ≡ Ok vs
    → AreDifferent (map (λ (v : SeenEnumWord). v.name) vs)
enum_apart at name None vs g h = absurd cc
enum_apart at name (Some item) vs g h =
    subst (λ us. AreDifferent (map (λ (v : SeenEnumWord). v.name) us))
    (ok_is (words_in item.what) vs h) (in_words item.what g)

words_apart : (frame : Frame) (m : Member) (name : List ℕ) (ws : List Word)
    → HasInner frame → words_named frame m name ≡ Ok ws
    → AreWordsApart ws
unfolding words_named
words_apart frame m name ws g h =
    let a = both (known_enum m.item.at name (enum_named frame.block name)) _ ws h in
    let d = enum_apart m.item.at name (enum_named frame.block name) a.first
    (find_good (λ (item : SeenItem). AreDifferent (inner_names item.what)) _ frame.block.items g) a.is in
    subst AreDifferent (sym (names_same frame.params m.item.at (width m.bounds) a.first ws a.then')) d

module _ (frames : List Frame) (here : Here) (inner : HasInner here.frame) where
  abbrev IsWorded : Found → Type 0
  IsWorded f = AreWordsApart f.words

  port_worded : (kind : PortKind) (m : Member) (f g : Found) (p : SeenProp) → IsWorded f
      → port_prop frames here kind m f p ≡ Ok g
      → IsWorded g
  unfolding port_prop
  port_worded kind m f g (ASource ss) i h =
      let a = both (source_role frames here kind m f.role ss) _ g h in
      subst IsWorded (ok_is (record f { role = a.first }) g a.then') i
  port_worded kind m f g (ARefEnum name) i h =
      let a = both (words_named here.frame m name) _ g h in subst IsWorded
      (ok_is (record f { words = a.first }) g a.then') (words_apart here.frame m name a.first inner a.is)
  port_worded kind m f g (ALaunchEdge e) i h = subst IsWorded (ok_is f g h) i
  port_worded kind m f g (ALoadValue v) i h = subst IsWorded (ok_is f g h) i
  port_worded kind m f g (APolarity n) i h = subst IsWorded (ok_is f g h) i
  port_worded kind m f g (AScanInSource x) i h = subst IsWorded (ok_is f g h) i
  port_worded kind m f g (ACaptureSource x) i h = subst IsWorded (ok_is f g h) i
  port_worded kind m f g (AResetValue v) i h = subst IsWorded (ok_is f g h) i
  port_worded kind m f g ATogether i h = subst IsWorded (ok_is f g h) i

  alias_worded : (m : Member) (f g : Found) (p : SeenProp) → IsWorded f
      → alias_prop frames here m f p ≡ Ok g → IsWorded g
  unfolding alias_prop
  alias_worded m f g (ARefEnum name) i h =
      let a = both (words_named here.frame m name) _ g h in subst IsWorded
      (ok_is (record f { words = a.first }) g a.then') (words_apart here.frame m name a.first inner a.is)
  alias_worded m f g (ASource x) i h = subst IsWorded (ok_is f g h) i
  alias_worded m f g (ALaunchEdge e) i h = subst IsWorded (ok_is f g h) i
  alias_worded m f g (ALoadValue v) i h = subst IsWorded (ok_is f g h) i
  alias_worded m f g (APolarity n) i h = subst IsWorded (ok_is f g h) i
  alias_worded m f g (AScanInSource x) i h = subst IsWorded (ok_is f g h) i
  alias_worded m f g (ACaptureSource x) i h = subst IsWorded (ok_is f g h) i
  alias_worded m f g (AResetValue v) i h = subst IsWorded (ok_is f g h) i
  alias_worded m f g ATogether i h = subst IsWorded (ok_is f g h) i

  abbrev IsSaidWorded : Said frames here → Type 0
  IsSaidWorded s = AreWordsApart s.words

  register_worded : (m : Member) (s t : Said frames here) (p : SeenProp) → IsSaidWorded s
      → register_prop frames here m s p ≡ Ok t
      → IsSaidWorded t
  unfolding register_prop
  register_worded m s t (AScanInSource x) i h =
      let a = both (scan_signal frames here x) _ t h in
      subst IsSaidWorded (ok_is (record s { scan = Some a.first }) t a.then') i
  register_worded m s t (ACaptureSource ss) i h =
      let a = both (data_signals frames here m.item.at (width m.bounds) ss) _ t h in
      subst IsSaidWorded (ok_is (record s { capture = Some a.first }) t a.then') i
  register_worded m s t (AResetValue value) i h =
      let a = both (value_in here.frame.params m.item.at (width m.bounds) value) _ t h in
      subst IsSaidWorded (ok_is (record s { reset = Some a.first }) t a.then') i
  register_worded m s t (ARefEnum name) i h =
      let a = both (words_named here.frame m name) _ t h in subst IsSaidWorded
      (ok_is (record s { words = a.first }) t a.then') (words_apart here.frame m name a.first inner a.is)
  register_worded m s t (ASource x) i h = subst IsSaidWorded (ok_is s t h) i
  register_worded m s t (ALaunchEdge e) i h = subst IsSaidWorded (ok_is s t h) i
  register_worded m s t (ALoadValue v) i h = subst IsSaidWorded (ok_is s t h) i
  register_worded m s t (APolarity n) i h = subst IsSaidWorded (ok_is s t h) i
  register_worded m s t ATogether i h = subst IsSaidWorded (ok_is s t h) i

  found_worded : (m : Member) (what : SeenWhat) (f : Found) → found_at frames here m what ≡ Ok f → IsWorded f
  found_worded m (APort kind range props) f h =
      over_all (port_prop frames here kind m) IsWorded (λ x y p g e. port_worded kind m x y p g e)
      (found (port_role frames here kind)) f props tt h
  found_worded m (ARegister range props) f h =
      let a = both (over (register_prop frames here m) (nothing_said frames here) props) _ f h in
      subst IsWorded (ok_is (register_found frames here a.first) f a.then')
      (over_all (register_prop frames here m) IsSaidWorded (λ x y p g e. register_worded m x y p g e)
      (nothing_said frames here) a.first props tt a.is)
  found_worded m (AMux select rows) f h =
      let a = both (mux_role frames here m.item.at select rows) _ f h in
      subst IsWorded (ok_is (found a.first) f a.then') tt
  found_worded m (AChild module' binds) f h =
      let a = both (cell_of_instance frames here m.item.at m.item.name m.item.what)
      (instance_found frames here m.item.at binds) f h in
      let b = both (over (bind frames here a.first.frame) [] binds) _ f a.then' in
      let c = both
      (all_whole frames here a.first.frame m.item.at (members a.first.frame) b.first) _ f b.then' in
      subst IsWorded (ok_is _ f c.then') tt
  found_worded m (AnAlias range sigs props) f h =
      let a = both (alias_signals frames here m.item.at (width m.bounds) sigs) _ f h in
      over_all (alias_prop frames here m) IsWorded (λ x y p g e. alias_worded m x y p g e)
      (found (AnAliasOf a.first)) f props tt a.then'
  found_worded m (AnInterface ports) f h =
      let a = both (each (port_number frames here m.item.at) ports) _ f h in
      subst IsWorded (ok_is (found (AnInterfaceOf a.first)) f a.then') tt
  found_worded m (ALink kind entity instrs) f h =
      let a = both (each (selection frames here m.item.at) instrs) _ f h in
      subst IsWorded (ok_is (found (AnAccessLink a.first)) f a.then') tt
  found_worded m (SomeWords words) f h = subst IsWorded (ok_is (found ControlPort) f h) tt
  found_worded m (AParameter local value) f h = subst IsWorded (ok_is (found ControlPort) f h) tt
  found_worded m (AnAttribute value) f h = subst IsWorded (ok_is (found ControlPort) f h) tt

  pub part_worded : (m : Member) (f : Found) → part_found frames here m ≡ Ok f → AreWordsApart f.words
  unfolding part_found
  part_worded m f h = found_worded m m.item.what f h

-- ---- the select of a multiplexer

-- a stretch has a bit
abbrev IsLong : Stretch → Type 0
IsLong s = s.low ≤ s.high

stretch_long : (at : Place) (b i : Bounds) (s : Stretch) → position_range at b i ≡ Ok s → IsLong s
stretch_long at b i s h = by_test (runs_along b i) refl h
  where
    by_test : (t : Bool) → runs_along b i ≡ t
        → cond {A = Answer Stretch} t (Ok
        (record { low = position_of b i.right; high = position_of b i.left })) (Err (BadRange at)) ≡ Ok s
        → IsLong s
    by_test true e g =
        let p = and_parts (has_index b i.left && has_index b i.right)
        (nat_le (position_of b i.right) (position_of b i.left)) e in
        subst IsLong (ok_is (record { low = position_of b i.right; high = position_of b i.left }) s g)
        (leb-true (position_of b i.right) (position_of b i.left) p.1)
    by_test false e g = absurd cc

named_long : (ps : Params) (b : Bounds) (range : Option SeenRange) (s : Stretch)
    → named_positions ps b range ≡ Ok s → IsLong s
named_long ps b None s h = let z : 0 ≤ width b - 1 = omega arith in subst IsLong (ok_is (whole b) s h) z
named_long ps b (Some r) s h =
    let a = both (indices ps r) (position_range r.at b) s h in stretch_long r.at b a.first s a.then'

free_none : (holder at : Place) (b bits : OpenBits) → free_number holder at None b ≡ Ok bits → ⊥
free_none holder at b bits h = cc

module _ (frames : List Frame) (here : Here) (sound : AreSound here.frame.params) where
  number_long : (holder at : Place) (w : ParamValue) (bits : OpenBits) → IsSound w
      → number_bits holder at None w ≡ Ok bits
      → 1 ≤ length bits
  number_long holder at (AnInteger n) bits g h = absurd cc
  number_long holder at (AText text) bits g h = absurd cc
  number_long holder at (SomeBits false b) bits g h =
      let a = both (closed at b) _ bits h in absurd (free_none holder at b bits a.then')
  number_long holder at (SomeBits true b) bits g h =
      let a = both (closed at b) _ bits h in subst (λ (l : OpenBits). 1 ≤ length l) (ok_is b bits a.then') g

  path_long : (at : Place) (inverted : Bool) (path : List (List ℕ)) (range : Option SeenRange) (rs : List Ref)
      → data_path frames here at inverted path range ≡ Ok rs → 1 ≤ length rs
  path_long at inverted path range rs h =
      let a = both (path_from frames here at path) _ rs h in
      let b = both
      (refuse_if (not (is_data_source path a.first.member.item.what)) (WrongKind at)) _ rs a.then' in
      let c = both (named_positions here.frame.params a.first.member.bounds range) _ rs b.then' in
      let long = named_long here.frame.params a.first.member.bounds range c.first c.is in
      let e : length (bits_of a.first inverted c.first) ≡ c.first.high + 1 - c.first.low =
      length-map-range_with_len _ c.first.low (c.first.high + 1 - c.first.low) in
      subst (λ (l : List Ref). 1 ≤ length l) (ok_is (bits_of a.first inverted c.first) rs c.then')
      (subst (λ k. 1 ≤ k) (sym e) (omega (arith, long)))

  data_long : (holder : Place) (s : SeenSig) (rs : List Ref)
      → data_signal frames here holder None s ≡ Ok rs → 1 ≤ length rs
  unfolding data_signal
  data_long holder s rs h = by_meant s.what h
    where
      by_meant : (w : SeenSigWhat)
          → data_meant frames here holder None s.at s.inverted w ≡ Ok rs → 1 ≤ length rs
      by_meant (ANumber e) g =
          let a = both (evaluate here.frame.params s.at e) _ rs g in
          let b = both (number_bits holder (fault_place s.at e) None a.first) _ rs a.then' in
          let long = number_long holder (fault_place s.at e) a.first b.first
          (evaluate_sound here.frame.params s.at e a.first sound a.is) b.is in
          subst (λ (l : List Ref). 1 ≤ length l) (ok_is (constants s.inverted b.first) rs b.then')
          (subst (λ n. 1 ≤ n) (sym (length-map b.first _)) long)
      by_meant (APath path range) g = path_long s.at s.inverted path range rs g

  select_long : (holder : Place) (ss : List SeenSig) (rs : List Ref) → 1 ≤ length ss
      → select_signals frames here holder ss ≡ Ok rs
      → 1 ≤ length rs
  unfolding select_signals
  select_long holder [] rs le h = absurd (omega (arith, le))
  select_long holder (s ∷ ss) rs le h =
      let f : SeenSig → Answer (List Ref) = data_signal frames here holder None in
      let a = both (each f (s ∷ ss)) (λ parts. Ok (joined parts)) rs h in
      let b = both (f s) (λ y. each f ss >>= λ ys. Ok (y ∷ ys)) a.first a.is in
      let c = both (each f ss) (λ ys. Ok (b.first ∷ ys)) a.first b.then' in
      let e : joined (b.first ∷ c.first)
      ≡ rs = ap joined (ok_is (b.first ∷ c.first) a.first c.then') ∙ ok_is (joined a.first) rs a.then' in
      let long = data_long holder s b.first b.is in
      let n = length-append (joined c.first) b.first in
      subst (λ (l : List Ref). 1 ≤ length l) e (subst (λ k. 1 ≤ k) (sym n) (omega (arith, long)))

  -- ---- rows

  row_long : (at : Place) (wide : ℕ) (r : SeenRow) (c : Choice) → row_in frames here at wide r ≡ Ok c
      → length c.values ≡ length r.values
  unfolding row_in
  row_long at wide r c h =
      let a = both (each (value_in here.frame.params at wide) r.values) _ c h in
      let b = both (scan_signal frames here r.source) _ c a.then' in
      ap (λ (d : Choice). length d.values)
      (sym (ok_is (record { values = a.first; source = b.first }) c b.then'))
      ∙ each_long (value_in here.frame.params at wide) r.values a.first a.is

  rows_long : (at : Place) (wide : ℕ) (rows : List SeenRow) (cs : List Choice)
      → each (row_in frames here at wide) rows ≡ Ok cs
      → AllByRecursion (λ (r : SeenRow). 1 ≤ length r.values) rows
      → AllByRecursion (λ (c : Choice). 1 ≤ length c.values) cs
  rows_long at wide [] cs h g =
      subst (AllByRecursion (λ (c : Choice). 1 ≤ length c.values)) (ok_is [] cs h) tt
  rows_long at wide (r ∷ rows) cs h g =
      let a = both (row_in frames here at wide r)
      (λ c. each (row_in frames here at wide) rows >>= λ ds. Ok (c ∷ ds)) cs h in
      let b = both (each (row_in frames here at wide) rows) (λ ds. Ok (a.first ∷ ds)) cs a.then' in
      let e = row_long at wide r a.first a.is in
      subst (AllByRecursion (λ (c : Choice). 1 ≤ length c.values)) (ok_is (a.first ∷ b.first) cs b.then')
      (subst (λ n. 1 ≤ n) (sym e) g.0, rows_long at wide rows b.first b.is g.1)

  mux_rows : (at : Place) (select : List SeenSig) (rows : List SeenRow) (role : Role)
      → IsWrittenWhat (AMux select rows)
      → mux_role frames here at select rows ≡ Ok role → HasRows role
  unfolding mux_role
  mux_rows at select rows role w h =
      let a = both (select_signals frames here at select) _ role h in
      let b = both (each (row_in frames here at (length a.first)) rows) _ role a.then' in
      let c = both (refuse_if (some_meet b.first) (RowsOverlap at)) _ role b.then' in
      let n = each_long (row_in frames here at (length a.first)) rows b.first b.is in
      subst HasRows (ok_is (AScanMux a.first b.first) role c.then') (
        select_long at select a.first w.select_some a.is,
        subst (λ k. 1 ≤ k) (sym n) w.rows_some,
        subst
            (λ k. k < 2 ^ 32) (sym n) w.rows_few,
        rows_long at (length a.first) rows b.first b.is w.values_some,
      )

  -- a role that is no multiplexer
  plain_rows : (role : Role) → is_mux role ≡ false → HasRows role
  plain_rows (AScanMux select rows) e = absurd (true≢false e)
  plain_rows (ScanInput bound) e = tt
  plain_rows (ScanOutput source) e = tt
  plain_rows (DataInput bound) e = tt
  plain_rows (DataOutput source) e = tt
  plain_rows ControlPort e = tt
  plain_rows (AScanRegister scan capture reset) e = tt
  plain_rows (AnAliasOf refs) e = tt
  plain_rows (AnInstance cell) e = tt
  plain_rows (AnInterfaceOf ports) e = tt
  plain_rows (AnAccessLink selections) e = tt

  found_rows : (m : Member) (what : SeenWhat) (f : Found)
      → IsWrittenWhat what → is_mux f.role ≡ is_mux_item what
      → found_at frames here m what ≡ Ok f → HasRows f.role
  found_rows m (AMux select rows) f w e h =
      let a = both (mux_role frames here m.item.at select rows) _ f h in
      subst (λ (x : Found). HasRows x.role) (ok_is (found a.first) f a.then')
      (mux_rows m.item.at select rows a.first w a.is)
  found_rows m (APort kind range props) f w e h = plain_rows f.role e
  found_rows m (ARegister range props) f w e h = plain_rows f.role e
  found_rows m (AChild module' binds) f w e h = plain_rows f.role e
  found_rows m (AnAlias range sigs props) f w e h = plain_rows f.role e
  found_rows m (SomeWords words) f w e h = plain_rows f.role e
  found_rows m (AParameter local value) f w e h = plain_rows f.role e
  found_rows m (AnInterface ports) f w e h = plain_rows f.role e
  found_rows m (ALink kind entity instrs) f w e h = plain_rows f.role e
  found_rows m (AnAttribute value) f w e h = plain_rows f.role e

  pub part_rows : (m : Member) (f : Found) → IsWrittenWhat m.item.what
      → is_mux f.role ≡ is_mux_item m.item.what
      → part_found frames here m ≡ Ok f → HasRows f.role
  unfolding part_found
  part_rows m f w e h = found_rows m m.item.what f w e h

-- what a port is bound to is no row
pub bound_rows : (bs : List Bound) (m : Member) (role : Role) → HasRows role → HasRows (with_bound bs m role)
bound_rows bs m (ScanInput bound) h = h
bound_rows bs m (ScanOutput source) h = h
bound_rows bs m (DataInput bound) h = h
bound_rows bs m (DataOutput source) h = h
bound_rows bs m ControlPort h = h
bound_rows bs m (AScanRegister scan capture reset) h = h
bound_rows bs m (AScanMux select rows) h = h
bound_rows bs m (AnAliasOf refs) h = h
bound_rows bs m (AnInstance cell) h = h
bound_rows bs m (AnInterfaceOf ports) h = h
bound_rows bs m (AnAccessLink selections) h = h
