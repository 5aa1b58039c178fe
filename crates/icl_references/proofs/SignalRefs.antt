-- The bits that signals name are there.
use Rattle.std.proofs.Common.{◌≡◌, ◌==◌, ℕ, Bool, true, false, not, cond, ◌||◌, List, length, Option, None}
use Rattle.std.proofs.Common.{Ok, Err, refl, sym, ap, subst, ◌∙◌, arith}
use Rattle.std.specs.List.{AllByRecursion}
use Rattle.ij_text.specs.declared.Place.{Place}
use Rattle.icl_lexer.specs.Values.{SeenRange, SeenSigWhat, ANumber, APath, SeenSig}
use Rattle.icl_declarations.specs.Faults.{Answer, refuse_if, each, WidthDiffers, WrongKind}
use Rattle.icl_declarations.specs.Values.{OpenBits}
use Rattle.icl_declarations.specs.Expressions.{evaluate, fault_place}
use Rattle.icl_declarations.specs.Widths.{joined}
use Rattle.icl_references.specs.declared.hier.Ref.{Ref}
use Rattle.icl_declarations.specs.Parts.{is_register, is_data_port}
use Rattle.std.proofs.lemmas.Bool.{eqb-true}
use Rattle.icl_declarations.specs.Ranges.{width, named_positions}
use Rattle.icl_frames.specs.FirstPass.{Frame}
use Rattle.icl_references.specs.Names.{Here, path_from}
use Rattle.icl_references.specs.Signals.{bit_of, bits_of, is_scan_source, is_data_source, scan_meant}
use Rattle.icl_references.specs.Signals.{scan_signal, scan_path, check_scan_range, data_signal, data_signals}
use Rattle.icl_references.specs.Signals.{select_signals, alias_signals, data_meant, data_path, alias_meant}
use Rattle.icl_references.specs.Signals.{alias_path, constants, side_by_side, require_width, lone_width}
use Rattle.icl_references.specs.Signals.{number_bits}
use Rattle.icl_frames.proofs.Answering.{both, ok_is, each_all, all_joined, all_map}
use Rattle.icl_references.proofs.Targets.{IsHere, IsThere, path_there, named_within, bit_there, bits_there}

module _ (frames : List Frame) (here : Here) (is_here : IsHere frames here) where
  abbrev pub AreThere : List Ref → Type 0
  AreThere refs = AllByRecursion (IsThere frames) refs

  scan_path_there : (at : Place) (inverted : Bool) (path : List (List ℕ)) (range : Option SeenRange) (r : Ref)
      → scan_path frames here at inverted path range ≡ Ok r → IsThere frames r
  scan_path_there at inverted path range r h =
      let a = both (path_from frames here at path) _ r h in
      let b = both (refuse_if (inverted || not (is_scan_source path a.first.member.item.what)) (WrongKind at))
      _ r a.then' in
      let c = both (check_scan_range frames here at a.first range) _ r b.then' in
      subst (IsThere frames) (ok_is (bit_of a.first false 0) r c.then') (bit_there frames a.first false 0
      (path_there frames here at path a.first is_here a.is) (omega arith))

  pub scan_there : (s : SeenSig) (r : Ref) → scan_signal frames here s ≡ Ok r → IsThere frames r
  unfolding scan_signal
  scan_there s r h = by_meant s.what h
    where
      by_meant : (w : SeenSigWhat) → scan_meant frames here s.at s.inverted w ≡ Ok r → IsThere frames r
      by_meant (ANumber e) g = absurd cc
      by_meant (APath path range) g = scan_path_there s.at s.inverted path range r g

  data_path_there : (at : Place) (inverted : Bool) (path : List (List ℕ)) (range : Option SeenRange)
      (rs : List Ref) → data_path frames here at inverted path range ≡ Ok rs → AreThere rs
  data_path_there at inverted path range rs h =
      let a = both (path_from frames here at path) _ rs h in
      let b = both
      (refuse_if (not (is_data_source path a.first.member.item.what)) (WrongKind at)) _ rs a.then' in
      let c = both (named_positions here.frame.params a.first.member.bounds range) _ rs b.then' in
      subst AreThere (ok_is (bits_of a.first inverted c.first) rs c.then')
      (bits_there frames a.first inverted c.first (path_there frames here at path a.first is_here a.is)
      (named_within here.frame.params a.first.member.bounds range c.first c.is))

  constants_there : (inverted : Bool) (bits : OpenBits) → AreThere (constants inverted bits)
  constants_there inverted bits = all_map (IsThere frames) _ bits (λ b. tt)

  pub data_there : (holder : Place) (wanted : Option ℕ) (s : SeenSig) (rs : List Ref)
      → data_signal frames here holder wanted s ≡ Ok rs → AreThere rs
  unfolding data_signal
  data_there holder wanted s rs h = by_meant s.what h
    where
      by_meant : (w : SeenSigWhat)
          → data_meant frames here holder wanted s.at s.inverted w ≡ Ok rs → AreThere rs
      by_meant (ANumber e) g =
          let a = both (evaluate here.frame.params s.at e) _ rs g in
          let b = both (number_bits holder (fault_place s.at e) wanted a.first) _ rs a.then' in
          subst AreThere (ok_is (constants s.inverted b.first) rs b.then')
          (constants_there s.inverted b.first)
      by_meant (APath path range) g = data_path_there s.at s.inverted path range rs g

  side_there : (f : SeenSig → Answer (List Ref)) → ((s : SeenSig) (rs : List Ref) → f s ≡ Ok rs → AreThere rs)
      → (ss : List SeenSig) (rs : List Ref) → side_by_side f ss ≡ Ok rs → AreThere rs
  side_there f good ss rs h =
      let a = both (each f ss) _ rs h in
      subst AreThere (ok_is (joined a.first) rs a.then')
      (all_joined (IsThere frames) a.first (each_all f AreThere good ss a.first a.is))

  -- as wide as is wanted
  wide_is : (holder : Place) (width : ℕ) (refs rs : List Ref)
      → require_width holder width refs ≡ Ok rs → (refs ≡ rs) × (length rs ≡ width)
  wide_is holder width refs rs h = by_test (length refs == width) refl h
    where
      by_test : (b : Bool) → (length refs == width) ≡ b
          → cond {A = Answer (List Ref)} b (Ok refs) (Err (WidthDiffers holder)) ≡ Ok rs
          → (refs ≡ rs) × (length rs ≡ width)
      by_test true e g = let same = ok_is refs rs g in
          (same, ap length (sym same) ∙ eqb-true (length refs) width e)
      by_test false e g = absurd cc

  pub signals_there : (holder : Place) (width : ℕ) (ss : List SeenSig) (rs : List Ref)
      → data_signals frames here holder width ss ≡ Ok rs → AreThere rs × (length rs ≡ width)
  unfolding data_signals
  signals_there holder width ss rs h =
      let f : SeenSig → Answer (List Ref) = data_signal frames here holder (lone_width width ss) in
      let a = both (side_by_side f ss) _ rs h in
      let w = wide_is holder width a.first rs a.then' in (
        subst AreThere w.0
            (side_there f (λ s r g. data_there holder (lone_width width ss) s r g) ss a.first a.is),
        w.1,
      )

  pub selects_there : (holder : Place) (ss : List SeenSig) (rs : List Ref)
      → select_signals frames here holder ss ≡ Ok rs → AreThere rs
  unfolding select_signals
  selects_there holder ss rs h =
      side_there (data_signal frames here holder None) (λ s r g. data_there holder None s r g) ss rs h

  alias_path_there : (at : Place) (inverted : Bool) (path : List (List ℕ)) (range : Option SeenRange)
      (rs : List Ref) → alias_path frames here at inverted path range ≡ Ok rs → AreThere rs
  alias_path_there at inverted path range rs h =
      let a = both (path_from frames here at path) _ rs h in
      let b = both (refuse_if (inverted || not (is_register a.first.member.item.what || is_data_port
      a.first.member.item.what)) (WrongKind at)) _ rs a.then' in
      let c = both (named_positions here.frame.params a.first.member.bounds range) _ rs b.then' in
      subst AreThere (ok_is (bits_of a.first false c.first) rs c.then')
      (bits_there frames a.first false c.first (path_there frames here at path a.first is_here a.is)
      (named_within here.frame.params a.first.member.bounds range c.first c.is))

  alias_one_there : (s : SeenSig) (rs : List Ref)
      → alias_meant frames here s.at s.inverted s.what ≡ Ok rs → AreThere rs
  alias_one_there s rs h = by_meant s.what h
    where
      by_meant : (w : SeenSigWhat) → alias_meant frames here s.at s.inverted w ≡ Ok rs → AreThere rs
      by_meant (ANumber e) g = absurd cc
      by_meant (APath path range) g = alias_path_there s.at s.inverted path range rs g

  pub aliases_there : (holder : Place) (width : ℕ) (ss : List SeenSig) (rs : List Ref)
      → alias_signals frames here holder width ss ≡ Ok rs → AreThere rs × (length rs ≡ width)
  unfolding alias_signals
  aliases_there holder width ss rs h =
      let f : SeenSig → Answer (List Ref) = λ s. alias_meant frames here s.at s.inverted s.what in
      let a = both (side_by_side f ss) _ rs h in
      let w = wide_is holder width a.first rs a.then' in
      (subst AreThere w.0 (side_there f alias_one_there ss a.first a.is), w.1)
