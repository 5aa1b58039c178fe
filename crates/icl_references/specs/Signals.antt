-- What a signal names, bit by bit (IEEE 1687-2014, ICL: scan sources, data signals, aliases and control
-- signals). The order of faults is: a name that isn't there, a wrong kind, a bad range; a width that differs
-- comes after the whole list.
use Rattle.std.specs.Prelude.{ℕ, ◌==◌, Bool, true, false, not, ◌&&◌, ◌||◌, cond, List, [], ◌∷◌, map, length}
use Rattle.std.specs.Prelude.{Option, Some, None, is_some, unwrap_or, Ok, Err}
use Rattle.std.specs.List.{list_all}
use Rattle.ij_bits.specs.BitLists.{flip_if}
use Rattle.ij_text.specs.declared.Place.{Place}
use Rattle.icl_lexer.specs.Values.{SeenRange, SeenSigWhat, ANumber, APath, SeenSig, SeenWhat}
use Rattle.icl_declarations.specs.Faults.{Answer, ◌>>=◌, refuse_if, each, over, BadNumber, WidthDiffers}
use Rattle.icl_declarations.specs.Faults.{WrongKind}
use Rattle.icl_declarations.specs.Values.{OpenBits, ParamValue, AnInteger, SomeBits, AText, Params}
use Rattle.icl_declarations.specs.Values.{integer_bits}
use Rattle.icl_declarations.specs.Expressions.{evaluate, fault_place}
use Rattle.icl_declarations.specs.Widths.{fit_unsized, fit_sized, joined}
use Rattle.icl_references.specs.declared.hier.Ref.{Ref}
use Rattle.icl_references.specs.declared.hier.Ref.TheVariants.{Fixed, Bit}
use Rattle.icl_declarations.specs.Parts.{is_scan_in, is_scan_out, is_data_in, is_data_out, port_that}
use Rattle.icl_declarations.specs.Parts.{is_register, is_mux, is_data_port}
use Rattle.icl_declarations.specs.declared.ranges.Bounds.{Bounds}
use Rattle.icl_declarations.specs.declared.ranges.Stretch.{Stretch}
use Rattle.icl_declarations.specs.Ranges.{width, positions, indices, named_positions}
use Rattle.icl_frames.specs.FirstPass.{Frame}
use Rattle.icl_references.specs.Names.{Here, CellMember, path_from}

-- ---- bits of a part

abbrev pub bit_of : CellMember → Bool → ℕ → Ref
bit_of t inverted pos = Bit t.here.number t.member.part pos inverted

abbrev pub bits_of : CellMember → Bool → Stretch → List Ref
bits_of t inverted s = map (bit_of t inverted) (positions s)

abbrev pub is_own : List (List ℕ) → Bool
is_own path = length path == 1

abbrev pub is_of_child : List (List ℕ) → Bool
is_of_child path = length path == 2

-- ---- what signals may name

-- a scan source: an own ScanInPort, a multiplexer, a register's scan-out, or the ScanOutPort of an instance
abbrev pub is_scan_source : List (List ℕ) → SeenWhat → Bool
is_scan_source path what = (is_own path && (is_register what || is_mux what || port_that is_scan_in what)) ||
    (is_of_child path && port_that is_scan_out what)

-- a register is named as a whole, or by its right index
abbrev pub is_scan_out_of : Bounds → Bounds → Bool
is_scan_out_of b i = i.right == b.right && (i.left == b.right || i.left == b.left)

-- a data signal that isn't a number: a register, an own DataInPort, or the DataOutPort of an instance
abbrev pub is_data_source : List (List ℕ) → SeenWhat → Bool
is_data_source path what = (is_own path && (is_register what || port_that is_data_in what)) ||
    (is_of_child path && port_that is_data_out what)

-- ---- numbers as signals

-- a number without a size is one alone, where a width is wanted
abbrev pub free_number : Place → Place → Option ℕ → OpenBits → Answer OpenBits
free_number holder at None bits = Err (WrongKind at)
free_number holder at (Some width) bits = fit_unsized holder width bits

abbrev pub sized_number : Place → Option ℕ → OpenBits → Answer OpenBits
sized_number holder None bits = Ok bits
sized_number holder (Some width) bits = fit_sized holder width bits

abbrev pub closed : Place → OpenBits → Answer (Unit {0})
closed at bits = refuse_if (not (list_all is_some bits)) (BadNumber at)

-- a number has no x
abbrev pub number_bits : Place → Place → Option ℕ → ParamValue → Answer OpenBits
number_bits holder at wanted (AnInteger n) = free_number holder at wanted (integer_bits n)
number_bits holder at wanted (SomeBits false bits) = closed at bits >>= λ u. free_number holder at wanted bits
number_bits holder at wanted (SomeBits true bits) = closed at bits >>= λ u. sized_number holder wanted bits
number_bits holder at wanted (AText text) = Err (WrongKind at)

abbrev pub constants : Bool → OpenBits → List Ref
constants inverted bits = map (λ b. Fixed (flip_if inverted (unwrap_or b false))) bits

-- ---- lists of signals

-- signals side by side, the leftmost first; position 0 is in the last one
abbrev pub side_by_side : (SeenSig → Answer (List Ref)) → List SeenSig → Answer (List Ref)
side_by_side bits ss = each bits ss >>= λ parts. Ok (joined parts)

-- the width that is wanted of a number, which is the whole list's where it is alone
abbrev pub lone_width : ℕ → List SeenSig → Option ℕ
lone_width width (s ∷ []) = Some width
lone_width width ss = None

abbrev pub require_width : Place → ℕ → List Ref → Answer (List Ref)
require_width holder width refs = cond (length refs == width) (Ok refs) (Err (WidthDiffers holder))

-- ---- signals of a cell

module _ (frames : List Frame) (here : Here) where
  abbrev pub params : Params
  params = here.frame.params

  -- ---- scan sources

  abbrev pub check_register_range : Place → Bounds → Option SeenRange → Answer (Unit {0})
  check_register_range at b None = Ok tt
  check_register_range at b (Some r) = indices params r >>= λ i. refuse_if (not (is_scan_out_of b i))
      (WrongKind at)

  abbrev pub check_scan_range : Place → CellMember → Option SeenRange → Answer (Unit {0})
  check_scan_range at t range =
      cond (is_register t.member.item.what) (check_register_range at t.member.bounds range)
      (named_positions params t.member.bounds range >>= λ s. Ok tt)

  abbrev pub scan_path : Place → Bool → List (List ℕ) → Option SeenRange → Answer Ref
  scan_path at inverted path range = do
    t ← path_from frames here at path
    kind ← refuse_if (inverted || not (is_scan_source path t.member.item.what)) (WrongKind at)
    end ← check_scan_range at t range
    Ok (bit_of t false 0)

  abbrev pub scan_meant : Place → Bool → SeenSigWhat → Answer Ref
  scan_meant at inverted (ANumber e) = Err (WrongKind at)
  scan_meant at inverted (APath path range) = scan_path at inverted path range

  unfoldable pub scan_signal : SeenSig → Answer Ref
  scan_signal s = scan_meant s.at s.inverted s.what

  -- ---- data signals

  abbrev pub data_path : Place → Bool → List (List ℕ) → Option SeenRange → Answer (List Ref)
  data_path at inverted path range = do
    t ← path_from frames here at path
    kind ← refuse_if (not (is_data_source path t.member.item.what)) (WrongKind at)
    s ← named_positions params t.member.bounds range
    Ok (bits_of t inverted s)

  abbrev pub data_meant : Place → Option ℕ → Place → Bool → SeenSigWhat → Answer (List Ref)
  data_meant holder wanted at inverted (ANumber e) = evaluate params at e
      >>= λ value. number_bits holder (fault_place at e) wanted value >>= λ bits. Ok (constants inverted bits)
  data_meant holder wanted at inverted (APath path range) = data_path at inverted path range

  unfoldable pub data_signal : Place → Option ℕ → SeenSig → Answer (List Ref)
  data_signal holder wanted s = data_meant holder wanted s.at s.inverted s.what

  -- data signals where a width is wanted
  unfoldable pub data_signals : Place → ℕ → List SeenSig → Answer (List Ref)
  data_signals holder width ss =
      side_by_side (data_signal holder (lone_width width ss)) ss >>= require_width holder width

  -- data signals of any width: those that select the row of a multiplexer
  unfoldable pub select_signals : Place → List SeenSig → Answer (List Ref)
  select_signals holder ss = side_by_side (data_signal holder None) ss

  -- ---- aliases: registers and data ports, of this cell or below it

  abbrev pub alias_path : Place → Bool → List (List ℕ) → Option SeenRange → Answer (List Ref)
  alias_path at inverted path range = do
    t ← path_from frames here at path
    kind ← refuse_if
        (inverted || not (is_register t.member.item.what || is_data_port t.member.item.what)) (WrongKind at)
    s ← named_positions params t.member.bounds range
    Ok (bits_of t false s)

  abbrev pub alias_meant : Place → Bool → SeenSigWhat → Answer (List Ref)
  alias_meant at inverted (ANumber e) = Err (WrongKind at)
  alias_meant at inverted (APath path range) = alias_path at inverted path range

  unfoldable pub alias_signals : Place → ℕ → List SeenSig → Answer (List Ref)
  alias_signals holder width ss =
      side_by_side (λ s. alias_meant s.at s.inverted s.what) ss >>= require_width holder width

  -- ---- control signals: only their names are looked up

  abbrev pub control_meant : Place → SeenSigWhat → Answer (Unit {0})
  control_meant at (ANumber e) = Ok tt
  control_meant at (APath path range) = path_from frames here at path >>= λ t. Ok tt

  unfoldable pub control_signals : List SeenSig → Answer (Unit {0})
  control_signals ss = over (λ u s. control_meant s.at s.what) tt ss
