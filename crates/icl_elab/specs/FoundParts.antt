-- The second pass of elaboration (IEEE 1687-2014, ICL): what each part of a cell is, its signals and values
-- resolved; or the first fault. The parts go in the order of the text, and in a part what is in it from
-- left to right.
use Rattle.std.specs.Prelude.{ℕ, not, ◌&&◌, List, [], ◌∷◌, find, Option, Some, None, Ok, Err}
use Rattle.std.specs.Str.{bytes_eq}
use Rattle.ij_text.specs.declared.Place.{Place}
use Rattle.icl_lexer.specs.declared.tree.PortKind.{PortKind}
use Rattle.icl_lexer.specs.declared.tree.PortKind.TheVariants.{ScanInPort, ScanOutPort, DataInPort}
use Rattle.icl_lexer.specs.declared.tree.PortKind.TheVariants.{DataOutPort}
use Rattle.icl_lexer.specs.Values.{SeenSig, SeenProp, ASource, ARefEnum, AScanInSource, ACaptureSource}
use Rattle.icl_lexer.specs.Values.{AResetValue, SeenBind, SeenEnumWord, SeenLinkInstr, SeenWhat, APort}
use Rattle.icl_lexer.specs.Values.{ARegister, AMux, AChild, AnAlias, AnInterface, ALink, SeenItem, SeenModule}
use Rattle.icl_declarations.specs.Faults.{Answer, ◌>>=◌, refuse_if, each, over, NoName, WrongKind}
use Rattle.icl_declarations.specs.Values.{OpenBits, Params}
use Rattle.icl_declarations.specs.Widths.{value_in}
use Rattle.icl_references.specs.declared.hier.Ref.{Ref}
use Rattle.icl_declarations.specs.Parts.{is_enum, is_interface, is_port, words_in}
use Rattle.icl_declarations.specs.Ranges.{width}
use Rattle.icl_frames.specs.FirstPass.{Frame}
use Rattle.icl_references.specs.Names.{Here, Member, members, member_that, known_member, named}
use Rattle.icl_references.specs.Names.{cell_of_instance}
use Rattle.icl_references.specs.Signals.{scan_signal, data_signals, alias_signals, control_signals}
use Rattle.icl_references.specs.Roles.{Selection, Role, ScanInput, ScanOutput, DataInput, DataOutput}
use Rattle.icl_references.specs.Roles.{ControlPort, AScanRegister, AnAliasOf, AnInstance, AnInterfaceOf}
use Rattle.icl_references.specs.Roles.{AnAccessLink, Word}
use Rattle.icl_references.specs.Muxes.{mux_role}
use Rattle.icl_elab.specs.Bindings.{Bound, bind, all_whole}

-- what the pass finds at a part: its role, the words that it refers to, and what an instance binds
pub record Found : Type 0 where
  pub role : Role
  pub words : List Word
  pub bound : List Bound

abbrev pub found : Role → Found
found role = record { role = role; words = []; bound = [] }

-- ---- enumerations

abbrev pub enum_named : SeenModule → List ℕ → Option SeenItem
enum_named block name = find (λ item. is_enum item.what && bytes_eq name item.name) block.items

abbrev pub known_enum : Place → List ℕ → Option SeenItem → Answer (List SeenEnumWord)
known_enum at name None = Err (NoName at name)
known_enum at name (Some item) = Ok (words_in item.what)

abbrev pub word_of : Params → Place → ℕ → SeenEnumWord → Answer Word
word_of ps at wide w = value_in ps at wide w.value >>= λ value. Ok (record { name = w.name; value = value })

-- the words of an enumeration, each in the width of the part that refers to it
unfoldable pub words_named : Frame → Member → List ℕ → Answer (List Word)
words_named frame m name = known_enum m.item.at name (enum_named frame.block name)
    >>= each (word_of frame.params m.item.at (width m.bounds))

module _ (frames : List Frame) (here : Here) where
  -- ---- ports

  abbrev pub first_scan : Place → List SeenSig → Answer Ref
  first_scan at [] = Err (WrongKind at)
  first_scan at (s ∷ ss) = scan_signal frames here s

  abbrev pub source_role : PortKind → Member → Role → List SeenSig → Answer Role
  source_role ScanOutPort m role ss = first_scan m.item.at ss >>= λ r. Ok (ScanOutput (Some r))
  source_role DataOutPort m role ss =
      data_signals frames here m.item.at (width m.bounds) ss >>= λ refs. Ok (DataOutput (Some refs))
  source_role kind m role ss = control_signals frames here ss >>= λ u. Ok role

  unfoldable pub port_prop : PortKind → Member → Found → SeenProp → Answer Found
  port_prop kind m f (ASource ss) = source_role kind m f.role ss >>= λ role. Ok (record f { role = role })
  port_prop kind m f (ARefEnum name) =
      words_named here.frame m name >>= λ words. Ok (record f { words = words })
  port_prop kind m f prop = Ok f

  abbrev pub port_role : PortKind → Role
  port_role ScanInPort = ScanInput None
  port_role ScanOutPort = ScanOutput None
  port_role DataInPort = DataInput None
  port_role DataOutPort = DataOutput None
  port_role kind = ControlPort

  -- ---- registers

  -- what some of a register's properties say
  pub record Said : Type 0 where
    pub scan : Option Ref
    pub capture : Option (List Ref)
    pub reset : Option OpenBits
    pub words : List Word

  abbrev pub nothing_said : Said
  nothing_said = record { scan = None; capture = None; reset = None; words = [] }

  unfoldable pub register_prop : Member → Said → SeenProp → Answer Said
  register_prop m s (AScanInSource sig) = scan_signal frames here sig >>= λ r. Ok (record s { scan = Some r })
  register_prop m s (ACaptureSource ss) =
      data_signals frames here m.item.at (width m.bounds) ss >>= λ refs. Ok (record s { capture = Some refs })
  register_prop m s (AResetValue value) = value_in here.frame.params m.item.at (width m.bounds) value
      >>= λ bits. Ok (record s { reset = Some bits })
  register_prop m s (ARefEnum name) =
      words_named here.frame m name >>= λ words. Ok (record s { words = words })
  register_prop m s prop = Ok s

  abbrev pub register_found : Said → Found
  register_found s = record { role = AScanRegister s.scan s.capture s.reset; words = s.words; bound = [] }

  -- ---- aliases

  unfoldable pub alias_prop : Member → Found → SeenProp → Answer Found
  alias_prop m f (ARefEnum name) = words_named here.frame m name >>= λ words. Ok (record f { words = words })
  alias_prop m f prop = Ok f

  -- ---- instances

  abbrev pub instance_found : Place → List SeenBind → Here → Answer Found
  instance_found at binds child = do
    bs ← over (bind frames here child.frame) [] binds
    all ← all_whole frames here child.frame at (members child.frame) bs
    Ok (record { role = AnInstance child.number; words = []; bound = all })

  -- ---- interfaces and links

  abbrev pub port_number : Place → List ℕ → Answer ℕ
  port_number at name = do
    m ← named here.frame at name
    port ← refuse_if (not (is_port m.item.what)) (WrongKind at)
    Ok m.part

  abbrev pub selection : Place → SeenLinkInstr → Answer Selection
  selection at i = do
    m ← named here.frame at i.cell
    child ← cell_of_instance frames here at m.item.name m.item.what
    interface ← known_member at i.interface (member_that is_interface child.frame i.interface)
    Ok (record { name = i.name; cell = child.number; interface = interface.part })

  -- ---- parts

  abbrev pub found_at : Member → SeenWhat → Answer Found
  found_at m (APort kind range props) = over (port_prop kind m) (found (port_role kind)) props
  found_at m (ARegister range props) =
      over (register_prop m) nothing_said props >>= λ s. Ok (register_found s)
  found_at m (AMux select rows) = mux_role frames here m.item.at select rows >>= λ role. Ok (found role)
  found_at m (AChild module' binds) =
      cell_of_instance frames here m.item.at m.item.name m.item.what >>= instance_found m.item.at binds
  found_at m (AnAlias range sigs props) = alias_signals frames here m.item.at (width m.bounds) sigs
      >>= λ refs. over (alias_prop m) (found (AnAliasOf refs)) props
  found_at m (AnInterface ports) = each (port_number m.item.at) ports
      >>= λ numbers. Ok (found (AnInterfaceOf numbers))
  found_at m (ALink kind entity instrs) =
      each (selection m.item.at) instrs >>= λ selections. Ok (found (AnAccessLink selections))
  found_at m what = Ok (found ControlPort)

  unfoldable pub part_found : Member → Answer Found
  part_found m = found_at m m.item.what
