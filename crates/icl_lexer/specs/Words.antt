-- The words by which the parts of a text are told apart.
use Rattle.std.specs.Prelude.{ℕ, true, false, List, [], ◌∷◌, Option, Some, None, codes}
use Rattle.ij_text.specs.Words.{Entry, found_in}
use Rattle.ij_text.specs.Options.{or_else}
use Rattle.icl_lexer.specs.declared.tree.PortKind.{PortKind}
use Rattle.icl_lexer.specs.declared.tree.PortKind.TheVariants.{ScanInPort, ScanOutPort, DataInPort}
use Rattle.icl_lexer.specs.declared.tree.PortKind.TheVariants.{DataOutPort, SelectPort, CaptureEnPort}
use Rattle.icl_lexer.specs.declared.tree.PortKind.TheVariants.{ShiftEnPort, UpdateEnPort, ResetPort, TCKPort}
use Rattle.icl_lexer.specs.declared.tree.PortKind.TheVariants.{TMSPort, TRSTPort, ClockPort, ToSelectPort}
use Rattle.icl_lexer.specs.declared.tree.PortKind.TheVariants.{ToCaptureEnPort, ToShiftEnPort, ToUpdateEnPort}
use Rattle.icl_lexer.specs.declared.tree.PortKind.TheVariants.{ToResetPort, ToTCKPort, ToTMSPort, ToTRSTPort}
use Rattle.icl_lexer.specs.declared.tree.PortKind.TheVariants.{ToClockPort, ToIRSelectPort}
use Rattle.icl_lexer.specs.declared.tree.LinkKind.{LinkKind}
use Rattle.icl_lexer.specs.declared.tree.LinkKind.TheVariants.{Std2001, Std2013}
use Rattle.icl_lexer.specs.declared.words.ItemKeyword.{ItemKeyword}
use Rattle.icl_lexer.specs.declared.words.ItemKeyword.TheVariants.{OfPort, OfRegister, OfMux, OfChild}
use Rattle.icl_lexer.specs.declared.words.ItemKeyword.TheVariants.{OfAlias, OfEnum, OfParameter, OfAttribute}
use Rattle.icl_lexer.specs.declared.words.ItemKeyword.TheVariants.{OfInterface, OfLink}
use Rattle.icl_lexer.specs.declared.words.PropKeyword.{PropKeyword}
use Rattle.icl_lexer.specs.declared.words.PropKeyword.TheVariants.{Source, LaunchEdge, DefaultLoadValue}
use Rattle.icl_lexer.specs.declared.words.PropKeyword.TheVariants.{RefEnum, ActivePolarity, ScanInSource}
use Rattle.icl_lexer.specs.declared.words.PropKeyword.TheVariants.{CaptureSource, ResetValue, AccessTogether}
use Rattle.icl_lexer.specs.declared.words.PropKeyword.TheVariants.{Attribute}
use Rattle.icl_lexer.specs.declared.words.BindKeyword.{BindKeyword}
use Rattle.icl_lexer.specs.declared.words.BindKeyword.TheVariants.{BindsPort, BindsParameter, BindsAttribute}
use Rattle.icl_lexer.specs.declared.words.MemberKeyword.{MemberKeyword}
use Rattle.icl_lexer.specs.declared.words.MemberKeyword.TheVariants.{MemberPort, MemberAttribute}

-- the word of a kind of port
abbrev pub port_word : PortKind → List ℕ
port_word ScanInPort = codes "ScanInPort"
port_word ScanOutPort = codes "ScanOutPort"
port_word DataInPort = codes "DataInPort"
port_word DataOutPort = codes "DataOutPort"
port_word SelectPort = codes "SelectPort"
port_word CaptureEnPort = codes "CaptureEnPort"
port_word ShiftEnPort = codes "ShiftEnPort"
port_word UpdateEnPort = codes "UpdateEnPort"
port_word ResetPort = codes "ResetPort"
port_word TCKPort = codes "TCKPort"
port_word TMSPort = codes "TMSPort"
port_word TRSTPort = codes "TRSTPort"
port_word ClockPort = codes "ClockPort"
port_word ToSelectPort = codes "ToSelectPort"
port_word ToCaptureEnPort = codes "ToCaptureEnPort"
port_word ToShiftEnPort = codes "ToShiftEnPort"
port_word ToUpdateEnPort = codes "ToUpdateEnPort"
port_word ToResetPort = codes "ToResetPort"
port_word ToTCKPort = codes "ToTCKPort"
port_word ToTMSPort = codes "ToTMSPort"
port_word ToTRSTPort = codes "ToTRSTPort"
port_word ToClockPort = codes "ToClockPort"
port_word ToIRSelectPort = codes "ToIRSelectPort"

abbrev pub port_entry : PortKind → Entry PortKind
port_entry k = record { word = port_word k; meaning = k }

unfoldable pub data_port_named : List ℕ → Option PortKind
data_port_named = found_in
    (port_entry ScanInPort ∷ port_entry ScanOutPort ∷ port_entry DataInPort ∷ port_entry DataOutPort ∷ [])

unfoldable pub control_port_named : List ℕ → Option PortKind
control_port_named =
    found_in (port_entry SelectPort ∷ port_entry CaptureEnPort ∷ port_entry ShiftEnPort
    ∷ port_entry UpdateEnPort ∷ port_entry ResetPort
    ∷ port_entry TCKPort ∷ port_entry TMSPort ∷ port_entry TRSTPort ∷ port_entry ClockPort ∷ [])

unfoldable pub to_port_named : List ℕ → Option PortKind
to_port_named =
    found_in (port_entry ToSelectPort ∷ port_entry ToCaptureEnPort ∷ port_entry ToShiftEnPort
    ∷ port_entry ToUpdateEnPort ∷ port_entry ToResetPort
    ∷ port_entry ToTCKPort ∷ port_entry ToTMSPort ∷ port_entry ToTRSTPort
    ∷ port_entry ToClockPort ∷ port_entry ToIRSelectPort ∷ [])

unfoldable pub port_named : List ℕ → Option PortKind
port_named text = or_else (data_port_named text) (or_else (control_port_named text) (to_port_named text))

abbrev pub item_entry : List ℕ → ItemKeyword → Entry ItemKeyword
item_entry w i = record { word = w; meaning = i }

unfoldable pub other_item_named : List ℕ → Option ItemKeyword
other_item_named =
    found_in (item_entry (codes "ScanRegister") OfRegister
    ∷ item_entry (codes "ScanMux") OfMux ∷ item_entry (codes "Instance") OfChild
    ∷ item_entry (codes "Alias") OfAlias ∷ item_entry (codes "Enum") OfEnum
    ∷ item_entry (codes "Parameter") (OfParameter false)
    ∷ item_entry (codes "LocalParameter") (OfParameter true) ∷ item_entry (codes "Attribute") OfAttribute
    ∷ item_entry (codes "ScanInterface") OfInterface ∷ item_entry (codes "AccessLink") OfLink ∷ [])

abbrev pub port_item : Option PortKind → Option ItemKeyword
port_item None = None
port_item (Some k) = Some (OfPort k)

-- the items, by their first words
unfoldable pub item_named : List ℕ → Option ItemKeyword
item_named text = or_else (port_item (port_named text)) (other_item_named text)

-- the word of a property
abbrev pub prop_word : PropKeyword → List ℕ
prop_word Source = codes "Source"
prop_word LaunchEdge = codes "LaunchEdge"
prop_word DefaultLoadValue = codes "DefaultLoadValue"
prop_word RefEnum = codes "RefEnum"
prop_word ActivePolarity = codes "ActivePolarity"
prop_word ScanInSource = codes "ScanInSource"
prop_word CaptureSource = codes "CaptureSource"
prop_word ResetValue = codes "ResetValue"
prop_word AccessTogether = codes "AccessTogether"
prop_word Attribute = codes "Attribute"

abbrev pub prop_entry : PropKeyword → Entry PropKeyword
prop_entry w = record { word = prop_word w; meaning = w }

unfoldable pub prop_named : List ℕ → Option PropKeyword
prop_named =
    found_in (prop_entry Source ∷ prop_entry LaunchEdge ∷ prop_entry DefaultLoadValue
    ∷ prop_entry RefEnum ∷ prop_entry ActivePolarity
    ∷ prop_entry ScanInSource ∷ prop_entry CaptureSource ∷ prop_entry ResetValue
    ∷ prop_entry AccessTogether ∷ prop_entry Attribute ∷ [])

abbrev pub bind_entry : List ℕ → BindKeyword → Entry BindKeyword
bind_entry w b = record { word = w; meaning = b }

unfoldable pub bind_named : List ℕ → Option BindKeyword
bind_named = found_in (bind_entry (codes "InputPort") BindsPort
    ∷ bind_entry (codes "Parameter") BindsParameter ∷ bind_entry (codes "Attribute") BindsAttribute ∷ [])

abbrev pub member_entry : List ℕ → MemberKeyword → Entry MemberKeyword
member_entry w m = record { word = w; meaning = m }

unfoldable pub member_named : List ℕ → Option MemberKeyword
member_named =
    found_in (member_entry (codes "Port") MemberPort ∷ member_entry (codes "Attribute") MemberAttribute ∷ [])

-- the word of an access standard
abbrev pub link_word : LinkKind → List ℕ
link_word Std2001 = codes "STD_1149_1_2001"
link_word Std2013 = codes "STD_1149_1_2013"

abbrev pub link_entry : LinkKind → Entry LinkKind
link_entry k = record { word = link_word k; meaning = k }

unfoldable pub link_named : List ℕ → Option LinkKind
link_named = found_in (link_entry Std2001 ∷ link_entry Std2013 ∷ [])
