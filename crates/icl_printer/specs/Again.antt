-- What is printed is read again as the same design, places aside.
use Rattle.std.specs.Prelude.{◌≡◌, ℕ, List, [], ◌∷◌, map, Some}
use Rattle.std.specs.Option.{option_map}
use Rattle.icl_lexer.specs.Token.{Token}
use Rattle.icl_lexer.specs.declared.token.PieceKind.TheVariants.{Is}
use Rattle.icl_lexer.specs.Pieces.{kind_of}
use Rattle.icl_lexer.specs.Cutting.{AreTokens}
use Rattle.icl_lexer.specs.Seen.{SeenToken, seen_tokens}
use Rattle.icl_lexer.specs.Values.{SeenExpr, ADecimal, ASized, AQuoted, AParam, AnOp, SeenRange, SeenSigWhat}
use Rattle.icl_lexer.specs.Values.{ANumber, APath, SeenSig, SeenProp, ASource, ALaunchEdge, ALoadValue}
use Rattle.icl_lexer.specs.Values.{ARefEnum, APolarity, AScanInSource, ACaptureSource, AResetValue, ATogether}
use Rattle.icl_lexer.specs.Values.{SeenRow, SeenBind, ABoundPort, ABoundParameter, ABoundAttribute}
use Rattle.icl_lexer.specs.Values.{SeenEnumWord, SeenWhat, APort, ARegister, AMux, AChild, AnAlias, SomeWords}
use Rattle.icl_lexer.specs.Values.{AParameter, AnInterface, ALink, AnAttribute, SeenItem, SeenModule}
use Rattle.icl_lexer.specs.Modules.{design}
use Rattle.icl_printer.specs.Layout.{Spelling}
use Rattle.icl_printer.specs.Canonical.{tokens_of, design_text}
use Rattle.ij_text.specs.Places.{no_place}

-- ---- tokens without their places

abbrev pub spelling_of : SeenToken → Spelling
spelling_of t = record { kind = t.kind; text = t.text }

abbrev pub spellings : List SeenToken → List Spelling
spellings ts = map spelling_of ts

-- the text is a piece of this kind
abbrev pub IsSpelled : Spelling → Type 0
IsSpelled s = kind_of s.text ≡ Some (Is s.kind)

abbrev pub AllSpelled : List Spelling → Type 0
AllSpelled [] = Unit {0}
AllSpelled (s ∷ ss) = (IsSpelled s) × (AllSpelled ss)

-- ---- designs without their places

abbrev pub placeless_formula : SeenExpr → SeenExpr
placeless_formula (ADecimal n) = ADecimal n
placeless_formula (ASized t) = ASized t
placeless_formula (AQuoted t) = AQuoted t
placeless_formula (AParam at n) = AParam no_place n
placeless_formula (AnOp at sign a b) = AnOp no_place sign (placeless_formula a) (placeless_formula b)

abbrev pub placeless_value : List SeenExpr → List SeenExpr
placeless_value = map placeless_formula

abbrev pub placeless_span : SeenRange → SeenRange
placeless_span r =
    record { at = no_place; left = placeless_formula r.left; right = option_map placeless_formula r.right }

abbrev pub placeless_meant : SeenSigWhat → SeenSigWhat
placeless_meant (ANumber f) = ANumber (placeless_formula f)
placeless_meant (APath path r) = APath path (option_map placeless_span r)

abbrev pub placeless_signal : SeenSig → SeenSig
placeless_signal s = record { at = no_place; inverted = s.inverted; what = placeless_meant s.what }

abbrev pub placeless_signals : List SeenSig → List SeenSig
placeless_signals = map placeless_signal

abbrev pub placeless_property : SeenProp → SeenProp
placeless_property (ASource ss) = ASource (placeless_signals ss)
placeless_property (ALaunchEdge w) = ALaunchEdge w
placeless_property (ALoadValue v) = ALoadValue (placeless_value v)
placeless_property (ARefEnum n) = ARefEnum n
placeless_property (APolarity n) = APolarity n
placeless_property (AScanInSource s) = AScanInSource (placeless_signal s)
placeless_property (ACaptureSource ss) = ACaptureSource (placeless_signals ss)
placeless_property (AResetValue v) = AResetValue (placeless_value v)
placeless_property ATogether = ATogether

abbrev pub placeless_row : SeenRow → SeenRow
placeless_row r = record { values = map placeless_value r.values; source = placeless_signal r.source }

abbrev pub placeless_binding : SeenBind → SeenBind
placeless_binding (ABoundPort at n r ss) =
    ABoundPort no_place n (option_map placeless_span r) (placeless_signals ss)
placeless_binding (ABoundParameter at n v) = ABoundParameter no_place n (placeless_formula v)
placeless_binding (ABoundAttribute n v) = ABoundAttribute n (option_map placeless_formula v)

abbrev pub placeless_word : SeenEnumWord → SeenEnumWord
placeless_word w = record { name = w.name; value = placeless_value w.value }

abbrev pub placeless_meaning : SeenWhat → SeenWhat
placeless_meaning (APort k r ps) = APort k (option_map placeless_span r) (map placeless_property ps)
placeless_meaning (ARegister r ps) = ARegister (option_map placeless_span r) (map placeless_property ps)
placeless_meaning (AMux ss rs) = AMux (placeless_signals ss) (map placeless_row rs)
placeless_meaning (AChild m bs) = AChild m (map placeless_binding bs)
placeless_meaning (AnAlias r ss ps) =
    AnAlias (option_map placeless_span r) (placeless_signals ss) (map placeless_property ps)
placeless_meaning (SomeWords ws) = SomeWords (map placeless_word ws)
placeless_meaning (AParameter local v) = AParameter local (placeless_formula v)
placeless_meaning (AnInterface ps) = AnInterface ps
placeless_meaning (ALink k entity is) = ALink k entity is
placeless_meaning (AnAttribute v) = AnAttribute (option_map placeless_formula v)

abbrev pub placeless_thing : SeenItem → SeenItem
placeless_thing t = record { at = no_place; name = t.name; what = placeless_meaning t.what }

abbrev pub placeless_block : SeenModule → SeenModule
placeless_block m = record { name = m.name; at = no_place; items = map placeless_thing m.items }

unfoldable pub placeless_design : List SeenModule → List SeenModule
placeless_design d = map placeless_block d

-- ---- the laws

-- a design that some tokens derive is derived, places aside, by the tokens that it is printed with
abbrev pub PrintedTokensDeriveIt : Type 0
PrintedTokensDeriveIt =
    (read printed : List SeenToken) (d : List SeenModule) → AllSpelled (spellings read)
    → design.derives read d → spellings printed ≡ tokens_of d
    → (again : List SeenModule) × (design.derives printed again)
    × (placeless_design again ≡ placeless_design d)

-- a design that was read is read again from the text that is printed of it, places aside
abbrev pub DesignsAreReadAgain : Type 0
DesignsAreReadAgain =
    (src : List ℕ) (tokens : List Token) (d : List SeenModule) → AreTokens src tokens
    → design.derives (seen_tokens src tokens) d
    → (printed : List Token) × (again : List SeenModule) × (AreTokens (design_text d) printed)
    × (design.derives (seen_tokens (design_text d) printed) again)
    × (placeless_design again ≡ placeless_design d)
