-- What each function of the parser reads: the readers of the productions, put together as the productions
-- are.
use Rattle.std.specs.Prelude.{ℕ, Bool, true, false, List, [], ◌∷◌, length, Option, Some, None, Result, Err}
use Rattle.std.specs.Prelude.{codes}
use Rattle.ij_text.specs.Reading.{Stop as Unfit, ended, read_one, read_in_turn, read_either, read_repeat}
use Rattle.ij_text.specs.declared.Place.{Place}
use Rattle.icl_lexer.specs.declared.tree.LinkKind.{LinkKind}
use Rattle.icl_lexer.specs.declared.tree.PortKind.{PortKind}
use Rattle.icl_lexer.specs.declared.words.Limit.{Limit}
use Rattle.icl_lexer.specs.declared.words.ItemKeyword.{ItemKeyword}
use Rattle.icl_lexer.specs.declared.words.ItemKeyword.TheVariants.{OfPort, OfRegister, OfMux, OfChild}
use Rattle.icl_lexer.specs.declared.words.ItemKeyword.TheVariants.{OfAlias, OfEnum, OfParameter, OfAttribute}
use Rattle.icl_lexer.specs.declared.words.ItemKeyword.TheVariants.{OfInterface, OfLink}
use Rattle.icl_lexer.specs.declared.words.BindKeyword.{BindKeyword}
use Rattle.icl_lexer.specs.declared.words.BindKeyword.TheVariants.{BindsPort, BindsParameter, BindsAttribute}
use Rattle.icl_lexer.specs.declared.words.MemberKeyword.{MemberKeyword}
use Rattle.icl_lexer.specs.declared.words.MemberKeyword.TheVariants.{MemberPort, MemberAttribute}
use Rattle.icl_lexer.specs.declared.words.BodyKind.{BodyKind}
use Rattle.icl_lexer.specs.declared.words.BodyKind.TheVariants.{ScanIn, ScanOut, DataIn, DataOut, Control}
use Rattle.icl_lexer.specs.declared.words.BodyKind.TheVariants.{Register, Alias}
use Rattle.icl_lexer.specs.declared.words.PropKeyword.{PropKeyword}
use Rattle.icl_lexer.specs.declared.words.PropKeyword.TheVariants.{Source, LaunchEdge, DefaultLoadValue}
use Rattle.icl_lexer.specs.declared.words.PropKeyword.TheVariants.{RefEnum, ActivePolarity, ScanInSource}
use Rattle.icl_lexer.specs.declared.words.PropKeyword.TheVariants.{CaptureSource, ResetValue, AccessTogether}
use Rattle.icl_lexer.specs.declared.words.PropKeyword.TheVariants.{Attribute}
use Rattle.icl_lexer.specs.Seen.{SeenToken, is_mark}
use Rattle.ij_text.specs.Symbol.{appended}
use Rattle.icl_lexer.specs.Values.{SeenExpr, SeenRange, SeenSig, SeenProp, ASource, ALaunchEdge, ALoadValue}
use Rattle.icl_lexer.specs.Values.{ARefEnum, APolarity, AScanInSource, ACaptureSource, AResetValue, ATogether}
use Rattle.icl_lexer.specs.Values.{SeenRow, SeenBind, ABoundPort, ABoundParameter, ABoundAttribute}
use Rattle.icl_lexer.specs.Values.{SeenEnumWord, SeenLinkInstr, SeenWhat, APort, ARegister, AMux, AChild}
use Rattle.icl_lexer.specs.Values.{AnAlias, SomeWords, AParameter, AnInterface, ALink, AnAttribute, SeenItem}
use Rattle.icl_lexer.specs.Values.{SeenModule}
use Rattle.icl_lexer.specs.Grammar.{free_prop_at, AttributeSaid, with_property, lacks}
use Rattle.icl_lexer.specs.Modules.{owner_of, BindBegin, bind_begin_at, member_word_at, with_member, Selected}
use Rattle.icl_lexer.specs.Modules.{link_kind_at, ItemBegin, item_begin_at}
use Rattle.icl_expressions.specs.Reading.{Reading, no_close, any, gives, read_mark, read_word, read_name}
use Rattle.icl_expressions.specs.Reading.{read_ended, read_maybe, read_parted, read_many, read_braced}
use Rattle.icl_expressions.specs.Reading.{read_value, read_expr_after, read_range, read_sig, read_sigs}
use Rattle.icl_expressions.specs.Reading.{read_decimal}

-- ---- properties and bodies

unfoldable pub read_attribute_said : Reading AttributeSaid
read_attribute_said = read_in_turn read_name
    (λ n. read_in_turn (read_maybe 61 (read_expr_after 61)) (λ v. gives (record { name = n; value = v })))

abbrev pub read_one_sig : Reading (List SeenSig)
read_one_sig = read_in_turn read_sig (λ s. gives (s ∷ []))

abbrev pub read_sources : BodyKind → Reading (List SeenSig)
read_sources ScanOut = read_one_sig
read_sources ScanIn = read_sigs
read_sources DataIn = read_sigs
read_sources DataOut = read_sigs
read_sources Control = read_sigs
read_sources Register = read_sigs
read_sources Alias = read_sigs

abbrev pub read_some : {A : Type 0} → Reading A → (A → SeenProp) → Reading (Option SeenProp)
read_some r make = read_in_turn r (λ a. gives (Some (make a)))

unfoldable pub read_prop_after : BodyKind → PropKeyword → Reading (Option SeenProp)
read_prop_after owner Source = read_some (read_sources owner) ASource
read_prop_after owner LaunchEdge = read_some read_name ALaunchEdge
read_prop_after owner DefaultLoadValue = read_some read_value ALoadValue
read_prop_after owner RefEnum = read_some read_name ARefEnum
read_prop_after owner ActivePolarity = read_some read_decimal APolarity
read_prop_after owner ScanInSource = read_some read_sig AScanInSource
read_prop_after owner CaptureSource = read_some read_sigs ACaptureSource
read_prop_after owner ResetValue = read_some read_value AResetValue
read_prop_after owner AccessTogether = gives (Some ATogether)
read_prop_after owner Attribute = read_in_turn read_attribute_said (λ a. gives None)

abbrev pub read_free_prop : BodyKind → List SeenProp → Reading PropKeyword
read_free_prop owner ps = read_one (free_prop_at owner ps)

unfoldable pub read_property : BodyKind → List SeenProp → Reading (Option SeenProp)
read_property owner ps = read_in_turn (read_free_prop owner ps) (λ w. read_ended 59 (read_prop_after owner w))

unfoldable pub read_properties : BodyKind → Reading (List SeenProp)
read_properties owner = read_repeat no_close (read_property owner) with_property []

-- reads nothing, where something lacks
abbrev pub read_unless : {A : Type 0} → Bool → Reading A → Reading A
read_unless true r ts = Err (length ts, None)
read_unless false r ts = r ts

unfoldable pub read_body_end : BodyKind → List SeenProp → ℕ → Reading (List SeenProp)
read_body_end owner ps c = read_unless (lacks owner ps) (read_in_turn (read_mark c) (λ e. gives ps))

unfoldable pub read_braced_body : BodyKind → Reading (List SeenProp)
read_braced_body owner = read_in_turn (read_mark 123)
    (λ o. read_in_turn (read_properties owner) (λ ps. read_body_end owner ps 125))

unfoldable pub read_body : BodyKind → Reading (List SeenProp)
read_body owner = read_either (is_mark 59) (read_body_end owner [] 59) (read_braced_body owner)

-- ---- items

abbrev pub read_port_range : BodyKind → Reading (Option SeenRange)
read_port_range ScanIn = gives None
read_port_range ScanOut = gives None
read_port_range DataIn = read_maybe 91 read_range
read_port_range DataOut = read_maybe 91 read_range
read_port_range Control = read_maybe 91 read_range
read_port_range Register = read_maybe 91 read_range
read_port_range Alias = read_maybe 91 read_range

unfoldable pub read_port : PortKind → Reading SeenWhat
read_port kind = read_in_turn (read_port_range (owner_of kind))
    (λ r. read_in_turn (read_body (owner_of kind)) (λ ps. gives (APort kind r ps)))

unfoldable pub read_register : Reading SeenWhat
read_register = read_in_turn (read_maybe 91 read_range)
    (λ r. read_in_turn (read_body Register) (λ ps. gives (ARegister r ps)))

unfoldable pub read_alias : Reading SeenWhat
read_alias = read_in_turn (read_maybe 91 read_range) (λ r. read_in_turn (read_mark 61)
    (λ e. read_in_turn read_sigs (λ ss. read_in_turn (read_body Alias) (λ ps. gives (AnAlias r ss ps)))))

unfoldable pub read_parameter : Bool → Reading SeenWhat
read_parameter local =
    read_in_turn (read_expr_after 61) (λ v. read_in_turn (read_mark 59) (λ s. gives (AParameter local v)))

unfoldable pub read_attribute : Reading SeenWhat
read_attribute = read_in_turn (read_maybe 61 (read_expr_after 61))
    (λ v. read_in_turn (read_mark 59) (λ s. gives (AnAttribute v)))

unfoldable pub read_values : Reading (List (List SeenExpr))
read_values = read_parted 124 read_value

unfoldable pub read_row : Reading SeenRow
read_row = read_in_turn read_values (λ vs. read_in_turn (read_mark 58) (λ c. read_in_turn read_sig
    (λ s. read_in_turn (read_mark 59) (λ e. gives (record { values = vs; source = s })))))

unfoldable pub read_rows : Reading (List SeenRow)
read_rows = read_in_turn read_row
    (λ first. read_repeat no_close (λ (rs : List SeenRow). read_row) appended (first ∷ []))

unfoldable pub read_mux : Reading SeenWhat
read_mux = read_in_turn (read_word (codes "SelectedBy"))
    (λ by. read_in_turn read_sigs (λ ss. read_in_turn (read_mark 123)
    (λ o. read_in_turn read_rows (λ rows. read_in_turn (read_mark 125) (λ c. gives (AMux ss rows))))))

unfoldable pub read_bound_port : Place → Reading SeenBind
read_bound_port at = read_in_turn read_name (λ n. read_in_turn (read_maybe 91 read_range)
    (λ r. read_in_turn (read_mark 61) (λ e. read_in_turn read_sigs (λ ss. gives (ABoundPort at n r ss)))))

unfoldable pub read_bound_parameter : Place → Reading SeenBind
read_bound_parameter at =
    read_in_turn read_name (λ n. read_in_turn (read_expr_after 61) (λ v. gives (ABoundParameter at n v)))

unfoldable pub read_bound_attribute : Reading SeenBind
read_bound_attribute = read_in_turn read_attribute_said (λ a. gives (ABoundAttribute a.name a.value))

abbrev pub read_bind_after : Place → BindKeyword → Reading SeenBind
read_bind_after at BindsPort = read_bound_port at
read_bind_after at BindsParameter = read_bound_parameter at
read_bind_after at BindsAttribute = read_bound_attribute

abbrev pub read_bind_begin : Reading BindBegin
read_bind_begin = read_one bind_begin_at

unfoldable pub read_bind : Reading SeenBind
read_bind = read_in_turn read_bind_begin (λ b. read_ended 59 (read_bind_after b.at b.word))

unfoldable pub read_many_binds : Reading (List SeenBind)
read_many_binds = read_many read_bind

unfoldable pub read_braced_binds : Reading (List SeenBind)
read_braced_binds = read_braced read_many_binds

unfoldable pub read_binds : Reading (List SeenBind)
read_binds = read_either (is_mark 59) (read_in_turn (read_mark 59) (λ e. gives [])) read_braced_binds

unfoldable pub read_child : Reading SeenWhat
read_child = read_in_turn (read_word (codes "Of"))
    (λ of. read_in_turn read_name (λ m. read_in_turn read_binds (λ bs. gives (AChild m bs))))

unfoldable pub read_enum_word : Reading SeenEnumWord
read_enum_word = read_in_turn read_name (λ n. read_in_turn (read_mark 61) (λ e. read_in_turn read_value
    (λ v. read_in_turn (read_mark 59) (λ s. gives (record { name = n; value = v })))))

unfoldable pub read_many_words : Reading (List SeenEnumWord)
read_many_words = read_many read_enum_word

unfoldable pub read_enum : Reading SeenWhat
read_enum = read_in_turn (read_braced read_many_words) (λ ws. gives (SomeWords ws))

abbrev pub read_member_after : MemberKeyword → Reading (Option (List ℕ))
read_member_after MemberPort = read_in_turn read_name (λ n. gives (Some n))
read_member_after MemberAttribute = read_in_turn read_attribute_said (λ a. gives None)

abbrev pub read_member_word : Reading MemberKeyword
read_member_word = read_one member_word_at

unfoldable pub read_member : Reading (Option (List ℕ))
read_member = read_in_turn read_member_word (λ w. read_ended 59 (read_member_after w))

unfoldable pub read_members : Reading (List (List ℕ))
read_members = read_repeat no_close (λ (ns : List (List ℕ)). read_member) with_member []

unfoldable pub read_interface : Reading SeenWhat
read_interface = read_in_turn (read_mark 123)
    (λ o. read_in_turn read_members (λ ps. read_in_turn (read_mark 125) (λ c. gives (AnInterface ps))))

unfoldable pub read_selected : Reading Selected
read_selected = read_in_turn read_name (λ cell. read_in_turn (read_mark 46) (λ d. read_in_turn read_name
    (λ i. read_in_turn (read_mark 59) (λ s. gives (record { cell = cell; interface = i })))))

unfoldable pub read_selecting : Reading Selected
read_selecting = read_in_turn (read_word (codes "ScanInterface")) (λ w. read_in_turn (read_mark 123)
    (λ o. read_in_turn read_selected (λ s. read_in_turn (read_mark 125) (λ c. gives s))))

unfoldable pub read_instruction : Reading SeenLinkInstr
read_instruction = read_in_turn read_name
    (λ n. read_in_turn (read_mark 123) (λ o. read_in_turn read_selecting (λ s. read_in_turn (read_mark 125)
    (λ c. gives (record { name = n; cell = s.cell; interface = s.interface })))))

unfoldable pub read_instructions : Reading (List SeenLinkInstr)
read_instructions = read_many read_instruction

unfoldable pub read_entity : Reading (List ℕ)
read_entity = read_in_turn (read_word (codes "BSDLEntity"))
    (λ w. read_in_turn read_name (λ n. read_in_turn (read_mark 59) (λ s. gives n)))

abbrev pub read_link_kind : Reading LinkKind
read_link_kind = read_one link_kind_at

unfoldable pub read_link : Reading SeenWhat
read_link = read_in_turn (read_word (codes "Of"))
    (λ of. read_in_turn read_link_kind (λ k. read_in_turn (read_mark 123) (λ o. read_in_turn read_entity
    (λ e. read_in_turn read_instructions (λ is. read_in_turn (read_mark 125) (λ c. gives (ALink k e is)))))))

unfoldable pub read_meaning_after : ItemKeyword → Reading SeenWhat
read_meaning_after (OfPort kind) = read_port kind
read_meaning_after OfRegister = read_register
read_meaning_after OfMux = read_mux
read_meaning_after OfChild = read_child
read_meaning_after OfAlias = read_alias
read_meaning_after OfEnum = read_enum
read_meaning_after (OfParameter local) = read_parameter local
read_meaning_after OfAttribute = read_attribute
read_meaning_after OfInterface = read_interface
read_meaning_after OfLink = read_link

abbrev pub read_item_begin : Reading ItemBegin
read_item_begin = read_one item_begin_at

unfoldable pub read_item : Reading SeenItem
read_item = read_in_turn read_item_begin (λ b. read_in_turn read_name
    (λ n. read_in_turn (read_meaning_after b.word) (λ m. gives (record { at = b.at; name = n; what = m }))))

unfoldable pub read_items : Reading (List SeenItem)
read_items = read_many read_item

unfoldable pub read_module : Reading SeenModule
read_module = read_in_turn (read_word (codes "Module")) (λ at. read_in_turn read_name (λ n. read_in_turn
    (read_braced read_items) (λ items. gives (record { name = n; at = at; items = items }))))

unfoldable pub read_design : Reading (List SeenModule)
read_design = read_repeat any (λ (bs : List SeenModule). read_module) appended []

unfoldable pub whole_design : List SeenToken → Result (List SeenModule) (Unfit Limit)
whole_design ts = ended (read_design ts)
