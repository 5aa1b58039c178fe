-- The value of each tree.
use Rattle.std.specs.Prelude.{ℕ, List, map}
use Rattle.std.specs.Option.{option_map}
use Rattle.ij_bits.specs.Room.{seen_list}
use Rattle.icl_lexer.specs.Held.{Items}
use Rattle.icl_lexer.specs.declared.tree.Expr.{Expr}
use Rattle.icl_lexer.specs.declared.tree.Expr.TheVariants.{Decimal, Sized, Quoted, Param, Op'}
use Rattle.icl_lexer.specs.declared.tree.Range.{Range}
use Rattle.icl_lexer.specs.declared.tree.Sig.{Sig}
use Rattle.icl_lexer.specs.declared.tree.SigWhat.{SigWhat}
use Rattle.icl_lexer.specs.declared.tree.SigWhat.TheVariants.{Value, Named}
use Rattle.icl_lexer.specs.declared.tree.Prop.{Prop}
use Rattle.icl_lexer.specs.declared.tree.Prop.TheVariants.{Source, LaunchEdge, DefaultLoadValue, RefEnum}
use Rattle.icl_lexer.specs.declared.tree.Prop.TheVariants.{ActivePolarity, ScanInSource, CaptureSource}
use Rattle.icl_lexer.specs.declared.tree.Prop.TheVariants.{ResetValue, AccessTogether}
use Rattle.icl_lexer.specs.declared.tree.MuxRow.{MuxRow}
use Rattle.icl_lexer.specs.declared.tree.Bind.{Bind}
use Rattle.icl_lexer.specs.declared.tree.Bind.TheVariants.{Port as BindPort, Parameter as BindParameter}
use Rattle.icl_lexer.specs.declared.tree.Bind.TheVariants.{Attribute as BindAttribute}
use Rattle.icl_lexer.specs.declared.tree.EnumWord.{EnumWord}
use Rattle.icl_lexer.specs.declared.tree.LinkInstr.{LinkInstr}
use Rattle.icl_lexer.specs.declared.tree.What.{What}
use Rattle.icl_lexer.specs.declared.tree.What.TheVariants.{Port, Register, Mux, Child, Alias, Words}
use Rattle.icl_lexer.specs.declared.tree.What.TheVariants.{Parameter, Interface, Link, Attribute}
use Rattle.icl_lexer.specs.declared.tree.Item.{Item}
use Rattle.icl_lexer.specs.declared.tree.Module.{Module}
use Rattle.icl_lexer.specs.declared.tree.Design.{Design}
use Rattle.icl_lexer.specs.Values.{SeenExpr, ADecimal, ASized, AQuoted, AParam, AnOp, SeenRange, SeenSigWhat}
use Rattle.icl_lexer.specs.Values.{ANumber, APath, SeenSig, SeenProp, ASource, ALaunchEdge, ALoadValue}
use Rattle.icl_lexer.specs.Values.{ARefEnum, APolarity, AScanInSource, ACaptureSource, AResetValue, ATogether}
use Rattle.icl_lexer.specs.Values.{SeenRow, SeenBind, ABoundPort, ABoundParameter, ABoundAttribute}
use Rattle.icl_lexer.specs.Values.{SeenEnumWord, SeenLinkInstr, SeenWhat, APort, ARegister, AMux, AChild}
use Rattle.icl_lexer.specs.Values.{AnAlias, SomeWords, AParameter, AnInterface, ALink, AnAttribute, SeenItem}
use Rattle.icl_lexer.specs.Values.{SeenModule}

abbrev pub seen_few : {X Y : Type 0} → (X → Y) → Items X → List Y
seen_few view xs = map view xs.items

abbrev pub bytes_of : Items ℕ → List ℕ
bytes_of text = text.items

abbrev pub seen_expr : Expr → SeenExpr
seen_expr (Decimal n) = ADecimal n
seen_expr (Sized text) = ASized text.items
seen_expr (Quoted text) = AQuoted text.items
seen_expr (Param at name) = AParam at name.items
seen_expr (Op' at sign p a q b) = AnOp at sign (seen_expr a) (seen_expr b)

abbrev pub seen_range : Range → SeenRange
seen_range r =
    record { at = r.at; left = seen_expr r.ends.value.left; right = option_map seen_expr r.ends.value.right }

abbrev pub seen_sig_what : SigWhat → SeenSigWhat
seen_sig_what (Value e) = ANumber (seen_expr e)
seen_sig_what (Named path range) = APath (seen_few bytes_of path) (option_map seen_range range)

abbrev pub seen_sig : Sig → SeenSig
seen_sig s = record { at = s.at; inverted = s.inverted; what = seen_sig_what s.what }

abbrev pub seen_prop : Prop → SeenProp
seen_prop (Source sigs) = ASource (seen_list seen_sig sigs)
seen_prop (LaunchEdge edge) = ALaunchEdge edge.items
seen_prop (DefaultLoadValue value) = ALoadValue (seen_few seen_expr value)
seen_prop (RefEnum name) = ARefEnum name.items
seen_prop (ActivePolarity n) = APolarity n
seen_prop (ScanInSource sig) = AScanInSource (seen_sig sig)
seen_prop (CaptureSource sigs) = ACaptureSource (seen_list seen_sig sigs)
seen_prop (ResetValue value) = AResetValue (seen_few seen_expr value)
seen_prop AccessTogether = ATogether

abbrev pub seen_row : MuxRow → SeenRow
seen_row r = record { values = seen_few (seen_few seen_expr) r.values; source = seen_sig r.source }

abbrev pub seen_bind : Bind → SeenBind
seen_bind (BindPort at name range sigs) =
    ABoundPort at name.items (option_map seen_range range) (seen_list seen_sig sigs)
seen_bind (BindParameter at name value) = ABoundParameter at name.items (seen_expr value)
seen_bind (BindAttribute name value) = ABoundAttribute name.items (option_map seen_expr value)

abbrev pub seen_enum_word : EnumWord → SeenEnumWord
seen_enum_word w = record { name = w.name.items; value = seen_few seen_expr w.value }

abbrev pub seen_instr : LinkInstr → SeenLinkInstr
seen_instr i = record { name = i.name.items; cell = i.cell.items; interface = i.interface.items }

abbrev pub seen_what : What → SeenWhat
seen_what (Port kind range props) = APort kind (option_map seen_range range) (seen_list seen_prop props)
seen_what (Register range props) = ARegister (option_map seen_range range) (seen_list seen_prop props)
seen_what (Mux select rows) = AMux (seen_list seen_sig select) (seen_list seen_row rows)
seen_what (Child module' binds) = AChild module'.items (seen_list seen_bind binds)
seen_what (Alias range sigs props) =
    AnAlias (option_map seen_range range) (seen_list seen_sig sigs) (seen_list seen_prop props)
seen_what (Words words) = SomeWords (seen_list seen_enum_word words)
seen_what (Parameter local value) = AParameter local (seen_expr value)
seen_what (Interface ports) = AnInterface (seen_list bytes_of ports)
seen_what (Link kind entity instrs) = ALink kind entity.items (seen_list seen_instr instrs)
seen_what (Attribute value) = AnAttribute (option_map seen_expr value)

abbrev pub seen_item : Item → SeenItem
seen_item i = record { at = i.at; name = i.name.items; what = seen_what i.what }

abbrev pub seen_module : Module → SeenModule
seen_module m = record { name = m.name.items; at = m.at; items = seen_list seen_item m.items }

abbrev pub seen_design : Design → List SeenModule
seen_design d = seen_list seen_module d.modules
