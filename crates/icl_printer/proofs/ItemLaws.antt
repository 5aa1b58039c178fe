-- What comes after the word and the name of an item, printed and derived again.
use Rattle.std.proofs.Common.{◌≡◌, Bool, List, [], ◌∷◌, ◌++◌, map, Option, None, refl, sym, ap, subst}
use Rattle.std.specs.Prelude.{codes}
use Rattle.std.specs.Option.{option_map}
use Rattle.icl_lexer.specs.declared.tree.PortKind.{PortKind}
use Rattle.icl_lexer.specs.declared.words.BodyKind.{BodyKind}
use Rattle.icl_lexer.specs.declared.words.BodyKind.TheVariants.{ScanIn, ScanOut, DataIn, DataOut, Control}
use Rattle.icl_lexer.specs.declared.words.BodyKind.TheVariants.{Register, Alias}
use Rattle.icl_lexer.specs.Seen.{SeenToken}
use Rattle.icl_lexer.specs.Values.{SeenExpr, SeenRange, SeenSig, SeenProp, SeenRow, SeenWhat, APort}
use Rattle.icl_lexer.specs.Values.{ARegister, AMux, AnAlias, AParameter, AnAttribute}
use Rattle.icl_lexer.specs.Grammar.{value, AttributeSaid, attribute_said}
use Rattle.icl_lexer.specs.Modules.{owner_of, port_range, port, register, alias, parameter, attribute, row}
use Rattle.icl_lexer.specs.Modules.{rows, mux}
use Rattle.icl_printer.specs.Layout.{word, mark}
use Rattle.icl_printer.specs.Canonical.{in_turn, after, braced, if_there, formula_tokens, value_tokens}
use Rattle.icl_printer.specs.Canonical.{range_tokens, signals_tokens, property_tokens, row_tokens}
use Rattle.icl_printer.specs.Again.{spellings, AllSpelled, placeless_formula, placeless_value, placeless_span}
use Rattle.icl_printer.specs.Again.{placeless_row, placeless_meaning}
use Rattle.icl_printer.proofs.Printed.{Printed, Law, p_turn, p_last, p_give, p_mark, p_word, name_law, halves}
use Rattle.icl_printer.proofs.Loops.{appends, parted_law}
use Rattle.icl_printer.proofs.SignalLaws.{value_law, after_expr_law, maybe_expr_law, maybe_range_law, sig_law}
use Rattle.icl_printer.proofs.SignalLaws.{sigs_law}
use Rattle.icl_printer.proofs.BodyLaws.{body_law}
use Rattle.ij_text.specs.Places.{no_place}

-- ---- items with bodies

port_range_law : (owner : BodyKind)
    → Law (port_range owner) (option_map placeless_span) (if_there range_tokens)
port_range_law ScanIn ts r good h = subst (λ z. Printed (port_range ScanIn) (option_map placeless_span)
    (if_there range_tokens z) z) (sym h.1) (p_give None None refl)
port_range_law ScanOut ts r good h = subst (λ z. Printed (port_range ScanOut) (option_map placeless_span)
    (if_there range_tokens z) z) (sym h.1) (p_give None None refl)
port_range_law DataIn ts r good h = maybe_range_law ts r good h
port_range_law DataOut ts r good h = maybe_range_law ts r good h
port_range_law Control ts r good h = maybe_range_law ts r good h
port_range_law Register ts r good h = maybe_range_law ts r good h
port_range_law Alias ts r good h = maybe_range_law ts r good h

pub port_law : (kind : PortKind) (ts : List SeenToken) (m : SeenWhat)
    → AllSpelled (spellings ts) → (port kind).derives ts m
    → (r : Option SeenRange) × (ps : List SeenProp) × (m ≡ APort kind r ps) × (Printed (port kind)
    placeless_meaning (if_there range_tokens r ++ braced property_tokens ps) (APort kind r ps))
unfolding port
port_law kind ts m good h =
    let g1 = halves h.0 h.1 ts h.3 good in
    let h2 = h.5 in
    let g2 = halves h2.0 h2.1 h.1 h2.3 g1.1 in (
      h.2,
      h2.2,
      h2.5.1,
      p_turn (port_range_law (owner_of kind) h.0 h.2 g1.0 h.4)
          (λ r er. p_last (body_law (owner_of kind) h2.0 h2.2 g2.0 h2.4) (λ ps ep. cc (er, ep))),
    )

pub register_law : (ts : List SeenToken) (m : SeenWhat) → AllSpelled (spellings ts) → register.derives ts m
    → (r : Option SeenRange) × (ps : List SeenProp) × (m ≡ ARegister r ps) × (Printed register
    placeless_meaning (if_there range_tokens r ++ braced property_tokens ps) (ARegister r ps))
unfolding register
register_law ts m good h =
    let g1 = halves h.0 h.1 ts h.3 good in
    let h2 = h.5 in
    let g2 = halves h2.0 h2.1 h.1 h2.3 g1.1 in (
      h.2,
      h2.2,
      h2.5.1,
      p_turn (maybe_range_law h.0 h.2 g1.0 h.4)
          (λ r er. p_last (body_law Register h2.0 h2.2 g2.0 h2.4) (λ ps ep. cc (er, ep))),
    )

pub alias_law : (ts : List SeenToken) (m : SeenWhat) → AllSpelled (spellings ts) → alias.derives ts m
    → (r : Option SeenRange) × (ss : List SeenSig) × (ps : List SeenProp) × (m ≡ AnAlias r ss ps)
    × (Printed alias placeless_meaning (if_there range_tokens r
    ++ (mark 61 ∷ (signals_tokens ss ++ braced property_tokens ps))) (AnAlias r ss ps))
unfolding alias
alias_law ts m good h =
    let g1 = halves h.0 h.1 ts h.3 good in
    let h2 = h.5 in
    let g2 = halves h2.0 h2.1 h.1 h2.3 g1.1 in
    let h3 = h2.5 in
    let g3 = halves h3.0 h3.1 h2.1 h3.3 g2.1 in
    let h4 = h3.5 in
    let g4 = halves h4.0 h4.1 h3.1 h4.3 g3.1 in (
      h.2,
      h3.2,
      h4.2,
      h4.5.1,
      p_turn (maybe_range_law h.0 h.2 g1.0 h.4)
          (λ r er. p_turn (p_mark 61 no_place refl refl) (λ a ea. p_turn (sigs_law h3.0 h3.2 g3.0 h3.4)
          (λ ss es. p_last (body_law Alias h4.0 h4.2 g4.0 h4.4) (λ ps ep. cc (er, es, ep))))),
    )

-- ---- parameters and attributes

pub parameter_law : (local : Bool) (ts : List SeenToken) (m : SeenWhat)
    → AllSpelled (spellings ts) → (parameter local).derives ts m
    → (v : SeenExpr) × (m ≡ AParameter local v) × (Printed (parameter local) placeless_meaning
    (mark 61 ∷ (formula_tokens v ++ (mark 59 ∷ []))) (AParameter local v))
unfolding parameter
parameter_law local ts m good h =
    let g1 = halves h.0 h.1 ts h.3 good in (
      h.2,
      h.5.5.1,
      p_turn (after_expr_law 61 refl refl h.0 h.2 g1.0 h.4)
          (λ v ev. p_last (p_mark 59 no_place refl refl) (λ s es. ap (AParameter local) ev)),
    )

pub attribute_law : (ts : List SeenToken) (m : SeenWhat) → AllSpelled (spellings ts) → attribute.derives ts m
    → (v : Option SeenExpr) × (m ≡ AnAttribute v) × (Printed attribute placeless_meaning
    (if_there (after 61 formula_tokens) v ++ (mark 59 ∷ [])) (AnAttribute v))
unfolding attribute
attribute_law ts m good h =
    let g1 = halves h.0 h.1 ts h.3 good in (
      h.2,
      h.5.5.1,
      p_turn (maybe_expr_law 61 refl refl h.0 h.2 g1.0 h.4)
          (λ v ev. p_last (p_mark 59 no_place refl refl) (λ s es. ap AnAttribute ev)),
    )

-- ---- multiplexers

row_law : Law row placeless_row row_tokens
unfolding row
row_law ts r good h =
    let g1 = halves h.0 h.1 ts h.3 good in
    let h2 = h.5 in
    let g2 = halves h2.0 h2.1 h.1 h2.3 g1.1 in
    let h3 = h2.5 in
    let g3 = halves h3.0 h3.1 h2.1 h3.3 g2.1 in
    subst (λ z. Printed row placeless_row (row_tokens z) z) (sym h3.5.5.1)
    (p_turn (parted_law 124 value placeless_value value_tokens refl refl value_law h.0 h.2 g1.0 h.4)
    (λ vs ev. p_turn (p_mark 58 no_place refl refl) (λ c ec. p_turn (sig_law h3.0 h3.2 g3.0 h3.4)
    (λ s es. p_last (p_mark 59 no_place refl refl) (λ e ee. cc (ev, es))))))

rows_law : Law rows (map placeless_row) (in_turn row_tokens)
unfolding rows
rows_law ts rs good h =
    let g = halves h.0 h.1 ts h.3 good in
    let k = appends row placeless_row row_tokens row_law h.5.0 h.1 (h.2 ∷ []) rs g.1 h.5.1 in
    subst (λ (xs : List SeenRow). Printed rows (map placeless_row) (in_turn row_tokens xs) rs) (sym k.is)
    (p_turn (row_law h.0 h.2 g.0 h.4) (λ r er. k.printed (r ∷ []) (ap (λ z. z ∷ []) er)))

pub mux_law : (ts : List SeenToken) (m : SeenWhat) → AllSpelled (spellings ts) → mux.derives ts m
    → (ss : List SeenSig) × (rs : List SeenRow) × (m ≡ AMux ss rs)
    × (Printed mux placeless_meaning (word (codes "SelectedBy")
    ∷ (signals_tokens ss ++ (mark 123 ∷ (in_turn row_tokens rs ++ (mark 125 ∷ []))))) (AMux ss rs))
unfolding mux
mux_law ts m good h =
    let g1 = halves h.0 h.1 ts h.3 good in
    let h2 = h.5 in
    let g2 = halves h2.0 h2.1 h.1 h2.3 g1.1 in
    let h3 = h2.5 in
    let g3 = halves h3.0 h3.1 h2.1 h3.3 g2.1 in
    let h4 = h3.5 in
    let g4 = halves h4.0 h4.1 h3.1 h4.3 g3.1 in (
      h2.2,
      h4.2,
      h4.5.5.1,
      p_turn (p_word (codes "SelectedBy") no_place refl refl)
          (λ a ea. p_turn (sigs_law h2.0 h2.2 g2.0 h2.4)
          (λ ss es. p_turn (p_mark 123 no_place refl refl) (λ o eo. p_turn (rows_law h4.0 h4.2 g4.0 h4.4)
          (λ xs ex. p_last (p_mark 125 no_place refl refl) (λ c ec. cc (es, ex)))))),
    )

-- ---- instances

pub attribute_said_law : (ts : List SeenToken) (a : AttributeSaid)
    → AllSpelled (spellings ts) → attribute_said.derives ts a
    → Printed attribute_said (λ z.
    let b : AttributeSaid = record { name = z.name; value = option_map placeless_formula z.value } in
    b) (word a.name ∷ if_there (after 61 formula_tokens) a.value) a
unfolding attribute_said
attribute_said_law ts a good h =
    let g1 = halves h.0 h.1 ts h.3 good in
    let h2 = h.5 in
    let g2 = halves h2.0 h2.1 h.1 h2.3 g1.1 in
    subst (λ z. Printed attribute_said (λ z.
    let b : AttributeSaid = record { name = z.name; value = option_map placeless_formula z.value } in
    b) (word z.name ∷ if_there (after 61 formula_tokens) z.value) z) (sym h2.5.1)
    (p_turn (name_law h.0 h.2 g1.0 h.4)
    (λ n en. p_last (maybe_expr_law 61 refl refl h2.0 h2.2 g2.0 h2.4) (λ v ev. cc (en, ev))))
