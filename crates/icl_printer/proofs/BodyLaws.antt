-- Properties and bodies that are printed, derived again.
use Rattle.std.proofs.Common.{◌≡◌, ◌==◌, ◌≤◌, ℕ, Bool, true, false, not, cond, List, [], ◌∷◌, ◌++◌, map}
use Rattle.std.proofs.Common.{Option, Some, None, refl, sym, ap, ◌∙◌, subst, append-nil, inl, inr, decimal}
use Rattle.std.specs.Prelude.{◌&&◌}
use Rattle.std.specs.Option.{option_map}
use Rattle.ij_text.specs.Symbol.{one, ◌>>=◌, give, none, repeat}
use Rattle.icl_lexer.specs.declared.token.TokenKind.{TokenKind}
use Rattle.icl_lexer.specs.declared.token.TokenKind.TheVariants.{Word, Decimal, Sized, Quoted, Param, Mark}
use Rattle.icl_lexer.specs.declared.words.BodyKind.{BodyKind}
use Rattle.icl_lexer.specs.declared.words.BodyKind.TheVariants.{ScanIn, ScanOut, DataIn, DataOut, Control}
use Rattle.icl_lexer.specs.declared.words.BodyKind.TheVariants.{Register, Alias}
use Rattle.icl_lexer.specs.declared.words.PropKeyword.{PropKeyword}
use Rattle.icl_lexer.specs.declared.words.PropKeyword.TheVariants.{Source, LaunchEdge, DefaultLoadValue}
use Rattle.icl_lexer.specs.declared.words.PropKeyword.TheVariants.{RefEnum, ActivePolarity, ScanInSource}
use Rattle.icl_lexer.specs.declared.words.PropKeyword.TheVariants.{CaptureSource, ResetValue, AccessTogether}
use Rattle.icl_lexer.specs.declared.words.PropKeyword.TheVariants.{Attribute}
use Rattle.ij_text.specs.Numbers.{decimal_from}
use Rattle.icl_lexer.specs.Seen.{SeenToken}
use Rattle.icl_lexer.specs.Tokens.{decimal_at}
use Rattle.icl_lexer.specs.Words.{prop_word, prop_named}
use Rattle.icl_lexer.specs.Values.{SeenProp, ASource, ALaunchEdge, ALoadValue, ARefEnum, APolarity}
use Rattle.icl_lexer.specs.Values.{AScanInSource, ACaptureSource, AResetValue, ATogether}
use Rattle.icl_lexer.specs.Grammar.{Of, name, value, sig, sigs, sources, prop_after, property, with_property}
use Rattle.icl_lexer.specs.Grammar.{body, body_end, lacks, takes, stands, is_prop, free_word, free_prop_at}
use Rattle.icl_lexer.specs.Grammar.{prop_word_at, decimal_token, mark as a_mark}
use Rattle.icl_printer.specs.Layout.{Spelling, word, mark}
use Rattle.icl_printer.specs.Canonical.{in_turn, braced, value_tokens, signal_tokens, signals_tokens}
use Rattle.icl_printer.specs.Canonical.{name_tokens, property_tokens}
use Rattle.icl_printer.specs.Again.{spellings, IsSpelled, AllSpelled, placeless_value, placeless_signal}
use Rattle.icl_printer.specs.Again.{placeless_signals, placeless_property}
use Rattle.icl_printer.proofs.Printed.{Printed, Law, p_turn, p_last, p_give, p_left, p_right, p_mark, p_token}
use Rattle.icl_printer.proofs.Printed.{itself, name_law, single, halves}
use Rattle.icl_printer.proofs.Bytes.{decimal_kind, decimal_again, small_is}
use Rattle.icl_printer.proofs.SignalLaws.{value_law, sig_law, sigs_law}
use Rattle.icl_printer.proofs.KeptLoops.{keeps}
use Rattle.ij_text.specs.Places.{no_place}

-- ---- the words of properties

named_again : (w : PropKeyword) → prop_named (prop_word w) ≡ Some w
unfolding prop_named
named_again Source = refl
named_again LaunchEdge = refl
named_again DefaultLoadValue = refl
named_again RefEnum = refl
named_again ActivePolarity = refl
named_again ScanInSource = refl
named_again CaptureSource = refl
named_again ResetValue = refl
named_again AccessTogether = refl
named_again Attribute = refl

word_spelled : (w : PropKeyword) → IsSpelled (word (prop_word w))
word_spelled Source = refl
word_spelled LaunchEdge = refl
word_spelled DefaultLoadValue = refl
word_spelled RefEnum = refl
word_spelled ActivePolarity = refl
word_spelled ScanInSource = refl
word_spelled CaptureSource = refl
word_spelled ResetValue = refl
word_spelled AccessTogether = refl
word_spelled Attribute = refl

abbrev is_free : BodyKind → List SeenProp → PropKeyword → Bool
is_free owner ps w = takes owner w && not (stands w ps)

free_is : (owner : BodyKind) (ps : List SeenProp) (o : Option PropKeyword) (w : PropKeyword)
    → free_word owner ps o ≡ Some w → is_free owner ps w ≡ true
free_is owner ps None w h = absurd (cc)
free_is owner ps (Some v) w h = by_cases (is_free owner ps v) refl h
  where
    by_cases : (b : Bool) → is_free owner ps v ≡ b → cond b (Some v) None ≡ Some w → is_free owner ps w ≡ true
    by_cases true e h = let same : v ≡ w = cc in ap (is_free owner ps) (sym same) ∙ e
    by_cases false e h = absurd (cc)

is_prop_placeless : (w : PropKeyword) (p : SeenProp) → is_prop w (placeless_property p) ≡ is_prop w p
is_prop_placeless Source (ASource x) = refl
is_prop_placeless Source (ALaunchEdge x) = refl
is_prop_placeless Source (ALoadValue x) = refl
is_prop_placeless Source (ARefEnum x) = refl
is_prop_placeless Source (APolarity x) = refl
is_prop_placeless Source (AScanInSource x) = refl
is_prop_placeless Source (ACaptureSource x) = refl
is_prop_placeless Source (AResetValue x) = refl
is_prop_placeless Source ATogether = refl
is_prop_placeless LaunchEdge (ASource x) = refl
is_prop_placeless LaunchEdge (ALaunchEdge x) = refl
is_prop_placeless LaunchEdge (ALoadValue x) = refl
is_prop_placeless LaunchEdge (ARefEnum x) = refl
is_prop_placeless LaunchEdge (APolarity x) = refl
is_prop_placeless LaunchEdge (AScanInSource x) = refl
is_prop_placeless LaunchEdge (ACaptureSource x) = refl
is_prop_placeless LaunchEdge (AResetValue x) = refl
is_prop_placeless LaunchEdge ATogether = refl
is_prop_placeless DefaultLoadValue (ASource x) = refl
is_prop_placeless DefaultLoadValue (ALaunchEdge x) = refl
is_prop_placeless DefaultLoadValue (ALoadValue x) = refl
is_prop_placeless DefaultLoadValue (ARefEnum x) = refl
is_prop_placeless DefaultLoadValue (APolarity x) = refl
is_prop_placeless DefaultLoadValue (AScanInSource x) = refl
is_prop_placeless DefaultLoadValue (ACaptureSource x) = refl
is_prop_placeless DefaultLoadValue (AResetValue x) = refl
is_prop_placeless DefaultLoadValue ATogether = refl
is_prop_placeless RefEnum (ASource x) = refl
is_prop_placeless RefEnum (ALaunchEdge x) = refl
is_prop_placeless RefEnum (ALoadValue x) = refl
is_prop_placeless RefEnum (ARefEnum x) = refl
is_prop_placeless RefEnum (APolarity x) = refl
is_prop_placeless RefEnum (AScanInSource x) = refl
is_prop_placeless RefEnum (ACaptureSource x) = refl
is_prop_placeless RefEnum (AResetValue x) = refl
is_prop_placeless RefEnum ATogether = refl
is_prop_placeless ActivePolarity (ASource x) = refl
is_prop_placeless ActivePolarity (ALaunchEdge x) = refl
is_prop_placeless ActivePolarity (ALoadValue x) = refl
is_prop_placeless ActivePolarity (ARefEnum x) = refl
is_prop_placeless ActivePolarity (APolarity x) = refl
is_prop_placeless ActivePolarity (AScanInSource x) = refl
is_prop_placeless ActivePolarity (ACaptureSource x) = refl
is_prop_placeless ActivePolarity (AResetValue x) = refl
is_prop_placeless ActivePolarity ATogether = refl
is_prop_placeless ScanInSource (ASource x) = refl
is_prop_placeless ScanInSource (ALaunchEdge x) = refl
is_prop_placeless ScanInSource (ALoadValue x) = refl
is_prop_placeless ScanInSource (ARefEnum x) = refl
is_prop_placeless ScanInSource (APolarity x) = refl
is_prop_placeless ScanInSource (AScanInSource x) = refl
is_prop_placeless ScanInSource (ACaptureSource x) = refl
is_prop_placeless ScanInSource (AResetValue x) = refl
is_prop_placeless ScanInSource ATogether = refl
is_prop_placeless CaptureSource (ASource x) = refl
is_prop_placeless CaptureSource (ALaunchEdge x) = refl
is_prop_placeless CaptureSource (ALoadValue x) = refl
is_prop_placeless CaptureSource (ARefEnum x) = refl
is_prop_placeless CaptureSource (APolarity x) = refl
is_prop_placeless CaptureSource (AScanInSource x) = refl
is_prop_placeless CaptureSource (ACaptureSource x) = refl
is_prop_placeless CaptureSource (AResetValue x) = refl
is_prop_placeless CaptureSource ATogether = refl
is_prop_placeless ResetValue (ASource x) = refl
is_prop_placeless ResetValue (ALaunchEdge x) = refl
is_prop_placeless ResetValue (ALoadValue x) = refl
is_prop_placeless ResetValue (ARefEnum x) = refl
is_prop_placeless ResetValue (APolarity x) = refl
is_prop_placeless ResetValue (AScanInSource x) = refl
is_prop_placeless ResetValue (ACaptureSource x) = refl
is_prop_placeless ResetValue (AResetValue x) = refl
is_prop_placeless ResetValue ATogether = refl
is_prop_placeless AccessTogether (ASource x) = refl
is_prop_placeless AccessTogether (ALaunchEdge x) = refl
is_prop_placeless AccessTogether (ALoadValue x) = refl
is_prop_placeless AccessTogether (ARefEnum x) = refl
is_prop_placeless AccessTogether (APolarity x) = refl
is_prop_placeless AccessTogether (AScanInSource x) = refl
is_prop_placeless AccessTogether (ACaptureSource x) = refl
is_prop_placeless AccessTogether (AResetValue x) = refl
is_prop_placeless AccessTogether ATogether = refl
is_prop_placeless Attribute (ASource x) = refl
is_prop_placeless Attribute (ALaunchEdge x) = refl
is_prop_placeless Attribute (ALoadValue x) = refl
is_prop_placeless Attribute (ARefEnum x) = refl
is_prop_placeless Attribute (APolarity x) = refl
is_prop_placeless Attribute (AScanInSource x) = refl
is_prop_placeless Attribute (ACaptureSource x) = refl
is_prop_placeless Attribute (AResetValue x) = refl
is_prop_placeless Attribute ATogether = refl

stands_placeless : (w : PropKeyword) (ps : List SeenProp) → stands w (map placeless_property ps) ≡ stands w ps
stands_placeless w [] = refl
stands_placeless w (p ∷ ps) = ap (λ b. cond b true (stands w (map placeless_property ps)))
    (is_prop_placeless w p) ∙ ap (cond (is_prop w p) true) (stands_placeless w ps)

same_stands : (w : PropKeyword) (ps qs : List SeenProp)
    → map placeless_property qs ≡ map placeless_property ps → stands w qs ≡ stands w ps
same_stands w ps qs e = sym (stands_placeless w qs) ∙ ap (stands w) e ∙ stands_placeless w ps

p_prop_word : (owner : BodyKind) (qs : List SeenProp) (w : PropKeyword) → is_free owner qs w ≡ true
    → Printed (one (free_prop_at owner qs)) itself (word (prop_word w) ∷ []) w
p_prop_word owner qs w free = p_token (word (prop_word w)) w (λ at. w) (word_spelled w)
    (λ at. ap (free_word owner qs) (named_again w) ∙ ap (λ b. cond b (Some w) None) free) (λ at. refl)

-- ---- what comes after them

pub record After (owner : BodyKind) (w : PropKeyword) (p : SeenProp) : Type 0 where
  pub middle : List Spelling
  pub tokens_are : property_tokens p ≡ word (prop_word w) ∷ (middle ++ (mark 59 ∷ []))
  pub printed : Printed (prop_after owner w) (option_map placeless_property) middle (Some p)

-- a property of one part
made_of : {A A' : Type 0} (owner : BodyKind) (w : PropKeyword) (S : Of A) (make : A → SeenProp) (bare : A
    → A') (canon : A → List Spelling) → Law S bare canon
    → ((v : A) → property_tokens (make v) ≡ word (prop_word w) ∷ (canon v ++ (mark 59 ∷ [])))
    → ((x y : A) → bare x ≡ bare y → placeless_property (make x) ≡ placeless_property (make y))
    → ((x : SeenProp) (cs : List Spelling)
    → Printed (S >>= λ v. give (Some (make v))) (option_map placeless_property) cs (Some x)
    → Printed (prop_after owner w) (option_map placeless_property) cs (Some x))
    → (ts : List SeenToken) (o : Option SeenProp) → AllSpelled (spellings ts)
    → (S >>= λ v. give (Some (make v))).derives ts o → (p : SeenProp) → o ≡ Some p → After owner w p
made_of owner w S make bare canon law tokens same as_is ts o good h p is =
    let g = halves h.0 h.1 ts h.3 good in
    let e : Some (make h.2) ≡ Some p = sym h.5.1 ∙ is in
    let made : make h.2 ≡ p = cc in
    let here : After owner w (make h.2) = record {
      middle = canon h.2;
      tokens_are = tokens h.2;
      printed = as_is (make h.2) (canon h.2) (p_last (law h.0 h.2 g.0 h.4) (λ v ev. ap Some (same v h.2 ev)));
    } in
    subst (After owner w) made here

sources_law : (owner : BodyKind) → Law (sources owner) placeless_signals signals_tokens
sources_law ScanOut ts ss good h =
    let g = halves h.0 h.1 ts h.3 good in
    subst (λ z. Printed (sources ScanOut) placeless_signals (signals_tokens z) z) (sym h.5.1)
    (subst (λ (x : List Spelling). Printed (sources ScanOut) placeless_signals x (h.2 ∷ []))
    (sym (append-nil (signal_tokens h.2)))
    (p_last (sig_law h.0 h.2 g.0 h.4) (λ s es. ap (λ z. z ∷ []) es)))
sources_law ScanIn ts ss good h = sigs_law ts ss good h
sources_law DataIn ts ss good h = sigs_law ts ss good h
sources_law DataOut ts ss good h = sigs_law ts ss good h
sources_law Control ts ss good h = sigs_law ts ss good h
sources_law Register ts ss good h = sigs_law ts ss good h
sources_law Alias ts ss good h = sigs_law ts ss good h

some_polarity : (k : TokenKind) (text : List ℕ) (n : ℕ) → decimal_at k text ≡ Some n → n ≤ 4294967295
some_polarity Decimal text n h = small_is (decimal_from 0 text) n h
some_polarity Word text n h = absurd (cc)
some_polarity Sized text n h = absurd (cc)
some_polarity Quoted text n h = absurd (cc)
some_polarity Param text n h = absurd (cc)
some_polarity Mark text n h = absurd (cc)

decimal_law : Law (one decimal_token) itself (λ n. record { kind = Decimal; text = decimal n } ∷ [])
decimal_law ts n good h =
    let o = single decimal_token ts n h in
    let few = some_polarity o.token.kind o.token.text n o.takes in
    p_token (record { kind = Decimal; text = decimal n }) n (λ at. n) (decimal_kind n few)
    (λ at. decimal_again n few) (λ at. refl)

after_is : (owner : BodyKind) (w : PropKeyword) (ts : List SeenToken) (o : Option SeenProp)
    → AllSpelled (spellings ts) → (prop_after owner w).derives ts o
    → (p : SeenProp) → o ≡ Some p → After owner w p
unfolding prop_after
after_is owner Source ts o good h p is = made_of owner Source (sources owner) ASource placeless_signals
    signals_tokens (sources_law owner) (λ v. refl) (λ x y e. ap ASource e) (λ x cs q. q) ts o good h p is
after_is owner LaunchEdge ts o good h p is = made_of owner LaunchEdge name ALaunchEdge itself name_tokens
    name_law (λ v. refl) (λ x y e. ap ALaunchEdge e) (λ x cs q. q) ts o good h p is
after_is owner DefaultLoadValue ts o good h p is =
    made_of owner DefaultLoadValue value ALoadValue placeless_value value_tokens value_law (λ v. refl)
    (λ x y e. ap ALoadValue e) (λ x cs q. q) ts o good h p is
after_is owner RefEnum ts o good h p is = made_of owner RefEnum name ARefEnum itself name_tokens name_law
    (λ v. refl) (λ x y e. ap ARefEnum e) (λ x cs q. q) ts o good h p is
after_is owner ActivePolarity ts o good h p is =
    made_of owner ActivePolarity (one decimal_token) APolarity itself
    (λ n. record { kind = Decimal; text = decimal n } ∷ []) decimal_law (λ v. refl)
    (λ x y e. ap APolarity e) (λ x cs q. q) ts o good h p is
after_is owner ScanInSource ts o good h p is = made_of owner ScanInSource sig AScanInSource placeless_signal
    signal_tokens sig_law (λ v. refl) (λ x y e. ap AScanInSource e) (λ x cs q. q) ts o good h p is
after_is owner CaptureSource ts o good h p is =
    made_of owner CaptureSource sigs ACaptureSource placeless_signals signals_tokens sigs_law (λ v. refl)
    (λ x y e. ap ACaptureSource e) (λ x cs q. q) ts o good h p is
after_is owner ResetValue ts o good h p is = made_of owner ResetValue value AResetValue placeless_value
    value_tokens value_law (λ v. refl) (λ x y e. ap AResetValue e) (λ x cs q. q) ts o good h p is
after_is owner AccessTogether ts o good h p is =
    let e : Some ATogether ≡ Some p = sym h.1 ∙ is in
    let made : ATogether ≡ p = cc in
    let here : After owner AccessTogether ATogether =
    record { middle = []; tokens_are = refl; printed = p_give (Some ATogether) (Some ATogether) refl } in
    subst (After owner AccessTogether) made here
after_is owner Attribute ts o good h p is = absurd (let e : None ≡ Some p = sym h.5.1 ∙ is in cc)

property_law : (owner : BodyKind) (ps : List SeenProp) (ts : List SeenToken) (o : Option SeenProp)
    → AllSpelled (spellings ts) → (property owner ps).derives ts o → (p : SeenProp) → o ≡ Some p
    → (qs : List SeenProp) → map placeless_property qs ≡ map placeless_property ps
    → Printed (property owner qs) (option_map placeless_property) (property_tokens p) (Some p)
unfolding property
property_law owner ps ts o good h p is qs same =
    let g1 = halves h.0 h.1 ts h.3 good in
    let h2 = h.5 in
    let g2 = halves h2.0 h2.1 h.1 h2.3 g1.1 in
    let w = h.2 in
    let b = after_is owner w h2.0 h2.2 g2.0 h2.4 p (sym h2.5.5.1 ∙ is) in
    let t = single (free_prop_at owner ps) h.0 w h.4 in
    let free : is_free owner ps w ≡ true = free_is owner ps (prop_word_at t.token) w t.takes in
    let again : is_free owner qs w ≡ true =
    ap (λ c. takes owner w && not c) (same_stands w ps qs same) ∙ free in
    subst (λ (x : List Spelling). Printed (property owner qs) (option_map placeless_property) x (Some p))
    (sym b.tokens_are)
    (p_turn (p_prop_word owner qs w again)
    (λ v ev. subst (λ u. Printed (prop_after owner u >>= λ a. a_mark 59 >>= λ e. give a)
    (option_map placeless_property) (b.middle ++ (mark 59 ∷ [])) (Some p)) (sym ev)
    (p_turn b.printed (λ a ea. p_last (p_mark 59 no_place refl refl) (λ c ec. ea)))))

-- ---- bodies

same_lacks : (owner : BodyKind) (ps qs : List SeenProp)
    → map placeless_property qs ≡ map placeless_property ps → lacks owner qs ≡ lacks owner ps
same_lacks Register ps qs e = ap not (same_stands ScanInSource ps qs e)
same_lacks ScanIn ps qs e = refl
same_lacks ScanOut ps qs e = refl
same_lacks DataIn ps qs e = refl
same_lacks DataOut ps qs e = refl
same_lacks Control ps qs e = refl
same_lacks Alias ps qs e = refl

end_is : {A : Type 0} (b : Bool) (S : Of A) (ts : List SeenToken) (a : A)
    → (cond b none S).derives ts a → (b ≡ false) × (S.derives ts a)
end_is true S ts a h = absurd h
end_is false S ts a h = (refl, h)

if_ends : {A A' : Type 0} (b : Bool) (S : Of A) (bare : A → A') (cs : List Spelling) (a : A) → b ≡ false
    → Printed S bare cs a → Printed (cond b none S) bare cs a
if_ends true S bare cs a e p = absurd (cc)
if_ends false S bare cs a e p = p

p_body_end : (owner : BodyKind) (ps qs : List SeenProp) (c : ℕ) → IsSpelled (mark c) → (c == c) ≡ true
    → lacks owner ps ≡ false → map placeless_property qs ≡ map placeless_property ps
    → Printed (body_end owner qs c) (map placeless_property) (mark c ∷ []) ps
p_body_end owner ps qs c ok self enough same =
    if_ends (lacks owner qs) (a_mark c >>= λ e. give qs) (map placeless_property)
    (mark c ∷ []) ps (same_lacks owner ps qs same ∙ enough)
    (p_last (p_mark c no_place ok self) (λ a e. same))

pub body_law : (owner : BodyKind) → Law (body owner) (map placeless_property) (braced property_tokens)
unfolding body
body_law owner ts ps good (inl h) =
    let e = end_is (lacks owner []) (a_mark 59 >>= λ e. give []) ts ps h in
    subst (λ z. Printed (body owner) (map placeless_property) (braced property_tokens z) z) (sym e.1.5.1)
    (p_left (p_body_end owner [] [] 59 refl refl e.0 refl))
body_law owner ts ps good (inr h) =
    let g1 = halves h.0 h.1 ts h.3 good in
    let h2 = h.5 in
    let g2 = halves h2.0 h2.1 h.1 h2.3 g1.1 in
    let k = keeps (property owner) with_property placeless_property property_tokens (λ xs. refl)
    (λ xs x. refl) (property_law owner) h2.4.0 h2.0 [] h2.2 g2.0 h2.4.1 in
    let e = end_is (lacks owner h2.2) (a_mark 125 >>= λ c. give h2.2) h2.1 ps h2.5 in
    subst (λ z. Printed (body owner) (map placeless_property) (braced property_tokens z) z)
    (sym (e.1.5.1 ∙ k.is))
    (by_cases k.more (ap (lacks owner) (sym k.is) ∙ e.0)
    (λ qs same. subst (λ z. Printed (repeat (property owner) with_property qs) (map placeless_property)
    (in_turn property_tokens k.more) z) k.is (k.printed qs same)))
  where
    by_cases : (more : List SeenProp) → lacks owner more ≡ false → ((qs : List SeenProp)
        → map placeless_property qs ≡ [] → Printed (repeat (property owner) with_property qs)
        (map placeless_property) (in_turn property_tokens more) more)
        → Printed (body owner) (map placeless_property) (braced property_tokens more) more
    by_cases [] enough p = p_left (p_body_end owner [] [] 59 refl refl enough refl)
    by_cases (x ∷ xs) enough p =
        p_right (p_turn (p_mark 123 no_place refl refl)
        (λ o eo. p_turn (p [] refl) (λ qs eq. p_body_end owner (x ∷ xs) qs 125 refl refl enough eq)))
