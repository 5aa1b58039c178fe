-- Values, ranges and signals that are printed, derived again.
use Rattle.std.proofs.Common.{◌≡◌, ◌==◌, ◌≤◌, ℕ, true, false, List, [], ◌∷◌, map, drop, Option, Some, None}
use Rattle.std.proofs.Common.{refl, sym, ap, ◌∙◌, subst, inl, inr, decimal}
use Rattle.std.specs.Option.{option_map}
use Rattle.ij_text.specs.declared.Place.{Place}
use Rattle.ij_text.specs.Symbol.{one, ◌>>=◌, maybe}
use Rattle.icl_lexer.specs.declared.token.TokenKind.{TokenKind}
use Rattle.icl_lexer.specs.declared.token.TokenKind.TheVariants.{Word, Decimal, Sized, Quoted, Param, Mark}
use Rattle.icl_lexer.specs.declared.token.PieceKind.TheVariants.{Is}
use Rattle.icl_lexer.specs.Pieces.{kind_of}
use Rattle.ij_text.specs.Numbers.{decimal_from}
use Rattle.icl_lexer.specs.Seen.{SeenToken, if_word}
use Rattle.icl_lexer.specs.Tokens.{decimal_of}
use Rattle.icl_lexer.specs.Values.{ADecimal, ASized, AParam, ANumber, APath}
use Rattle.icl_lexer.specs.Grammar.{expr, value, range, expr_after, Located, number_located, number_of}
use Rattle.icl_lexer.specs.Grammar.{number_at, as_decimal, Named, named_at, name, path_after, named_sig}
use Rattle.icl_lexer.specs.Grammar.{plain_sig, sig, sigs, mark as a_mark}
use Rattle.icl_printer.specs.Layout.{Spelling, word, mark}
use Rattle.icl_printer.specs.Canonical.{after, if_there, formula_tokens, value_tokens, range_tokens}
use Rattle.icl_printer.specs.Canonical.{name_tokens, meant_tokens, signal_tokens, signals_tokens}
use Rattle.icl_printer.specs.Again.{spellings, IsSpelled, AllSpelled, placeless_formula, placeless_value}
use Rattle.icl_printer.specs.Again.{placeless_span, placeless_meant, placeless_signal, placeless_signals}
use Rattle.icl_printer.proofs.Printed.{Printed, Law, p_turn, p_last, p_left, p_right, p_mark, p_token, itself}
use Rattle.icl_printer.proofs.Printed.{name_law, single, halves}
use Rattle.icl_printer.proofs.Loops.{appends, after_law, parted_law, maybe_law}
use Rattle.icl_printer.proofs.Bytes.{decimal_kind, decimal_again, small_is, param_text}
use Rattle.icl_printer.proofs.Derived.{expr_law}
use Rattle.ij_text.specs.Places.{no_place}

pub value_law : Law value placeless_value value_tokens
unfolding value
value_law = parted_law 44 expr placeless_formula formula_tokens refl refl expr_law

pub after_expr_law : (c : ℕ) → IsSpelled (mark c) → (c == c) ≡ true
    → Law (expr_after c) placeless_formula (after c formula_tokens)
after_expr_law c ok same = after_law c expr placeless_formula formula_tokens ok same expr_law

pub maybe_expr_law : (c : ℕ) → IsSpelled (mark c) → (c == c) ≡ true
    → Law (maybe (expr_after c)) (option_map placeless_formula) (if_there (after c formula_tokens))
maybe_expr_law c ok same =
    maybe_law (expr_after c) placeless_formula (after c formula_tokens) (after_expr_law c ok same)

pub range_law : Law range placeless_span range_tokens
unfolding range
range_law ts r good h =
    let g1 = halves h.0 h.1 ts h.3 good in
    let h2 = h.5 in
    let g2 = halves h2.0 h2.1 h.1 h2.3 g1.1 in
    let h3 = h2.5 in
    let g3 = halves h3.0 h3.1 h2.1 h3.3 g2.1 in
    let left = expr_law h2.0 h2.2 g2.0 h2.4 in
    let right = maybe_expr_law 58 refl refl h3.0 h3.2 g3.0 h3.4 in
    subst (λ x. Printed range placeless_span (range_tokens x) x) (sym h3.5.5.1)
    (p_turn (p_mark 91 no_place refl refl) (λ a ea. p_turn left
    (λ l el. p_turn right (λ x ex. p_last (p_mark 93 no_place refl refl) (λ c ec. cc (el, ex))))))

pub maybe_range_law : Law (maybe range) (option_map placeless_span) (if_there range_tokens)
maybe_range_law = maybe_law range placeless_span range_tokens range_law

-- ---- numbers

abbrev pub placeless_located : Located → Located
placeless_located l = record { at = no_place; what = placeless_meant l.what }

abbrev pub located_tokens : Located → List Spelling
located_tokens l = meant_tokens l.what

some_decimal : (at : Place) (o : Option ℕ) (l : Located) → ((n : ℕ) → o ≡ Some n → n ≤ 4294967295)
    → number_located at (as_decimal o) ≡ Some l
    → Printed (one number_at) placeless_located (located_tokens l) l
some_decimal at None l few h = absurd (cc)
some_decimal at (Some n) l few h =
    let x : Located = record { at = at; what = ANumber (ADecimal n) } in
    let is : x ≡ l = cc in
    subst (λ z. Printed (one number_at) placeless_located (located_tokens z) z) is
    (p_token (record { kind = Decimal; text = decimal n }) x
    (λ p. record { at = p; what = ANumber (ADecimal n) }) (decimal_kind n (few n refl))
    (λ p. ap (λ z. number_located p (as_decimal z)) (decimal_again n (few n refl))) (λ p. refl))

number_is : (k : TokenKind) (at : Place) (text : List ℕ) (l : Located) → kind_of text ≡ Some (Is k)
    → number_located at (number_of k at text) ≡ Some l
    → Printed (one number_at) placeless_located (located_tokens l) l
number_is Decimal at text l kind h =
    some_decimal at (decimal_of text) l (λ n e. small_is (decimal_from 0 text) n e) h
number_is Sized at text l kind h =
    let x : Located = record { at = at; what = ANumber (ASized text) } in
    let is : x ≡ l = cc in
    subst (λ z. Printed (one number_at) placeless_located (located_tokens z) z) is
    (p_token (record { kind = Sized; text = text }) x
    (λ p. record { at = p; what = ANumber (ASized text) }) kind (λ p. refl) (λ p. refl))
number_is Param at text l kind h =
    let n = drop 1 text in
    let x : Located = record { at = at; what = ANumber (AParam at n) } in
    let is : x ≡ l = cc in
    subst (λ z. Printed (one number_at) placeless_located (located_tokens z) z) is
    (p_token (record { kind = Param; text = 36 ∷ n }) x (λ p. record { at = p; what = ANumber (AParam p n) })
    (subst (λ (t : List ℕ). kind_of t ≡ Some (Is Param)) (param_text text kind) kind)
    (λ p. refl) (λ p. refl))
number_is Word at text l kind h = absurd (cc)
number_is Quoted at text l kind h = absurd (cc)
number_is Mark at text l kind h = absurd (cc)

number_law : Law (one number_at) placeless_located located_tokens
number_law ts l good h =
    let o = single number_at ts l h in
    let here : AllSpelled (spellings (o.token ∷ [])) =
    subst (λ (us : List SeenToken). AllSpelled (spellings us)) o.alone good in
    number_is o.token.kind o.token.at o.token.text l here.0 o.takes

-- ---- paths

word_named : (k : TokenKind) (at : Place) (text : List ℕ) (n : Named)
    → if_word k (Some (record { at = at; name = text })) None ≡ Some n
    → let s : Spelling = record { kind = k; text = text } in s ≡ word n.name
word_named Word at text n e =
    let same : (record { at = at; name = text }) ≡ n = cc in ap (λ (m : Named). word m.name) same
word_named Decimal at text n e = absurd (cc)
word_named Sized at text n e = absurd (cc)
word_named Quoted at text n e = absurd (cc)
word_named Param at text n e = absurd (cc)
word_named Mark at text n e = absurd (cc)

named_law : Law (one named_at) (λ n. n.name) (λ n. name_tokens n.name)
named_law ts n good h =
    let o = single named_at ts n h in
    let here : AllSpelled (spellings (o.token ∷ [])) =
    subst (λ (us : List SeenToken). AllSpelled (spellings us)) o.alone good in
    let ok : IsSpelled (word n.name) =
    subst IsSpelled (word_named o.token.kind o.token.at o.token.text n o.takes) here.0 in
    p_token (word n.name) n (λ p. record { at = p; name = n.name }) ok (λ p. refl) (λ p. refl)

pub map_itself : {A : Type 0} (xs : List A) → map itself xs ≡ xs
map_itself [] = refl
map_itself {A} (x ∷ xs) = ap (λ (ys : List A). x ∷ ys) (map_itself xs)

pub same_itself : {A : Type 0} (xs ys : List A) → map itself xs ≡ map itself ys → xs ≡ ys
same_itself xs ys e = sym (map_itself xs) ∙ e ∙ map_itself ys

named_sig_law : Law named_sig placeless_located located_tokens
unfolding named_sig path_after
named_sig_law ts l good h =
    let g1 = halves h.0 h.1 ts h.3 good in
    let h2 = h.5 in
    let g2 = halves h2.0 h2.1 h.1 h2.3 g1.1 in
    let h3 = h2.5 in
    let g3 = halves h3.0 h3.1 h2.1 h3.3 g2.1 in
    let first = named_law h.0 h.2 g1.0 h.4 in
    let more = appends (a_mark 46 >>= λ d. name) itself (after 46 name_tokens) (after_law 46 name itself
    name_tokens refl refl name_law) h2.4.0 h2.0 (h.2.name ∷ []) h2.2 g2.0 h2.4.1 in
    let r = maybe_range_law h3.0 h3.2 g3.0 h3.4 in
    let path : List (List ℕ) = h.2.name ∷ more.more in
    let x : Located = record { at = h.2.at; what = APath path h3.2 } in
    let is : l
    ≡ x = h3.5.1 ∙ ap (λ (p : List (List ℕ)). record { at = h.2.at; what = APath p h3.2 }) more.is in
    subst (λ z. Printed named_sig placeless_located (located_tokens z) z) (sym is)
    (p_turn first
    (λ n en. p_turn (more.printed (n.name ∷ []) (ap (λ m. m ∷ []) en))
    (λ p ep. p_last r (λ y ey. let same : p ≡ path = same_itself p h2.2 ep ∙ more.is in cc (same, ey)))))

plain_sig_law : Law plain_sig placeless_located located_tokens
plain_sig_law ts l good (inl h) = p_left (named_sig_law ts l good h)
plain_sig_law ts l good (inr h) = p_right (number_law ts l good h)

-- ---- signals

pub sig_law : Law sig placeless_signal signal_tokens
unfolding sig
sig_law ts s good (inl h) =
    let g1 = halves h.0 h.1 ts h.3 good in
    let h2 = h.5 in
    let g2 = halves h2.0 h2.1 h.1 h2.3 g1.1 in
    subst (λ z. Printed sig placeless_signal (signal_tokens z) z) (sym h2.5.1)
    (p_left (p_turn (p_mark 126 no_place refl refl) (λ a ea. p_last (plain_sig_law h2.0 h2.2 g2.0 h2.4)
    (λ l el. ap (λ (z : Located). record { at = no_place; inverted = true; what = z.what }) el))))
sig_law ts s good (inr h) =
    let g1 = halves h.0 h.1 ts h.3 good in
    subst (λ z. Printed sig placeless_signal (signal_tokens z) z) (sym h.5.1)
    (p_right (p_last (plain_sig_law h.0 h.2 g1.0 h.4)
    (λ l el. ap (λ (z : Located). record { at = no_place; inverted = false; what = z.what }) el)))

pub sigs_law : Law sigs placeless_signals signals_tokens
unfolding sigs
sigs_law = parted_law 44 sig placeless_signal signal_tokens refl refl sig_law
