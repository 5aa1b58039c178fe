-- The readers of properties and bodies read their symbols.
use Rattle.std.proofs.Common.{◌≡◌, ℕ, Bool, true, false, cond, List, [], ◌∷◌, Option, Some, None, refl}
use Rattle.std.proofs.Common.{is_some}
use Rattle.std.specs.Prelude.{◌||◌}
use Rattle.ij_text.specs.Symbol.{one, give, none, ◌>>=◌, repeat, maybe}
use Rattle.ij_text.specs.Reading.{read_in_turn}
use Rattle.ij_text.proofs.Combinators.{Reads, one_reads, give_reads, none_reads, turn_reads, either_reads}
use Rattle.ij_text.proofs.Combinators.{wider_reads}
use Rattle.icl_lexer.specs.declared.token.TokenKind.{TokenKind}
use Rattle.icl_lexer.specs.declared.token.TokenKind.TheVariants.{Word, Decimal, Sized, Quoted, Param, Mark}
use Rattle.icl_lexer.specs.declared.words.Limit.{Limit}
use Rattle.icl_lexer.specs.declared.words.BodyKind.{BodyKind}
use Rattle.icl_lexer.specs.declared.words.BodyKind.TheVariants.{ScanIn, ScanOut, DataIn, DataOut, Control}
use Rattle.icl_lexer.specs.declared.words.BodyKind.TheVariants.{Register, Alias}
use Rattle.icl_lexer.specs.declared.words.PropKeyword.{PropKeyword}
use Rattle.icl_lexer.specs.declared.words.PropKeyword.TheVariants.{Source, LaunchEdge, DefaultLoadValue}
use Rattle.icl_lexer.specs.declared.words.PropKeyword.TheVariants.{RefEnum, ActivePolarity, ScanInSource}
use Rattle.icl_lexer.specs.declared.words.PropKeyword.TheVariants.{CaptureSource, ResetValue, AccessTogether}
use Rattle.icl_lexer.specs.declared.words.PropKeyword.TheVariants.{Attribute}
use Rattle.icl_lexer.specs.Seen.{SeenToken, if_word, if_mark, is_mark}
use Rattle.icl_lexer.specs.Values.{SeenProp, ASource, ALaunchEdge, ALoadValue, ARefEnum, APolarity}
use Rattle.icl_lexer.specs.Values.{AScanInSource, ACaptureSource, AResetValue, ATogether}
use Rattle.icl_lexer.specs.Grammar.{Of, mark, expr_after, ended_by, sources, free_word, free_prop_at}
use Rattle.icl_lexer.specs.Grammar.{attribute_said, decimal_token, prop_after, property, with_property, lacks}
use Rattle.icl_lexer.specs.Grammar.{body_end, body}
use Rattle.icl_expressions.specs.Reading.{Reading, gives, any, is_name, no_close, read_mark, read_maybe}
use Rattle.icl_expressions.specs.Reading.{read_ended, read_expr_after}
use Rattle.icl_parser.specs.Reading.{read_attribute_said, read_sources, read_prop_after, read_free_prop}
use Rattle.icl_parser.specs.Reading.{read_property, read_properties, read_unless, read_body_end}
use Rattle.icl_parser.specs.Reading.{read_braced_body, read_body}
use Rattle.icl_expressions.proofs.Tokens.{nothing, marks, marks_apart, mark_apart, no_mark_closes}
use Rattle.icl_expressions.proofs.Symbols.{then_reads, mark_reads, made_reads, sign_marks}
use Rattle.icl_expressions.proofs.SignalLaws.{value_reads, expr_after_reads, maybe_reads, name_reads}
use Rattle.icl_expressions.proofs.SignalLaws.{path_marks, sig_reads, sigs_marks, sigs_reads}
use Rattle.icl_expressions.proofs.Lists.{parts_then_reads, ended_reads}
use Rattle.std.proofs.lemmas.Bool.{or_from}

-- ---- properties

pub attribute_said_reads : Reads attribute_said is_name (marks (61 ∷ sign_marks)) false read_attribute_said
unfolding attribute_said read_attribute_said
attribute_said_reads =
    wider_reads
    (then_reads (λ n. maybe (expr_after 61) >>= λ v. give (record { name = n; value = v })) (is_mark 61)
    (marks (61 ∷ sign_marks)) true _ name_reads
    (λ n. wider_reads
    (turn_reads (maybe (expr_after 61)) (λ v. give (record { name = n; value = v })) (is_mark 61)
    (marks (61 ∷ sign_marks)) nothing nothing true true (read_maybe 61 (read_expr_after 61)) _
    (maybe_reads 61 (marks sign_marks) (expr_after_reads 61))
    (λ v. give_reads (record { name = n; value = v })) (λ t h. absurd cc))
    (is_mark 61) (marks (61 ∷ sign_marks)) (λ t h. narrow (is_mark 61 t) h) (λ t h. h))
    (λ t h. refl))
    is_name (marks (61 ∷ sign_marks)) (λ t h. h) (λ t h. or_from _ _ h refl)
  where
    narrow : (a : Bool) → a || false ≡ true → a ≡ true
    narrow true h = h
    narrow false h = h

sources_reads : (owner : BodyKind) → Reads (sources owner) any (marks sigs_marks) false (read_sources owner)
sources_reads ScanOut = wider_reads (made_reads (λ s. s ∷ []) sig_reads) any (marks sigs_marks)
    (λ t h. h) (λ t h. right (is_mark 44 t) _ h)
  where
    right : (a b : Bool) → a || b ≡ false → b ≡ false
    right true b h = absurd cc
    right false b h = h
sources_reads ScanIn = sigs_reads
sources_reads DataIn = sigs_reads
sources_reads DataOut = sigs_reads
sources_reads Control = sigs_reads
sources_reads Register = sigs_reads
sources_reads Alias = sigs_reads

-- a property without anything between its word and its `;`
alone_reads : {A : Type 0} (a : A) → Reads (ended_by 59 (give a)) any nothing false (read_ended 59 (gives a))
alone_reads a =
    wider_reads (turn_reads (give a) (λ b. mark 59 >>= λ e. give b) nothing nothing
    (is_mark 59) nothing true false (gives a) (λ b. read_in_turn (read_mark 59) (λ e. gives b))
    (give_reads a) (λ b. made_reads (λ e. b) (mark_reads 59)) (λ t h. refl))
    any nothing (λ t h. refl) (λ t h. refl)

prop_ended_reads : (owner : BodyKind) (w : PropKeyword)
    → Reads (ended_by 59 (prop_after owner w)) any nothing false (read_ended 59 (read_prop_after owner w))
unfolding prop_after read_prop_after
prop_ended_reads owner Source = ended_reads 59 (made_reads (λ s. Some (ASource s)) (sources_reads owner))
    (λ t h. marks_apart 59 sigs_marks refl t h)
prop_ended_reads owner LaunchEdge =
    ended_reads 59 (made_reads (λ n. Some (ALaunchEdge n)) name_reads) (λ t h. refl)
prop_ended_reads owner DefaultLoadValue = ended_reads 59 (made_reads (λ v. Some (ALoadValue v)) value_reads)
    (λ t h. marks_apart 59 (44 ∷ sign_marks) refl t h)
prop_ended_reads owner RefEnum = ended_reads 59 (made_reads (λ n. Some (ARefEnum n)) name_reads) (λ t h. refl)
prop_ended_reads owner ActivePolarity =
    ended_reads 59 (made_reads (λ n. Some (APolarity n)) (one_reads Limit decimal_token)) (λ t h. refl)
prop_ended_reads owner ScanInSource = ended_reads 59 (made_reads (λ s. Some (AScanInSource s)) sig_reads)
    (λ t h. marks_apart 59 path_marks refl t h)
prop_ended_reads owner CaptureSource = ended_reads 59 (made_reads (λ s. Some (ACaptureSource s)) sigs_reads)
    (λ t h. marks_apart 59 sigs_marks refl t h)
prop_ended_reads owner ResetValue = ended_reads 59 (made_reads (λ v. Some (AResetValue v)) value_reads)
    (λ t h. marks_apart 59 (44 ∷ sign_marks) refl t h)
prop_ended_reads owner AccessTogether = alone_reads (Some ATogether)
prop_ended_reads owner Attribute = ended_reads 59 (made_reads (λ a. None) attribute_said_reads)
    (λ t h. marks_apart 59 (61 ∷ sign_marks) refl t h)

free_prop_reads : (owner : BodyKind) (ps : List SeenProp)
    → Reads {W = Limit} (one (free_prop_at owner ps)) no_close nothing false (read_free_prop owner ps)
free_prop_reads owner ps = wider_reads (one_reads Limit (free_prop_at owner ps)) no_close nothing
    (λ t h. no_mark_closes t (by_kind t.kind _ h)) (λ t h. refl)
  where
    by_kind : (k : TokenKind) (o : Option PropKeyword)
        → is_some (free_word owner ps (if_word k o None)) ≡ true → if_mark k false true ≡ true
    by_kind Word o h = refl
    by_kind Decimal o h = absurd cc
    by_kind Sized o h = absurd cc
    by_kind Quoted o h = absurd cc
    by_kind Param o h = absurd cc
    by_kind Mark o h = absurd cc

pub property_reads : (owner : BodyKind) (ps : List SeenProp)
    → Reads (property owner ps) no_close nothing false (read_property owner ps)
unfolding property read_property
property_reads owner ps = then_reads (λ w. ended_by 59 (prop_after owner w)) any nothing false
    (λ w. read_ended 59 (read_prop_after owner w)) (free_prop_reads owner ps)
    (λ w. prop_ended_reads owner w) (λ t h. refl)

-- ---- bodies

pub unless_reads : {A : Type 0} (b : Bool) {S : Of A} {first more : SeenToken → Bool} {r : Reading A}
    → Reads S first more false r → Reads (cond b none S) first more false (read_unless b r)
unless_reads true {S} {first} {more} {r} law =
    wider_reads none_reads first more (λ t h. absurd cc) (λ t h. refl)
unless_reads false law = law

body_end_reads : (owner : BodyKind) (ps : List SeenProp) (c : ℕ)
    → Reads (body_end owner ps c) (is_mark c) nothing false (read_body_end owner ps c)
unfolding read_body_end
body_end_reads owner ps c = unless_reads (lacks owner ps) (made_reads (λ e. ps) (mark_reads c))

-- `;` and `{`
abbrev pub body_marks : List ℕ
body_marks = 59 ∷ 123 ∷ []

pub body_reads : (owner : BodyKind) → Reads (body owner) (marks body_marks) nothing false (read_body owner)
unfolding body read_body read_braced_body read_properties
body_reads owner =
    wider_reads
    (either_reads (body_end owner [] 59)
    (mark 123 >>= λ o. repeat (property owner) with_property [] >>= λ ps. body_end owner ps 125)
    (is_mark 59) nothing (is_mark 123) nothing false (read_body_end owner [] 59) (read_braced_body owner)
    (body_end_reads owner [] 59)
    (then_reads (λ o. repeat (property owner) with_property [] >>= λ ps. body_end owner ps 125)
    any nothing false _ (mark_reads 123)
    (λ o. parts_then_reads (property owner) with_property (read_property owner) (property_reads owner) []
    (λ ps. body_end owner ps 125) (λ ps. read_body_end owner ps 125) (λ ps. body_end_reads owner ps 125))
    (λ t h. refl))
    (λ t h. mark_apart 123 59 refl t h))
    (marks body_marks) nothing (λ t h. wide (is_mark 59 t) (is_mark 123 t) h) (λ t h. refl)
  where
    wide : (a b : Bool) → a || b ≡ true → a || (b || false) ≡ true
    wide true b h = h
    wide false true h = h
    wide false false h = h
