-- The readers of values, ranges and signals read their symbols.
use Rattle.std.proofs.Common.{◌≡◌, ℕ, Bool, true, false, List, [], ◌∷◌, Some, None, refl, is_some}
use Rattle.std.specs.Prelude.{◌||◌}
use Rattle.ij_text.specs.Symbol.{one, give, ◌>>=◌, maybe}
use Rattle.ij_text.specs.Reading.{read_one, read_in_turn}
use Rattle.ij_text.proofs.Combinators.{Reads, one_reads, give_reads, turn_reads, either_reads, wider_reads}
use Rattle.icl_lexer.specs.declared.token.TokenKind.{TokenKind}
use Rattle.icl_lexer.specs.declared.token.TokenKind.TheVariants.{Word, Decimal, Sized, Quoted, Param, Mark}
use Rattle.ij_text.specs.declared.Place.{Place}
use Rattle.icl_lexer.specs.declared.words.Limit.{Limit}
use Rattle.icl_lexer.specs.Seen.{SeenToken, if_word, if_mark, is_mark, name_at}
use Rattle.icl_lexer.specs.Values.{APath}
use Rattle.icl_lexer.specs.Grammar.{Of, mark, name, expr, value, expr_after, range, number_of, number_located}
use Rattle.icl_lexer.specs.Grammar.{number_at, Named, named_at, path_after, named_sig, plain_sig, sig, sigs}
use Rattle.icl_expressions.specs.Reading.{Reading, Shrinks, gives, any, is_name, no_close, read_name}
use Rattle.icl_expressions.specs.Reading.{read_maybe, read_expr, read_value, read_expr_after, read_range}
use Rattle.icl_expressions.specs.Reading.{read_number, read_path_after, read_named_after, read_named_sig}
use Rattle.icl_expressions.specs.Reading.{read_plain_sig, read_inverted, read_straight, read_sig, read_sigs}
use Rattle.icl_expressions.proofs.Tokens.{nothing, no_mark, marks, marks_apart, no_mark_is, mark_apart}
use Rattle.icl_expressions.proofs.Symbols.{then_reads, mark_reads, made_reads, sign_marks, expr_reads}
use Rattle.icl_expressions.proofs.Steps.{reads_shrink}
use Rattle.icl_expressions.proofs.Lists.{after_reads, more_parted_reads, parted_reads}
use Rattle.std.proofs.lemmas.Bool.{or_from}
use Rattle.ij_bits.proofs.Tests.{or_left_false, or_right_false}

-- ---- values and ranges

pub value_reads : Reads value no_close (marks (44 ∷ sign_marks)) false read_value
unfolding value read_value
value_reads = parted_reads 44 expr_reads (λ t h. marks_apart 44 sign_marks refl t h)

pub expr_after_reads : (c : ℕ) → Reads (expr_after c) (is_mark c) (marks sign_marks) false (read_expr_after c)
unfolding read_expr_after
expr_after_reads c = after_reads c expr_reads

-- what begins with a mark, if the mark is there
pub maybe_reads : {A : Type 0} (c : ℕ) {S : Of A} (more : SeenToken → Bool) {r : Reading A}
    → Reads S (is_mark c) more false r
    → Reads (maybe S) (is_mark c) (λ t. is_mark c t || more t) true (read_maybe c r)
maybe_reads {A} c {S} more {r} law =
    wider_reads
    (either_reads (S >>= λ a. give (Some a)) (give None) (is_mark c) more nothing nothing true
    (read_in_turn r (λ a. gives (Some a))) (gives None)
    (made_reads (λ a. Some a) law) (give_reads None) (λ t h. absurd cc))
    (is_mark c) (λ t. is_mark c t || more t) (λ t h. narrow (is_mark c t) h) (λ t h. or_from _ _
    (or_from _ _ (or_right_false (is_mark c t) (more t) h) refl) (or_left_false (is_mark c t) (more t) h))
  where
    narrow : (a : Bool) → a || false ≡ true → a ≡ true
    narrow true h = h
    narrow false h = h

pub range_reads : Reads range (is_mark 91) nothing false read_range
unfolding range read_range
range_reads =
    then_reads (λ at. expr >>= λ left. maybe (expr_after 58) >>= λ right. mark 93 >>= λ close. give
    (record { at = at; left = left; right = right })) no_close nothing false _ (mark_reads 91)
    (λ at. then_reads (λ left. maybe (expr_after 58) >>= λ right. mark 93 >>= λ close. give (record {
      at = at;
      left = left;
      right = right;
    })) (λ t. is_mark 58 t || is_mark 93 t) nothing false _ expr_reads
    (λ left. turn_reads (maybe (expr_after 58))
    (λ right. mark 93 >>= λ close. give (record { at = at; left = left; right = right })) (is_mark 58)
    (marks (58 ∷ sign_marks)) (is_mark 93) nothing true false (read_maybe 58 (read_expr_after 58)) _
    (maybe_reads 58 (marks sign_marks) (expr_after_reads 58))
    (λ right. made_reads (λ close. record { at = at; left = left; right = right }) (mark_reads 93))
    (λ t h. marks_apart 93 (58 ∷ sign_marks) refl t h))
    (λ t h. either_false (is_mark 58 t) (is_mark 93 t)
    (marks_apart 58 sign_marks refl t) (marks_apart 93 sign_marks refl t) h))
    (λ t h. refl)
  where
    either_false : (a b : Bool) {P : Bool} → (a ≡ true → P ≡ false)
        → (b ≡ true → P ≡ false) → a || b ≡ true → P ≡ false
    either_false true b f g h = f refl
    either_false false b f g h = g h

pub maybe_range_reads : Reads (maybe range) (is_mark 91) (is_mark 91) true (read_maybe 91 read_range)
maybe_range_reads = wider_reads (maybe_reads 91 nothing range_reads) (is_mark 91)
    (is_mark 91) (λ t h. h) (λ t h. or_from _ _ h refl)

-- ---- signals

pub name_reads : Reads name is_name nothing false read_name
name_reads = wider_reads (one_reads Limit name_at) is_name nothing
    (λ t h. by_kind t.kind t.text h) (λ t h. refl)
  where
    by_kind : (k : TokenKind) (text : List ℕ)
        → is_some (if_word k (Some text) None) ≡ true → if_word k true false ≡ true
    by_kind Word text h = refl
    by_kind Decimal text h = absurd cc
    by_kind Sized text h = absurd cc
    by_kind Quoted text h = absurd cc
    by_kind Param text h = absurd cc
    by_kind Mark text h = absurd cc

first_name_reads : Reads {W = Limit} (one named_at) is_name nothing false (read_one named_at)
first_name_reads = wider_reads (one_reads Limit named_at) is_name nothing
    (λ t h. by_kind t.kind _ h) (λ t h. refl)
  where
    by_kind : (k : TokenKind) (n : Named)
        → is_some (if_word k (Some n) None) ≡ true → if_word k true false ≡ true
    by_kind Word n h = refl
    by_kind Decimal n h = absurd cc
    by_kind Sized n h = absurd cc
    by_kind Quoted n h = absurd cc
    by_kind Param n h = absurd cc
    by_kind Mark n h = absurd cc

pub path_reads : (first : List ℕ)
    → Reads (path_after first) (is_mark 46) (is_mark 46) true (read_path_after first)
unfolding path_after read_path_after
path_reads first = wider_reads (more_parted_reads 46 name_reads (λ t h. refl) (first ∷ [])) (is_mark 46)
    (is_mark 46) (λ t h. h) (λ t h. or_from _ _ h refl)

-- `.` and `[`
abbrev pub path_marks : List ℕ
path_marks = 46 ∷ 91 ∷ []

named_after_reads : (first : Named) → Reads (path_after first.name >>= λ path. maybe range
    >>= λ r. give (record { at = first.at; what = APath path r })) (marks path_marks)
    (marks path_marks) true (read_named_after first)
unfolding read_named_after
named_after_reads first =
    wider_reads
    (turn_reads (path_after first.name)
    (λ path. maybe range >>= λ r. give (record { at = first.at; what = APath path r })) (is_mark 46)
    (is_mark 46) (is_mark 91) (is_mark 91) true true (read_path_after first.name) _
    (path_reads first.name)
    (λ path. wider_reads (turn_reads (maybe range) (λ r. give (record { at = first.at; what = APath path r }))
    (is_mark 91) (is_mark 91) nothing nothing true true (read_maybe 91 read_range) _ maybe_range_reads
    (λ r. give_reads (record { at = first.at; what = APath path r })) (λ t h. absurd cc))
    (is_mark 91) (is_mark 91) (λ t h. narrow (is_mark 91 t) h) (λ t h. h))
    (λ t h. mark_apart 91 46 refl t h))
    (marks path_marks) (marks path_marks) (λ t h. wide (is_mark 46 t) (is_mark 91 t) h)
    (λ t h. swap (is_mark 46 t) (is_mark 91 t) h)
  where
    narrow : (a : Bool) → a || false ≡ true → a ≡ true
    narrow true h = h
    narrow false h = h

    wide : (a b : Bool) → a || b ≡ true → a || (b || false) ≡ true
    wide true b h = h
    wide false true h = h
    wide false false h = h

    swap : (a b : Bool) → a || (b || false) ≡ false → b || a ≡ false
    swap true b h = absurd cc
    swap false true h = absurd cc
    swap false false h = refl

named_reads : Reads named_sig is_name (marks path_marks) false read_named_sig
unfolding named_sig read_named_sig
named_reads =
    wider_reads
    (then_reads (λ first. path_after first.name >>= λ path. maybe range
    >>= λ r. give (record { at = first.at; what = APath path r })) (marks path_marks)
    (marks path_marks) true read_named_after first_name_reads named_after_reads (λ t h. refl))
    is_name (marks path_marks) (λ t h. h) (λ t h. or_from _ _ h refl)

-- a token that is neither a word nor a mark
abbrev pub is_value : SeenToken → Bool
is_value t = if_word t.kind false (no_mark t)

number_reads : Reads {W = Limit} (one number_at) is_value nothing false read_number
number_reads = wider_reads (one_reads Limit number_at) is_value nothing
    (λ t h. by_kind t.kind t.at t.text h) (λ t h. refl)
  where
    by_kind : (k : TokenKind) (at : Place) (text : List ℕ)
        → is_some (number_located at (number_of k at text)) ≡ true
        → if_word k false (if_mark k false true) ≡ true
    by_kind Word at text h = absurd cc
    by_kind Decimal at text h = refl
    by_kind Sized at text h = refl
    by_kind Quoted at text h = refl
    by_kind Param at text h = refl
    by_kind Mark at text h = absurd cc

pub plain_reads : Reads plain_sig no_mark (marks path_marks) false read_plain_sig
plain_reads =
    wider_reads
    (either_reads named_sig (one number_at) is_name (marks path_marks) is_value nothing false read_named_sig
    read_number named_reads number_reads (λ t h. apart t.kind h))
    no_mark (marks path_marks) (λ t h. begins t.kind h) (λ t h. or_from _ _ h refl)
  where
    apart : (k : TokenKind) → if_word k false (if_mark k false true) ≡ true → if_word k true false ≡ false
    apart Word h = absurd cc
    apart Decimal h = refl
    apart Sized h = refl
    apart Quoted h = refl
    apart Param h = refl
    apart Mark h = refl

    begins : (k : TokenKind) → if_word k true false || if_word k false (if_mark k false true) ≡ true
        → if_mark k false true ≡ true
    begins Word h = refl
    begins Decimal h = refl
    begins Sized h = refl
    begins Quoted h = refl
    begins Param h = refl
    begins Mark h = absurd cc

pub sig_reads : Reads sig any (marks path_marks) false read_sig
unfolding sig read_sig read_inverted read_straight
sig_reads =
    wider_reads
    (either_reads (mark 126 >>= λ at. plain_sig >>= λ s. give (record {
      at = at;
      inverted = true;
      what = s.what;
    })) (plain_sig >>= λ s. give (record { at = s.at; inverted = false; what = s.what }))
    (is_mark 126) (marks path_marks) no_mark (marks path_marks) false read_inverted read_straight
    (then_reads (λ at. plain_sig >>= λ s. give (record { at = at; inverted = true; what = s.what })) no_mark
    (marks path_marks) false _ (mark_reads 126) (λ at. made_reads
    (λ s. record { at = at; inverted = true; what = s.what }) plain_reads) (λ t h. refl))
    (made_reads (λ s. record { at = s.at; inverted = false; what = s.what }) plain_reads)
    (λ t h. no_mark_is 126 t h))
    any (marks path_marks) (λ t h. refl) (λ t h. or_from _ _ h h)

-- `,`, `.` and `[`
abbrev pub sigs_marks : List ℕ
sigs_marks = 44 ∷ path_marks

pub sigs_reads : Reads sigs any (marks sigs_marks) false read_sigs
unfolding sigs read_sigs
sigs_reads = parted_reads 44 sig_reads (λ t h. marks_apart 44 path_marks refl t h)

-- ---- parts in a row

pub expr_shrinks : Shrinks read_expr
expr_shrinks = reads_shrink expr_reads

pub value_shrinks : Shrinks read_value
value_shrinks = reads_shrink value_reads

pub sig_shrinks : Shrinks read_sig
sig_shrinks = reads_shrink sig_reads
