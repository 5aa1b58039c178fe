-- Tokens exclude one another.
use Rattle.std.proofs.Common.{◌≡◌, ℕ, Bool, true, false, cond, List, [], ◌∷◌, Option, Some, None, refl}
use Rattle.std.proofs.Common.{is_some, eqb}
use Rattle.std.proofs.lemmas.Bool.{eqb-true, or_from}
use Rattle.std.specs.Prelude.{◌||◌}
use Rattle.icl_lexer.specs.declared.token.TokenKind.{TokenKind}
use Rattle.icl_lexer.specs.declared.token.TokenKind.TheVariants.{Word, Decimal, Sized, Quoted, Param, Mark}
use Rattle.icl_lexer.specs.Seen.{SeenToken, if_word, if_mark, is_byte, is_mark}
use Rattle.icl_expressions.specs.Reading.{no_close}

abbrev pub nothing : SeenToken → Bool
nothing t = false

-- a token that isn't a mark
abbrev pub no_mark : SeenToken → Bool
no_mark t = if_mark t.kind false true

-- one of some marks
abbrev pub marks : List ℕ → SeenToken → Bool
marks [] t = false
marks (c ∷ cs) t = is_mark c t || marks cs t

-- ---- little laws of tests

pub none_cond : {A : Type 0} (b : Bool) (a : A) → b ≡ false → is_some (cond b (Some a) None) ≡ false
none_cond b a h = rw h refl

pub either_true : (a b : Bool) {P : Bool} → (a ≡ true → P ≡ true)
    → (b ≡ true → P ≡ true) → a || b ≡ true → P ≡ true
either_true true b f g h = f refl
either_true false b f g h = g h

-- ---- marks

byte_apart : (c d : ℕ) → eqb c d ≡ false → (text : List ℕ) → is_byte c text ≡ true → is_byte d text ≡ false
byte_apart c d ne [] h = absurd cc
byte_apart c d ne (b ∷ []) h = let same : b ≡ c = eqb-true b c h in rw same ne
byte_apart c d ne (b ∷ e ∷ text) h = absurd cc

kinds_apart : (k : TokenKind) (c d : ℕ) → eqb c d ≡ false → (text : List ℕ)
    → if_mark k (is_byte c text) false ≡ true → if_mark k (is_byte d text) false ≡ false
kinds_apart Word c d ne text h = absurd cc
kinds_apart Decimal c d ne text h = absurd cc
kinds_apart Sized c d ne text h = absurd cc
kinds_apart Quoted c d ne text h = absurd cc
kinds_apart Param c d ne text h = absurd cc
kinds_apart Mark c d ne text h = byte_apart c d ne text h

pub mark_apart : (c d : ℕ) → eqb c d ≡ false → (t : SeenToken) → is_mark c t ≡ true → is_mark d t ≡ false
mark_apart c d ne t h = kinds_apart t.kind c d ne t.text h

-- whether a mark is none of some
abbrev pub is_none_of : ℕ → List ℕ → Bool
is_none_of c [] = true
is_none_of c (d ∷ ds) = cond (eqb c d) false (is_none_of c ds)

none_first : (b r : Bool) → cond b false r ≡ true → b ≡ false
none_first true r h = absurd cc
none_first false r h = refl

none_rest : (b r : Bool) → cond b false r ≡ true → r ≡ true
none_rest true r h = absurd cc
none_rest false r h = h

pub marks_apart : (c : ℕ) (ds : List ℕ) → is_none_of c ds ≡ true → (t : SeenToken)
    → is_mark c t ≡ true → marks ds t ≡ false
marks_apart c [] n t h = refl
marks_apart c (d ∷ ds) n t h =
    or_from _ _ (mark_apart c d (none_first _ _ n) t h) (marks_apart c ds (none_rest _ _ n) t h)

-- ---- kinds

no_mark_kind : (k : TokenKind) (b : Bool) → if_mark k false true ≡ true → if_mark k b false ≡ false
no_mark_kind Word b h = refl
no_mark_kind Decimal b h = refl
no_mark_kind Sized b h = refl
no_mark_kind Quoted b h = refl
no_mark_kind Param b h = refl
no_mark_kind Mark b h = absurd cc

pub no_mark_is : (c : ℕ) (t : SeenToken) → no_mark t ≡ true → is_mark c t ≡ false
no_mark_is c t h = no_mark_kind t.kind (is_byte c t.text) h

pub no_mark_closes : (t : SeenToken) → no_mark t ≡ true → no_close t ≡ true
no_mark_closes t h = rw (no_mark_is 125 t h) refl

pub mark_closes : (c : ℕ) → eqb c 125 ≡ false → (t : SeenToken) → is_mark c t ≡ true → no_close t ≡ true
mark_closes c ne t h = rw (mark_apart c 125 ne t h) refl

word_kind : {A : Type 0} (k : TokenKind) (o : Option A)
    → is_some (if_word k o None) ≡ true → if_mark k false true ≡ true
word_kind Word o h = refl
word_kind Decimal o h = absurd cc
word_kind Sized o h = absurd cc
word_kind Quoted o h = absurd cc
word_kind Param o h = absurd cc
word_kind Mark o h = absurd cc

pub word_no_mark : {A : Type 0} (o : Option A) (t : SeenToken)
    → is_some (if_word t.kind o None) ≡ true → no_mark t ≡ true
word_no_mark o t h = word_kind t.kind o h
