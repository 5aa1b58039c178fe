-- How what is printed of a part of a design is derived again, built of the same for its own parts.
use Rattle.std.proofs.Common.{◌≡◌, ◌==◌, ℕ, true, false, cond, List, [], ◌∷◌, ◌++◌, Option, Some, None, refl}
use Rattle.std.proofs.Common.{ap, ◌∙◌, subst, append-nil, inl, inr}
use Rattle.std.specs.Str.{bytes_eq}
use Rattle.ij_text.specs.declared.Place.{Place}
use Rattle.ij_text.specs.Symbol.{one, give, ◌>>=◌, ◌<|>◌, IsOne}
use Rattle.icl_lexer.specs.declared.token.TokenKind.{TokenKind}
use Rattle.icl_lexer.specs.declared.token.TokenKind.TheVariants.{Word, Decimal, Sized, Quoted, Param, Mark}
use Rattle.icl_lexer.specs.Seen.{SeenToken, if_word, if_mark, is_byte, name_at}
use Rattle.icl_lexer.specs.Grammar.{Of, name, mark as a_mark, word as a_word}
use Rattle.icl_printer.specs.Layout.{Spelling, word, mark}
use Rattle.icl_printer.specs.Again.{spelling_of, spellings, IsSpelled, AllSpelled}

-- ---- lists of spellings

pub all_append : (x y : List Spelling) → AllSpelled x → AllSpelled y → AllSpelled (x ++ y)
all_append [] y p q = q
all_append (s ∷ x) y p q = (p.0, all_append x y p.1 q)

pub all_front : (x y : List SeenToken) → AllSpelled (spellings (x ++ y)) → AllSpelled (spellings x)
all_front [] y p = tt
all_front (t ∷ x) y p = (p.0, all_front x y p.1)

pub all_back : (x y : List SeenToken) → AllSpelled (spellings (x ++ y)) → AllSpelled (spellings y)
all_back [] y p = p
all_back (t ∷ x) y p = all_back x y p.1

-- tokens that are spelled so, cut where the spellings are
pub record Cut (us : List SeenToken) (x y : List Spelling) : Type 0 where
  pub front : List SeenToken
  pub back : List SeenToken
  pub whole : us ≡ front ++ back
  pub front_is : spellings front ≡ x
  pub back_is : spellings back ≡ y

pub cut : (us : List SeenToken) (x y : List Spelling) → spellings us ≡ x ++ y → Cut us x y
cut us [] y e = record { front = []; back = us; whole = refl; front_is = refl; back_is = e }
cut [] (s ∷ x) y e = absurd (cc)
cut (t ∷ us) (s ∷ x) y e =
    let c = cut us x y (cc) in
    record {
      front = t ∷ c.front;
      back = c.back;
      whole = ap (λ (z : List SeenToken). t ∷ z) c.whole;
      front_is = cc;
      back_is = c.back_is;
    }

-- ---- what is printed

-- these spellings are pieces, and tokens that are spelled so derive the value, but for what is bare of it
pub record Printed {A B : Type 0} (S : Of A) (bare : A → B) (cs : List Spelling) (a : A) : Type 0 where
  pub good : AllSpelled cs
  pub again : (us : List SeenToken) → spellings us ≡ cs → (x : A) × (S.derives us x) × (bare x ≡ bare a)

-- what is derived is printed so
abbrev pub Law : {A B : Type 0} → Of A → (A → B) → (A → List Spelling) → Type 0
Law {A} S bare canon = (ts : List SeenToken) (a : A) → AllSpelled (spellings ts)
    → S.derives ts a → Printed S bare (canon a) a

pub p_turn : {A A' B B' : Type 0} {S : Of A} {next : A → Of B} {bare : A → A'} {bare' : B
    → B'} {x y : List Spelling} {a : A} {b : B}
    → Printed S bare x a → ((a' : A) → bare a' ≡ bare a → Printed (next a') bare' y b)
    → Printed (S >>= next) bare' (x ++ y) b
p_turn {A} {A'} {B} {B'} {S} {next} {bare} {bare'} {x} {y} {a} {b} p q = record {
  good = all_append x y p.good (q a refl).good;
  again = λ us e.
      let c = cut us x y e in
      let first = p.again c.front c.front_is in
      let second = (q first.0 first.2).again c.back c.back_is in
      (second.0, (c.front, c.back, first.0, c.whole, first.1, second.1), second.2);
}

pub nothing_spelled : (us : List SeenToken) → spellings us ≡ [] → us ≡ []
nothing_spelled [] e = refl
nothing_spelled (t ∷ us) e = absurd (cc)

pub p_give : {B B' : Type 0} {bare : B → B'} (x b : B) → bare x ≡ bare b → Printed (give x) bare [] b
p_give x b e = record { good = tt; again = λ us h. (x, (nothing_spelled us h, refl), e) }

-- a last part, and a value of it
pub p_last : {A A' B B' : Type 0} {S : Of A} {f : A → B} {bare : A → A'} {bare' : B
    → B'} {x : List Spelling} {a : A} {b : B}
    → Printed S bare x a → ((a' : A) → bare a' ≡ bare a → bare' (f a') ≡ bare' b)
    → Printed (S >>= λ a'. give (f a')) bare' x b
p_last {A} {A'} {B} {B'} {S} {f} {bare} {bare'} {x} {a} {b} p q =
    subst (λ (z : List Spelling). Printed (S >>= λ a'. give (f a')) bare' z b) (append-nil x)
    (p_turn p (λ a' e. p_give (f a') b (q a' e)))

pub p_left : {A A' : Type 0} {S R : Of A} {bare : A → A'} {x : List Spelling} {a : A}
    → Printed S bare x a → Printed (S <|> R) bare x a
p_left p = record { good = p.good; again = λ us e. let r = p.again us e in (r.0, inl r.1, r.2) }

pub p_right : {A A' : Type 0} {S R : Of A} {bare : A → A'} {x : List Spelling} {a : A}
    → Printed R bare x a → Printed (S <|> R) bare x a
p_right p = record { good = p.good; again = λ us e. let r = p.again us e in (r.0, inr r.1, r.2) }

-- ---- single tokens

pub record Single {A : Type 0} (f : SeenToken → Option A) (ts : List SeenToken) (a : A) : Type 0 where
  pub token : SeenToken
  pub alone : ts ≡ token ∷ []
  pub takes : f token ≡ Some a

pub single : {A : Type 0} (f : SeenToken → Option A) (ts : List SeenToken) (a : A)
    → IsOne f ts a → Single f ts a
single f [] a h = absurd h
single f (t ∷ []) a h = record { token = t; alone = refl; takes = h }
single f (t ∷ u ∷ ts) a h = absurd h

one_spelled : {A A' : Type 0} {f : SeenToken → Option A} {bare : A
    → A'} (s : Spelling) (a : A) (us : List SeenToken)
    → ((t : SeenToken) → spelling_of t ≡ s → (x : A) × (f t ≡ Some x) × (bare x ≡ bare a))
    → spellings us ≡ s ∷ [] → (x : A) × (IsOne f us x) × (bare x ≡ bare a)
one_spelled s a [] g e = absurd (cc)
one_spelled s a (t ∷ []) g e = g t (cc)
one_spelled s a (t ∷ u ∷ us) g e = absurd (cc)

pub p_one : {A A' : Type 0} {f : SeenToken → Option A} {bare : A → A'} (s : Spelling) (a : A) → IsSpelled s
    → ((t : SeenToken) → spelling_of t ≡ s → (x : A) × (f t ≡ Some x) × (bare x ≡ bare a))
    → Printed (one f) bare (s ∷ []) a
p_one s a ok g = record { good = (ok, tt); again = λ us e. one_spelled s a us g e }

-- a place is nothing but a place
abbrev pub no_place : Place → Unit {0}
no_place at = tt

pub p_mark : (c : ℕ) (at : Place) → IsSpelled (mark c) → (c == c) ≡ true
    → Printed (a_mark c) no_place (mark c ∷ []) at
p_mark c at ok same =
    p_one (mark c) at ok
    (λ t e. (
      t.at,
      ap (λ (s : Spelling). cond (if_mark s.kind (is_byte c s.text) false) (Some t.at) None) e
          ∙ ap (λ b. cond b (Some t.at) None) same,
      refl,
    ))

pub p_word : (w : List ℕ) (at : Place) → IsSpelled (word w) → bytes_eq w w ≡ true
    → Printed (a_word w) no_place (word w ∷ []) at
p_word w at ok same =
    p_one (word w) at ok
    (λ t e. (
      t.at,
      ap (λ (s : Spelling). cond (if_word s.kind (bytes_eq s.text w) false) (Some t.at) None) e
          ∙ ap (λ b. cond b (Some t.at) None) same,
      refl,
    ))

abbrev pub itself : {A : Type 0} → A → A
itself a = a

pub p_name : (n : List ℕ) → IsSpelled (word n) → Printed name itself (word n ∷ []) n
p_name n ok = p_one (word n) n ok
    (λ t e. (n, ap (λ (s : Spelling). if_word s.kind (Some s.text) None) e, refl))

word_kind : (k : TokenKind) (text n : List ℕ) → if_word k (Some text) None ≡ Some n
    → let s : Spelling = record { kind = k; text = text } in s ≡ word n
word_kind Word text n e = let same : text ≡ n = cc in ap word same
word_kind Decimal text n e = absurd (cc)
word_kind Sized text n e = absurd (cc)
word_kind Quoted text n e = absurd (cc)
word_kind Param text n e = absurd (cc)
word_kind Mark text n e = absurd (cc)

pub name_spelled : (ts : List SeenToken) (n : List ℕ) → AllSpelled (spellings ts)
    → name.derives ts n → IsSpelled (word n)
name_spelled ts n good h =
    let o = single name_at ts n h in
    let here : AllSpelled (spellings (o.token ∷ [])) =
    subst (λ (us : List SeenToken). AllSpelled (spellings us)) o.alone good in
    subst IsSpelled (word_kind o.token.kind o.token.text n o.takes) here.0

pub name_law : Law name itself (λ n. word n ∷ [])
name_law ts n good h = p_name n (name_spelled ts n good h)

-- ---- one part after another

pub record Turned {A B : Type 0} (S : Of A) (next : A → Of B) (b : B) : Type 0 where
  pub front : List SeenToken
  pub back : List SeenToken
  pub value : A
  pub derived : S.derives front value
  pub good : AllSpelled (spellings front)
  pub rest : (next value).derives back b
  pub good_rest : AllSpelled (spellings back)

pub turned : {A B : Type 0} (S : Of A) (next : A → Of B) (ts : List SeenToken) (b : B)
    → AllSpelled (spellings ts) → (S >>= next).derives ts b → Turned S next b
turned S next ts b good h =
    let both : AllSpelled (spellings (h.0 ++ h.1)) =
    subst (λ (us : List SeenToken). AllSpelled (spellings us)) h.3 good in
    record {
      front = h.0;
      back = h.1;
      value = h.2;
      derived = h.4;
      good = all_front h.0 h.1 both;
      rest = h.5;
      good_rest = all_back h.0 h.1 both;
    }

-- a token that is spelled so
abbrev pub placed : Spelling → Place → SeenToken
placed s at = record { kind = s.kind; at = at; text = s.text }

pub p_token : {A A' : Type 0} {f : SeenToken → Option A} {bare : A
    → A'} (s : Spelling) (a : A) (x : Place → A) → IsSpelled s
    → ((at : Place) → f (placed s at) ≡ Some (x at)) → ((at : Place) → bare (x at) ≡ bare a)
    → Printed (one f) bare (s ∷ []) a
p_token {A} {A'} {f} s a x ok takes same =
    p_one s a ok (λ t e. (x t.at, ap (λ (r : Spelling). f (placed r t.at)) e ∙ takes t.at, same t.at))

-- the tokens of both parts are pieces
pub halves : (front back ts : List SeenToken) → ts ≡ front ++ back → AllSpelled (spellings ts)
    → (AllSpelled (spellings front)) × (AllSpelled (spellings back))
halves front back ts is good =
    let both : AllSpelled (spellings (front ++ back)) =
    subst (λ (us : List SeenToken). AllSpelled (spellings us)) is good in
    (all_front front back both, all_back front back both)
