-- What the grammar gives each design: names of ICL, and multiplexers with a select and rows.
use Rattle.std.proofs.Common.{◌≡◌, ◌+◌, ◌<◌, ◌≤◌, ◌++◌, ◌^◌, ℕ, zero, suc, Bool, true, false, ◌&&◌, cond}
use Rattle.std.proofs.Common.{List, [], ◌∷◌, length, Option, Some, None, IsTrue, refl, sym, ap, subst, ◌∙◌}
use Rattle.std.proofs.Common.{arith, length-append, slice_range}
use Rattle.std.specs.Prelude.{◌==◌}
use Rattle.std.specs.Char.{is_ascii_digit}
use Rattle.std.specs.List.{AllByRecursion, list_all}
use Rattle.ij_text.specs.Bytes.{is_blank}
use Rattle.ij_text.specs.Words.{begins_name, in_name, is_name}
use Rattle.ij_text.specs.Symbol.{Parts, IsOne, ◌>>=◌, appended}
use Rattle.icl_lexer.specs.Token.{Token}
use Rattle.icl_lexer.specs.declared.token.TokenKind.{TokenKind}
use Rattle.icl_lexer.specs.declared.token.TokenKind.TheVariants.{Word, Decimal, Sized, Quoted, Param, Mark}
use Rattle.icl_lexer.specs.declared.token.PieceKind.{PieceKind}
use Rattle.icl_lexer.specs.declared.token.PieceKind.TheVariants.{Gap, Is}
use Rattle.icl_lexer.specs.Pieces.{kind_of, ends, run, in_digits, is_digit_x, digits, is_base, base, size}
use Rattle.icl_lexer.specs.Pieces.{in_decimal, decimal, parameter, dollar, quoted, block, slash, in_line}
use Rattle.icl_lexer.specs.Pieces.{is_mark}
use Rattle.icl_lexer.specs.Laws.{AreInText}
use Rattle.icl_lexer.proofs.Total.{tokens_in_text}
use Rattle.icl_lexer.specs.declared.words.ItemKeyword.{ItemKeyword}
use Rattle.icl_lexer.specs.declared.words.ItemKeyword.TheVariants.{OfPort, OfRegister, OfMux, OfChild}
use Rattle.icl_lexer.specs.declared.words.ItemKeyword.TheVariants.{OfAlias, OfEnum, OfParameter, OfAttribute}
use Rattle.icl_lexer.specs.declared.words.ItemKeyword.TheVariants.{OfInterface, OfLink}
use Rattle.icl_lexer.specs.Seen.{SeenToken, if_word, name_at, mark_at, seen_tokens}
use Rattle.icl_lexer.specs.Values.{SeenRow, SeenEnumWord, SeenWhat, SeenItem, SeenModule}
use Rattle.icl_lexer.specs.Grammar.{Of, name, mark, value, sig, sigs, parted}
use Rattle.icl_lexer.specs.Modules.{port, register, alias, parameter as a_parameter, attribute, row, rows}
use Rattle.icl_lexer.specs.Modules.{mux, braced, child, enum_word, words, interface, link, meaning_after}
use Rattle.icl_lexer.specs.Modules.{item, module_of, design}
use Rattle.icl_frames.specs.Written.{IsWrittenWhat, IsWrittenItem, IsWritten, DesignsAreWritten}
use Rattle.ij_bits.proofs.Everywhere.{all_front, all_back, all_both}
use Rattle.icl_lexer.proofs.Fronts.{seen_count}

-- ---- the words of a text are names

some_is : (k l : PieceKind) → ◌≡◌ {A = Option PieceKind} (Some k) (Some l) → k ≡ l
some_is k l h = ap value_of h
  where
    value_of : Option PieceKind → PieceKind
    value_of None = k
    value_of (Some z) = z

-- other pieces are no words
abbrev pub IsNoWord : Option PieceKind → Type 0
IsNoWord o = o ≡ Some (Is Word) → ⊥

ends_so : (k : PieceKind) → IsNoWord (Some k) → (bs : List ℕ) → IsNoWord (ends k bs)
ends_so k other [] h = other h
ends_so k other (b ∷ bs) h = absurd cc

by_test : (t : Bool) (a b : Option PieceKind) → IsNoWord a → IsNoWord b → IsNoWord (cond t a b)
by_test true a b p q = p
by_test false a b p q = q

no_kind : IsNoWord None
no_kind h = absurd cc

no_gap : IsNoWord (Some Gap)
no_gap h = let e = some_is Gap (Is Word) h in absurd cc

no_sized : IsNoWord (Some (Is Sized))
no_sized h = let e = some_is (Is Sized) (Is Word) h in absurd cc

no_quoted : IsNoWord (Some (Is Quoted))
no_quoted h = let e = some_is (Is Quoted) (Is Word) h in absurd cc

no_mark : IsNoWord (Some (Is Mark))
no_mark h = let e = some_is (Is Mark) (Is Word) h in absurd cc

no_decimal : IsNoWord (Some (Is Decimal))
no_decimal h = let e = some_is (Is Decimal) (Is Word) h in absurd cc

no_param : IsNoWord (Some (Is Param))
no_param h = let e = some_is (Is Param) (Is Word) h in absurd cc

run_so : (class : ℕ → Bool) (k : PieceKind) → IsNoWord (Some k) → (bs : List ℕ) → IsNoWord (run class k bs)
run_so class k other [] = other
run_so class k other (b ∷ bs) = by_test (class b) (run class k bs) None (run_so class k other bs) no_kind

digits_so : (bs : List ℕ) → IsNoWord (digits bs)
digits_so [] = no_kind
digits_so (b ∷ bs) = by_test (is_digit_x b) (run in_digits (Is Sized) bs) None
    (run_so in_digits (Is Sized) no_sized bs) no_kind

base_so : (bs : List ℕ) → IsNoWord (base bs)
base_so [] = no_kind
base_so (b ∷ bs) = by_test (is_base b) (digits bs) None (digits_so bs) no_kind

size_so : (class : ℕ → Bool) (k : TokenKind) → IsNoWord (Some (Is k))
    → (bs : List ℕ) → IsNoWord (size class k bs)
size_so class k other [] = other
size_so class k other (b ∷ bs) = by_test (class b) (size class k bs) (cond (b == 39) (base bs) None)
    (size_so class k other bs) (by_test (b == 39) (base bs) None (base_so bs) no_kind)

dollar_so : (bs : List ℕ) → IsNoWord (dollar bs)
dollar_so [] = no_kind
dollar_so (b ∷ bs) = by_test (begins_name b) (parameter bs) None (size_so in_name Param no_param bs) no_kind

quoted_so : (escaped : Bool) (bs : List ℕ) → IsNoWord (quoted escaped bs)
quoted_so escaped [] = no_kind
quoted_so true (b ∷ bs) = quoted_so false bs
quoted_so false (b ∷ bs) = by_test (b == 34) (ends (Is Quoted) bs) (quoted (b == 92) bs)
    (ends_so (Is Quoted) no_quoted bs) (quoted_so (b == 92) bs)

block_so : (star : Bool) (bs : List ℕ) → IsNoWord (block star bs)
block_so star [] = no_kind
block_so true (b ∷ bs) =
    by_test (b == 47) (ends Gap bs) (block (b == 42) bs) (ends_so Gap no_gap bs) (block_so (b == 42) bs)
block_so false (b ∷ bs) = block_so (b == 42) bs

slash_so : (bs : List ℕ) → IsNoWord (slash bs)
slash_so [] = no_mark
slash_so (b ∷ bs) =
    by_test (b == 47) (run in_line Gap bs) (cond (b == 42) (block false bs) None)
    (run_so in_line Gap no_gap bs) (by_test (b == 42) (block false bs) None (block_so false bs) no_kind)

run_all : (class : ℕ → Bool) (k : PieceKind) (bs : List ℕ)
    → run class k bs ≡ Some k → list_all class bs ≡ true
run_all class k [] h = refl
run_all class k (b ∷ bs) h = by_class (class b) h (λ g. run_all class k bs g)
  where
    by_class : (t : Bool) → cond t (run class k bs) None ≡ Some k
        → (run class k bs ≡ Some k → list_all class bs ≡ true) → (t && list_all class bs) ≡ true
    by_class true g again = again g
    by_class false g again = absurd cc

-- what begins neither as a gap nor as a word
abbrev other_kind : ℕ → List ℕ → Option PieceKind
other_kind b bs =
    cond (is_ascii_digit b) (decimal bs)
    (cond (b == 36) (dollar bs) (cond (b == 39) (base bs) (cond (b == 34) (quoted false bs)
    (cond (b == 47) (slash bs) (cond (is_mark b) (ends (Is Mark) bs) None)))))

others_so : (b : ℕ) (bs : List ℕ) → IsNoWord (other_kind b bs)
others_so b bs =
    by_test (is_ascii_digit b) (decimal bs) _ (size_so in_decimal Decimal no_decimal bs)
    (by_test (b == 36) (dollar bs) _ (dollar_so bs)
    (by_test (b == 39) (base bs) _ (base_so bs)
    (by_test (b == 34) (quoted false bs) _ (quoted_so false bs)
    (by_test (b == 47) (slash bs) _ (slash_so bs)
    (by_test (is_mark b) (ends (Is Mark) bs) None (ends_so (Is Mark) no_mark bs) no_kind)))))

word_is_name : (bs : List ℕ) → kind_of bs ≡ Some (Is Word) → IsTrue (is_name bs)
word_is_name [] h = absurd cc
word_is_name (b ∷ bs) h = by_blank (is_blank b) h
  where
    by_name : (t : Bool) → cond t (run in_name (Is Word) bs) (other_kind b bs) ≡ Some (Is Word)
        → (t && list_all in_name bs) ≡ true
    by_name true g = run_all in_name (Is Word) bs g
    by_name false g = absurd (others_so b bs g)

    by_blank : (t : Bool)
        → cond t (ends Gap bs) (cond (begins_name b) (run in_name (Is Word) bs) (other_kind b bs))
        ≡ Some (Is Word) → (begins_name b && list_all in_name bs) ≡ true
    by_blank true g = absurd (ends_so Gap no_gap bs g)
    by_blank false g = by_name (begins_name b) g

-- ---- tokens

-- a token that is a word is a name
abbrev pub IsSound : SeenToken → Type 0
IsSound t = (n : List ℕ) → name_at t ≡ Some n → IsTrue (is_name n)

sound_token : (kind : TokenKind) (text : List ℕ) → kind_of text ≡ Some (Is kind) → (n : List ℕ)
    → if_word kind (Some text) None ≡ Some n → IsTrue (is_name n)
sound_token Word text h n e =
    subst (λ (t : List ℕ). IsTrue (is_name t)) (ap (text_of text) e) (word_is_name text h)
  where
    text_of : List ℕ → Option (List ℕ) → List ℕ
    text_of d None = d
    text_of d (Some z) = z
sound_token Decimal text h n e = absurd cc
sound_token Sized text h n e = absurd cc
sound_token Quoted text h n e = absurd cc
sound_token Param text h n e = absurd cc
sound_token Mark text h n e = absurd cc

sound_tokens : (text : List ℕ) (from : ℕ) (tokens : List Token) → AreInText text from tokens
    → AllByRecursion IsSound (seen_tokens text tokens)
sound_tokens text from [] h = tt
sound_tokens text from (t ∷ ts) (a, b, c, d, e, others) =
    (sound_token t.kind (slice_range text t.start t.end) e, sound_tokens text t.end ts others)

-- ---- derivations

-- sound tokens, fewer than 2^32
pub record Fit (ts : List SeenToken) : Type 0 where
  pub sound : AllByRecursion IsSound ts
  pub few : length ts < 2 ^ 32

pub record Halves (front back : List SeenToken) : Type 0 where
  pub first : Fit front
  pub second : Fit back

halves : (front back ts : List SeenToken) → ts ≡ front ++ back → Fit ts → Halves front back
halves front back ts e f =
    let s : AllByRecursion IsSound (front ++ back) = subst (AllByRecursion IsSound) e f.sound in
    let long = ap length e ∙ length-append front back in
    let few = f.few in
    record {
      first = record { sound = all_front IsSound front back s; few = omega (arith, long, few) };
      second = record { sound = all_back IsSound front back s; few = omega (arith, long, few) };
    }

named : (ts : List SeenToken) (n : List ℕ) → Fit ts → name.derives ts n → IsTrue (is_name n)
named [] n f h = absurd h
named (t ∷ []) n f h = f.sound.0 n h
named (t ∷ u ∷ ts) n f h = absurd h

-- ---- repetitions

module _ {A : Type 0} (S : Of A) where
  parts_all : (P : A → Type 0) → ((ts : List SeenToken) (a : A) → Fit ts → S.derives ts a → P a)
      → (n : ℕ) (s : List A) (ts : List SeenToken) (last : List A) → Fit ts
      → Parts (λ (xs : List A). S) appended n s ts last → AllByRecursion P s → AllByRecursion P last
  parts_all P good zero s ts last f h p = subst (AllByRecursion P) (sym h.1) p
  parts_all P good (suc n) s ts last f (front, back, a, e, one, others) p =
      let g = halves front back ts e f in parts_all P good n (s ++ a ∷ []) back last g.second others
      (all_both P s (a ∷ []) p (good front a g.first one, tt))

  parts_long : (n : ℕ) (s : List A) (ts : List SeenToken) (last : List A)
      → Parts (λ (xs : List A). S) appended n s ts last → length last ≡ length s + n
  parts_long zero s ts last h = ap length h.1 ∙ omega arith
  parts_long (suc n) s ts last (front, back, a, e, one, others) =
      let again = parts_long n (s ++ a ∷ []) back last others in
      let long = length-append s (a ∷ []) in omega (arith, again, long)

  parts_few : ((ts : List SeenToken) (a : A) → S.derives ts a → 1 ≤ length ts)
      → (n : ℕ) (s : List A) (ts : List SeenToken) (last : List A)
      → Parts (λ (xs : List A). S) appended n s ts last → n ≤ length ts
  parts_few some zero s ts last h = omega arith
  parts_few some (suc n) s ts last (front, back, a, e, one, others) =
      let again = parts_few some n (s ++ a ∷ []) back last others in
      let first = some front a one in
      let long = ap length e ∙ length-append front back in
      omega (arith, again, first, long)

  parted_some : (c : ℕ) (ts : List SeenToken) (xs : List A) → (parted c S).derives ts xs → 1 ≤ length xs
  parted_some c ts xs (front, back, a, e, one, others) =
      parted_more c others.0 (a ∷ []) back xs (omega arith) others.1
    where
      parted_more : (c : ℕ) (n : ℕ) (s : List A) (ts : List SeenToken) (last : List A) → 1 ≤ length s
          → Parts (λ (xs : List A). mark c >>= λ m. S) appended n s ts last → 1 ≤ length last
      parted_more c zero s ts last le h = subst (λ (l : List A). 1 ≤ length l) (sym h.1) le
      parted_more c (suc n) s ts last le (front, back, a, e, one, others) =
          let long = length-append s (a ∷ []) in
          parted_more c n (s ++ a ∷ []) back last (omega (arith, long, le)) others

  braced_all : (P : A → Type 0) → ((ts : List SeenToken) (a : A) → Fit ts → S.derives ts a → P a)
      → (ts : List SeenToken) (xs : List A) → Fit ts → (braced S).derives ts xs → AllByRecursion P xs
  braced_all P good ts xs f h =
      let g = halves h.0 h.1 ts h.3 f in
      let h2 = h.5 in
      let g2 = halves h2.0 h2.1 h.1 h2.3 g.second in
      let h3 = h2.5 in
      subst (AllByRecursion P) (sym h3.5.1) (parts_all P good h2.4.0 [] h2.0 h2.2 g2.first h2.4.1 tt)

one_token : {A : Type 0} (f : SeenToken → Option A) (ts : List SeenToken) (a : A)
    → IsOne f ts a → length ts ≡ 1
one_token f [] a h = absurd h
one_token f (t ∷ []) a h = refl
one_token f (t ∷ u ∷ ts) a h = absurd h

-- ---- multiplexers

row_some : (ts : List SeenToken) (r : SeenRow) → row.derives ts r → 1 ≤ length ts
unfolding row
row_some ts r h =
    let long = ap length h.3 ∙ length-append h.0 h.1 in
    let h2 = h.5 in
    let long2 = ap length h2.3 ∙ length-append h2.0 h2.1 in
    let colon = one_token (mark_at 58) h2.0 h2.2 h2.4 in
    omega (arith, long, long2, colon)

row_written : (ts : List SeenToken) (r : SeenRow) → Fit ts → row.derives ts r → 1 ≤ length r.values
unfolding row
row_written ts r f h =
    let some = parted_some value 124 h.0 h.2 h.4 in
    let same = h.5.5.5.5.1 in
    subst (λ (x : SeenRow). 1 ≤ length x.values) (sym same) some

mux_written : (ts : List SeenToken) (w : SeenWhat) → Fit ts → mux.derives ts w → IsWrittenWhat w
unfolding mux rows sigs
mux_written ts w f h =
    let g = halves h.0 h.1 ts h.3 f in
    let h2 = h.5 in
    let g2 = halves h2.0 h2.1 h.1 h2.3 g.second in
    let h3 = h2.5 in
    let g3 = halves h3.0 h3.1 h2.1 h3.3 g2.second in
    let h4 = h3.5 in
    let g4 = halves h4.0 h4.1 h3.1 h4.3 g3.second in
    let r = h4.4 in
    let g5 = halves r.0 r.1 h4.0 r.3 g4.first in
    let long = parts_long row r.5.0 (r.2 ∷ []) r.1 h4.2 r.5.1 in
    let few = parts_few row row_some r.5.0 (r.2 ∷ []) r.1 h4.2 r.5.1 in
    let first = row_some r.0 r.2 r.4 in
    let tokens = ap length r.3 ∙ length-append r.0 r.1 in
    let fit = g4.first.few in
    let all = parts_all row (λ (x : SeenRow). 1 ≤ length x.values) row_written r.5.0
    (r.2 ∷ []) r.1 h4.2 g5.second r.5.1 (row_written r.0 r.2 g5.first r.4, tt) in
    subst IsWrittenWhat (sym h4.5.5.1)
    (record {
      select_some = parted_some sig 44 h2.0 h2.2 h2.4;
      rows_some = omega (arith, long);
      rows_few = omega (arith, long, few, first, tokens, fit);
      values_some = all;
    })

-- ---- other items

word_written : (ts : List SeenToken) (w : SeenEnumWord) → Fit ts
    → enum_word.derives ts w → IsTrue (is_name w.name)
unfolding enum_word
word_written ts w f h = let g = halves h.0 h.1 ts h.3 f in
    subst (λ (x : SeenEnumWord). IsTrue (is_name x.name)) (sym h.5.5.5.5.1) (named h.0 h.2 g.first h.4)

meaning_written : (w : ItemKeyword) (ts : List SeenToken) (m : SeenWhat) → Fit ts
    → (meaning_after w).derives ts m → IsWrittenWhat m
unfolding port register alias a_parameter attribute child words interface link
meaning_written (OfPort kind) ts m f h = subst IsWrittenWhat (sym h.5.5.1) tt
meaning_written OfRegister ts m f h = subst IsWrittenWhat (sym h.5.5.1) tt
meaning_written OfMux ts m f h = mux_written ts m f h
meaning_written OfChild ts m f h = subst IsWrittenWhat (sym h.5.5.5.1) tt
meaning_written OfAlias ts m f h = subst IsWrittenWhat (sym h.5.5.5.5.1) tt
meaning_written OfEnum ts m f h =
    let g = halves h.0 h.1 ts h.3 f in subst IsWrittenWhat (sym h.5.1) (braced_all enum_word
    (λ (w : SeenEnumWord). IsTrue (is_name w.name)) word_written h.0 h.2 g.first h.4)
meaning_written (OfParameter local) ts m f h = subst IsWrittenWhat (sym h.5.5.1) tt
meaning_written OfAttribute ts m f h = subst IsWrittenWhat (sym h.5.5.1) tt
meaning_written OfInterface ts m f h = subst IsWrittenWhat (sym h.5.5.5.1) tt
meaning_written OfLink ts m f h = subst IsWrittenWhat (sym h.5.5.5.5.5.5.1) tt

item_written : (ts : List SeenToken) (i : SeenItem) → Fit ts → item.derives ts i → IsWrittenItem i
unfolding item
item_written ts i f h =
    let g = halves h.0 h.1 ts h.3 f in
    let h2 = h.5 in
    let g2 = halves h2.0 h2.1 h.1 h2.3 g.second in
    let h3 = h2.5 in
    let g3 = halves h3.0 h3.1 h2.1 h3.3 g2.second in
    subst IsWrittenItem (sym h3.5.1) (record
    { name = named h2.0 h2.2 g2.first h2.4; what = meaning_written h.2.word h3.0 h3.2 g3.first h3.4 })

module_written : (ts : List SeenToken) (m : SeenModule) → Fit ts → module_of.derives ts m → IsWritten m
unfolding module_of
module_written ts m f h =
    let g = halves h.0 h.1 ts h.3 f in
    let h2 = h.5 in
    let g2 = halves h2.0 h2.1 h.1 h2.3 g.second in
    let h3 = h2.5 in
    let g3 = halves h3.0 h3.1 h2.1 h3.3 g2.second in
    subst IsWritten (sym h3.5.1) (record {
      name = named h2.0 h2.2 g2.first h2.4;
      items = braced_all item IsWrittenItem item_written h3.0 h3.2 g3.first h3.4;
    })

pub designs_are_written : DesignsAreWritten
unfolding design
designs_are_written text tokens blocks are few h =
    let long = seen_count text tokens in
    let f : Fit (seen_tokens text tokens) = record {
      sound =
          sound_tokens text 0 tokens (tokens_in_text text tokens are);
      few = omega (arith, long, few);
    } in
    parts_all module_of IsWritten module_written h.0 [] (seen_tokens text tokens) blocks f h.1 tt
