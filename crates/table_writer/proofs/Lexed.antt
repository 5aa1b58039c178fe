-- Lines and words of a text that is put together from words.
use Rattle.std.proofs.Common.{◌≡◌, ◌≢◌, ℕ, suc, Bool, true, false, not, cond, List, [], ◌∷◌, ◌++◌, codes}
use Rattle.std.proofs.Common.{refl, ap, sym, ◌∙◌, append_assoc, append-nil}
use Rattle.std.specs.Prelude.{◌==◌, ◌&&◌, ◌||◌}
use Rattle.std.specs.List.{list_all}
use Rattle.ij_text.specs.Bytes.{is_line_blank}
use Rattle.ij_text.specs.Parts.{before, longer, split}
use Rattle.table_lines.specs.Lines.{Line, lines, without_comment, is_mark, in_word, goes_on, words}
use Rattle.table_lines.specs.Lines.{line_place}
use Rattle.table_lines.specs.Lines.{unless_empty, lines_from}
use Rattle.std.proofs.lemmas.Bool.{and_from}
use Rattle.ij_bits.proofs.Tests.{and_second}
use Rattle.table_lines.proofs.Runs.{of_word}

-- ---- tests of all bytes

pub first_true : (a b : Bool) → (a && b) ≡ true → a ≡ true
first_true true b h = refl
first_true false b h = absurd cc

pub all_both : {A : Type 0} (p : A → Bool) (a b : List A) → list_all p a ≡ true
    → list_all p b ≡ true → list_all p (a ++ b) ≡ true
all_both p [] b h k = k
all_both p (x ∷ xs) b h k =
    and_from (p x) (list_all p (xs ++ b)) (first_true (p x) (list_all p xs) h)
    (all_both p xs b (and_second (p x) (list_all p xs) h) k)

pub all_weaker : {A : Type 0} (p q : A → Bool) → ((x : A) → p x ≡ true → q x ≡ true) → (xs : List A)
    → list_all p xs ≡ true → list_all q xs ≡ true
all_weaker p q weaker [] h = refl
all_weaker p q weaker (x ∷ xs) h =
    and_from (q x) (list_all q xs) (weaker x (first_true (p x) (list_all p xs) h))
    (all_weaker p q weaker xs (and_second (p x) (list_all p xs) h))

-- ---- bytes

-- a byte that neither ends a line nor begins a comment
abbrev pub is_shown : ℕ → Bool
is_shown b = not (b == 10 || b == 35)

-- a byte of a word that is shown
abbrev pub is_letter : ℕ → Bool
is_letter b = in_word b && is_shown b

-- ---- texts and their words

-- the words of a text, before what begins with a blank or a mark
pub record Reads (text : List ℕ) (ws : List (List ℕ)) : Type 0 where
  pub plain : list_all is_shown text ≡ true
  pub reads : (rest : List ℕ) → goes_on rest ≡ false → words (text ++ rest) ≡ ws ++ words rest

-- and it begins with a blank or a mark itself
pub record Follows (text : List ℕ) (ws : List (List ℕ)) : Type 0 where
  pub own : Reads text ws
  pub apart : (rest : List ℕ) → goes_on rest ≡ false → goes_on (text ++ rest) ≡ false

-- the words of a text, whatever comes after it
pub record Always (text : List ℕ) (ws : List (List ℕ)) : Type 0 where
  pub plain : list_all is_shown text ≡ true
  pub reads : (rest : List ℕ) → words (text ++ rest) ≡ ws ++ words rest

pub nothing : Follows [] []
nothing = record { own = record { plain = refl; reads = λ rest h. refl }; apart = λ rest h. h }

pub join : (a b : List ℕ) (us bs : List (List ℕ)) → Reads a us → Follows b bs → Reads (a ++ b) (us ++ bs)
join a b us bs x y = record {
  plain = all_both is_shown a b x.plain y.own.plain;
  reads = λ rest h. ap words (append_assoc a b rest) ∙ x.reads (b ++ rest) (y.apart rest h)
      ∙ ap (λ l. us ++ l) (y.own.reads rest h) ∙ sym (append_assoc us bs (words rest));
}

pub follow : (a b : List ℕ) (us bs : List (List ℕ)) → Follows a us
    → Follows b bs → Follows (a ++ b) (us ++ bs)
follow a b us bs x y = record {
  own = join a b us bs x.own y;
  apart = λ rest h. ap goes_on (append_assoc a b rest) ∙ x.apart (b ++ rest) (y.apart rest h);
}

pub after : (a b : List ℕ) (us bs : List (List ℕ)) → Always a us → Reads b bs → Reads (a ++ b) (us ++ bs)
after a b us bs x y = record {
  plain = all_both is_shown a b x.plain y.plain;
  reads = λ rest h. ap words (append_assoc a b rest) ∙ x.reads (b ++ rest)
      ∙ ap (λ l. us ++ l) (y.reads rest h) ∙ sym (append_assoc us bs (words rest));
}

-- a separator that begins with a blank or a mark
pub record Parts (text : List ℕ) (ws : List (List ℕ)) : Type 0 where
  pub all : Always text ws
  pub apart : (rest : List ℕ) → goes_on (text ++ rest) ≡ false

pub part : (a b : List ℕ) (us bs : List (List ℕ)) → Parts a us → Reads b bs → Follows (a ++ b) (us ++ bs)
part a b us bs x y = record {
  own = after a b us bs x.all y;
  apart = λ rest h. ap goes_on (append_assoc a b rest) ∙ x.apart (b ++ rest);
}

-- ---- one word

byte_more : (b : ℕ) (rest : List ℕ) (go : Bool) → in_word b ≡ true → goes_on rest ≡ go
    → words (b ∷ rest) ≡ longer go b (words rest)
byte_more b rest go is on =
    of_word (is_line_blank b) (is_mark b) (words rest) ((b ∷ []) ∷ words rest)
    (longer (goes_on rest) b (words rest)) is ∙ ap (λ g. longer g b (words rest)) on

word_more : (b : ℕ) (bs rest : List ℕ) → list_all is_letter (b ∷ bs) ≡ true → goes_on rest ≡ false
    → words ((b ∷ bs) ++ rest) ≡ (b ∷ bs) ∷ words rest
word_more b [] rest h apart =
    byte_more b rest false (first_true (in_word b) (is_shown b) (first_true (is_letter b) true h)) apart
word_more b (c ∷ cs) rest h apart =
    let own = first_true (is_letter b) (list_all is_letter (c ∷ cs)) h in
    let more = and_second (is_letter b) (list_all is_letter (c ∷ cs)) h in
    let next = first_true (is_letter c) (list_all is_letter cs) more in
    byte_more b ((c ∷ cs) ++ rest) true (first_true (in_word b) (is_shown b) own)
    (first_true (in_word c) (is_shown c) next)
    ∙ ap (longer true b) (word_more c cs rest more apart)

pub one_word : (w : List ℕ) → w ≢ [] → list_all is_letter w ≡ true → Reads w (w ∷ [])
one_word [] some h = absurd (some refl)
one_word (b ∷ bs) some h = record {
  plain = all_weaker is_letter is_shown (λ x k. and_second (in_word x) (is_shown x) k) (b ∷ bs) h;
  reads = λ rest apart. word_more b bs rest h apart;
}

-- ---- lines

all_shown : (text : List ℕ) → list_all is_shown text ≡ true → without_comment text ≡ text
all_shown [] h = refl
all_shown (b ∷ bs) h = one (b == 10) (b == 35) (first_true (is_shown b) (list_all is_shown bs) h)
    (all_shown bs (and_second (is_shown b) (list_all is_shown bs) h))
  where
    one : (x y : Bool) → not (x || y) ≡ true → without_comment bs ≡ bs → cond y [] (b ∷ without_comment bs)
        ≡ b ∷ bs
    one true y k more = absurd cc
    one false true k more = absurd cc
    one false false k more = ap (λ l. b ∷ l) more

first_line : (text rest : List ℕ) → list_all is_shown text ≡ true
    → split 10 (text ++ 10 ∷ rest) ≡ text ∷ split 10 rest
first_line [] rest h = refl
first_line (b ∷ bs) rest h = one (b == 10) (b == 35) (first_true (is_shown b) (list_all is_shown bs) h)
    (first_line bs rest (and_second (is_shown b) (list_all is_shown bs) h))
  where
    one : (x y : Bool) → not (x || y) ≡ true → split 10 (bs ++ 10 ∷ rest) ≡ bs ∷ split 10 rest
        → cond x ([] ∷ split 10 (bs ++ 10 ∷ rest)) (before b (split 10 (bs ++ 10 ∷ rest)))
        ≡ (b ∷ bs) ∷ split 10 rest
    one true y k more = absurd cc
    one false y k more = ap (before b) more

-- a text with a line feed after it
pub record IsEnd (text : List ℕ) (ws : List (List ℕ)) : Type 0 where
  pub front : List ℕ
  pub is : text ≡ front ++ codes "\n"
  pub follows : Follows front ws

pub record IsLine (text : List ℕ) (ws : List (List ℕ)) : Type 0 where
  pub front : List ℕ
  pub is : text ≡ front ++ codes "\n"
  pub own : Reads front ws

pub at_end : IsEnd (codes "\n") []
at_end = record { front = []; is = refl; follows = nothing }

pub then_end : (a b : List ℕ) (us bs : List (List ℕ)) → Follows a us → IsEnd b bs → IsEnd (a ++ b) (us ++ bs)
then_end a b us bs x y = record {
  front = a ++ y.front;
  is = ap (λ l. a ++ l) y.is ∙ sym (append_assoc a y.front (codes "\n"));
  follows = follow a y.front us bs x y.follows;
}

pub line_end : (a b : List ℕ) (us bs : List (List ℕ)) → Reads a us → IsEnd b bs → IsLine (a ++ b) (us ++ bs)
line_end a b us bs x y = record {
  front = a ++ y.front;
  is = ap (λ l. a ++ l) y.is ∙ sym (append_assoc a y.front (codes "\n"));
  own = join a y.front us bs x y.follows;
}

pub always_line : (a b : List ℕ) (us bs : List (List ℕ)) → Always a us
    → IsLine b bs → IsLine (a ++ b) (us ++ bs)
always_line a b us bs x y = record {
  front = a ++ y.front;
  is = ap (λ l. a ++ l) y.is ∙ sym (append_assoc a y.front (codes "\n"));
  own = after a y.front us bs x y.own;
}

-- a text that a line feed ends
pub line_last : (a : List ℕ) (us : List (List ℕ)) → Reads a us → IsLine (a ++ codes "\n") us
line_last a us x = record { front = a; is = refl; own = x }

pub part_end : (a b : List ℕ) (us bs : List (List ℕ)) → Parts a us → IsLine b bs → IsEnd (a ++ b) (us ++ bs)
part_end a b us bs x y = record {
  front = a ++ y.front;
  is = ap (λ l. a ++ l) y.is ∙ sym (append_assoc a y.front (codes "\n"));
  follows = part a y.front us bs x y.own;
}

line_as : (n : ℕ) (text : List ℕ) (w : List ℕ) (ws : List (List ℕ)) (ls : List Line) (found : List (List ℕ))
    → found ≡ w ∷ ws
    → unless_empty (record { at = line_place n text; words = found }) ls
    ≡ record { at = line_place n text; words = w ∷ ws } ∷ ls
line_as n text w ws ls found is =
    ap (λ (f : List (List ℕ)). unless_empty (record { at = line_place n text; words = f }) ls) is

pub line_read : (text w : List ℕ) (ws : List (List ℕ)) (l : IsLine text (w ∷ ws)) (n : ℕ) (rest : List ℕ)
    → lines_from n (lines (text ++ rest))
    ≡ record { at = line_place n l.front; words = w ∷ ws } ∷ lines_from (suc n) (lines rest)
line_read text w ws l n rest =
    ap (λ t. lines_from n (lines (t ++ rest))) l.is
    ∙ ap (λ t. lines_from n (lines t)) (append_assoc l.front (codes "\n") rest)
    ∙ ap (lines_from n) (first_line l.front rest l.own.plain)
    ∙ line_as n l.front w ws (lines_from (suc n) (lines rest)) (words (without_comment l.front))
    (ap words (all_shown l.front l.own.plain ∙ sym (append-nil l.front))
    ∙ l.own.reads [] refl ∙ append-nil (w ∷ ws))
