-- Paths, entries of a memory and slices of a word, read again.
use Rattle.std.proofs.Common.{◌≡◌, ◌≢◌, ℕ, ◌^◌, ◌<◌, Bool, true, false, not, cond, List, [], ◌∷◌, ◌++◌, codes}
use Rattle.std.proofs.Common.{Some, None, refl, ap, ◌∙◌}
use Rattle.std.specs.Prelude.{◌==◌, ◌&&◌, decimal}
use Rattle.std.specs.List.{list_all}
use Rattle.std.specs.Char.{is_ascii_digit}
use Rattle.ij_text.specs.Words.{begins_name, in_name, is_name}
use Rattle.ij_text.specs.Parts.{before, split}
use Rattle.ij_text.specs.Options.{both}
use Rattle.table_lines.specs.Words.{path, closed, named, opened, bracketed, two_names, entry, two_decimals}
use Rattle.table_lines.specs.Words.{part_of, bounded, slice, decimal as decimal_read}
use Rattle.bench_file.specs.Written.{path_text}
use Rattle.table_writer.proofs.Lexed.{first_true, all_both, all_weaker, is_letter, Reads, one_word}
use Rattle.table_writer.proofs.Named.{not_byte, name_bytes, name_some, name_letters, decimal_digits}
use Rattle.table_writer.proofs.Named.{decimal_letters, decimal_decimal}
use Rattle.ij_bits.proofs.Tests.{and_second}
use Rattle.std.proofs.lemmas.Bool.{and_from}

-- ---- texts in pieces

-- a text without a byte
abbrev pub is_other : ℕ → ℕ → Bool
is_other at b = not (b == at)

pub no_cut : (at : ℕ) (a : List ℕ) → list_all (is_other at) a ≡ true → split at a ≡ a ∷ []
no_cut at [] h = refl
no_cut at (b ∷ bs) h = one (b == at) (first_true (is_other at b) (list_all (is_other at) bs) h)
    (no_cut at bs (and_second (is_other at b) (list_all (is_other at) bs) h))
  where
    one : (same : Bool) → not same ≡ true → split at bs ≡ bs ∷ []
        → cond same ([] ∷ split at bs) (before b (split at bs)) ≡ (b ∷ bs) ∷ []
    one true k more = absurd cc
    one false k more = ap (before b) more

pub first_cut : (at : ℕ) (a rest : List ℕ) → (at == at) ≡ true → list_all (is_other at) a ≡ true
    → split at (a ++ at ∷ rest) ≡ a ∷ split at rest
first_cut at [] rest own h = ap (λ k. cond k ([] ∷ split at rest) (before at (split at rest))) own
first_cut at (b ∷ bs) rest own h =
    one (b == at) (first_true (is_other at b) (list_all (is_other at) bs) h)
    (first_cut at bs rest own (and_second (is_other at b) (list_all (is_other at) bs) h))
  where
    one : (same : Bool) → not same ≡ true → split at (bs ++ at ∷ rest) ≡ bs ∷ split at rest
        → cond same ([] ∷ split at (bs ++ at ∷ rest)) (before b (split at (bs ++ at ∷ rest)))
        ≡ (b ∷ bs) ∷ split at rest
    one true k more = absurd cc
    one false k more = ap (before b) more

others : (p : ℕ → Bool) (at : ℕ) → p at ≡ false → (a : List ℕ)
    → list_all p a ≡ true → list_all (is_other at) a ≡ true
others p at off a h = all_weaker p (is_other at) (λ b k. ap not (not_byte p at off b k)) a h

name_others : (at : ℕ) → in_name at ≡ false → (w : List ℕ)
    → is_name w ≡ true → list_all (is_other at) w ≡ true
name_others at off w h = others in_name at off w (name_bytes w h)

-- ---- paths

-- a path of good names
pub record IsPath (names : List (List ℕ)) : Type 0 where
  pub some : names ≢ []
  pub good : list_all is_name names ≡ true

path_pieces : (n : List ℕ) (ns : List (List ℕ)) → list_all is_name (n ∷ ns) ≡ true
    → split 46 (path_text (n ∷ ns)) ≡ n ∷ ns
path_pieces n [] h = no_cut 46 n (name_others 46 refl n (first_true (is_name n) true h))
path_pieces n (u ∷ us) h =
    first_cut 46 n (path_text (u ∷ us)) refl
    (name_others 46 refl n (first_true (is_name n) (list_all is_name (u ∷ us)) h))
    ∙ ap (λ l. n ∷ l) (path_pieces u us (and_second (is_name n) (list_all is_name (u ∷ us)) h))

pub path_again : (names : List (List ℕ)) → IsPath names → path (path_text names) ≡ Some names
unfolding path
path_again [] h = absurd (h.some refl)
path_again (n ∷ ns) h =
    ap (λ (ps : List (List ℕ)). cond (list_all is_name ps) (Some ps) None) (path_pieces n ns h.good)
    ∙ ap (λ k. cond k (Some (n ∷ ns)) None) h.good

path_letters : (n : List ℕ) (ns : List (List ℕ)) → list_all is_name (n ∷ ns) ≡ true
    → list_all is_letter (path_text (n ∷ ns)) ≡ true
path_letters n [] h = name_letters n (first_true (is_name n) true h)
path_letters n (u ∷ us) h =
    all_both is_letter n (46 ∷ path_text (u ∷ us))
    (name_letters n (first_true (is_name n) (list_all is_name (u ∷ us)) h))
    (path_letters u us (and_second (is_name n) (list_all is_name (u ∷ us)) h))

some_left : (a b : List ℕ) → a ≢ [] → a ++ b ≢ []
some_left [] b some = absurd (some refl)
some_left (x ∷ xs) b some = λ e. absurd cc

path_some : (n : List ℕ) (ns : List (List ℕ)) → is_name n ≡ true → path_text (n ∷ ns) ≢ []
path_some n [] h = name_some n h
path_some n (u ∷ us) h = some_left n (46 ∷ path_text (u ∷ us)) (name_some n h)

pub path_word : (names : List (List ℕ)) → IsPath names → Reads (path_text names) (path_text names ∷ [])
path_word [] h = absurd (h.some refl)
path_word (n ∷ ns) h = one_word (path_text (n ∷ ns))
    (path_some n ns (first_true (is_name n) (list_all is_name ns) h.good)) (path_letters n ns h.good)

-- ---- brackets

-- a name and what is in brackets after it
abbrev pub in_brackets : List ℕ → List ℕ → List ℕ
in_brackets name inside = name ++ (codes "[" ++ (inside ++ codes "]"))

pub bracketed_again : (name inside : List ℕ) → is_name name ≡ true
    → list_all (is_other 91) inside ≡ true → list_all (is_other 93) inside ≡ true
    → bracketed (in_brackets name inside) ≡ Some (name, inside)
bracketed_again name inside good no_open no_close =
    ap opened (first_cut 91 name (inside ++ codes "]") refl (name_others 91 refl name good)
    ∙ ap (λ ps. name ∷ ps)
    (no_cut 91 (inside ++ codes "]") (all_both (is_other 91) inside (codes "]") no_open refl)))
    ∙ ap (λ ps. named name (closed ps)) (first_cut 93 inside [] refl no_close)
    ∙ ap (λ k. cond k (Some (name, inside)) None) good

pub entry_again : (memory index : List ℕ) → is_name memory ≡ true → is_name index ≡ true
    → entry (in_brackets memory index) ≡ Some (memory, index)
unfolding entry
entry_again memory index good inner =
    ap two_names (bracketed_again memory index good (name_others 91 refl index inner)
    (name_others 93 refl index inner)) ∙ ap (λ k. cond k (Some (memory, index)) None) inner

not_all : (p : ℕ → Bool) (at : ℕ) → p at ≡ false → (a rest : List ℕ) → list_all p (a ++ at ∷ rest) ≡ false
not_all p at off [] rest = ap (λ k. k && list_all p rest) off
not_all p at off (b ∷ bs) rest = and_false (p b) (list_all p (bs ++ at ∷ rest)) (not_all p at off bs rest)
  where
    and_false : (x y : Bool) → y ≡ false → (x && y) ≡ false
    and_false true y h = h
    and_false false y h = refl

-- what has brackets isn't a name
pub brackets_no_name : (name inside : List ℕ) → is_name (in_brackets name inside) ≡ false
brackets_no_name [] inside = refl
brackets_no_name (b ∷ bs) inside = and_false (begins_name b)
    (list_all in_name (bs ++ 91 ∷ (inside ++ codes "]"))) (not_all in_name 91 refl bs (inside ++ codes "]"))
  where
    and_false : (x y : Bool) → y ≡ false → (x && y) ≡ false
    and_false true y h = h
    and_false false y h = refl

pub brackets_some : (name inside : List ℕ) → is_name name ≡ true → in_brackets name inside ≢ []
brackets_some name inside good = some_left name (91 ∷ (inside ++ codes "]")) (name_some name good)

pub brackets_letters : (name inside : List ℕ) → is_name name ≡ true → list_all is_letter inside ≡ true
    → list_all is_letter (in_brackets name inside) ≡ true
brackets_letters name inside good inner = all_both is_letter name (91 ∷ (inside ++ codes "]"))
    (name_letters name good) (all_both is_letter inside (codes "]") inner refl)

-- ---- slices

-- `L:R`
abbrev pub bounds : ℕ → ℕ → List ℕ
bounds left right = decimal left ++ (codes ":" ++ decimal right)

digit_others : (at : ℕ) → is_ascii_digit at ≡ false → (n : ℕ) → n < 2 ^ 64
    → list_all (is_other at) (decimal n) ≡ true
digit_others at off n h = others is_ascii_digit at off (decimal n) (decimal_digits n h)

pub bounds_letters : (left right : ℕ) → left < 2 ^ 64 → right < 2 ^ 64
    → list_all is_letter (bounds left right) ≡ true
bounds_letters left right l r =
    all_both is_letter (decimal left) (58 ∷ decimal right) (decimal_letters left l) (decimal_letters right r)

bounds_others : (at : ℕ) → is_ascii_digit at ≡ false → is_other at 58 ≡ true → (left right : ℕ)
    → left < 2 ^ 64 → right < 2 ^ 64 → list_all (is_other at) (bounds left right) ≡ true
bounds_others at off no_colon left right l r =
    all_both (is_other at) (decimal left) (58 ∷ decimal right) (digit_others at off left l)
    (and_from (is_other at 58) (list_all (is_other at) (decimal right)) no_colon
    (digit_others at off right r))

pub bounds_again : (left right : ℕ) → left < 2 ^ 64 → right < 2 ^ 64
    → two_decimals (split 58 (bounds left right)) ≡ Some (left, right)
bounds_again left right l r =
    ap two_decimals (first_cut 58 (decimal left) (decimal right) refl (digit_others 58 refl left l)
    ∙ ap (λ ps. decimal left ∷ ps) (no_cut 58 (decimal right) (digit_others 58 refl right r)))
    ∙ ap (λ o. both o (decimal_read (decimal right))) (decimal_decimal left l)
    ∙ ap (both (Some left)) (decimal_decimal right r)

pub slice_again : (word : List ℕ) (left right : ℕ) → is_name word ≡ true → left < 2 ^ 64 → right < 2 ^ 64
    → slice (in_brackets word (bounds left right))
    ≡ Some (record { word = word; bounds = Some (left, right) })
unfolding slice
slice_again word left right good l r =
    ap (λ k. cond k (Some (record { word = in_brackets word (bounds left right); bounds = None })) (bounded
    (bracketed (in_brackets word (bounds left right))))) (brackets_no_name word (bounds left right))
    ∙ ap bounded (bracketed_again word (bounds left right) good (bounds_others 91 refl refl left right l r)
    (bounds_others 93 refl refl left right l r))
    ∙ ap (part_of word) (bounds_again left right l r)

pub whole_again : (word : List ℕ) → is_name word ≡ true
    → slice word ≡ Some (record { word = word; bounds = None })
unfolding slice
whole_again word good =
    ap (λ k. cond k (Some (record { word = word; bounds = None })) (bounded (bracketed word))) good
