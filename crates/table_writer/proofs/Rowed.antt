-- Rows, read again.
use Rattle.std.proofs.Common.{◌≡◌, ◌≢◌, ℕ, zero, suc, Bool, true, false, not, cond, List, [], ◌∷◌, ◌++◌, map}
use Rattle.std.proofs.Common.{Option, Some, None, get_or, codes, refl, ap, sym, ◌∙◌, arith, All, append_assoc}
use Rattle.std.proofs.Common.{append-nil}
use Rattle.std.specs.Prelude.{◌||◌, is_some, Contains}
use Rattle.std.specs.List.{list_all, list_any}
use Rattle.std.proofs.lemmas.List.Elements.{All-head, All-tail, All-weaker}
use Rattle.ij_bits.specs.Different.{AreDifferent}
use Rattle.table_lines.specs.Words.{is_wide}
use Rattle.instruments.specs.declared.model.Cond.{Cond}
use Rattle.instruments.specs.declared.model.Slot.{Slot}
use Rattle.instruments.specs.declared.model.Slot.TheVariants.{Word as TheWord, Entry as TheEntry}
use Rattle.instruments.specs.declared.model.Set.{Set}
use Rattle.instruments.specs.Seen.{SeenWord, SeenMemory, SeenPort, SeenRow, SeenModel}
use Rattle.instruments.specs.Models.{IsCond, IsSet, IsSlot, IsRow, target as target_of, memory_names, names}
use Rattle.table_lines.specs.Said.{Words, is, parts, in_first, SaidCond, SaidSet, SaidRow, sets, more_sets}
use Rattle.table_lines.specs.Said.{row_of, more_conds, after_cond, conds_sets, if_there, row}
use Rattle.table_file.specs.Tables.{word_named, has_twice, cond_operand, cond_width, cond_said, set_said}
use Rattle.table_file.specs.Tables.{row_said, no_slot, no_amount, target, amount_wide, slot_width}
use Rattle.table_file.specs.Tables.{row_name_fault}
use Rattle.table_file.specs.Tables.{row_width_fault}
use Rattle.bench_file.specs.Written.{parted, cond_text, set_text, when_text, row_text, memory_name}
use Rattle.table_writer.proofs.Lexed.{first_true, Reads, Parts, Follows, IsLine, nothing, join, part}
use Rattle.table_writer.proofs.Lexed.{line_last, part_end, then_end, line_end}
use Rattle.table_writer.proofs.Found.{of_back, in_one_part, no_number, none_twice}
use Rattle.table_writer.proofs.Conds.{IsNamed, MayLook, no_comma, cond_words, cond_back, IsCondRead}
use Rattle.table_writer.proofs.Conds.{cond_read, word_found}
use Rattle.table_writer.proofs.Sets.{slot_back, amount_back, set_words_of, set_back, IsSetRead, set_read}
use Rattle.ij_bits.proofs.Lists.{map_twice}
use Rattle.ij_bits.proofs.Tests.{and_second}
use Rattle.std.proofs.lemmas.Bool.{or_from}

-- ---- parts between commas

not_comma : (w : List ℕ) (ps : List Words) (k : Bool) → not k ≡ true
    → cond k ([] ∷ ps) (in_first w ps) ≡ in_first w ps
not_comma w ps true h = absurd cc
not_comma w ps false h = refl

parts_front : (ws tail q : Words) (qs : List Words) → list_all no_comma ws ≡ true
    → parts tail ≡ q ∷ qs → parts (ws ++ tail) ≡ (ws ++ q) ∷ qs
parts_front [] tail q qs clean same = same
parts_front (w ∷ ws) tail q qs clean same =
    not_comma w (parts (ws ++ tail)) (is (codes ",") w) (first_true (no_comma w) (list_all no_comma ws) clean)
    ∙ ap (in_first w) (parts_front ws tail q qs (and_second (no_comma w) (list_all no_comma ws) clean) same)

parts_end : (ws : Words) → list_all no_comma ws ≡ true → parts ws ≡ ws ∷ []
parts_end ws clean = sym (ap parts (append-nil ws))
    ∙ parts_front ws [] [] [] clean refl ∙ ap (λ l. l ∷ []) (append-nil ws)

abbrev pub comma_parted : List Words → Words
comma_parted [] = []
comma_parted (p ∷ []) = p
comma_parted (p ∷ q ∷ ps) = p ++ (codes "," ∷ comma_parted (q ∷ ps))

parts_parted : {A : Type 0} (g : A → Words) (x : A) (xs : List A)
    → All (λ y. list_all no_comma (g y) ≡ true) (x ∷ xs)
    → parts (comma_parted (map g (x ∷ xs))) ≡ map g (x ∷ xs)
parts_parted g x [] clean = parts_end (g x) (All-head (λ y. list_all no_comma (g y) ≡ true) x [] clean)
parts_parted g x (y ∷ ys) clean =
    parts_front (g x) (codes "," ∷ comma_parted (map g (y ∷ ys))) [] (map g (y ∷ ys))
    (All-head (λ y. list_all no_comma (g y) ≡ true) x (y ∷ ys) clean)
    (ap (λ l. [] ∷ l) (parts_parted g y ys (All-tail (λ y. list_all no_comma (g y) ≡ true) x (y ∷ ys) clean)))
    ∙ ap (λ l. l ∷ map g (y ∷ ys)) (append-nil (g x))

comma : Parts (codes ", ") (codes "," ∷ [])
comma = record { all = record { plain = refl; reads = λ rest. refl }; apart = λ rest. refl }

parted_reads : {A : Type 0} (f : A → List ℕ) (g : A → Words) (x : A) (xs : List A)
    → All (λ y. Reads (f y) (g y)) (x ∷ xs)
    → Reads (parted (codes ", ") (map f (x ∷ xs))) (comma_parted (map g (x ∷ xs)))
parted_reads f g x [] all = All-head (λ y. Reads (f y) (g y)) x [] all
parted_reads f g x (y ∷ ys) all =
    join (f x) (codes ", " ++ parted (codes ", ") (map f (y ∷ ys))) (g x)
    (codes "," ∷ comma_parted (map g (y ∷ ys))) (All-head (λ y. Reads (f y) (g y)) x (y ∷ ys) all)
    (part (codes ", ") (parted (codes ", ") (map f (y ∷ ys))) (codes "," ∷ []) (comma_parted (map g (y ∷ ys)))
    comma (parted_reads f g y ys (All-tail (λ y. Reads (f y) (g y)) x (y ∷ ys) all)))

-- ---- assignments

set_parts : (m : SeenModel) (x : Set) (xs : List Set) → All (IsSetRead m) (x ∷ xs)
    → parts (comma_parted (map (set_words_of m) (x ∷ xs))) ≡ map (set_words_of m) (x ∷ xs)
set_parts m x xs all = parts_parted (set_words_of m) x xs (All-weaker (IsSetRead m)
    (λ y. list_all no_comma (set_words_of m y) ≡ true) (λ y h. h.clean) (x ∷ xs) all)

sets_all : (m : SeenModel) (xs : List Set) → All (IsSetRead m) xs
    → sets true (map (set_words_of m) xs) ≡ Some (map (set_back m) xs)
sets_all m [] all = refl
sets_all m (x ∷ xs) all =
    let first : IsSetRead m x = All-head (IsSetRead m) x xs all in
    ap (λ o. more_sets o (sets true (map (set_words_of m) xs))) first.said
    ∙ ap (more_sets (Some (set_back m x))) (sets_all m xs (All-tail (IsSetRead m) x xs all))

-- ---- conditions and assignments

abbrev the_row : List SaidCond → List SaidSet → SaidRow
the_row cs xs = record { conds = cs; sets = xs }

abbrev do_words : SeenModel → List Set → Words
do_words m xs = codes "do" ∷ comma_parted (map (set_words_of m) xs)

conds_all : (m : SeenModel) (change : Bool) (c : Cond) (cs : List Cond) (x : Set) (xs : List Set)
    → All (IsCondRead m change) (c ∷ cs) → All (IsSetRead m) (x ∷ xs)
    → conds_sets true change (parts (comma_parted (map (cond_words m) (c ∷ cs)) ++ do_words m (x ∷ xs)))
    ≡ Some (the_row (map (cond_back m) (c ∷ cs)) (map (set_back m) (x ∷ xs)))
conds_all m change c [] x xs conds all =
    let first : IsCondRead m change c = All-head (IsCondRead m change) c [] conds in
    let ps = map (set_words_of m) xs in
    ap (conds_sets true change) (parts_front (cond_words m c) (do_words m (x ∷ xs))
    (codes "do" ∷ set_words_of m x) ps first.clean (ap (in_first (codes "do")) (set_parts m x xs all)))
    ∙ ap (λ o. if_there o (λ f. after_cond true f ps (conds_sets true change ps)))
    (first.front (codes "do" ∷ set_words_of m x))
    ∙ ap (λ s. more_conds (cond_back m c) (row_of s)) (sets_all m (x ∷ xs) all)
conds_all m change c (d ∷ ds) x xs conds all =
    let first : IsCondRead m change c = All-head (IsCondRead m change) c (d ∷ ds) conds in
    let rest = comma_parted (map (cond_words m) (d ∷ ds)) ++ do_words m (x ∷ xs) in
    ap (λ ws. conds_sets true change (parts ws)) (append_assoc (cond_words m c)
    (codes "," ∷ comma_parted (map (cond_words m) (d ∷ ds))) (do_words m (x ∷ xs)))
    ∙ ap (conds_sets true change)
    (parts_front (cond_words m c) (codes "," ∷ rest) [] (parts rest) first.clean refl)
    ∙ ap (λ o. if_there o (λ f. after_cond true f (parts rest) (conds_sets true change (parts rest))))
    (first.front [])
    ∙ ap (more_conds (cond_back m c))
    (conds_all m change d ds x xs (All-tail (IsCondRead m change) c (d ∷ ds) conds) all)

abbrev pub when_words : SeenModel → List Cond → Words
when_words m [] = []
when_words m (c ∷ cs) = codes "when" ∷ comma_parted (map (cond_words m) (c ∷ cs))

row_again : (m : SeenModel) (change : Bool) (cs : List Cond) (x : Set) (xs : List Set)
    → All (IsCondRead m change) cs → All (IsSetRead m) (x ∷ xs)
    → row true change (when_words m cs ++ do_words m (x ∷ xs))
    ≡ Some (the_row (map (cond_back m) cs) (map (set_back m) (x ∷ xs)))
row_again m change [] x xs conds all =
    ap (λ ps. row_of (sets true ps)) (set_parts m x xs all) ∙ ap row_of (sets_all m (x ∷ xs) all)
row_again m change (c ∷ cs) x xs conds all = conds_all m change c cs x xs conds all

-- ---- the text of a row

when_mark : Parts (codes " when ") (codes "when" ∷ [])
when_mark = record { all = record { plain = refl; reads = λ rest. refl }; apart = λ rest. refl }

do_mark : Parts (codes " do ") (codes "do" ∷ [])
do_mark = record { all = record { plain = refl; reads = λ rest. refl }; apart = λ rest. refl }

when_follows : (m : SeenModel) (change : Bool) (cs : List Cond) → All (IsCondRead m change) cs
    → Follows (when_text m cs) (when_words m cs)
when_follows m change [] all = nothing
when_follows m change (c ∷ cs) all =
    part (codes " when ") (parted (codes ", ") (map (cond_text m) (c ∷ cs))) (codes "when" ∷ [])
    (comma_parted (map (cond_words m) (c ∷ cs))) when_mark
    (parted_reads (cond_text m) (cond_words m) c cs (All-weaker (IsCondRead m change)
    (λ d. Reads (cond_text m d) (cond_words m d)) (λ d h. h.own) (c ∷ cs) all))

row_line : (m : SeenModel) (change : Bool) (kind : List ℕ) (cs : List Cond) (x : Set) (xs : List Set)
    → Reads kind (kind ∷ []) → All (IsCondRead m change) cs → All (IsSetRead m) (x ∷ xs)
    → IsLine (row_text m kind (record { conds = cs; sets = x ∷ xs }))
    (kind ∷ (when_words m cs ++ do_words m (x ∷ xs)))
row_line m change kind cs x xs own conds all =
    let text = parted (codes ", ") (map (set_text m) (x ∷ xs)) in
    let ws = comma_parted (map (set_words_of m) (x ∷ xs)) in
    line_end kind (when_text m cs ++ (codes " do " ++ (text ++ codes "\n"))) (kind ∷ [])
    (when_words m cs ++ do_words m (x ∷ xs)) own
    (then_end (when_text m cs) (codes " do " ++ (text ++ codes "\n")) (when_words m cs)
    (do_words m (x ∷ xs)) (when_follows m change cs conds)
    (part_end (codes " do ") (text ++ codes "\n") (codes "do" ∷ []) ws do_mark
    (line_last text ws (parted_reads (set_text m) (set_words_of m) x xs (All-weaker (IsSetRead m)
    (λ y. Reads (set_text m y) (set_words_of m y)) (λ y h. h.own) (x ∷ xs) all)))))

-- ---- what a row says

none_any : {A B : Type 0} (p : B → Bool) (f : A → B) (xs : List A)
    → All (λ x. p (f x) ≡ false) xs → list_any p (map f xs) ≡ false
none_any p f [] all = refl
none_any p f (x ∷ xs) all =
    or_from (p (f x)) (list_any p (map f xs)) (All-head (λ x. p (f x) ≡ false) x xs all)
    (none_any p f xs (All-tail (λ x. p (f x) ≡ false) x xs all))

all_back : {A B : Type 0} (f : B → A) (g : A → B) (xs : List A)
    → All (λ x. f (g x) ≡ x) xs → map f (map g xs) ≡ xs
all_back f g [] all = refl
all_back f g (x ∷ xs) all =
    ap (λ y. y ∷ map f (map g xs)) (All-head (λ x. f (g x) ≡ x) x xs all)
    ∙ ap (λ l. x ∷ l) (all_back f g xs (All-tail (λ x. f (g x) ≡ x) x xs all))

-- what tells apart as much as another
module _ {A B C : Type 0} (P : A → Type 0) (f : A → B) (g : A → C) (tells : (x y : A)
    → P x → P y → g x ≡ g y → f x ≡ f y) where
  still_there : (x : A) (ys : List A) → P x → All P ys → Contains (map g ys) (g x) → Contains (map f ys) (f x)
  still_there x [] h all (k, lt, e) = absurd (omega (arith, lt))
  still_there x (y ∷ ys) h all (zero, lt, e) = (zero, omega arith, tells y x (All-head P y ys all) h e)
  still_there x (y ∷ ys) h all (suc k, lt, e) =
      one_further (still_there x ys h (All-tail P y ys all) (k, omega (arith, lt), e))
    where
      one_further : Contains (map f ys) (f x) → Contains (map f (y ∷ ys)) (f x)
      one_further (j, lt, e) = (suc j, omega (arith, lt), e)

  as_different : (xs : List A) → All P xs → AreDifferent (map f xs) → AreDifferent (map g xs)
  as_different [] all h = tt
  as_different (x ∷ xs) all h = (
    (λ c. h.0 (still_there x xs (All-head P x xs all) (All-tail P x xs all) c)),
    as_different xs (All-tail P x xs all) h.1,
  )

memory_no_word : (m : SeenModel) → AreDifferent (names m) → m.memory ≢ None
    → word_named m (memory_name m.memory) ≡ None
memory_no_word m h some =
    let ws = map (λ (d : SeenWord). d.name) m.words in
    no_number (memory_name m.memory) ws
    (λ c. in_one_part ws (memory_names m.memory) (memory_name m.memory) (of_back
    (map (λ (d : SeenPort). d.name) m.ins) (ws ++ memory_names m.memory) h) c (its_name m.memory some))
  where
    its_name : (o : Option SeenMemory) → o ≢ None → Contains (memory_names o) (memory_name o)
    its_name None none = absurd (none refl)
    its_name (Some d) none = (zero, omega arith, refl)

abbrev slot_target : Slot → Option ℕ
slot_target (TheWord k) = Some k
slot_target (TheEntry o) = None

same_target : (m : SeenModel) → IsNamed m → (s t : Slot) → IsSlot m s → IsSlot m t
    → target (slot_back m s) ≡ target (slot_back m t) → slot_target s ≡ slot_target t
same_target m h (TheWord j) (TheWord k) a b e =
    sym (word_found m h.differ j a) ∙ ap (word_named m) e ∙ word_found m h.differ k b
same_target m h (TheWord j) (TheEntry o) a b e =
    sym (word_found m h.differ j a) ∙ ap (word_named m) e ∙ memory_no_word m h.differ b.memory
same_target m h (TheEntry i) (TheWord k) a b e =
    sym (sym (word_found m h.differ k b) ∙ ap (word_named m) (sym e) ∙ memory_no_word m h.differ a.memory)
same_target m h (TheEntry i) (TheEntry o) a b e = refl

targets_differ : (m : SeenModel) → IsNamed m → (xs : List Set) → All (IsSet m) xs
    → AreDifferent (map target_of xs) → has_twice (map (λ x. target x.slot) (map (set_back m) xs)) ≡ false
targets_differ m h xs all once =
    ap has_twice (map_twice (λ (x : SaidSet). target x.slot) (set_back m) xs)
    ∙ none_twice (map (λ (x : Set). target (slot_back m x.slot)) xs)
    (as_different (IsSet m) target_of (λ (x : Set). target (slot_back m x.slot))
    (λ x y a b e. of_slots x.slot y.slot (same_target m h x.slot y.slot a.slot b.slot e)) xs all once)
  where
    of_slots : (s t : Slot) → slot_target s ≡ slot_target t → slot_target s ≡ slot_target t
    of_slots s t e = e

-- a row, its line and what it says
abbrev pub row_back : SeenModel → SeenRow → SaidRow
row_back m r = the_row (map (cond_back m) r.conds) (map (set_back m) r.sets)

pub record IsRowRead (m : SeenModel) (change : Bool) (kind : List ℕ) (r : SeenRow) : Type 0 where
  pub ws : Words
  pub line : IsLine (row_text m kind r) (kind ∷ ws)
  pub said : row true change ws ≡ Some (row_back m r)
  pub names : row_name_fault m (row_back m r) ≡ false
  pub widths : row_width_fault m (row_back m r) ≡ false
  pub back : row_said m (row_back m r) ≡ r

abbrev pub the_seen_row : List Cond → List Set → SeenRow
the_seen_row cs xs = record { conds = cs; sets = xs }

pub row_read : (m : SeenModel) → IsNamed m → (change : Bool) (kind : List ℕ) → Reads kind (kind ∷ [])
    → (r : SeenRow) → IsRow m r → All (λ c. MayLook change c.of) r.conds → IsRowRead m change kind r
row_read m h change kind own r is may = of_sets r.conds r.sets is.does is.conds may is.sets is.once
  where
    of_sets : (cs : List Cond) (xs : List Set) → xs ≢ [] → All (IsCond m) cs
        → All (λ c. MayLook change c.of) cs → All (IsSet m) xs → AreDifferent (map target_of xs)
        → IsRowRead m change kind (the_seen_row cs xs)
    of_sets cs [] does conds may sets once = absurd (does refl)
    of_sets cs (x ∷ xs) does conds may sets once =
        let cs_read : All (IsCondRead m change) cs =
        λ k d within. cond_read m h change (get_or cs k d) (conds k d within) (may k d within) in
        let xs_read : All (IsSetRead m) (x ∷ xs) =
        All-weaker (IsSet m) (IsSetRead m) (set_read m h) (x ∷ xs) sets in
        record {
          ws = when_words m cs ++ do_words m (x ∷ xs);
          line = row_line m change kind cs x xs own cs_read xs_read;
          said = row_again m change cs x xs cs_read xs_read;
          names = or_from
              (list_any (λ (c : SaidCond). not (is_some (cond_operand m c))) (map (cond_back m) cs))
              (list_any (λ (x : SaidSet). no_slot m x.slot || no_amount m x.amount) (map (set_back m)
              (x ∷ xs)) || has_twice (map (λ (x : SaidSet). target x.slot) (map (set_back m) (x ∷ xs))))
              (none_any (λ (c : SaidCond). not (is_some (cond_operand m c))) (cond_back m) cs
              (All-weaker (IsCondRead m change) (λ c. not (is_some (cond_operand m (cond_back m c)))
              ≡ false) (λ c h. ap not h.there) cs cs_read))
              (or_from (list_any (λ (x : SaidSet). no_slot m x.slot || no_amount m x.amount) (map (set_back m)
              (x ∷ xs))) (has_twice (map (λ (x : SaidSet). target x.slot) (map (set_back m) (x ∷ xs))))
              (none_any (λ (x : SaidSet). no_slot m x.slot || no_amount m x.amount) (set_back m) (x ∷ xs)
              (All-weaker (IsSetRead m) (λ y. (no_slot m (slot_back m y.slot) || no_amount m
              (amount_back m y.amount)) ≡ false) (λ y h. h.names) (x ∷ xs) xs_read))
              (targets_differ m h (x ∷ xs) sets once));
          widths =
              or_from (list_any (λ (c : SaidCond). is_wide (cond_width m c) c.number) (map (cond_back m) cs))
              (list_any (λ (x : SaidSet). amount_wide m (slot_width m x.slot) x.amount)
              (map (set_back m) (x ∷ xs)))
              (none_any (λ (c : SaidCond). is_wide (cond_width m c) c.number) (cond_back m) cs
              (All-weaker (IsCondRead m change) (λ c. is_wide (cond_width m (cond_back m c))
              (cond_back m c).number ≡ false) (λ c h. h.fits) cs cs_read))
              (none_any (λ (x : SaidSet). amount_wide m (slot_width m x.slot) x.amount) (set_back m) (x ∷ xs)
              (All-weaker (IsSetRead m) (λ y. amount_wide m (slot_width m (slot_back m y.slot))
              (amount_back m y.amount) ≡ false) (λ y h. h.widths) (x ∷ xs) xs_read));
          back = ap (λ l. the_seen_row l (map (set_said m) (map (set_back m) (x ∷ xs))))
              (all_back (cond_said m) (cond_back m) cs (All-weaker (IsCondRead m change)
              (λ c. cond_said m (cond_back m c) ≡ c) (λ c h. h.back) cs cs_read))
              ∙ ap (the_seen_row cs) (all_back (set_said m) (set_back m) (x ∷ xs) (All-weaker (IsSetRead m)
              (λ y. set_said m (set_back m y) ≡ y) (λ y h. h.back) (x ∷ xs) xs_read));
        }
