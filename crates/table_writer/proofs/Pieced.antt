-- Texts in pieces.
use Rattle.std.proofs.Common.{◌≡◌, ℕ, zero, suc, ◌-◌, ◌/◌, ◌%◌, ◌≤◌, Bool, List, [], ◌∷◌, ◌++◌, map, length}
use Rattle.std.proofs.Common.{get_or, take, drop, Some, codes, refl, ap, sym, ◌∙◌, arith, append_assoc}
use Rattle.std.proofs.Common.{append-nil}
use Rattle.std.specs.Prelude.{◌==◌, decimal}
use Rattle.std.specs.Int.{bit_at}
use Rattle.std.specs.List.{flat_map}
use Rattle.std.proofs.lemmas.Nat.Bits.{bit_at_lowest, bit_at-suc}
use Rattle.std.proofs.lemmas.List.{take_all}
use Rattle.ij_bits.specs.BitLists.{bits_of}
use Rattle.instruments.specs.declared.model.Cond.{Cond}
use Rattle.instruments.specs.declared.model.Set.{Set}
use Rattle.instruments.specs.declared.model.Operand.{Operand}
use Rattle.instruments.specs.declared.model.Operand.TheVariants.{Word, Input, Old}
use Rattle.instruments.specs.Seen.{SeenWord, SeenMemory, SeenOut, SeenRow, SeenModel}
use Rattle.instruments.specs.Models.{word_width, operand_width}
use Rattle.table_file.specs.Tables.{SeenTable}
use Rattle.bench_file.specs.Written.{operand_text, entry_text, memory_name, digit, digits, parted, reset_text}
use Rattle.bench_file.specs.Written.{word_text, memory_text, bounds_text, out_text, word_name, compared_text}
use Rattle.bench_file.specs.Written.{cond_text, set_text, when_text, row_text, model_text, table_text}
use Rattle.table_writer.specs.Pieces.{old_mark, operand_name, sum_text, word_front, memory_front, out_front}
use Rattle.table_writer.specs.Pieces.{next_cond, instrument_line}

-- ---- one text for another that is the same

pub front_as : {a b : List ℕ} (rest : List ℕ) → a ≡ b → a ++ rest ≡ b ++ rest
front_as rest same = ap (λ (l : List ℕ). l ++ rest) same

-- ---- operands

pub operand_pieces : (m : SeenModel) (o : Operand) → old_mark o ++ operand_name m o ≡ operand_text m o
operand_pieces m (Word k) = refl
operand_pieces m (Input k) = refl
operand_pieces m (Old k) = refl

-- with something after it
pub operand_and : (m : SeenModel) (o : Operand) (more : List ℕ)
    → old_mark o ++ (operand_name m o ++ more) ≡ operand_text m o ++ more
operand_and m o more = sym (append_assoc (old_mark o) (operand_name m o) more)
    ∙ ap (λ l. l ++ more) (operand_pieces m o)

pub operand_words : (m : SeenModel) (o : Operand) (a b : List ℕ) → a ≡ old_mark o
    → b ≡ operand_name m o → a ++ (b ++ []) ≡ operand_text m o
operand_words m o a b mark name =
    ap (λ (l : List ℕ). l ++ (b ++ [])) mark ∙ ap (λ (l : List ℕ). old_mark o ++ (l ++ [])) name
    ∙ operand_and m o [] ∙ append-nil (operand_text m o)

pub entry_words : (m : SeenModel) (o : Operand) (n a b : List ℕ)
    → n ≡ memory_name m.memory → a ≡ old_mark o → b ≡ operand_name m o
    → n ++ (codes "[" ++ (a ++ (b ++ (codes "]" ++ [])))) ≡ entry_text m o
entry_words m o n a b memory mark name =
    ap (λ (l : List ℕ). l ++ (codes "[" ++ (a ++ (b ++ codes "]")))) memory
    ∙ ap (λ (l : List ℕ). memory_name m.memory ++ (codes "[" ++ (l ++ (b ++ codes "]")))) mark
    ∙ ap (λ (l : List ℕ). memory_name m.memory ++ (codes "[" ++ (old_mark o ++ (l ++ codes "]")))) name
    ∙ ap (λ (l : List ℕ). memory_name m.memory ++ (codes "[" ++ l)) (operand_and m o (codes "]"))

pub sum_words : (m : SeenModel) (o : Operand) (a b sign : List ℕ) (n : ℕ) → a ≡ old_mark o
    → b ≡ operand_name m o → a ++ (b ++ (sign ++ (decimal n ++ []))) ≡ sum_text m o sign n
sum_words m o a b sign n mark name =
    ap (λ (l : List ℕ). l ++ (b ++ (sign ++ (decimal n ++ [])))) mark
    ∙ ap (λ (l : List ℕ). old_mark o ++ (l ++ (sign ++ (decimal n ++ [])))) name
    ∙ operand_and m o (sign ++ (decimal n ++ []))
    ∙ ap (λ (l : List ℕ). operand_text m o ++ (sign ++ l)) (append-nil (decimal n))

-- something between two of several texts
pub parted_map : {A : Type 0} (between : List ℕ) (f : A → List ℕ) (x : A) (xs : List A)
    → f x ++ flat_map (λ y. between ++ f y) xs ≡ parted between (map f (x ∷ xs))
parted_map between f x [] = append-nil (f x)
parted_map between f x (y ∷ ys) =
    ap (λ l. f x ++ l) (append_assoc between (f y) (flat_map (λ y. between ++ f y) ys)
    ∙ ap (λ l. between ++ l) (parted_map between f y ys))

-- a first one and those after it
pub first_is : {A : Type 0} (f : A → List ℕ) (between : List ℕ) (xs : List A) (first : A)
    → 1 ≤ length xs → first ≡ get_or xs 0 first
    → f first ++ flat_map (λ y. between ++ f y) (take (length xs - 1) (drop 1 xs)) ≡ parted between (map f xs)
first_is f between [] first some is = absurd (omega (arith, some))
first_is f between (x ∷ xs) first some is =
    ap (λ y. f y ++ flat_map (λ y. between ++ f y) (take (length (x ∷ xs) - 1) xs)) is
    ∙ ap (λ l. f x ++ flat_map (λ y. between ++ f y) l) (take_all (length (x ∷ xs) - 1) xs (omega arith))
    ∙ parted_map between f x xs

pub when_is : (m : SeenModel) (conds : List Cond) (first : Cond)
    → 1 ≤ length conds → first ≡ get_or conds 0 first
    → codes " when " ++ (cond_text m first ++ flat_map (next_cond m) (take (length conds - 1) (drop 1 conds)))
    ≡ when_text m conds
when_is m [] first some is = absurd (omega (arith, some))
when_is m (c ∷ cs) first some is =
    ap (λ l. codes " when " ++ l) (first_is (cond_text m) (codes ", ") (c ∷ cs) first some is)

pub cond_pieces : (m : SeenModel) (c : Cond) (width : ℕ) → width ≡ operand_width m c.of
    → operand_text m c.of ++ (codes " = " ++ compared_text width c.value c.care) ≡ cond_text m c
cond_pieces m c width is =
    ap (λ (w : ℕ). operand_text m c.of ++ (codes " = " ++ compared_text w c.value c.care)) is

pub row_pieces : (m : SeenModel) (kind : List ℕ) (row : SeenRow) (conds : List Cond) (sets : List Set)
    → conds ≡ row.conds → sets ≡ row.sets
    → kind ++ (when_text m conds ++ (codes " do "
    ++ (parted (codes ", ") (map (set_text m) sets) ++ codes "\n"))) ≡ row_text m kind row
row_pieces m kind row conds sets c s =
    ap (λ (l : List Cond). kind
    ++ (when_text m l ++ (codes " do " ++ (parted (codes ", ") (map (set_text m) sets) ++ codes "\n")))) c
    ∙ ap (λ (l : List Set). kind ++ (when_text m row.conds
    ++ (codes " do " ++ (parted (codes ", ") (map (set_text m) l) ++ codes "\n")))) s

-- ---- the highest digit comes first

abbrev bit_of : ℕ → ℕ → Bool
bit_of n i = bit_at n i == 1

lowest : (n : ℕ) → ((n % 2) == 1) ≡ bit_of n 0
lowest n = ap (λ b. b == 1) (sym (bit_at_lowest n))

pub digits_next : (n v c : ℕ) → digits (bits_of (suc n) v) (bits_of (suc n) c)
    ≡ digit (bit_of v n) (bit_of c n) ∷ digits (bits_of n v) (bits_of n c)
digits_next zero v c = ap (λ b. digit b ((c % 2) == 1) ∷ []) (lowest v)
    ∙ ap (λ b. digit (bit_of v 0) b ∷ []) (lowest c)
digits_next (suc n) v c =
    let last = digit ((v % 2) == 1) ((c % 2) == 1) in
    ap (λ l. l ++ last ∷ []) (digits_next n (v / 2) (c / 2))
    ∙ ap (λ b. digit (b == 1) (bit_of (c / 2) n) ∷ digits (bits_of (suc n) v) (bits_of (suc n) c))
    (sym (bit_at-suc v n))
    ∙ ap (λ b. digit (bit_of v (suc n)) (b == 1) ∷ digits (bits_of (suc n) v) (bits_of (suc n) c))
    (sym (bit_at-suc c n))

pub digits_step : (v c n m d : ℕ) → n ≡ suc m → d ≡ digit (bit_of v m) (bit_of c m)
    → digits (bits_of n v) (bits_of n c) ≡ (d ∷ []) ++ digits (bits_of m v) (bits_of m c)
digits_step v c n m d more is =
    ap (λ (k : ℕ). digits (bits_of k v) (bits_of k c)) more ∙ digits_next m v c
    ∙ ap (λ (x : ℕ). x ∷ digits (bits_of m v) (bits_of m c)) (sym is)

-- ---- lines in pieces

along : (a b c d e f g : List ℕ)
    → (a ++ (b ++ (c ++ (d ++ (e ++ f))))) ++ g ≡ a ++ (b ++ (c ++ (d ++ (e ++ (f ++ g)))))
along a b c d e f g =
    append_assoc a (b ++ (c ++ (d ++ (e ++ f)))) g
    ∙ ap (λ l. a ++ l)
    (append_assoc b (c ++ (d ++ (e ++ f))) g ∙ ap (λ l. b ++ l) (append_assoc c (d ++ (e ++ f)) g
    ∙ ap (λ l. c ++ l) (append_assoc d (e ++ f) g ∙ ap (λ l. d ++ l) (append_assoc e f g))))

pub word_pieces : (d : SeenWord) → word_front d ++ (reset_text d.reset ++ codes "\n") ≡ word_text d
word_pieces d = along (codes "word ") d.name (codes " ") (decimal d.width) (codes " init ")
    (decimal d.init) (reset_text d.reset ++ codes "\n")

pub memory_pieces : (d : SeenMemory)
    → memory_front d ++ (reset_text d.reset ++ codes "\n") ≡ memory_text (Some d)
memory_pieces d =
    let end = reset_text d.reset ++ codes "\n" in
    append_assoc (codes "mem ") (d.name ++ (codes " "
    ++ (decimal d.depth ++ (codes " " ++ (decimal d.width ++ (codes " init " ++ decimal d.init)))))) end
    ∙ ap (λ l. codes "mem " ++ l) (append_assoc d.name (codes " "
    ++ (decimal d.depth ++ (codes " " ++ (decimal d.width ++ (codes " init " ++ decimal d.init))))) end
    ∙ ap (λ l. d.name ++ l) (along (codes " ") (decimal d.depth) (codes " ")
    (decimal d.width) (codes " init ") (decimal d.init) end))

pub out_pieces : (m : SeenModel) (d : SeenOut) (width : ℕ) → width ≡ word_width m d.word
    → out_front m d ++ (bounds_text width d.left d.right ++ codes "\n") ≡ out_text m d
out_pieces m d width is =
    let end = bounds_text (word_width m d.word) d.left d.right ++ codes "\n" in
    ap (λ (w : ℕ). out_front m d ++ (bounds_text w d.left d.right ++ codes "\n")) is
    ∙ append_assoc (codes "out ") (d.name ++ (codes " = " ++ word_name m d.word)) end
    ∙ ap (λ l. codes "out " ++ l) (append_assoc d.name (codes " = " ++ word_name m d.word) end
    ∙ ap (λ l. d.name ++ l) (append_assoc (codes " = ") (word_name m d.word) end))

pub table_pieces : (t : SeenTable) (path : List (List ℕ)) → path ≡ t.path
    → instrument_line path ++ (model_text t.model ++ codes "end\n") ≡ table_text t
unfolding table_text
table_pieces t path is =
    ap (λ (p : List (List ℕ)). instrument_line p ++ (model_text t.model ++ codes "end\n")) is

-- texts of things, seen through a view
pub fused : {A B : Type 0} (f : B → List ℕ) (g : A → B) (xs : List A)
    → flat_map (λ x. f (g x)) xs ≡ flat_map f (map g xs)
fused f g [] = refl
fused f g (x ∷ xs) = ap (λ l. f (g x) ++ l) (fused f g xs)
