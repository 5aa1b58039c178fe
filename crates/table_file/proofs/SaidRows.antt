-- What each row says, whatever its names mean: something is set, no entry takes an entry, and conditions of
-- run rows don't look at inputs before a change.
use Rattle.std.proofs.Common.{◌≡◌, ℕ, zero, suc, ◌≤◌, Bool, true, false, not, cond, List, [], ◌∷◌, length}
use Rattle.std.proofs.Common.{Option, Some, None, codes, refl, ap, sym, ◌∙◌, arith}
use Rattle.std.specs.Prelude.{◌≢◌, ◌&&◌, All, IfSome}
use Rattle.std.proofs.lemmas.List.Elements.{All-nil, All-cons}
use Rattle.ij_text.specs.Numbers.{Written}
use Rattle.ij_text.specs.Words.{is_name}
use Rattle.ij_text.specs.Options.{or_else}
use Rattle.table_lines.specs.Words.{number, plain, decimal, slice as slice_text}
use Rattle.table_lines.specs.Said.{Words, is, if_there, SaidCond, SaidEntry, SaidSlot, ToWord, ToEntry}
use Rattle.table_lines.specs.Said.{SaidAmount, Number, Copy, Plus, Minus, FromEntry, SaidSet, SaidRow}
use Rattle.table_lines.specs.Said.{SaidLine, Input, Word, Memory, Output, Change, Run, End, Starts, cond_of}
use Rattle.table_lines.specs.Said.{with_rest, old_cond, front_cond, entry_in, entry_slot, slot, number_amount}
use Rattle.table_lines.specs.Said.{entry_amount, amount, plus_minus, set_of, set_words, in_first, parts}
use Rattle.table_lines.specs.Said.{more_sets, sets, row_of, more_conds, after_cond, conds_sets, row, starts}
use Rattle.table_lines.specs.Said.{input_line, word_line, memory_line, output_line, change_line, run_line}
use Rattle.table_lines.specs.Said.{end_line, line_by, line}

-- ---- what holds of an answer, if there is one

pub of_cond : {A : Type 0} (P : A → Type 0) (b : Bool) (x y : Option A)
    → IfSome x P → IfSome y P → IfSome (cond b x y) P
of_cond P true x y hx hy = hx
of_cond P false x y hx hy = hy

pub of_there : {A B : Type 0} (P : B → Type 0) (o : Option A) (next : A → Option B)
    → ((a : A) → IfSome (next a) P) → IfSome (if_there o next) P
of_there P None next h = tt
of_there P (Some a) next h = h a

then_there : {A B : Type 0} (Q : A → Type 0) (P : B → Type 0) (o : Option A) (next : A → Option B)
    → IfSome o Q → ((a : A) → Q a → IfSome (next a) P) → IfSome (if_there o next) P
then_there Q P None next q h = tt
then_there Q P (Some a) next q h = h a q

always : {A : Type 0} (P : A → Type 0) (o : Option A) → ((a : A) → P a) → IfSome o P
always P None h = tt
always P (Some a) h = h a

-- ---- assignments

abbrev Takes : SaidAmount → SaidSlot → Type 0
Takes (Number n) to = Unit {0}
Takes (Copy name) to = Unit {0}
Takes (Plus name n) to = Unit {0}
Takes (Minus name n) to = Unit {0}
Takes (FromEntry e) (ToWord name) = Unit {0}
Takes (FromEntry e) (ToEntry x) = ⊥

-- an entry takes no entry
abbrev pub IsSaidSet : SaidSet → Type 0
IsSaidSet x = Takes x.amount x.slot

a_number : (to : SaidSlot) (o : Option ℕ) → IfSome (number_amount o) (λ a. Takes a to)
a_number to None = tt
a_number to (Some n) = tt

an_entry : (to : SaidSlot) (o : Option SaidEntry) → IfSome (entry_amount to o) (λ a. Takes a to)
an_entry to None = tt
an_entry (ToWord name) (Some e) = tt
an_entry (ToEntry x) (Some e) = tt

of_else : {A : Type 0} (P : A → Type 0) (x y : Option A) → IfSome x P → IfSome y P → IfSome (or_else x y) P
of_else P None y hx hy = hy
of_else P (Some a) y hx hy = hx

an_amount : (second : Bool) (to : SaidSlot) (text : List ℕ) → IfSome (amount second to text) (λ a. Takes a to)
an_amount second to text =
    of_cond (λ a. Takes a to) (is_name text) (Some (Copy text))
    (or_else (number_amount (plain text)) (entry_amount to (entry_in second text))) tt
    (of_else (λ a. Takes a to) (number_amount (plain text)) (entry_amount to (entry_in second text))
    (a_number to (plain text)) (an_entry to (entry_in second text)))

a_sum : (to : SaidSlot) (name sign : List ℕ) (o : Option ℕ)
    → IfSome (plus_minus name sign o) (λ a. Takes a to)
a_sum to name sign None = tt
a_sum to name sign (Some n) =
    of_cond (λ a. Takes a to) (is (codes "+") sign) (Some (Plus name n))
    (cond (is (codes "-") sign) (Some (Minus name n)) None) tt
    (of_cond (λ a. Takes a to) (is (codes "-") sign) (Some (Minus name n)) None tt tt)

a_set : (to : SaidSlot) (o : Option SaidAmount) → IfSome o (λ a. Takes a to) → IfSome (set_of to o) IsSaidSet
a_set to None h = tt
a_set to (Some a) h = h

said_set : (second : Bool) (ws : Words) → IfSome (set_words second ws) IsSaidSet
said_set second [] = tt
said_set second (a ∷ []) = tt
said_set second (a ∷ e ∷ []) = tt
said_set second (a ∷ e ∷ b ∷ []) =
    of_cond IsSaidSet (is (codes "=") e) (if_there (slot second a) (λ s. set_of s (amount second s b))) None
    (of_there IsSaidSet (slot second a) (λ s. set_of s (amount second s b))
    (λ s. a_set s (amount second s b) (an_amount second s b))) tt
said_set second (a ∷ e ∷ b ∷ sign ∷ []) = tt
said_set second (a ∷ e ∷ b ∷ sign ∷ n ∷ []) =
    of_cond IsSaidSet (is (codes "=") e && is_name b)
    (if_there (slot second a) (λ s. set_of s (plus_minus b sign (decimal n)))) None
    (of_there IsSaidSet (slot second a) (λ s. set_of s (plus_minus b sign (decimal n)))
    (λ s. a_set s (plus_minus b sign (decimal n)) (a_sum s b sign (decimal n)))) tt
said_set second (a ∷ e ∷ b ∷ sign ∷ n ∷ u ∷ us) = tt

-- as many assignments as parts
record AreSaidSets (n : ℕ) (xs : List SaidSet) : Type 0 where
  all : All IsSaidSet xs
  count : length xs ≡ n

one_set : (count : ℕ) (x : Option SaidSet) (rest : Option (List SaidSet)) → IfSome x IsSaidSet
    → IfSome rest (AreSaidSets count) → IfSome (more_sets x rest) (AreSaidSets (suc count))
one_set count None rest hx hrest = tt
one_set count (Some x) None hx hrest = tt
one_set count (Some x) (Some xs) hx hrest =
    record { all = All-cons IsSaidSet x xs hx hrest.all; count = ap suc hrest.count }

said_sets : (second : Bool) (ps : List Words) → IfSome (sets second ps) (AreSaidSets (length ps))
said_sets second [] = record { all = All-nil IsSaidSet; count = refl }
said_sets second (p ∷ ps) =
    one_set (length ps) (set_words second p) (sets second ps) (said_set second p) (said_sets second ps)

some_part : (ws : Words) → 1 ≤ length (parts ws)
some_part [] = omega arith
some_part (w ∷ ws) = one (is (codes ",") w) (parts ws)
  where
    one : (comma : Bool) (ps : List Words) → 1 ≤ length (cond comma ([] ∷ ps) (in_first w ps))
    one true ps = omega arith
    one false [] = omega arith
    one false (p ∷ ps) = omega arith

-- ---- rows

pub record IsSaidRow (change : Bool) (r : SaidRow) : Type 0 where
  pub does : 1 ≤ length r.sets
  pub sets : All IsSaidSet r.sets
  pub present : change ≡ false → All (λ c. c.old ≡ false) r.conds

without_conds : (change : Bool) (count : ℕ) (o : Option (List SaidSet)) → 1 ≤ count
    → IfSome o (AreSaidSets count) → IfSome (row_of o) (IsSaidRow change)
without_conds change count None some h = tt
without_conds change count (Some xs) some h =
    record { does = omega (arith, some, h.count); sets = h.all; present = λ e. All-nil (λ c. c.old ≡ false) }

abbrev IsFront : Bool → (SaidCond × Words) → Type 0
IsFront change f = change ≡ false → f.0.old ≡ false

new_cond : (change : Bool) (ws : Words) (name equals n : List ℕ)
    → IfSome (with_rest ws (cond_of false name equals n)) (IsFront change)
new_cond change ws name equals n = one (is_name name && is (codes "=") equals) (number n)
  where
    one : (b : Bool) (o : Option Written) → IfSome (with_rest ws (cond b
        (if_there o (λ w. Some (record { old = false; name = name; number = w }))) None)) (IsFront change)
    one true None = tt
    one true (Some w) = λ e. refl
    one false o = tt

first_cond : (change : Bool) (ws : Words) → IfSome (front_cond change ws) (IsFront change)
first_cond change [] = tt
first_cond change (a ∷ []) = tt
first_cond change (a ∷ b ∷ []) = tt
first_cond true (a ∷ b ∷ d ∷ ws) = always (IsFront true) (front_cond true (a ∷ b ∷ d ∷ ws)) (λ f e. absurd cc)
first_cond false (a ∷ b ∷ d ∷ ws) = new_cond false ws a b d

one_cond : (change : Bool) (c : SaidCond) (o : Option SaidRow) → (change ≡ false → c.old ≡ false)
    → IfSome o (IsSaidRow change) → IfSome (more_conds c o) (IsSaidRow change)
one_cond change c None front h = tt
one_cond change c (Some r) front h = record {
  does = h.does;
  sets = h.sets;
  present = λ e. All-cons (λ c. c.old ≡ false) c r.conds (front e) (h.present e);
}

after_one : (second change : Bool) (f : SaidCond × Words) (ps : List Words) (o : Option SaidRow)
    → IsFront change f → IfSome o (IsSaidRow change) → IfSome (after_cond second f ps o) (IsSaidRow change)
after_one second change (c, []) ps o front h = one_cond change c o front h
after_one second change (c, w ∷ ws) ps o front h =
    of_cond (IsSaidRow change) (is (codes "do") w) (more_conds c (row_of (sets second (ws ∷ ps)))) None
    (one_cond change c (row_of (sets second (ws ∷ ps))) front (without_conds change (suc (length ps))
    (sets second (ws ∷ ps)) (omega arith) (said_sets second (ws ∷ ps)))) tt

with_conds : (second change : Bool) (ps : List Words)
    → IfSome (conds_sets second change ps) (IsSaidRow change)
with_conds second change [] = tt
with_conds second change (p ∷ ps) =
    then_there (IsFront change) (IsSaidRow change) (front_cond change p)
    (λ c. after_cond second c ps (conds_sets second change ps)) (first_cond change p)
    (λ c front. after_one second change c ps
    (conds_sets second change ps) front (with_conds second change ps))

said_row : (second change : Bool) (ws : Words) → IfSome (row second change ws) (IsSaidRow change)
said_row second change [] = tt
said_row second change (w ∷ ws) =
    of_cond (IsSaidRow change) (is (codes "do") w) (row_of (sets second (parts ws)))
    (cond (is (codes "when") w) (conds_sets second change (parts ws)) None)
    (without_conds change (length (parts ws)) (sets second (parts ws))
    (some_part ws) (said_sets second (parts ws)))
    (of_cond (IsSaidRow change) (is (codes "when") w) (conds_sets second change (parts ws)) None
    (with_conds second change (parts ws)) tt)

-- ---- lines

abbrev pub IsSaidLine : SaidLine → Type 0
IsSaidLine (Input name width) = Unit {0}
IsSaidLine (Word name width s) = Unit {0}
IsSaidLine (Memory name depth width s) = Unit {0}
IsSaidLine (Output name s) = Unit {0}
IsSaidLine (Change r) = IsSaidRow true r
IsSaidLine (Run r) = IsSaidRow false r
IsSaidLine End = Unit {0}

an_input : (ws : Words) → IfSome (input_line ws) IsSaidLine
an_input [] = tt
an_input (name ∷ []) = tt
an_input (name ∷ width ∷ []) =
    of_cond IsSaidLine (is_name name) (if_there (decimal width) (λ w. Some (Input name w))) None
    (of_there IsSaidLine (decimal width) (λ w. Some (Input name w)) (λ w. tt)) tt
an_input (name ∷ width ∷ u ∷ us) = tt

a_word : (ws : Words) → IfSome (word_line ws) IsSaidLine
a_word [] = tt
a_word (name ∷ []) = tt
a_word (name ∷ width ∷ ws) =
    of_cond IsSaidLine (is_name name)
    (if_there (decimal width) (λ w. if_there (starts ws) (λ s. Some (Word name w s)))) None
    (of_there IsSaidLine (decimal width) (λ w. if_there (starts ws) (λ s. Some (Word name w s)))
    (λ w. of_there IsSaidLine (starts ws) (λ s. Some (Word name w s)) (λ s. tt))) tt

a_memory : (ws : Words) → IfSome (memory_line ws) IsSaidLine
a_memory [] = tt
a_memory (name ∷ []) = tt
a_memory (name ∷ depth ∷ []) = tt
a_memory (name ∷ depth ∷ width ∷ ws) =
    of_cond IsSaidLine (is_name name) (if_there (decimal depth)
    (λ d. if_there (decimal width) (λ w. if_there (starts ws) (λ s. Some (Memory name d w s))))) None
    (of_there IsSaidLine (decimal depth)
    (λ d. if_there (decimal width) (λ w. if_there (starts ws) (λ s. Some (Memory name d w s))))
    (λ d. of_there IsSaidLine (decimal width) (λ w. if_there (starts ws) (λ s. Some (Memory name d w s)))
    (λ w. of_there IsSaidLine (starts ws) (λ s. Some (Memory name d w s)) (λ s. tt)))) tt

an_output : (ws : Words) → IfSome (output_line ws) IsSaidLine
an_output [] = tt
an_output (name ∷ []) = tt
an_output (name ∷ e ∷ []) = tt
an_output (name ∷ e ∷ text ∷ []) =
    of_cond IsSaidLine (is_name name && is (codes "=") e)
    (if_there (slice_text text) (λ s. Some (Output name s))) None
    (of_there IsSaidLine (slice_text text) (λ s. Some (Output name s)) (λ s. tt)) tt
an_output (name ∷ e ∷ text ∷ u ∷ us) = tt

a_change : (o : Option SaidRow) → IfSome o (IsSaidRow true) → IfSome (change_line o) IsSaidLine
a_change None h = tt
a_change (Some r) h = h

a_run : (o : Option SaidRow) → IfSome o (IsSaidRow false) → IfSome (run_line o) IsSaidLine
a_run None h = tt
a_run (Some r) h = h

an_end : (ws : Words) → IfSome (end_line ws) IsSaidLine
an_end [] = tt
an_end (w ∷ ws) = tt

pub said_line : (second : Bool) (ws : Words) → IfSome (line second ws) IsSaidLine
unfolding line
said_line second [] = tt
said_line second (w ∷ ws) =
    of_cond IsSaidLine (is (codes "in") w) (input_line ws) _ (an_input ws)
    (of_cond IsSaidLine (is (codes "word") w) (word_line ws) _ (a_word ws)
    (of_cond IsSaidLine (second && is (codes "mem") w) (memory_line ws) _ (a_memory ws)
    (of_cond IsSaidLine (is (codes "out") w) (output_line ws) _ (an_output ws)
    (of_cond IsSaidLine (is (codes "change") w) (change_line (row second true ws)) _
    (a_change (row second true ws) (said_row second true ws))
    (of_cond IsSaidLine (is (codes "run") w) (run_line (row second false ws)) _
    (a_run (row second false ws) (said_row second false ws))
    (of_cond IsSaidLine (is (codes "end") w) (end_line ws) None (an_end ws) tt))))))
