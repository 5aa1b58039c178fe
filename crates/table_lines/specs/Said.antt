-- What one line of a table says, whatever its names mean.
use Rattle.std.specs.Prelude.{ℕ, Bool, true, false, not, ◌&&◌, cond, List, [], ◌∷◌, Option, Some, None, codes}
use Rattle.std.specs.Str.{bytes_eq}
use Rattle.ij_text.specs.Numbers.{Written}
use Rattle.ij_text.specs.Words.{is_name}
use Rattle.ij_text.specs.Options.{or_else}
use Rattle.table_lines.specs.Words.{Slice, path, decimal, plain, number, entry, slice}

-- ---- what is said

-- `NAME = NUMBER`, or `old NAME = NUMBER`
pub record SaidCond : Type 0 where
  pub old : Bool
  pub name : List ℕ
  pub number : Written

-- an entry `MEM[NAME]`
pub record SaidEntry : Type 0 where
  pub memory : List ℕ
  pub index : List ℕ

pub data SaidSlot : Type 0 where
  ToWord : (name : List ℕ) → SaidSlot
  ToEntry : (entry : SaidEntry) → SaidSlot

pub data SaidAmount : Type 0 where
  Number : (n : ℕ) → SaidAmount
  Copy : (name : List ℕ) → SaidAmount
  Plus : (name : List ℕ) → (n : ℕ) → SaidAmount
  Minus : (name : List ℕ) → (n : ℕ) → SaidAmount
  FromEntry : (entry : SaidEntry) → SaidAmount

pub record SaidSet : Type 0 where
  pub slot : SaidSlot
  pub amount : SaidAmount

pub record SaidRow : Type 0 where
  pub conds : List SaidCond
  pub sets : List SaidSet

-- the numbers at power-up and at a reset
pub record Starts : Type 0 where
  pub init : ℕ
  pub reset : Option ℕ

pub data SaidLine : Type 0 where
  Input : (name : List ℕ) → (width : ℕ) → SaidLine
  Word : (name : List ℕ) → (width : ℕ) → (starts : Starts) → SaidLine
  Memory : (name : List ℕ) → (depth width : ℕ) → (starts : Starts) → SaidLine
  Output : (name : List ℕ) → (slice : Slice) → SaidLine
  Change : (row : SaidRow) → SaidLine
  Run : (row : SaidRow) → SaidLine
  End : SaidLine

abbrev pub Words : Type 0
Words = List (List ℕ)

-- whether a word is this one
abbrev pub is : List ℕ → List ℕ → Bool
is wanted w = bytes_eq wanted w

abbrev pub if_there : {A B : Type 0} → Option A → (A → Option B) → Option B
if_there None next = None
if_there (Some a) next = next a

-- ---- conditions

abbrev pub cond_of : Bool → List ℕ → List ℕ → List ℕ → Option SaidCond
cond_of old name equals n =
    cond (is_name name && is (codes "=") equals)
    (if_there (number n) (λ w. Some (record { old = old; name = name; number = w }))) None

abbrev pub with_rest : Words → Option SaidCond → Option (SaidCond × Words)
with_rest ws None = None
with_rest ws (Some c) = Some (c, ws)

-- three words after `old`
abbrev pub old_cond : List ℕ → List ℕ → Words → Option (SaidCond × Words)
old_cond name equals [] = None
old_cond name equals (n ∷ ws) = with_rest ws (cond_of true name equals n)

-- the condition at the front, and the words after it; before a `=` the word `old` is a name
abbrev pub front_cond : Bool → Words → Option (SaidCond × Words)
front_cond change [] = None
front_cond change (a ∷ []) = None
front_cond change (a ∷ b ∷ []) = None
front_cond change (a ∷ b ∷ c ∷ ws) =
    cond (change && (is (codes "old") a && not (is (codes "=") b)))
    (old_cond b c ws) (with_rest ws (cond_of false a b c))

-- ---- assignments

abbrev pub entry_of : List ℕ × List ℕ → SaidEntry
entry_of e = record { memory = e.0; index = e.1 }

-- an entry needs version 2
abbrev pub entry_in : Bool → List ℕ → Option SaidEntry
entry_in second text = cond second (if_there (entry text) (λ e. Some (entry_of e))) None

abbrev pub entry_slot : Option SaidEntry → Option SaidSlot
entry_slot None = None
entry_slot (Some e) = Some (ToEntry e)

abbrev pub slot : Bool → List ℕ → Option SaidSlot
slot second text = cond (is_name text) (Some (ToWord text)) (entry_slot (entry_in second text))

abbrev pub number_amount : Option ℕ → Option SaidAmount
number_amount None = None
number_amount (Some n) = Some (Number n)

-- an entry takes no entry
abbrev pub entry_amount : SaidSlot → Option SaidEntry → Option SaidAmount
entry_amount slot None = None
entry_amount (ToWord name) (Some e) = Some (FromEntry e)
entry_amount (ToEntry x) (Some e) = None

-- an amount of one word: a name, a number or an entry
abbrev pub amount : Bool → SaidSlot → List ℕ → Option SaidAmount
amount second slot text =
    cond (is_name text) (Some (Copy text))
    (or_else (number_amount (plain text)) (entry_amount slot (entry_in second text)))

-- a sum or a difference
abbrev pub plus_minus : List ℕ → List ℕ → Option ℕ → Option SaidAmount
plus_minus name sign None = None
plus_minus name sign (Some n) =
    cond (is (codes "+") sign) (Some (Plus name n)) (cond (is (codes "-") sign) (Some (Minus name n)) None)

abbrev pub set_of : SaidSlot → Option SaidAmount → Option SaidSet
set_of slot None = None
set_of slot (Some a) = Some (record { slot = slot; amount = a })

-- `SLOT = AMOUNT`
abbrev pub set_words : Bool → Words → Option SaidSet
set_words second [] = None
set_words second (a ∷ []) = None
set_words second (a ∷ e ∷ []) = None
set_words second (a ∷ e ∷ b ∷ []) =
    cond (is (codes "=") e) (if_there (slot second a) (λ s. set_of s (amount second s b))) None
set_words second (a ∷ e ∷ b ∷ sign ∷ []) = None
set_words second (a ∷ e ∷ b ∷ sign ∷ n ∷ []) =
    cond (is (codes "=") e && is_name b)
    (if_there (slot second a) (λ s. set_of s (plus_minus b sign (decimal n)))) None
set_words second (a ∷ e ∷ b ∷ sign ∷ n ∷ u ∷ us) = None

-- ---- rows

-- a word before a list of parts belongs to the first of them
abbrev pub in_first : List ℕ → List Words → List Words
in_first w [] = (w ∷ []) ∷ []
in_first w (p ∷ ps) = (w ∷ p) ∷ ps

-- the parts between commas
abbrev pub parts : Words → List Words
parts [] = [] ∷ []
parts (w ∷ ws) = cond (is (codes ",") w) ([] ∷ parts ws) (in_first w (parts ws))

abbrev pub more_sets : Option SaidSet → Option (List SaidSet) → Option (List SaidSet)
more_sets None rest = None
more_sets (Some x) None = None
more_sets (Some x) (Some xs) = Some (x ∷ xs)

-- each part an assignment
abbrev pub sets : Bool → List Words → Option (List SaidSet)
sets second [] = Some []
sets second (p ∷ ps) = more_sets (set_words second p) (sets second ps)

abbrev pub row_of : Option (List SaidSet) → Option SaidRow
row_of None = None
row_of (Some xs) = Some (record { conds = []; sets = xs })

abbrev pub more_conds : SaidCond → Option SaidRow → Option SaidRow
more_conds c None = None
more_conds c (Some row) = Some (record row { conds = c ∷ row.conds })

-- after a condition is the next part, or `do` and the first assignment
abbrev pub after_cond : Bool → SaidCond × Words → List Words → Option SaidRow → Option SaidRow
after_cond second (c, []) ps rest = more_conds c rest
after_cond second (c, w ∷ ws) ps rest =
    cond (is (codes "do") w) (more_conds c (row_of (sets second (ws ∷ ps)))) None

abbrev pub conds_sets : Bool → Bool → List Words → Option SaidRow
conds_sets second change [] = None
conds_sets second change (p ∷ ps) =
    if_there (front_cond change p) (λ c. after_cond second c ps (conds_sets second change ps))

-- `do` and assignments, or `when`, conditions, `do` and assignments
abbrev pub row : Bool → Bool → Words → Option SaidRow
row second change [] = None
row second change (w ∷ ws) =
    cond (is (codes "do") w) (row_of (sets second (parts ws)))
    (cond (is (codes "when") w) (conds_sets second change (parts ws)) None)

-- ---- lines

abbrev pub starts_of : Option ℕ → Option ℕ → Option Starts
starts_of None reset = None
starts_of (Some n) reset = Some (record { init = n; reset = reset })

abbrev pub with_reset : Option ℕ → Option ℕ → Option Starts
with_reset init None = None
with_reset init (Some n) = starts_of init (Some n)

-- `[init NUMBER] [reset NUMBER]`; without `init` it is 0
abbrev pub starts : Words → Option Starts
starts [] = starts_of (Some 0) None
starts (w ∷ []) = None
starts (w ∷ n ∷ []) =
    cond (is (codes "init") w) (starts_of (plain n) None)
    (cond (is (codes "reset") w) (with_reset (Some 0) (plain n)) None)
starts (w ∷ n ∷ v ∷ []) = None
starts (w ∷ n ∷ v ∷ m ∷ []) =
    cond (is (codes "init") w && is (codes "reset") v) (with_reset (plain n) (plain m)) None
starts (w ∷ n ∷ v ∷ m ∷ u ∷ us) = None

abbrev pub input_line : Words → Option SaidLine
input_line [] = None
input_line (name ∷ []) = None
input_line (name ∷ width ∷ []) =
    cond (is_name name) (if_there (decimal width) (λ w. Some (Input name w))) None
input_line (name ∷ width ∷ u ∷ us) = None

abbrev pub word_line : Words → Option SaidLine
word_line [] = None
word_line (name ∷ []) = None
word_line (name ∷ width ∷ ws) =
    cond (is_name name)
    (if_there (decimal width) (λ w. if_there (starts ws) (λ s. Some (Word name w s)))) None

abbrev pub memory_line : Words → Option SaidLine
memory_line [] = None
memory_line (name ∷ []) = None
memory_line (name ∷ depth ∷ []) = None
memory_line (name ∷ depth ∷ width ∷ ws) =
    cond (is_name name) (if_there (decimal depth)
    (λ d. if_there (decimal width) (λ w. if_there (starts ws) (λ s. Some (Memory name d w s))))) None

abbrev pub output_line : Words → Option SaidLine
output_line [] = None
output_line (name ∷ []) = None
output_line (name ∷ e ∷ []) = None
output_line (name ∷ e ∷ text ∷ []) =
    cond (is_name name && is (codes "=") e) (if_there (slice text) (λ s. Some (Output name s))) None
output_line (name ∷ e ∷ text ∷ u ∷ us) = None

abbrev pub change_line : Option SaidRow → Option SaidLine
change_line None = None
change_line (Some r) = Some (Change r)

abbrev pub run_line : Option SaidRow → Option SaidLine
run_line None = None
run_line (Some r) = Some (Run r)

abbrev pub end_line : Words → Option SaidLine
end_line [] = Some End
end_line (w ∷ ws) = None

-- a line of a block, by its first word; a line of a memory needs version 2
abbrev pub line_by : Bool → List ℕ → Words → Option SaidLine
line_by second w ws =
    cond (is (codes "in") w) (input_line ws)
    (cond (is (codes "word") w) (word_line ws)
    (cond (second && is (codes "mem") w) (memory_line ws)
    (cond (is (codes "out") w) (output_line ws)
    (cond (is (codes "change") w) (change_line (row second true ws))
    (cond (is (codes "run") w) (run_line (row second false ws))
    (cond (is (codes "end") w) (end_line ws) None))))))

unfoldable pub line : Bool → Words → Option SaidLine
line second [] = None
line second (w ∷ ws) = line_by second w ws

-- `instrument PATH`
abbrev pub instrument_text : Words → Option (List ℕ)
instrument_text [] = None
instrument_text (w ∷ []) = None
instrument_text (w ∷ p ∷ []) = cond (is (codes "instrument") w) (Some p) None
instrument_text (w ∷ p ∷ u ∷ us) = None

unfoldable pub instrument : Words → Option (List (List ℕ))
instrument ws = if_there (instrument_text ws) path

abbrev pub version_of : List ℕ → Option Bool
version_of n = cond (is (codes "1") n) (Some false) (cond (is (codes "2") n) (Some true) None)

-- `tables 1` or `tables 2`: whether it is version 2
unfoldable pub version : Words → Option Bool
version [] = None
version (w ∷ []) = None
version (w ∷ n ∷ []) = cond (is (codes "tables") w) (version_of n) None
version (w ∷ n ∷ u ∷ us) = None
