-- Operands and conditions, read again.
use Rattle.std.proofs.Common.{◌≡◌, ◌≢◌, ℕ, zero, suc, ◌^◌, ◌<◌, ◌≤◌, Bool, true, false, not, cond, List, []}
use Rattle.std.proofs.Common.{◌∷◌, ◌++◌, length, map, Option, Some, None, get_or, codes, refl, ap, ◌∙◌, arith}
use Rattle.std.proofs.Common.{All}
use Rattle.std.specs.Prelude.{◌&&◌, IfSome, is_some, bit_and}
use Rattle.std.specs.Option.{option_map}
use Rattle.std.specs.List.{list_all}
use Rattle.std.proofs.Math.Pow.{pow_mono}
use Rattle.std.proofs.lemmas.Nat.{and_le_r}
use Rattle.std.proofs.lemmas.List.{length-map}
use Rattle.std.proofs.lemmas.List.Elements.{All-head, All-tail, All-weaker, Contains-get_or}
use Rattle.std.proofs.lemmas.List.Elements.{Contains-append_left}
use Rattle.ij_bits.specs.Different.{AreDifferent}
use Rattle.ij_text.specs.Numbers.{Written}
use Rattle.ij_text.specs.Words.{is_name}
use Rattle.table_lines.specs.Words.{number as number_read, is_wide, value_in, care_in}
use Rattle.instruments.specs.declared.model.Operand.{Operand}
use Rattle.instruments.specs.declared.model.Operand.TheVariants.{Word, Input, Old}
use Rattle.instruments.specs.declared.model.Cond.{Cond}
use Rattle.instruments.specs.Seen.{SeenWord, SeenMemory, SeenPort, SeenModel}
use Rattle.instruments.specs.Models.{IsWidth, IsWord, IsMemory, IsOperand, IsPresent, IsCond, IsModel}
use Rattle.instruments.specs.Models.{operand_width, memory_names, names}
use Rattle.table_lines.specs.Said.{Words, is, SaidCond, front_cond, old_cond, cond_of, with_rest, if_there}
use Rattle.table_file.specs.Tables.{word_named, input_named, word_or_input, operand_named, cond_operand}
use Rattle.table_file.specs.Tables.{known, cond_said, cond_width}
use Rattle.bench_file.specs.Written.{word_name, input_name, memory_name, operand_text, compared_text}
use Rattle.bench_file.specs.Written.{cond_text}
use Rattle.table_writer.specs.Pieces.{operand_name}
use Rattle.table_writer.specs.Again.{IsName, HasNames}
use Rattle.table_writer.proofs.Lexed.{is_letter, Reads, Always, Parts, join, after, part, one_word}
use Rattle.table_writer.proofs.Named.{name_word, name_letters}
use Rattle.table_writer.proofs.Binary.{IsSaid, compared, compared_again}
use Rattle.table_writer.proofs.Found.{other_text, of_front, of_back, in_one_part, no_number, number_found}
use Rattle.std.proofs.lemmas.Bool.{and_from}

-- what rows can name
pub record IsNamed (m : SeenModel) : Type 0 where
  pub good : HasNames m
  pub differ : AreDifferent (names m)
  pub words : All IsWord m.words
  pub ins : All (λ port. IsWidth port.width) m.ins
  pub memory : IfSome m.memory IsMemory

pub named_model : (m : SeenModel) → HasNames m → IsModel m → IsNamed m
named_model m good h =
    record { good = good; differ = h.names; words = h.words; ins = h.ins; memory = h.memory }

-- ---- names

pub at_index : {A B : Type 0} (P : B → Type 0) (f : A → B) (xs : List A) (k : ℕ) (e : B)
    → All (λ x. P (f x)) xs → k < length xs → P (get_or (map f xs) k e)
at_index P f [] k e all within = absurd (omega (arith, within))
at_index P f (x ∷ xs) zero e all within = All-head (λ y. P (f y)) x xs all
at_index P f (x ∷ xs) (suc k) e all within =
    at_index P f xs k e (All-tail (λ y. P (f y)) x xs all) (omega (arith, within))

pub word_good : (m : SeenModel) → HasNames m → (k : ℕ) → k < length m.words → is_name (word_name m k) ≡ true
word_good m h k within = at_index IsName (λ (d : SeenWord). d.name) m.words k [] h.words within

pub input_good : (m : SeenModel) → HasNames m → (k : ℕ) → k < length m.ins → is_name (input_name m k) ≡ true
input_good m h k within = at_index IsName (λ (d : SeenPort). d.name) m.ins k [] h.ins within

pub memory_good : (o : Option SeenMemory) → IfSome o (λ d. IsName d.name)
    → o ≢ None → is_name (memory_name o) ≡ true
memory_good None h some = absurd (some refl)
memory_good (Some d) h some = h

pub operand_good : (m : SeenModel) → HasNames m → (o : Operand)
    → IsOperand m o → is_name (operand_name m o) ≡ true
operand_good m h (Word k) there = word_good m h k there
operand_good m h (Input k) there = input_good m h k there
operand_good m h (Old k) there = input_good m h k there

pub word_found : (m : SeenModel) → AreDifferent (names m) → (k : ℕ)
    → k < length m.words → word_named m (word_name m k) ≡ Some k
word_found m h k within =
    let ws = map (λ (d : SeenWord). d.name) m.words in
    let long : length (map (λ (d : SeenWord). d.name) m.words)
    ≡ length m.words = length-map m.words (λ (d : SeenWord). d.name) in
    number_found k ws (of_front ws (memory_names m.memory) (of_back (map (λ (d : SeenPort). d.name) m.ins)
    (ws ++ memory_names m.memory) h)) (omega (arith, within, long))

pub input_found : (m : SeenModel) → AreDifferent (names m) → (k : ℕ) → k < length m.ins
    → input_named m (input_name m k) ≡ Some k
input_found m h k within =
    let is = map (λ (d : SeenPort). d.name) m.ins in
    let long : length (map (λ (d : SeenPort). d.name) m.ins)
    ≡ length m.ins = length-map m.ins (λ (d : SeenPort). d.name) in
    number_found k is (of_front is (map (λ (d : SeenWord). d.name) m.words ++ memory_names m.memory) h)
    (omega (arith, within, long))

input_no_word : (m : SeenModel) → AreDifferent (names m) → (k : ℕ)
    → k < length m.ins → word_named m (input_name m k) ≡ None
input_no_word m h k within =
    let is = map (λ (d : SeenPort). d.name) m.ins in
    let ws = map (λ (d : SeenWord). d.name) m.words in
    let long : length (map (λ (d : SeenPort). d.name) m.ins)
    ≡ length m.ins = length-map m.ins (λ (d : SeenPort). d.name) in
    no_number (input_name m k) ws
    (λ c. in_one_part is (ws ++ memory_names m.memory) (input_name m k) h (Contains-get_or is k []
    (omega (arith, within, long))) (Contains-append_left ws (memory_names m.memory) (input_name m k) c))

pub operand_found : (m : SeenModel) → AreDifferent (names m) → (o : Operand) → IsOperand m o → IsPresent o
    → operand_named m (operand_name m o) ≡ Some o
operand_found m h (Word k) there present =
    ap (λ w. word_or_input w (input_named m (word_name m k))) (word_found m h k there)
operand_found m h (Input k) there present =
    ap (λ w. word_or_input w (input_named m (input_name m k))) (input_no_word m h k there)
    ∙ ap (word_or_input None) (input_found m h k there)
operand_found m h (Old k) there present = absurd present

abbrev pub is_old : Operand → Bool
is_old (Word k) = false
is_old (Input k) = false
is_old (Old k) = true

pub looked_up : (m : SeenModel) → AreDifferent (names m) → (o : Operand) → IsOperand m o
    → cond (is_old o) (option_map Old (input_named m (operand_name m o)))
    (operand_named m (operand_name m o)) ≡ Some o
looked_up m h (Word k) there = operand_found m h (Word k) there tt
looked_up m h (Input k) there = operand_found m h (Input k) there tt
looked_up m h (Old k) there = ap (option_map Old) (input_found m h k there)

pub width_is : (m : SeenModel) → IsNamed m → (o : Operand) → IsOperand m o → IsWidth (operand_width m o)
width_is m h (Word k) there = at_index IsWidth (λ (d : SeenWord). d.width) m.words k 0
    (All-weaker IsWord (λ d. IsWidth d.width) (λ d w. w.width) m.words h.words) there
width_is m h (Input k) there = at_index IsWidth (λ (d : SeenPort). d.width) m.ins k 0 h.ins there
width_is m h (Old k) there = at_index IsWidth (λ (d : SeenPort). d.width) m.ins k 0 h.ins there

pub small_number : (w n : ℕ) → w ≤ 64 → n < 2 ^ w → n < 2 ^ 64
small_number w n few small = let most : 2 ^ w ≤ 2 ^ 64 = pow_mono few in omega (arith, small, most)

-- ---- separators

pub equals : Parts (codes " = ") (codes "=" ∷ [])
equals = record { all = record { plain = refl; reads = λ rest. refl }; apart = λ rest. refl }

old_word : Always (codes "old ") (codes "old" ∷ [])
old_word = record { plain = refl; reads = λ rest. refl }

-- no word is a comma
abbrev pub no_comma : List ℕ → Bool
no_comma w = not (is (codes ",") w)

pub letters_no_comma : (w : List ℕ) → list_all is_letter w ≡ true → no_comma w ≡ true
letters_no_comma w h = ap not (other_text (list_all is_letter) (codes ",") w refl h)

-- ---- conditions

abbrev pub cond_words_of : Operand → List ℕ → List ℕ → Words
cond_words_of (Word k) name text = name ∷ codes "=" ∷ text ∷ []
cond_words_of (Input k) name text = name ∷ codes "=" ∷ text ∷ []
cond_words_of (Old k) name text = codes "old" ∷ name ∷ codes "=" ∷ text ∷ []

abbrev pub cond_words : SeenModel → Cond → Words
cond_words m c = cond_words_of c.of (operand_name m c.of)
    (compared_text (operand_width m c.of) c.value c.care)

abbrev pub cond_back : SeenModel → Cond → SaidCond
cond_back m c = record {
  old = is_old c.of;
  name = operand_name m c.of;
  number = compared (operand_width m c.of) c.value c.care;
}

name_equals : (name text : List ℕ) → is_name name ≡ true → Reads text (text ∷ [])
    → Reads (name ++ (codes " = " ++ text)) (name ∷ codes "=" ∷ text ∷ [])
name_equals name text good t = join name (codes " = " ++ text) (name ∷ []) (codes "=" ∷ text ∷ [])
    (name_word name good) (part (codes " = ") text (codes "=" ∷ []) (text ∷ []) equals t)

cond_reads_of : (m : SeenModel) (o : Operand) (text : List ℕ)
    → is_name (operand_name m o) ≡ true → Reads text (text ∷ [])
    → Reads (operand_text m o ++ (codes " = " ++ text)) (cond_words_of o (operand_name m o) text)
cond_reads_of m (Word k) text good t = name_equals (word_name m k) text good t
cond_reads_of m (Input k) text good t = name_equals (input_name m k) text good t
cond_reads_of m (Old k) text good t =
    after (codes "old ") (input_name m k ++ (codes " = " ++ text)) (codes "old" ∷ [])
    (input_name m k ∷ codes "=" ∷ text ∷ []) old_word (name_equals (input_name m k) text good t)

cond_clean_of : (o : Operand) (name text : List ℕ) → is_name name ≡ true → list_all is_letter text ≡ true
    → list_all no_comma (cond_words_of o name text) ≡ true
cond_clean_of o name text good letters =
    one o (letters_no_comma name (name_letters name good)) (letters_no_comma text letters)
  where
    last : no_comma text ≡ true → list_all no_comma (text ∷ []) ≡ true
    last t = and_from (no_comma text) true t refl

    one : (o : Operand) → no_comma name ≡ true → no_comma text ≡ true
        → list_all no_comma (cond_words_of o name text) ≡ true
    one (Word k) n t = and_from (no_comma name) (list_all no_comma (text ∷ [])) n (last t)
    one (Input k) n t = and_from (no_comma name) (list_all no_comma (text ∷ [])) n (last t)
    one (Old k) n t = and_from (no_comma name) (list_all no_comma (text ∷ [])) n (last t)

-- an input before the change is looked at in change rows alone
abbrev pub MayLook : Bool → Operand → Type 0
MayLook true o = Unit {0}
MayLook false o = IsPresent o

never : (x y : Bool) → (x && (y && false)) ≡ false
never true true = refl
never true false = refl
never false y = refl

abbrev the_said : Bool → List ℕ → Written → SaidCond
the_said old name n = record { old = old; name = name; number = n }

cond_done : (old : Bool) (name text : List ℕ) (n : Written) → is_name name ≡ true → number_read text ≡ Some n
    → cond_of old name (codes "=") text ≡ Some (record { old = old; name = name; number = n })
cond_done old name text n good said =
    ap (λ (k : Bool). cond (k && true) (if_there (number_read text) (λ w. Some (the_said old name w))) None)
    good ∙ ap (λ (o : Option Written). if_there o (λ w. Some (the_said old name w))) said

front_again : (change : Bool) (o : Operand) (name text : List ℕ) (n : Written) (rest : Words)
    → is_name name ≡ true → number_read text ≡ Some n → MayLook change o
    → front_cond change (cond_words_of o name text ++ rest)
    ≡ Some (record { old = is_old o; name = name; number = n }, rest)
front_again change (Word k) name text n rest good said may =
    ap (λ b. cond b (old_cond (codes "=") text rest) (with_rest rest (cond_of false name (codes "=") text)))
    (never change (is (codes "old") name)) ∙ ap (with_rest rest) (cond_done false name text n good said)
front_again change (Input k) name text n rest good said may =
    ap (λ b. cond b (old_cond (codes "=") text rest) (with_rest rest (cond_of false name (codes "=") text)))
    (never change (is (codes "old") name)) ∙ ap (with_rest rest) (cond_done false name text n good said)
front_again true (Old k) name text n rest good said may =
    ap (λ b. cond (not b) (old_cond name (codes "=") (text ∷ rest)) (with_rest (text ∷ rest)
    (cond_of false (codes "old") name (codes "=")))) (other_text is_name (codes "=") name refl good)
    ∙ ap (with_rest rest) (cond_done true name text n good said)
front_again false (Old k) name text n rest good said may = absurd may

-- a condition, its words and what they say
pub record IsCondRead (m : SeenModel) (change : Bool) (c : Cond) : Type 0 where
  pub own : Reads (cond_text m c) (cond_words m c)
  pub clean : list_all no_comma (cond_words m c) ≡ true
  pub front : (rest : Words) → front_cond change (cond_words m c ++ rest) ≡ Some (cond_back m c, rest)
  pub there : is_some (cond_operand m (cond_back m c)) ≡ true
  pub fits : is_wide (cond_width m (cond_back m c)) (cond_back m c).number ≡ false
  pub back : cond_said m (cond_back m c) ≡ c

abbrev pub the_cond : Operand → ℕ → ℕ → Cond
the_cond o v k = record { of = o; value = v; care = k }

pub cond_read : (m : SeenModel) → IsNamed m → (change : Bool) (c : Cond) → IsCond m c
    → MayLook change c.of → IsCondRead m change c
cond_read m h change c is may =
    let w = operand_width m c.of in
    let width : IsWidth (operand_width m c.of) = width_is m h c.of is.of in
    let low : bit_and c.value c.care ≤ c.care = and_le_r c.value c.care in
    let care : c.care < 2 ^ operand_width m c.of = is.care in
    let value : c.value < 2 ^ operand_width m c.of = omega (arith, low, care, is.value) in
    let said : IsSaid w c.value c.care (compared_text w c.value c.care) (compared w c.value c.care) =
    compared_again w c.value c.care width.some width.few value
    (small_number w c.value width.few value) care is.value in
    let good = operand_good m h.good c.of is.of in
    let found : cond_operand m (cond_back m c) ≡ Some c.of = looked_up m h.differ c.of is.of in
    record {
      own = cond_reads_of m c.of (compared_text w c.value c.care) good
          (one_word (compared_text w c.value c.care) said.some said.letters);
      clean = cond_clean_of c.of (operand_name m c.of) (compared_text w c.value c.care) good said.letters;
      front = λ rest. front_again change c.of (operand_name m c.of) (compared_text w c.value c.care)
          (compared w c.value c.care) rest good said.number may;
      there = ap is_some found;
      fits = ap (λ o. is_wide (operand_width m (known o)) (compared w c.value c.care)) found ∙ said.fits;
      back = ap (λ (o : Option Operand). the_cond (known o)
          (value_in (operand_width m (known o)) (compared w c.value c.care))
          (care_in (operand_width m (known o)) (compared w c.value c.care))) found
          ∙ ap (λ v. the_cond c.of v (care_in w (compared w c.value c.care))) said.value
          ∙ ap (λ k. the_cond c.of c.value k) said.care;
    }
