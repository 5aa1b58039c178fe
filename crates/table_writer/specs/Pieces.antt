-- The pieces that rows are written in.
use Rattle.std.specs.Prelude.{ℕ, ◌++◌, List, [], codes, decimal}
use Rattle.instruments.specs.declared.model.Cond.{Cond}
use Rattle.instruments.specs.declared.model.Operand.{Operand}
use Rattle.instruments.specs.declared.model.Operand.TheVariants.{Word, Input, Old}
use Rattle.instruments.specs.declared.model.Set.{Set}
use Rattle.instruments.specs.Seen.{SeenWord, SeenMemory, SeenOut, SeenModel}
use Rattle.bench_file.specs.Written.{word_name, input_name, operand_text, cond_text, set_text, path_text}

-- what comes before an operand's name
abbrev pub old_mark : Operand → List ℕ
old_mark (Word k) = []
old_mark (Input k) = []
old_mark (Old k) = codes "old "

abbrev pub operand_name : SeenModel → Operand → List ℕ
operand_name m (Word k) = word_name m k
operand_name m (Input k) = input_name m k
operand_name m (Old k) = input_name m k

-- what changes an operand, and by which number
abbrev pub sum_text : SeenModel → Operand → List ℕ → ℕ → List ℕ
sum_text m from sign n = operand_text m from ++ (sign ++ decimal n)

-- after a first one
abbrev pub next_cond : SeenModel → Cond → List ℕ
next_cond m c = codes ", " ++ cond_text m c

abbrev pub next_set : SeenModel → Set → List ℕ
next_set m x = codes ", " ++ set_text m x

abbrev pub next_name : List ℕ → List ℕ
next_name name = codes "." ++ name

-- lines without their end
abbrev pub word_front : SeenWord → List ℕ
word_front d = codes "word "
    ++ (d.name ++ (codes " " ++ (decimal d.width ++ (codes " init " ++ decimal d.init))))

abbrev pub memory_front : SeenMemory → List ℕ
memory_front d =
    codes "mem " ++ (d.name ++ (codes " "
    ++ (decimal d.depth ++ (codes " " ++ (decimal d.width ++ (codes " init " ++ decimal d.init))))))

abbrev pub out_front : SeenModel → SeenOut → List ℕ
out_front m d = codes "out " ++ (d.name ++ (codes " = " ++ word_name m d.word))

abbrev pub instrument_line : List (List ℕ) → List ℕ
instrument_line path = codes "instrument " ++ (path_text path ++ codes "\n")
