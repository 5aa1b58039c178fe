-- Widths of operands.
use Rattle.std.proofs.Common.{◌≤◌, ℕ, zero, suc, List, [], ◌∷◌, map, get_or, All, arith, Option, Some, None}
use Rattle.std.specs.Prelude.{IfSome}
use Rattle.instruments.specs.declared.model.Operand.{Operand}
use Rattle.instruments.specs.declared.model.Operand.TheVariants.{Word, Input, Old}
use Rattle.instruments.specs.Seen.{SeenWord, SeenPort, SeenMemory, SeenModel}
use Rattle.instruments.specs.After.{memory_width}
use Rattle.instruments.specs.Models.{operand_width, word_width}
use Rattle.table_file.specs.Small.{AreNarrow}

few_of_words : (ds : List SeenWord) (k : ℕ) → All (λ d. d.width ≤ 64) ds
    → get_or (map (λ d. d.width) ds) k 0 ≤ 64
few_of_words [] k all = omega arith
few_of_words (d ∷ ds) zero all = all zero d (omega arith)
few_of_words (d ∷ ds) (suc k) all = few_of_words ds k (λ i e within. all (suc i) e (omega (arith, within)))

few_of_ports : (ds : List SeenPort) (k : ℕ) → All (λ d. d.width ≤ 64) ds
    → get_or (map (λ d. d.width) ds) k 0 ≤ 64
few_of_ports [] k all = omega arith
few_of_ports (d ∷ ds) zero all = all zero d (omega arith)
few_of_ports (d ∷ ds) (suc k) all = few_of_ports ds k (λ i e within. all (suc i) e (omega (arith, within)))

pub few_word : (m : SeenModel) (k : ℕ) → AreNarrow m → word_width m k ≤ 64
few_word m k narrow = few_of_words m.words k narrow.words

pub few : (m : SeenModel) (o : Operand) → AreNarrow m → operand_width m o ≤ 64
few m (Word k) narrow = few_of_words m.words k narrow.words
few m (Input k) narrow = few_of_ports m.ins k narrow.ins
few m (Old k) narrow = few_of_ports m.ins k narrow.ins

pub few_memory : (memory : Option SeenMemory) → IfSome memory (λ d. d.width ≤ 64) → memory_width memory ≤ 64
few_memory None narrow = omega arith
few_memory (Some d) narrow = narrow
