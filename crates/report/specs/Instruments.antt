-- The lines of instruments: their words, their memory and how often they had each kind of event.
use Rattle.std.specs.Prelude.{ℕ, zero, suc, ◌==◌, cond, List, [], ◌∷◌, ◌++◌, codes, decimal, get_or, Option}
use Rattle.std.specs.Prelude.{Some, None}
use Rattle.net_graph.specs.declared.net.Net.{Net}
use Rattle.instruments.specs.declared.Counts.{Counts}
use Rattle.instruments.specs.OnNetwork.{Running}
use Rattle.instruments.specs.Seen.{SeenWord, SeenMemory, SeenModel}
use Rattle.report.specs.Numbers.{hex_number}
use Rattle.report.specs.Paths.{instrument_path}

-- a word: a blank, its name, an equals sign (61), its number
abbrev pub word_text : List ℕ → ℕ → ℕ → List ℕ
word_text name width number = 32 ∷ (name ++ 61 ∷ hex_number width number)

-- words, the first of which is the one at place k
abbrev pub words_from : List ℕ → ℕ → List SeenWord → List ℕ
words_from numbers k [] = []
words_from numbers k (d ∷ ds) = word_text d.name d.width (get_or numbers k 0) ++ words_from numbers (suc k) ds

-- an entry of a memory: a blank, the memory's name, its index in brackets (91, 93), an equals sign, its
-- number
abbrev pub index_text : ℕ → List ℕ
index_text index = 91 ∷ (decimal index ++ 93 ∷ 61 ∷ [])

abbrev pub entry_text : List ℕ → ℕ → ℕ → ℕ → List ℕ
entry_text name width index number = 32 ∷ (name ++ (index_text index ++ hex_number width number))

-- an entry that is 0 isn't written
abbrev pub entry_if : List ℕ → ℕ → ℕ → ℕ → List ℕ
entry_if name width index number = cond (number == 0) [] (entry_text name width index number)

-- n entries from index k on
abbrev pub entries_from : List ℕ → ℕ → List ℕ → ℕ → ℕ → List ℕ
entries_from name width numbers k zero = []
entries_from name width numbers k (suc n) =
    entry_if name width k (get_or numbers k 0) ++ entries_from name width numbers (suc k) n

abbrev pub memory_text : List ℕ → Option SeenMemory → List ℕ
memory_text numbers None = []
memory_text numbers (Some d) = entries_from d.name d.width numbers 0 d.depth

abbrev pub counts_text : Counts → List ℕ
counts_text c =
    codes " changes " ++ (decimal c.changes
    ++ (codes " runs " ++ (decimal c.runs ++ (codes " resets " ++ (decimal c.resets ++ 10 ∷ [])))))

-- an instrument at a place: the numbers of its words and of its memory's entries, and its counts
abbrev pub instrument_text : Net → SeenModel → ℕ → Running Counts → List ℕ
instrument_text net m i x =
    codes "instrument " ++ (instrument_path net i
    ++ (words_from x.inner.words 0 m.words ++ (memory_text x.inner.memory m.memory ++ counts_text x.log)))

-- the instruments of some models, the first of which is at place i
abbrev pub instruments_from : Net → ℕ → List SeenModel → List (Running Counts) → List ℕ
instruments_from net i [] xs = []
instruments_from net i (m ∷ ms) [] = []
instruments_from net i (m ∷ ms) (x ∷ xs) = instrument_text net m i x ++ instruments_from net (suc i) ms xs

abbrev pub instruments_text : Net → List SeenModel → List (Running Counts) → List ℕ
instruments_text net models insts = instruments_from net 0 models insts
