-- The procedure of a made design: turns, each of which writes one instrument, waits, and reads it (IEEE
-- 1687-2014, PDL level 0).
use Rattle.std.specs.Prelude.{ℕ, zero, suc, ◌+◌, ◌*◌, ◌%◌, ◌^◌, ◌==◌, cond, List, [], ◌∷◌, ◌++◌, map, get_or}
use Rattle.std.specs.Prelude.{length, codes, decimal}
use Rattle.rand_pcg.specs.Lcg.{Lcg}
use Rattle.design_maker.specs.Draws.{draw}
use Rattle.design_maker.specs.declared.instrument.Instrument.{Instrument}
use Rattle.design_maker.specs.declared.procedure.Turn.{Turn}

-- ---- what instruments do

-- an instrument takes a number in where its input changes
abbrev pub written : ℕ → Instrument → Instrument
written v x = record x { word = cond (v == x.input) x.word v; input = v }

-- it counts the cycles of a run
abbrev pub run : ℕ → Instrument → Instrument
run cycles x = record x { word = (x.word + cycles) % 2 ^ x.width }

-- the instrument at a place, changed
abbrev pub change_at : ℕ → (Instrument → Instrument) → List Instrument → List Instrument
change_at k f [] = []
change_at zero f (x ∷ xs) = f x ∷ xs
change_at (suc k) f (x ∷ xs) = x ∷ change_at k f xs

abbrev pub width_at : List Instrument → ℕ → ℕ
width_at xs k = get_or (map (λ x. x.width) xs) k 0

abbrev pub word_at : List Instrument → ℕ → ℕ
word_at xs k = get_or (map (λ x. x.word) xs) k 0

-- ---- turns

-- what a turn draws: an instrument by its place, the number that is written, the cycles of the run, in this
-- order
abbrev pub drawn_turn : List Instrument → Lcg → Turn × Lcg
drawn_turn xs g =
    let at = draw (length xs) g in
    let value = draw (2 ^ width_at xs at.0) at.1 in
    let cycles = draw 50 value.1 in
    (record { at = at.0; value = value.0; cycles = cycles.0 }, cycles.1)

-- the instruments after a turn: all run
abbrev pub after_turn : Turn → List Instrument → List Instrument
after_turn t xs = map (run t.cycles) (change_at t.at (written t.value) xs)

-- its commands, where the instrument then holds this word. Instruments are counted from 1
unfoldable pub turn_text : Turn → ℕ → List ℕ
turn_text t word =
    codes "  iWrite net.w" ++ (decimal (suc t.at)
    ++ (codes ".ins.d " ++ (decimal t.value ++ (codes "\n  iApply\n  iRunLoop " ++ (decimal t.cycles
    ++ (codes "\n  iRead net.w"
    ++ (decimal (suc t.at) ++ (codes ".ins.q " ++ (decimal word ++ codes "\n  iApply\n")))))))))

-- this many turns
abbrev pub turns_text : ℕ → List Instrument → Lcg → List ℕ
turns_text zero xs g = []
turns_text (suc n) xs g =
    let turn = drawn_turn xs g in
    let after = after_turn turn.0 xs in
    turn_text turn.0 (word_at after turn.0.at) ++ turns_text n after turn.1

-- two turns for each instrument
unfoldable pub procedure_text : List Instrument → Lcg → List ℕ
procedure_text xs g = codes "iProcsForModule chip\niProc p {} {\n"
    ++ (turns_text (2 * length xs) xs g ++ codes "}\n")
