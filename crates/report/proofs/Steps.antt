-- How a loop's text goes on.
use Rattle.std.proofs.Common.{◌≡◌, ℕ, suc, ◌*◌, ◌/◌, ◌%◌, ◌^◌, ◌<◌, ◌≤◌, List, [], ◌∷◌, ◌++◌, length, drop}
use Rattle.std.proofs.Common.{map, ap, sym, ◌∙◌, subst, arith}
use Rattle.std.specs.Prelude.{get_or, codes}
use Rattle.std.proofs.Math.Seq.{drop-cons}
use Rattle.std.proofs.lemmas.List.{length-map, get_or-map}
use Rattle.std.proofs.lemmas.List.Elements.{All-get_or}
use Rattle.std.specs.Prelude.{All}
use Rattle.instruments.specs.declared.Counts.{Counts}
use Rattle.instruments.specs.declared.model.Model.{Model}
use Rattle.instruments.specs.declared.model.WordDef.{WordDef}
use Rattle.instruments.specs.declared.runner.Runner.{Runner}
use Rattle.instruments.specs.OnNetwork.{Running}
use Rattle.instruments.specs.Runners.{insts_of, running_of}
use Rattle.instruments.specs.Models.{IsWord}
use Rattle.instruments.specs.Seen.{SeenModel, SeenWord, seen_model, seen_word}
use Rattle.net_graph.specs.Named.{thing_of, width_of}
use Rattle.net_graph.specs.PathNames.{thing_path}
use Rattle.ij_bits.specs.Hex.{hex_code}
use Rattle.net_graph.specs.declared.net.Net.{Net}
use Rattle.net_graph.specs.Signals.{Holds}
use Rattle.report.specs.Numbers.{lowest_digits}
use Rattle.report.specs.Registers.{bit_digit, register_digits, register_text, registers_from}
use Rattle.report.specs.Instruments.{word_text, words_from, entry_if, entries_from, instrument_text}
use Rattle.report.specs.Instruments.{instruments_from}

pub hex_next : (number n m d : ℕ) → n ≡ suc m → d ≡ hex_code (number / 2 ^ (4 * m) % 16)
    → lowest_digits number n ≡ (d ∷ []) ++ lowest_digits number m
hex_next number n m d more is = ap (lowest_digits number) more ∙ ap (λ x. x ∷ lowest_digits number m) (sym is)

pub digits_next : (net : Net) (holds : Holds) (r n m d : ℕ) → n ≡ suc m
    → d ≡ bit_digit net holds (record { reg = r; pos = m })
    → register_digits net holds r n ≡ (d ∷ []) ++ register_digits net holds r m
digits_next net holds r n m d more is =
    ap (register_digits net holds r) more ∙ ap (λ x. x ∷ register_digits net holds r m) (sym is)

pub registers_next : (net : Net) (holds : Holds) (r s n m : ℕ) → n ≡ suc m → s ≡ suc r
    → registers_from net holds r n ≡ register_text net holds r ++ registers_from net holds s m
registers_next net holds r s n m more next =
    ap (registers_from net holds r) more
    ∙ ap (λ k. register_text net holds r ++ registers_from net holds k m) (sym next)

pub entries_next : (name : List ℕ) (width : ℕ) (numbers : List ℕ) (k s n m d : ℕ)
    → n ≡ suc m → s ≡ suc k → d ≡ get_or numbers k 0
    → entries_from name width numbers k n ≡ entry_if name width k d ++ entries_from name width numbers s m
entries_next name width numbers k s n m d more next is =
    ap (entries_from name width numbers k) more
    ∙ ap (λ x. entry_if name width k x ++ entries_from name width numbers (suc k) m) (sym is)
    ∙ ap (λ x. entry_if name width k d ++ entries_from name width numbers x m) (sym next)

-- a word of a model at its place
pub word_there : (ws : List WordDef) (i : ℕ) (d : WordDef) → i < length ws → d ≡ get_or ws i d
    → seen_word d ≡ get_or (map seen_word ws) i (seen_word d)
word_there ws i d within is = ap seen_word is ∙ sym (get_or-map seen_word ws i d (seen_word d) within)

pub word_wide : (ws : List WordDef) (i : ℕ) (d : WordDef) → i < length ws → d ≡ get_or ws i d
    → All IsWord (map seen_word ws) → d.width ≤ 64
word_wide ws i d within is words =
    let there = word_there ws i d within is in
    let inside : i < length (map seen_word ws) = omega (arith, within, length-map ws seen_word) in
    let word = subst IsWord (sym there) (All-get_or IsWord (map seen_word ws) i (seen_word d) inside words) in
    word.width.few

pub words_next : (numbers : List ℕ) (ws : List WordDef) (k s : ℕ) (d : WordDef) (number : ℕ) → k < length ws
    → d ≡ get_or ws k d → s ≡ suc k → number ≡ get_or numbers k 0
    → words_from numbers k (drop k (map seen_word ws))
    ≡ word_text d.name.items d.width number ++ words_from numbers s (drop s (map seen_word ws))
words_next numbers ws k s d number within there next is =
    let ds = map seen_word ws in
    let inside : k < length ds = omega (arith, within, length-map ws seen_word) in
    ap (words_from numbers k) (drop-cons ds k (seen_word d) inside)
    ∙ ap (λ (x : SeenWord). word_text x.name x.width (get_or numbers k 0)
    ++ words_from numbers (suc k) (drop (suc k) ds)) (sym (word_there ws k d within there))
    ∙ ap (λ (x : ℕ). word_text d.name.items d.width x
    ++ words_from numbers (suc k) (drop (suc k) ds)) (sym is)
    ∙ ap (λ (x : ℕ). word_text d.name.items d.width number ++ words_from numbers x (drop x ds)) (sym next)

-- a register, by its parts
pub register_is : (net : Net) (holds : Holds) (r t w : ℕ) → t ≡ thing_of net r → w ≡ width_of net r
    → codes "register " ++ (thing_path net t ++ 32 ∷ (register_digits net holds r w ++ 10 ∷ []))
    ≡ register_text net holds r
register_is net holds r t w thing width =
    ap (λ (x : ℕ). codes "register "
    ++ (thing_path net x ++ 32 ∷ (register_digits net holds r w ++ 10 ∷ []))) thing
    ∙ ap (λ (x : ℕ). codes "register "
    ++ (thing_path net (thing_of net r) ++ 32 ∷ (register_digits net holds r x ++ 10 ∷ []))) width

-- the instruments from a place on
pub instruments_next : (net : Net) (models : List Model) (runners : List Runner) (k s : ℕ) (m : Model)
    (r : Runner) → k < length models → k < length runners → m ≡ get_or models k m → r ≡ get_or runners k r
    → s ≡ suc k
    → instruments_from net k (drop k (map seen_model models)) (drop k (insts_of runners))
    ≡ instrument_text net (seen_model m) k (running_of r)
    ++ instruments_from net s (drop s (map seen_model models)) (drop s (insts_of runners))
instruments_next net models runners k s m r few also is_m is_r next =
    let ms = map seen_model models in
    let xs = insts_of runners in
    let in_models : k < length ms = omega (arith, few, length-map models seen_model) in
    let in_runners : k < length xs = omega (arith, also, length-map runners running_of) in
    let model : seen_model m ≡ get_or ms k (seen_model m) =
    ap seen_model is_m ∙ sym (get_or-map seen_model models k m (seen_model m) few) in
    let runner : running_of r ≡ get_or xs k (running_of r) =
    ap running_of is_r ∙ sym (get_or-map running_of runners k r (running_of r) also) in
    ap (λ (l : List SeenModel). instruments_from net k l (drop k xs)) (drop-cons ms k (seen_model m)
    in_models)
    ∙ ap (instruments_from net k (get_or ms k (seen_model m) ∷ drop (suc k) ms))
    (drop-cons xs k (running_of r) in_runners)
    ∙ ap (λ (x : SeenModel). instrument_text net x k (get_or xs k (running_of r))
    ++ instruments_from net (suc k) (drop (suc k) ms) (drop (suc k) xs)) (sym model)
    ∙ ap (λ (x : Running Counts). instrument_text net (seen_model m) k x
    ++ instruments_from net (suc k) (drop (suc k) ms) (drop (suc k) xs)) (sym runner)
    ∙ ap (λ (j : ℕ). instrument_text net (seen_model m) k (running_of r)
    ++ instruments_from net j (drop j ms) (drop j xs)) (sym next)
