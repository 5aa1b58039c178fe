-- Notes change no command.
use Rattle.std.proofs.Common.{◌≡◌, ℕ, suc, ◌+◌, Bool, true, false, not, cond, List, [], ◌∷◌, ◌++◌, length}
use Rattle.std.proofs.Common.{take, drop, map, refl, ap, sym, ◌∙◌, subst, arith, append_assoc, None, Result}
use Rattle.std.proofs.Common.{Ok, Err}
use Rattle.std.specs.Prelude.{◌==◌, codes}
use Rattle.std.specs.List.{AllByRecursion}
use Rattle.std.proofs.lemmas.Bool.Decides.{nat_tests}
use Rattle.svf_writer.specs.SeenCommands.{SeenCommand}
use Rattle.svf_reader.specs.Commands.{is_scan}
use Rattle.svf_reader.specs.Texts.{first, plain_from, plain, texts, words, blanks}
use Rattle.svf_reader.specs.Meaning.{Cause, Refusal, Step, at_first, listed, before, at_end, and_then}
use Rattle.svf_reader.specs.Meaning.{read_command, read_from, svf}
use Rattle.svf_reader.specs.Scripts.{IsOnLine}
use Rattle.svf_reader.proofs.Rereading.{blank_front}
use Rattle.svf_reader.proofs.Whole.{read_more}
use Rattle.instruments.specs.declared.Counts.{Counts}
use Rattle.net_graph.specs.declared.device.Device.{Device}
use Rattle.net_graph.specs.declared.net.Net.{Net}
use Rattle.svf_notes.specs.Scans.{Scan}
use Rattle.svf_notes.specs.Notes.{note_of, note_text, played_scans}
use Rattle.svf_notes.specs.Explained.{closing_line_feed, note_at, notes_left, with_notes, explained}
use Rattle.svf_notes.specs.Explained.{explained_text}
use Rattle.svf_notes.specs.Explained.{ExplainedIsSame, SameCommands}
use Rattle.svf_notes.proofs.Cutting.{cut}
use Rattle.svf_notes.proofs.OnLine.{notes_on}

-- ---- where a text is read from decides nothing but the place of a refusal

front_again : (l cs : List SeenCommand) (q r : Result (List SeenCommand) Refusal)
    → ((ds : List SeenCommand) → q ≡ Ok ds → r ≡ Ok ds) → before l q ≡ Ok cs → before l r ≡ Ok cs
front_again l cs (Ok ds) r same e = ap (before l) (same ds refl) ∙ e
front_again l cs (Err refusal) r same e = absurd (cc)

then_again : (r : Result Step Cause) (a b i j : ℕ) (ts us : List (List ℕ)) (cs : List SeenCommand)
    → ((s : Step) (ds : List SeenCommand) → read_from s.1 i ts ≡ Ok ds → read_from s.1 j us ≡ Ok ds)
    → and_then r a (λ k. read_from k i ts) ≡ Ok cs → and_then r b (λ k. read_from k j us) ≡ Ok cs
then_again (Ok step) a b i j ts us cs same e =
    front_again (listed step.0) cs (read_from step.1 i ts) (read_from step.1 j us) (same step) e
then_again (Err cause) a b i j ts us cs same e = absurd (cc)

end_again : (ws : List (List ℕ)) (s : Result Step Cause) (a b : ℕ) (cs : List SeenCommand)
    → at_end ws s a ≡ Ok cs → at_end ws s b ≡ Ok cs
end_again [] s a b cs e = e
end_again (w ∷ ws) (Ok step) a b cs e = e
end_again (w ∷ ws) (Err cause) a b cs e = absurd (cc)

-- after any command
anywhere : (ts : List (List ℕ)) (s : Step) (a b : ℕ) (cs : List SeenCommand)
    → read_from s.1 a ts ≡ Ok cs → read_from s.1 b ts ≡ Ok cs
anywhere [] s a b cs e = e
anywhere (t ∷ []) s a b cs e =
    end_again (words t) (read_command s.1 false t) (a + blanks t) (b + blanks t) cs e
anywhere (t ∷ (u ∷ us)) s a b cs e =
    then_again (read_command s.1 true t) (a + blanks t) (b + blanks t) (suc (a + length t))
    (suc (b + length t)) (u ∷ us) (u ∷ us) cs
    (λ k ds is. anywhere (u ∷ us) k (suc (a + length t)) (suc (b + length t)) ds is) e

-- ---- a note before a text

-- wherever it is, this plain text has these commands
abbrev Reads : Step → List ℕ → List SeenCommand → Type 0
Reads kept xs cs = (at : ℕ) → read_from kept.1 at (texts xs) ≡ Ok cs

blank_reads : (kept : Step) (xs : List ℕ) (cs : List SeenCommand) → Reads kept xs cs → Reads kept (32 ∷ xs) cs
blank_reads kept xs cs reads at = blank_front kept.1 at 32 xs refl refl ∙ reads (suc at)

feed_reads : (kept : Step) (xs : List ℕ) (cs : List SeenCommand) → Reads kept xs cs → Reads kept (10 ∷ xs) cs
feed_reads kept xs cs reads at = blank_front kept.1 at 10 xs refl refl ∙ reads (suc at)

-- the rest of a comment, and the line feed that ends it
line_reads : (kept : Step) (line rest : List ℕ) (cs : List SeenCommand) → IsOnLine line
    → Reads kept (plain (10 ∷ rest)) cs → Reads kept (plain_from true (line ++ 10 ∷ rest)) cs
line_reads kept [] rest cs on reads = reads
line_reads kept (b ∷ bs) rest cs on reads =
    let more = bs ++ 10 ∷ rest in
    subst (λ (k : Bool). Reads kept (cond (not k) 32 b ∷ plain_from (not k) more) cs) (sym on.0)
    (blank_reads kept (plain_from true more) cs (line_reads kept bs rest cs on.1 reads))

-- a note begins with a line feed, and what comes after it, too
pub after_lines : (lines : List (List ℕ)) (rest : List ℕ)
    → (tail : List ℕ) × (note_text lines ++ 10 ∷ rest ≡ 10 ∷ tail)
after_lines [] rest = (rest, refl)
after_lines (line ∷ lines) rest = (codes "!:" ++ (line ++ note_text lines) ++ 10 ∷ rest, refl)

lines_read : (kept : Step) (lines : List (List ℕ)) (rest : List ℕ) (cs : List SeenCommand)
    → AllByRecursion IsOnLine lines → Reads kept (plain (10 ∷ rest)) cs
    → Reads kept (plain (note_text lines ++ 10 ∷ rest)) cs
lines_read kept [] rest cs on reads = reads
lines_read kept (line ∷ lines) rest cs on reads =
    let later = lines_read kept lines rest cs on.1 reads in
    let tail = after_lines lines rest in
    let first_line : Reads kept (plain_from true ((58 ∷ line) ++ 10 ∷ tail.0)) cs =
    line_reads kept (58 ∷ line) tail.0 cs (refl, on.0)
    (subst (λ (xs : List ℕ). Reads kept (plain xs) cs) tail.1 later) in
    let whole : line ++ 10 ∷ tail.0 ≡ (line ++ note_text lines) ++ 10 ∷ rest = ap
    (λ (xs : List ℕ). line ++ xs) (sym tail.1) ∙ sym (append_assoc line (note_text lines) (10 ∷ rest)) in
    feed_reads kept (32 ∷ plain_from true (58 ∷ ((line ++ note_text lines) ++ 10 ∷ rest))) cs
    (blank_reads kept (plain_from true (58 ∷ ((line ++ note_text lines) ++ 10 ∷ rest))) cs
    (subst (λ (xs : List ℕ). Reads kept (plain_from true (58 ∷ xs)) cs) whole first_line))

-- the note is closed, by a line feed of its own or by that of the text
closed_reads : (kept : Step) (lines : List (List ℕ)) (rest text : List ℕ) (cs : List SeenCommand)
    → AllByRecursion IsOnLine lines → first text ≡ first rest → Reads kept (plain text) cs
    → Reads kept (plain ((note_text lines ++ closing_line_feed rest) ++ text)) cs
closed_reads kept lines rest text cs on same reads = cases (first rest == 10) refl text same reads
  where
    cases : (k : Bool) → (first rest == 10) ≡ k → (xs : List ℕ) → first xs ≡ first rest
        → Reads kept (plain xs) cs → Reads kept (plain ((note_text lines ++ cond k [] (10 ∷ [])) ++ xs)) cs
    cases false e xs is r =
        subst (λ (l : List ℕ). Reads kept (plain l) cs) (sym (append_assoc (note_text lines) (10 ∷ []) xs))
        (lines_read kept lines xs cs on (feed_reads kept (plain xs) cs r))
    cases true e [] is r = absurd (grind (arith, nat_tests))
    cases true e (x ∷ xs) is r =
        let feed : x ≡ 10 = grind (arith, nat_tests) in
        subst (λ (l : List ℕ). Reads kept (plain l) cs) (sym (append_assoc (note_text lines) [] (x ∷ xs)))
        (subst (λ (y : ℕ). Reads kept (plain (note_text lines ++ y ∷ xs)) cs) (sym feed)
        (lines_read kept lines xs cs on (subst (λ (y : ℕ). Reads kept (plain (y ∷ xs)) cs) feed r)))

note_reads : (kept : Step) (scans : Bool) (notes : List (List (List ℕ))) (rest text : List ℕ)
    (cs : List SeenCommand) → AllByRecursion (AllByRecursion IsOnLine) notes → first text ≡ first rest
    → Reads kept (plain text) cs → Reads kept (plain (note_at scans (map note_text notes) rest ++ text)) cs
note_reads kept false notes rest text cs on same reads = reads
note_reads kept true [] rest text cs on same reads = reads
note_reads kept true (n ∷ ns) rest text cs on same reads = closed_reads kept n rest text cs on.0 same reads

-- ---- a whole text

left_on_line : (scans : Bool) (notes : List (List (List ℕ))) → AllByRecursion (AllByRecursion IsOnLine) notes
    → (left : List (List (List ℕ))) × (notes_left scans (map note_text notes) ≡ map note_text left)
    × AllByRecursion (AllByRecursion IsOnLine) left
left_on_line false notes on = (notes, refl, on)
left_on_line true [] on = ([], refl, tt)
left_on_line true (n ∷ ns) on = (ns, refl, on.1)

-- a text with notes begins as it does without
pub same_first : (ts : List (List ℕ)) (notes : List (List ℕ)) (src : List ℕ) → texts (plain src) ≡ ts
    → first (with_notes ts notes src) ≡ first src
same_first [] notes src e = refl
same_first (t ∷ []) notes src e = refl
same_first (t ∷ (u ∷ us)) notes [] e = absurd (cc)
same_first (t ∷ (u ∷ us)) notes (b ∷ bs) e = refl

same_reads : (ts : List (List ℕ)) (kept : Step) (at : ℕ) (notes : List (List (List ℕ))) (src : List ℕ)
    (cs : List SeenCommand) → texts (plain src) ≡ ts → AllByRecursion (AllByRecursion IsOnLine) notes
    → read_from kept.1 at ts ≡ Ok cs → Reads kept (plain (with_notes ts (map note_text notes) src)) cs
same_reads [] kept at notes src cs e on reads to =
    ap (read_from kept.1 to) e ∙ anywhere [] kept at to cs reads
same_reads (t ∷ []) kept at notes src cs e on reads to =
    ap (read_from kept.1 to) e ∙ anywhere (t ∷ []) kept at to cs reads
same_reads (t ∷ (u ∷ us)) kept at notes src cs e on reads to =
    let n = suc (length t) in
    let rest = drop n src in
    let scans = is_scan (words t) in
    let is = cut false src t u us e in
    let left = left_on_line scans notes on in
    let text = with_notes (u ∷ us) (map note_text left.0) rest in
    let tail = note_at scans (map note_text notes) rest ++ text in
    let later : (k : Step) (ds : List SeenCommand) → read_from k.1 (suc (at + length t)) (u ∷ us) ≡ Ok ds
    → read_from k.1 (suc (to + length t)) (texts (plain tail)) ≡ Ok ds = λ k ds h.
    note_reads k scans notes rest text ds on (same_first (u ∷ us) (map note_text left.0) rest is.rest)
    (same_reads (u ∷ us) k (suc (at + length t)) left.0 rest ds is.rest left.2 h) (suc (to + length t)) in
    ap (λ (l : List (List ℕ)). read_from kept.1 to (texts (plain
    (take n src ++ (note_at scans (map note_text notes) rest ++ with_notes (u ∷ us) l rest))))) left.1
    ∙ ap (read_from kept.1 to) (is.any tail)
    ∙ read_more kept.1 to t (plain tail)
    ∙ then_again (read_command kept.1 true t) (at + blanks t) (to + blanks t) (suc (at + length t))
    (suc (to + length t)) (u ∷ us) (texts (plain tail)) cs later reads

pub same_commands : SameCommands
unfolding svf explained
same_commands notes src cs on e =
    let first : Step = (None, at_first) in
    same_reads (texts (plain src)) first 0 notes src cs refl on e 0

-- ---- the notes of a play

notes_are : (net : Net) (device : Device) (xs : List (Scan Counts))
    → map note_text (map (note_of net device) xs) ≡ map (λ x. note_text (note_of net device x)) xs
notes_are net device [] = refl
notes_are net device (x ∷ xs) =
    ap (λ (l : List (List ℕ)). note_text (note_of net device x) ∷ l) (notes_are net device xs)

pub explained_is_same : ExplainedIsSame
unfolding explained_text
explained_is_same net device models src commands is e =
    let xs = played_scans net device models commands in
    ap (λ (l : List (List ℕ)). svf (explained l src)) (sym (notes_are net device xs))
    ∙ same_commands (map (note_of net device) xs) src commands (notes_on net device xs is) e
