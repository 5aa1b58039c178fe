-- A text is cut after its scans, and so is the same text with notes.
use Rattle.std.proofs.Common.{◌≡◌, ◌≤◌, ℕ, zero, suc, ◌+◌, Bool, true, false, cond, Option, Some, None}
use Rattle.std.proofs.Common.{Result, Ok, Err, List, [], ◌∷◌, ◌++◌, length, take, drop, refl, ap, sym, ◌∙◌}
use Rattle.std.proofs.Common.{subst, arith, append_assoc}
use Rattle.std.specs.Prelude.{◌==◌, ◌⊎◌}
use Rattle.std.proofs.Common.{inl, inr}
use Rattle.std.proofs.lemmas.Bool.Decides.{nat_tests}
use Rattle.std.proofs.lemmas.List.{take-append-drop}
use Rattle.svf_writer.specs.SeenCommands.{SIR, SDR, Reset, Idle, Run, SeenCommand}
use Rattle.svf_reader.specs.Commands.{is_scan}
use Rattle.svf_reader.specs.Texts.{blanks, first, plain, texts, words}
use Rattle.svf_reader.specs.Meaning.{Cause, Refusal, Step, and_then, at_end, at_first, before, listed}
use Rattle.svf_reader.specs.Meaning.{read_command, read_from, svf}
use Rattle.svf_reader.proofs.Whole.{read_more}
use Rattle.tap_machine.specs.Play.{scans_in}
use Rattle.svf_notes.specs.Explained.{closing_line_feed, note_at, notes_left, with_notes}
use Rattle.svf_notes.specs.Noted.{BitPart, noted, through_scan, unnoted}
use Rattle.svf_notes.proofs.Cutting.{cut}
use Rattle.svf_notes.proofs.Effects.{Effect, read_effect}
use Rattle.svf_notes.proofs.Same.{same_first}

-- what comes after a part: a note, a line feed that may close it, and one that follows in any case
pub record IsBehind (p : BitPart) (later note : List ℕ) : Type 0 where
  pub feed : List ℕ
  pub at_most_one : (feed ≡ []) ⊎ (feed ≡ 10 ∷ [])
  pub is : p.note ≡ note ++ feed
  pub tail : List ℕ
  pub follows : p.note ++ later ≡ note ++ 10 ∷ tail

abbrev pub AreBehind : List BitPart → List ℕ → List (List ℕ) → Type 0
AreBehind [] rest [] = Unit {0}
AreBehind [] rest (n ∷ ns) = ⊥
AreBehind (p ∷ ps) rest [] = ⊥
AreBehind (p ∷ ps) rest (n ∷ ns) = IsBehind p (noted ps rest) n × AreBehind ps rest ns

-- a text, read after some commands, and the text with notes
pub record IsParted (kept : Step) (src new : List ℕ) (notes : List (List ℕ))
    (commands : List SeenCommand) : Type 0 where
  pub parts : List BitPart
  pub rest : List ℕ
  pub old : src ≡ unnoted parts rest
  pub whole : new ≡ noted parts rest
  pub cuts : (k at : ℕ) → k ≤ length parts
      → read_from kept.1 at (texts (plain (unnoted (take k parts) []))) ≡ Ok (through_scan k commands)
  pub behind : AreBehind parts rest notes

-- ---- commands

through_more : (scans : Bool) (c : Option SeenCommand) (k : ℕ) (ds : List SeenCommand) → Effect scans c
    → through_scan (suc k) (listed c ++ ds) ≡ listed c ++ through_scan (cond scans k (suc k)) ds
through_more true None k ds h = absurd h
through_more true (Some (SIR s)) k ds h = refl
through_more true (Some (SDR s)) k ds h = refl
through_more true (Some Reset) k ds h = absurd h
through_more true (Some Idle) k ds h = absurd h
through_more true (Some (Run n)) k ds h = absurd h
through_more false None k ds h = refl
through_more false (Some (SIR s)) k ds h = absurd h
through_more false (Some (SDR s)) k ds h = absurd h
through_more false (Some Reset) k ds h = refl
through_more false (Some Idle) k ds h = refl
through_more false (Some (Run n)) k ds h = refl

count_more : (scans : Bool) (c : Option SeenCommand) (ds : List SeenCommand) → Effect scans c
    → scans_in (listed c ++ ds) ≡ cond scans (suc (scans_in ds)) (scans_in ds)
count_more true None ds h = absurd h
count_more true (Some (SIR s)) ds h = refl
count_more true (Some (SDR s)) ds h = refl
count_more true (Some Reset) ds h = absurd h
count_more true (Some Idle) ds h = absurd h
count_more true (Some (Run n)) ds h = absurd h
count_more false None ds h = refl
count_more false (Some (SIR s)) ds h = absurd h
count_more false (Some (SDR s)) ds h = absurd h
count_more false (Some Reset) ds h = refl
count_more false (Some Idle) ds h = refl
count_more false (Some (Run n)) ds h = refl

-- a command that is read, and the rest
record IsRead (r : Result Step Cause) (next : Step
    → Result (List SeenCommand) Refusal) (cs : List SeenCommand) : Type 0 where
  step : Step
  later : List SeenCommand
  here : r ≡ Ok step
  after : next step ≡ Ok later
  all : cs ≡ listed step.0 ++ later

is_read : (r : Result Step Cause) (start at : ℕ) (ts : List (List ℕ)) (cs : List SeenCommand)
    → and_then r start (λ next. read_from next at ts) ≡ Ok cs → IsRead r (λ s. read_from s.1 at ts) cs
is_read (Err cause) start at ts cs e = absurd (cc)
is_read (Ok step) start at ts cs e = cases (read_from step.1 at ts) refl e
  where
    cases : (q : Result (List SeenCommand) Refusal) → read_from step.1 at ts ≡ q
        → before (listed step.0) q ≡ Ok cs → IsRead (Ok step) (λ s. read_from s.1 at ts) cs
    cases (Err refusal) is h = absurd (cc)
    cases (Ok ds) is h =
        let same : cs ≡ listed step.0 ++ ds = cc in
        record { step = step; later = ds; here = refl; after = is; all = same }

none_at_end : (ws : List (List ℕ)) (r : Result Step Cause) (at : ℕ) (cs : List SeenCommand)
    → at_end ws r at ≡ Ok cs → cs ≡ []
none_at_end [] r at cs e = cc
none_at_end (w ∷ ws) (Ok step) at cs e = cc
none_at_end (w ∷ ws) (Err cause) at cs e = absurd (cc)

-- ---- the last text

no_notes : (notes : List (List ℕ)) (cs : List SeenCommand) → length notes ≡ scans_in cs → cs ≡ [] → notes ≡ []
no_notes [] cs e none = refl
no_notes (n ∷ ns) cs e none =
    let zero_is : suc (length ns) ≡ 0 = e ∙ ap scans_in none in
    absurd (omega (arith, zero_is))

unparted : (kept : Step) (src new : List ℕ) (notes : List (List ℕ)) (cs : List SeenCommand) → new ≡ src
    → notes ≡ [] → IsParted kept src new notes cs
unparted kept src new notes cs same none =
    record {
      parts = [];
      rest = src;
      old = refl;
      whole = same;
      cuts = λ k at h. cases k at h;
      behind = subst (AreBehind [] src) (sym none) tt;
    }
  where
    cases : (k at : ℕ) → k ≤ length {A = BitPart} []
        → read_from kept.1 at (texts (plain (unnoted (take k []) []))) ≡ Ok (through_scan k cs)
    cases zero at h = refl
    cases (suc k) at h = absurd (omega (arith, h))

-- ---- the note that closes a part

closed : (n rest later : List ℕ) (text : List ℕ) → first later ≡ first rest
    → IsBehind (record { text = text; note = n ++ closing_line_feed rest }) later n
closed n rest later text same = cases (first rest == 10) refl later same
  where
    cases : (k : Bool) → (first rest == 10) ≡ k → (xs : List ℕ) → first xs ≡ first rest
        → IsBehind (record { text = text; note = n ++ cond k [] (10 ∷ []) }) xs n
    cases false e xs is =
        record {
          feed = 10 ∷ [];
          at_most_one = inr refl;
          is = refl;
          tail = xs;
          follows = append_assoc n (10 ∷ []) xs;
        }
    cases true e [] is = absurd (grind (arith, nat_tests))
    cases true e (x ∷ xs) is =
        let feed : x ≡ 10 = grind (arith, nat_tests) in
        record {
          feed = [];
          at_most_one = inl refl;
          is = refl;
          tail = xs;
          follows = append_assoc n [] (x ∷ xs) ∙ ap (λ (y : ℕ). n ++ y ∷ xs) feed;
        }

-- ---- one command more

module _ (kept : Step) (src t u : List ℕ) (us : List (List ℕ)) (cs : List SeenCommand) (step : Step)
    (ds : List SeenCommand) (e : texts (plain src) ≡ t ∷ (u ∷ us))
    (here : read_command kept.1 true t ≡ Ok step) (all : cs ≡ listed step.0 ++ ds) where
  abbrev n : ℕ
  n = suc (length t)

  abbrev front : List ℕ
  front = take n src

  -- what is read of the front with some text behind it
  front_read : (xs : List ℕ) (at : ℕ) (through : List SeenCommand)
      → ((to : ℕ) → read_from step.1 to (texts (plain xs)) ≡ Ok through)
      → read_from kept.1 at (texts (plain (front ++ xs))) ≡ Ok (listed step.0 ++ through)
  front_read xs at through reads =
      ap (read_from kept.1 at) ((cut false src t u us e).any xs)
      ∙ read_more kept.1 at t (plain xs)
      ∙ ap (λ (r : Result Step Cause). and_then r (at + blanks t)
      (λ next. read_from next (suc (at + length t)) (texts (plain xs)))) here
      ∙ ap (before (listed step.0)) (reads (suc (at + length t)))

  -- a scan: a part of its own
  pub scan_parted : (m : List ℕ) (ms : List (List ℕ)) → Effect true step.0
      → IsParted step (drop n src) (with_notes (u ∷ us) ms (drop n src)) ms ds
      → first (with_notes (u ∷ us) ms (drop n src)) ≡ first (drop n src) → IsParted kept src
      (front ++ ((m ++ closing_line_feed (drop n src)) ++ with_notes (u ∷ us) ms (drop n src))) (m ∷ ms) cs
  scan_parted m ms effect later same =
      let rest = drop n src in
      let p : BitPart = record { text = front; note = m ++ closing_line_feed rest } in
      record {
        parts = p ∷ later.parts;
        rest = later.rest;
        old = sym (take-append-drop n src) ∙ ap (λ (l : List ℕ). front ++ l) later.old;
        whole = ap (λ (l : List ℕ). front ++ ((m ++ closing_line_feed rest) ++ l)) later.whole;
        cuts = λ k at h. cases k at h;
        behind = (
          closed m rest (noted later.parts later.rest) front (ap first (sym later.whole) ∙ same),
          later.behind,
        );
      }
    where
      cases : (k at : ℕ) → k ≤ suc (length later.parts) → read_from kept.1 at (texts (plain
          (unnoted (take k (record { text = front; note = m ++ closing_line_feed (drop n src) } ∷
          later.parts)) [])))
          ≡ Ok (through_scan k cs)
      cases zero at h = refl
      cases (suc k) at h =
          front_read (unnoted (take k later.parts) []) at (through_scan k ds)
          (λ to. later.cuts k to (omega (arith, h)))
          ∙ ap (λ (l : List SeenCommand). let ok : Result (List SeenCommand) Refusal = Ok l in
          ok) (sym (through_more true step.0 k ds effect) ∙ ap (through_scan (suc k)) (sym all))

  -- any other command: the front of the next part, or of the rest
  pub other_parted : (ms : List (List ℕ)) (new : List ℕ) → Effect false step.0
      → IsParted step (drop n src) new ms ds → IsParted kept src (front ++ new) ms cs
  other_parted ms new effect later =
      by_parts later.parts later.rest later.old later.whole later.cuts later.behind
    where
      by_parts : (parts : List BitPart) (rest : List ℕ) → drop n src ≡ unnoted parts rest
          → new ≡ noted parts rest → ((k at : ℕ) → k ≤ length parts
          → read_from step.1 at (texts (plain (unnoted (take k parts) []))) ≡ Ok (through_scan k ds))
          → AreBehind parts rest ms → IsParted kept src (front ++ new) ms cs
      by_parts [] rest old whole cuts behind =
          unparted kept src (front ++ new) ms cs
          (ap (λ (l : List ℕ). front ++ l) (whole ∙ sym old) ∙ take-append-drop n src) (none ms behind)
        where
          none : (ns : List (List ℕ)) → AreBehind [] rest ns → ns ≡ []
          none [] h = refl
          none (x ∷ xs) h = absurd h
      by_parts (p ∷ ps) rest old whole cuts behind =
          record {
            parts = record { text = front ++ p.text; note = p.note } ∷ ps;
            rest = rest;
            old = sym (take-append-drop n src) ∙ ap (λ (l : List ℕ). front ++ l) old
                ∙ sym (append_assoc front p.text (unnoted ps rest));
            whole = ap (λ (l : List ℕ). front ++ l) whole
                ∙ sym (append_assoc front p.text (p.note ++ noted ps rest));
            cuts = λ k at h. cases k at h;
            behind = same_behind ms behind;
          }
        where
          same_behind : (ns : List (List ℕ)) → AreBehind (p ∷ ps) rest ns
              → AreBehind (record { text = front ++ p.text; note = p.note } ∷ ps) rest ns
          same_behind [] h = absurd h
          same_behind (x ∷ xs) h = (
            record {
              feed = h.0.feed;
              at_most_one = h.0.at_most_one;
              is = h.0.is;
              tail = h.0.tail;
              follows = h.0.follows;
            },
            h.1,
          )

          cases : (k at : ℕ) → k ≤ suc (length ps) → read_from kept.1 at
              (texts (plain (unnoted (take k (record { text = front ++ p.text; note = p.note } ∷ ps)) [])))
              ≡ Ok (through_scan k cs)
          cases zero at h = refl
          cases (suc k) at h =
              ap (λ (l : List ℕ). read_from kept.1 at (texts (plain l)))
              (append_assoc front p.text (unnoted (take k ps) []))
              ∙ front_read (p.text ++ unnoted (take k ps) []) at (through_scan (suc k) ds)
              (λ to. cuts (suc k) to (omega (arith, h)))
              ∙ ap (λ (l : List SeenCommand). let ok : Result (List SeenCommand) Refusal = Ok l in
              ok) (sym (through_more false step.0 k ds effect) ∙ ap (through_scan (suc k)) (sym all))

-- ---- a whole text

command_parted : (kept : Step) (src t u : List ℕ) (us : List (List ℕ)) (cs : List SeenCommand) (step : Step)
    (ds : List SeenCommand) (notes : List (List ℕ)) (scans : Bool) → texts (plain src) ≡ t ∷ (u ∷ us)
    → read_command kept.1 true t ≡ Ok step → cs ≡ listed step.0 ++ ds
    → Effect scans step.0 → length notes ≡ scans_in cs
    → ((ms : List (List ℕ)) → length ms ≡ scans_in ds → IsParted step (drop (suc (length t)) src)
    (with_notes (u ∷ us) ms (drop (suc (length t)) src)) ms ds)
    → IsParted kept src (take (suc (length t)) src ++ (note_at scans notes (drop (suc (length t)) src)
    ++ with_notes (u ∷ us) (notes_left scans notes) (drop (suc (length t)) src))) notes cs
command_parted kept src t u us cs step ds notes false e here all effect many later =
    other_parted kept src t u us cs step ds e here all notes
    (with_notes (u ∷ us) notes (drop (suc (length t)) src)) effect
    (later notes (many ∙ ap scans_in all ∙ count_more false step.0 ds effect))
command_parted kept src t u us cs step ds [] true e here all effect many later =
    let some : 0 ≡ suc (scans_in ds) = many ∙ ap scans_in all ∙ count_more true step.0 ds effect in
    absurd (omega (arith, some))
command_parted kept src t u us cs step ds (m ∷ ms) true e here all effect many later =
    let some : suc (length ms) ≡ suc (scans_in ds) =
    many ∙ ap scans_in all ∙ count_more true step.0 ds effect in
    scan_parted kept src t u us cs step ds e here all m ms effect (later ms (omega (arith, some)))
    (same_first (u ∷ us) ms (drop (suc (length t)) src) (cut false src t u us e).rest)

parted : (ts : List (List ℕ)) (kept : Step) (at : ℕ) (notes : List (List ℕ)) (src : List ℕ)
    (cs : List SeenCommand) → texts (plain src) ≡ ts → length notes ≡ scans_in cs
    → read_from kept.1 at ts ≡ Ok cs → IsParted kept src (with_notes ts notes src) notes cs
parted [] kept at notes src cs e many reads =
    let none : cs ≡ [] = cc in
    unparted kept src src notes cs refl (no_notes notes cs many none)
parted (t ∷ []) kept at notes src cs e many reads =
    unparted kept src src notes cs refl (no_notes notes cs many
    (none_at_end (words t) (read_command kept.1 false t) (at + blanks t) cs reads))
parted (t ∷ (u ∷ us)) kept at notes src cs e many reads =
    let rest = drop (suc (length t)) src in
    let is = is_read (read_command kept.1 true t) (at + blanks t) (suc (at + length t)) (u ∷ us) cs reads in
    command_parted kept src t u us cs is.step is.later notes (is_scan (words t)) e is.here is.all
    (read_effect kept t is.step is.here) many
    (λ ms as_many. parted (u ∷ us) is.step (suc (at + length t)) ms rest is.later
    (cut false src t u us e).rest as_many is.after)

pub text_parted : (notes : List (List ℕ)) (src : List ℕ) (cs : List SeenCommand)
    → svf src ≡ Ok cs → length notes ≡ scans_in cs
    → IsParted (None, at_first) src (with_notes (texts (plain src)) notes src) notes cs
unfolding svf
text_parted notes src cs e many = parted (texts (plain src)) (None, at_first) 0 notes src cs refl many e
