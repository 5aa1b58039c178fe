-- After each scan of an explained text is its own note.
use Rattle.std.proofs.Common.{◌≡◌, ◌<◌, ◌≤◌, ◌^◌, ℕ, zero, suc, ◌+◌, Bool, true, false, Some, None, List, []}
use Rattle.std.proofs.Common.{◌∷◌, length, map, Ok, refl, ap, sym, ◌∙◌, subst, arith}
use Rattle.std.specs.Prelude.{slice_get}
use Rattle.std.specs.List.{AllByRecursion}
use Rattle.std.proofs.lemmas.List.{length-map}
use Rattle.bench_report.specs.Report.{chip}
use Rattle.instruments.specs.declared.Counts.{Counts}
use Rattle.instruments.specs.Seen.{SeenModel}
use Rattle.net_bench.specs.Bench.{power_up}
use Rattle.net_bench.proofs.PublicLaws.{is_shaped_first, stays_shaped}
use Rattle.net_bench.proofs.Wide.{captures_wide}
use Rattle.net_graph.specs.declared.device.Device.{Device}
use Rattle.net_graph.specs.declared.net.Net.{Net}
use Rattle.net_graph.specs.Held.{AreHolds}
use Rattle.net_graph.specs.Nets.{IsNet}
use Rattle.svf_reader.specs.Meaning.{svf}
use Rattle.svf_reader.specs.Scripts.{ReadCommandsAreWithinLimits, ReadCommandsFit}
use Rattle.svf_writer.specs.Clocks.{clocks_from}
use Rattle.svf_writer.specs.SeenCommands.{SIR, SDR, Reset, Idle, Run, SeenCommand}
use Rattle.tap_machine.specs.declared.Stable.TheVariants.{Reset as InReset}
use Rattle.tap_machine.specs.Play.{no_scan, pins, scans_in}
use Rattle.tap_machine.proofs.Clocks.{at_least}
use Rattle.svf_notes.specs.Explained.{explained, explained_text}
use Rattle.svf_notes.specs.Laws.{ReadScansAreNumbered, counted}
use Rattle.svf_notes.specs.Noted.{AreNotesOf, IsNoteOf, IsScanFrom, NotesFollowTheirScans, BitPart}
use Rattle.svf_notes.specs.Noted.{ScansBegin}
use Rattle.svf_notes.specs.Noted.{before_scan, noted, played_at, state_before}
use Rattle.svf_notes.specs.Notes.{note_of, note_text, played_scans}
use Rattle.svf_notes.specs.Reader.{read_note}
use Rattle.svf_notes.specs.Scans.{Scan, scans_of}
use Rattle.svf_notes.proofs.Begun.{AtScan, begun}
use Rattle.svf_notes.proofs.HaveBits.{no_length}
use Rattle.svf_notes.proofs.NotesRead.{note_read}
use Rattle.svf_notes.proofs.Parting.{AreBehind, text_parted}

-- ---- the scans of a play

begun_at : ReadCommandsFit → (net : Net) (device : Device) (models : List SeenModel) (src : List ℕ)
    (commands : List SeenCommand) (n : ℕ) → svf src ≡ Ok commands → n < scans_in commands
    → AtScan (played_scans net device models commands) n (0 + suc n) (played_at no_scan no_scan n commands)
    (state_before net device models commands n)
unfolding played_scans
begun_at fit net device models src commands n e there =
    let c = chip net device models in
    begun c commands None None no_scan no_scan InReset 0 n
    (power_up c) no_length no_length (fit src commands e) refl there

pub scans_begin : ReadCommandsFit → ScansBegin
scans_begin fit net device models src commands n e there =
    let b = begun_at fit net device models src commands n e there in
    let same : 0 + suc n ≡ suc n = omega arith in (
      b.scan,
      b.is,
      subst (λ (m : ℕ). IsScanFrom (state_before net device models commands n) m
          (played_at no_scan no_scan n commands) b.scan) same b.from,
    )

-- ---- what a note must have to be read

pub record IsGood (net : Net) (x : Scan Counts) : Type 0 where
  pub few : x.number < 10 ^ 10
  pub some : 1 ≤ length x.bits
  pub held : AreHolds net x.state.holds

each_of : {T : Type 0} (P : T → Type 0) (xs : List T)
    → ((k : ℕ) → k < length xs → (x : T) × (slice_get xs k ≡ Some x) × P x) → AllByRecursion P xs
each_of P [] f = tt
each_of {T} P (x ∷ xs) f =
    let one = f 0 (omega arith) in
    let same : one.0 ≡ x = some_is (sym one.1) in
    (subst P same one.2, each_of P xs (λ k h. f (suc k) (omega (arith, h))))
  where
    some_is : {a b : T} → Some a ≡ Some b → a ≡ b
    some_is e = cc

-- a scan takes clocks
scans_few : (cs : List SeenCommand) (b : Bool) (most : ℕ) → clocks_from b cs ≤ most → scans_in cs ≤ most
scans_few [] b most h = omega arith
scans_few (SIR s ∷ cs) b most h =
    omega (arith, h, scans_few cs false (clocks_from false cs) (omega arith), at_least b (s.len + 6))
scans_few (SDR s ∷ cs) b most h =
    omega (arith, h, scans_few cs false (clocks_from false cs) (omega arith), at_least b (s.len + 5))
scans_few (Reset ∷ cs) b most h = scans_few cs true most (omega (arith, h))
scans_few (Idle ∷ cs) b most h = scans_few cs false most (omega (arith, h))
scans_few (Run n ∷ cs) b most h = scans_few cs false most (omega (arith, h))

start_shaped : (net : Net) (device : Device) (models : List SeenModel) (commands : List SeenCommand) (n : ℕ)
    → IsNet net → AreHolds net (state_before net device models commands n).holds
start_shaped net device models commands n is =
    let c = chip net device models in
    (stays_shaped c (pins InReset 0 (before_scan n commands)) (power_up c)
    (captures_wide net net.regs.items is.regs) (is_shaped_first c)).holds

count_length : (n k : ℕ) → length (counted n k) ≡ k
count_length n zero = refl
count_length n (suc k) = ap suc (count_length (suc n) k)

as_many : ReadScansAreNumbered
    → (net : Net) (device : Device) (models : List SeenModel) (src : List ℕ) (commands : List SeenCommand)
    → svf src ≡ Ok commands → length (played_scans net device models commands) ≡ scans_in commands
unfolding played_scans
as_many numbered net device models src commands e =
    let c = chip net device models in
    let xs = scans_of c (pins InReset 0 commands) (power_up c) in
    sym (length-map xs (λ (x : Scan Counts). x.number))
    ∙ ap length (numbered c InReset src commands (power_up c) e) ∙ count_length 0 (scans_in commands)

all_good : ReadCommandsFit → ReadCommandsAreWithinLimits
    → (net : Net) (device : Device) (models : List SeenModel) (src : List ℕ) (commands : List SeenCommand)
    → IsNet net → svf src ≡ Ok commands → length (played_scans net device models commands) ≡ scans_in commands
    → AllByRecursion (IsGood net) (played_scans net device models commands)
all_good fit within net device models src commands is e many =
    each_of (IsGood net) (played_scans net device models commands) (λ k h. at k (omega (arith, h, many)))
  where
    at : (k : ℕ) → k < scans_in commands
        → (x : Scan Counts) × (slice_get (played_scans net device models commands) k ≡ Some x) × IsGood net x
    at k there =
        let b = begun_at fit net device models src commands k e there in
        let few = scans_few commands true 1000000000 (within src commands e) in (
          b.scan,
          b.is,
          record {
            few = omega (arith, b.from.numbered, few, there);
            some = b.some;
            held = subst (AreHolds net) (sym b.from.holds) (start_shaped net device models commands k is);
          },
        )

-- ---- a whole text

are_notes : (net : Net) (device : Device) (parts : List BitPart) (rest : List ℕ) (xs : List (Scan Counts))
    → IsNet net → AllByRecursion (IsGood net) xs
    → AreBehind parts rest (map (λ x. note_text (note_of net device x)) xs)
    → AreNotesOf net device parts rest xs
are_notes net device [] rest [] is good h = tt
are_notes net device [] rest (x ∷ xs) is good h = absurd h
are_notes net device (p ∷ ps) rest [] is good h = absurd h
are_notes net device (p ∷ ps) rest (x ∷ xs) is good h =
    let here : IsNoteOf net device p (noted ps rest) x = record {
      feed = h.0.feed;
      at_most_one = h.0.at_most_one;
      note = h.0.is;
      read = ap read_note h.0.follows ∙ note_read net device x h.0.tail is good.0.few good.0.some good.0.held;
    } in
    (here, are_notes net device ps rest xs is good.1 h.1)

pub notes_follow : ReadCommandsFit → ReadScansAreNumbered
    → ReadCommandsAreWithinLimits → NotesFollowTheirScans
unfolding explained explained_text svf
notes_follow fit numbered within net device models src commands is e =
    let xs = played_scans net device models commands in
    let many = as_many numbered net device models src commands e in
    let notes = map (λ x. note_text (note_of net device x)) xs in
    let p = text_parted notes src commands e
    (length-map xs (λ (x : Scan Counts). note_text (note_of net device x)) ∙ many) in
    record {
      parts = p.parts;
      rest = p.rest;
      old = p.old;
      whole = p.whole;
      cut = λ k h. p.cuts k 0 h;
      notes = are_notes net device p.parts p.rest xs is
          (all_good fit within net device models src commands is e many) p.behind;
    }
