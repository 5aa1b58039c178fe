use Rattle.std.proofs.Common.{◌≡◌, ◌++◌, ◌∷◌, [], true, ℕ, List, Option, drop, map, refl, ap, sym, ◌∙◌, subst}
use Rattle.std.proofs.Common.{append_assoc, append-nil}
use Rattle.std.specs.Prelude.{MatchOption}
use Rattle.instruments.specs.declared.Counts.{Counts}
use Rattle.net_graph.specs.declared.device.Device.{Device}
use Rattle.net_graph.specs.declared.net.Net.{Net}
use Rattle.svf_notes.specs.Explained.{closing_line_feed, note_at}
use Rattle.svf_notes.specs.Left.{left_notes, left_scans}
use Rattle.svf_notes.specs.Notes.{note_of, note_text}
use Rattle.svf_notes.specs.Scans.{Scan}
use Rattle.svf_notes.proofs.Filing.{same_notes}
use Rattle.svf_notes.proofs.Scanning.{no_notes, one_note}
use Rattle.svf_notes.proofs.explained.add_next_note.Goals as goal

pub returns-in-None-clause-text : goal.returns-in-None-clause-text
returns-in-None-clause-text c =
    let p = c.args.playing.now in
    let q = c.next.new.self in
    let is = subst (λ (o : Option ℕ). MatchOption o ((left_scans p ≡ []) × (left_scans q ≡ [])) (λ n.
    left_scans p ≡ record { number = n; bits = q.bits.items; state = q.bench.state } ∷ left_scans q))
    c.in-None.is c.in_ok-next.ensures.scan in
    let none : left_notes p ≡ [] = same_notes p p refl refl
    ∙ (no_notes (λ (x : Scan Counts). note_text (note_of p.net.now p.device.now x))
    (left_scans p) (left_scans q) is.0 is.1).0 in
    sym (ap (λ (l : List (List ℕ)). c.args.piece.now ++ note_at true l c.args.rest.now) none
    ∙ append-nil c.args.piece.now)

pub returns-in-None-clause-left : goal.returns-in-None-clause-left
returns-in-None-clause-left c =
    let p = c.args.playing.now in
    let q = c.next.new.self in
    let is = subst (λ (o : Option ℕ). MatchOption o ((left_scans p ≡ []) × (left_scans q ≡ [])) (λ n.
    left_scans p ≡ record { number = n; bits = q.bits.items; state = q.bench.state } ∷ left_scans q))
    c.in-None.is c.in_ok-next.ensures.scan in
    same_notes p q c.in_ok-next.ensures.net c.in_ok-next.ensures.device
    ∙ (no_notes (λ (x : Scan Counts). note_text (note_of p.net.now p.device.now x))
    (left_scans p) (left_scans q) is.0 is.1).1
    ∙ ap (drop 1) (sym (same_notes p p refl refl))

-- a note and what closes it
noted : (l ns : List (List ℕ)) (text old mid new rest : List ℕ) → l ≡ text ∷ ns → mid ≡ old ++ text
    → new ≡ mid ++ closing_line_feed rest → new ≡ old ++ note_at true l rest
noted l ns text old mid new rest is first more =
    more ∙ ap (λ m. m ++ closing_line_feed rest) first ∙ append_assoc old text (closing_line_feed rest)
    ∙ ap (λ n. old ++ note_at true n rest) (sym is)

pub returns-in_ok-add-in-Some-clause-text : goal.returns-in_ok-add-in-Some-clause-text
returns-in_ok-add-in-Some-clause-text c =
    let p = c.args.playing.now in
    let q = c.next.new.self in
    let x : Scan Counts = record { number = c.in-Some.number; bits = q.bits.items; state = q.bench.state } in
    let f = λ (y : Scan Counts). note_text (note_of p.net.now p.device.now y) in
    let is : left_scans p ≡ x ∷ left_scans q =
    subst (λ (o : Option ℕ). MatchOption o ((left_scans p ≡ []) × (left_scans q ≡ [])) (λ n. left_scans p
    ≡ record { number = n; bits = q.bits.items; state = q.bench.state } ∷ left_scans q))
    c.in-Some.is c.in_ok-next.ensures.scan in
    let text : c.add_note.new.piece ≡ c.args.piece.now ++ f x =
    c.in_ok-add_note-in-Some.ensures.text ∙ ap
    (λ (n : Net). c.args.piece.now ++ note_text (note_of n q.device.now x)) c.in_ok-next.ensures.net ∙ ap
    (λ (d : Device). c.args.piece.now ++ note_text (note_of p.net.now d x)) c.in_ok-next.ensures.device in
    noted (left_notes p) (map f (left_scans q))
    (f x) c.args.piece.now c.add_note.new.piece c.add.new.piece c.args.rest.now
    (same_notes p p refl refl ∙ (one_note f (left_scans p) (left_scans q) x (f x) is refl).0) text
    (c.in_ok-add-in-Some.ensures ∙ ap (λ (l : List ℕ). c.add_note.new.piece ++ l) c.closing_line_feed.ensures)

pub returns-in_ok-add-in-Some-clause-left : goal.returns-in_ok-add-in-Some-clause-left
returns-in_ok-add-in-Some-clause-left c =
    let p = c.args.playing.now in
    let q = c.next.new.self in
    let x : Scan Counts = record { number = c.in-Some.number; bits = q.bits.items; state = q.bench.state } in
    let f = λ (y : Scan Counts). note_text (note_of p.net.now p.device.now y) in
    let is : left_scans p ≡ x ∷ left_scans q =
    subst (λ (o : Option ℕ). MatchOption o ((left_scans p ≡ []) × (left_scans q ≡ [])) (λ n. left_scans p
    ≡ record { number = n; bits = q.bits.items; state = q.bench.state } ∷ left_scans q))
    c.in-Some.is c.in_ok-next.ensures.scan in
    ap left_notes c.add_note.ensures.same
    ∙ same_notes p q c.in_ok-next.ensures.net c.in_ok-next.ensures.device
    ∙ (one_note f (left_scans p) (left_scans q) x (f x) is refl).1
    ∙ ap (drop 1) (sym (same_notes p p refl refl))
