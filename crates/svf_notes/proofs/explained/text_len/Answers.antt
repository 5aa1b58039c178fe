use Rattle.std.proofs.Common.{◌≡◌, ◌+◌, ◌-◌, ◌^◌, ◌++◌, ◌∷◌, [], ℕ, Bool, List, length, ap, sym, ◌∙◌}
use Rattle.std.proofs.Common.{length-append}
use Rattle.std.specs.Prelude.{min}
use Rattle.svf_reader.specs.Commands.{is_scan}
use Rattle.svf_reader.specs.Texts.{plain, words}
use Rattle.svf_notes.specs.Explained.{explained, note_at, notes_left}
use Rattle.svf_notes.specs.Left.{left_notes}
use Rattle.svf_notes.proofs.Texts.{last_is, next_count, next_is}
use Rattle.svf_notes.proofs.explained.text_len.Goals as goal

pub loop-next-preserved : goal.loop-next-preserved
loop-next-preserved c =
    let most = 2 ^ 64 - 1 in
    let left = left_notes c.loop-next.playing in
    let command = c.in-Some.next.piece.now in
    let rest = c.in-Some.next.rest.now in
    let scans = is_scan (words (plain command)) in
    let note = note_at scans left rest in
    let here = command ++ 59 ∷ [] ++ note in
    let later = explained (left_notes c.note_len.new.playing) rest in
    let all = explained (left_notes c.args.playing.now) c.args.src.now in
    let before = c.loop-next.len in
    let same : explained (notes_left scans left) rest
    ≡ later = ap (λ (k : Bool). explained (notes_left k left) rest) (sym c.is_scan.ensures)
    ∙ ap (λ (l : List (List ℕ)). explained l rest) (sym c.in_ok-note.ensures.left) in
    let text : explained left c.loop-next.rest.now ≡ here ++ later = next_is left c.loop-next.rest.now command
    rest c.in-Some.ensures.value c.in-Some.ensures.whole ∙ ap (λ (l : List ℕ). here ++ l) same in
    let long : length (explained left c.loop-next.rest.now)
    ≡ length here + length later = ap length text ∙ length-append here later in
    let so_far : min (before + (length here + length later)) most ≡ min (length all) most =
    sym (ap (λ (n : ℕ). min (before + n) most) long) ∙ c.loop-next.invariant.len in
    let is : length here ≡ (length command + 1) + length note = length-append (command ++ 59 ∷ []) note
    ∙ ap (λ (n : ℕ). n + length note) (length-append command (59 ∷ [])) in
    let noted : c.in_ok-note.note ≡ min (length note) most = c.in_ok-note.ensures.len
    ∙ ap (λ (k : Bool). min (length (note_at k left rest)) most) c.is_scan.ensures in
    let counted : c.saturating_add-len.result
    ≡ min (min (before + (length command + 1)) most + min (length note) most) most =
    c.saturating_add-len.ensures
    ∙ ap (λ (n : ℕ). min (n + c.in_ok-note.note) most) c.saturating_add.ensures
    ∙ ap (λ (n : ℕ). min (min (before + (length command + 1)) most + n) most) noted in
    record {
      playing = c.note_len.ensures.playing;
      len = next_count (length all) (length here) (length later) before c.saturating_add-len.result
          (length command + 1) (length note) so_far is counted;
    }

pub returns : goal.returns
returns c =
    let left = left_notes c.loop-next.playing in
    let rest = c.loop-next.rest.now in
    c.saturating_add-2.ensures ∙ ap (λ (l : List ℕ). min (c.loop-next.len + length l) (2 ^ 64 - 1))
    (sym (last_is left rest c.in_default.ensures.value)) ∙ c.loop-next.invariant.len
