use Rattle.std.proofs.Common.{◌≡◌, ◌++◌, ◌∷◌, [], ℕ, List, Option, ap, sym, ◌∙◌, subst, append-nil}
use Rattle.std.proofs.lemmas.Result.{on_err_weaker, on_ok_weaker}
use Rattle.ij_io.specs.Bytes.{Adds}
use Rattle.ij_io.proofs.Adding.{at_refusal}
use Rattle.ij_io.proofs.Fronts.{front_all}
use Rattle.ij_io.proofs.Later.{one_later}
use Rattle.ij_io.proofs.Pieces.{front_stays}
use Rattle.ij_io.specs.Pieces.{with_piece}
use Rattle.svf_reader.specs.Commands.{is_scan}
use Rattle.svf_reader.specs.Texts.{plain, words}
use Rattle.svf_notes.specs.Explained.{explained, note_at, notes_left}
use Rattle.svf_notes.specs.Left.{left_notes}
use Rattle.svf_notes.proofs.Texts.{gone, is_part, last_is, next_is, one_more}
use Rattle.svf_notes.proofs.explained.put_text.Goals as goal

pub returns-in_err-add_command-clause-part : goal.returns-in_err-add_command-clause-part
returns-in_err-add_command-clause-part g c =
    let files = g.S.Shelf.files c.loop-next.shelf in
    let old = with_piece (g.S.Shelf.files c.args.shelf.now) c.args.name.now c.args.piece in
    let all = explained (left_notes c.args.playing.now) c.args.src.now in
    at_refusal _
    (is_part files c.args.name.now old all (explained (left_notes c.loop-next.playing) c.loop-next.rest.now)
    c.loop-next.piece files c.loop-next.invariant.front
    (front_stays files c.args.name.now c.loop-next.piece c.loop-next.invariant.there))

pub returns-in_err-piece-clause-part : goal.returns-in_err-piece-clause-part
returns-in_err-piece-clause-part g c =
    let files = g.S.Shelf.files c.loop-next.shelf in
    let old = with_piece (g.S.Shelf.files c.args.shelf.now) c.args.name.now c.args.piece in
    let all = explained (left_notes c.args.playing.now) c.args.src.now in
    let left = left_notes c.loop-next.playing in
    let command = c.in-Some.next.piece.now in
    let rest = c.in-Some.next.rest.now in
    let scans = is_scan (words (plain command)) in
    let here = command ++ 59 ∷ [] ++ note_at scans left rest in
    let later = explained (notes_left scans left) rest in
    let text : explained left c.loop-next.rest.now ≡ here ++ later =
    next_is left c.loop-next.rest.now command rest c.in-Some.ensures.value c.in-Some.ensures.whole in
    let front = one_more files c.args.name.now old all here later
    (explained left c.loop-next.rest.now) c.loop-next.piece c.add_command.new.piece
    c.loop-next.invariant.front text c.in_ok-add_command.ensures.text in
    at_refusal _
    (is_part files c.args.name.now old all later c.add_command.new.piece
    (g.S.Shelf.files c.store_full_piece.new.shelf) front c.in_err-piece.ensures.part)

pub loop-next-preserved : goal.loop-next-preserved
loop-next-preserved g c =
    let files = g.S.Shelf.files c.loop-next.shelf in
    let old = with_piece (g.S.Shelf.files c.args.shelf.now) c.args.name.now c.args.piece in
    let all = explained (left_notes c.args.playing.now) c.args.src.now in
    let left = left_notes c.loop-next.playing in
    let command = c.in-Some.next.piece.now in
    let rest = c.in-Some.next.rest.now in
    let scans = is_scan (words (plain command)) in
    let here = command ++ 59 ∷ [] ++ note_at scans left rest in
    let later = explained (left_notes c.add_command.new.playing) rest in
    let same : explained (notes_left scans left) rest
    ≡ later = ap (λ (l : List (List ℕ)). explained l rest) (sym c.in_ok-add_command.ensures.left) in
    let text : explained left c.loop-next.rest.now ≡ here ++ later = next_is left c.loop-next.rest.now command
    rest c.in-Some.ensures.value c.in-Some.ensures.whole ∙ ap (λ (l : List ℕ). here ++ l) same in
    let front = one_more files c.args.name.now old all here later
    (explained left c.loop-next.rest.now) c.loop-next.piece c.add_command.new.piece
    c.loop-next.invariant.front text c.in_ok-add_command.ensures.text in
    record {
      playing = c.add_command.ensures.playing;
      front = gone files c.args.name.now old all later c.add_command.new.piece c.in_ok-piece.piece
          (g.S.Shelf.files c.store_full_piece.new.shelf) front c.in_ok-piece.ensures.whole;
      there = c.in_ok-piece.ensures.there;
      others = λ other n. c.store_full_piece.ensures.others other n ∙ c.loop-next.invariant.others other n;
      later = one_later c.args.name.now (g.S.Shelf.store_faults c.args.shelf.now)
          (g.S.Shelf.store_faults c.loop-next.shelf) (g.S.Shelf.store_faults c.store_full_piece.new.shelf) _ _
          c.loop-next.invariant.later c.store_full_piece.ensures.cause;
      loads = λ name. c.store_full_piece.ensures.loads name ∙ c.loop-next.invariant.loads name;
    }

pub returns-in_err-add-clause-part : goal.returns-in_err-add-clause-part
returns-in_err-add-clause-part g c =
    let files = g.S.Shelf.files c.loop-next.shelf in
    let old = with_piece (g.S.Shelf.files c.args.shelf.now) c.args.name.now c.args.piece in
    let all = explained (left_notes c.args.playing.now) c.args.src.now in
    at_refusal _
    (is_part files c.args.name.now old all (explained (left_notes c.loop-next.playing) c.loop-next.rest.now)
    c.loop-next.piece files c.loop-next.invariant.front
    (front_stays files c.args.name.now c.loop-next.piece c.loop-next.invariant.there))

pub returns-clause-whole : goal.returns-clause-whole
returns-clause-whole g c =
    let files = g.S.Shelf.files c.loop-next.shelf in
    let old = with_piece (g.S.Shelf.files c.args.shelf.now) c.args.name.now c.args.piece in
    let all = explained (left_notes c.args.playing.now) c.args.src.now in
    let left = left_notes c.loop-next.playing in
    let rest = c.loop-next.rest.now in
    let text : explained left rest ≡ rest ++ [] =
    last_is left rest c.in_default.ensures.value ∙ sym (append-nil rest) in
    let front = one_more files c.args.name.now old all rest [] (explained left rest) c.loop-next.piece
    c.add.new.piece c.loop-next.invariant.front text c.in_ok-add.ensures in
    on_ok_weaker c.put_last_piece.result (λ e. subst (λ (n : Option (List ℕ)). Adds old n all) (sym e)
    (front_all front)) c.put_last_piece.ensures.whole

pub returns-clause-part : goal.returns-clause-part
returns-clause-part g c =
    let files = g.S.Shelf.files c.loop-next.shelf in
    let old = with_piece (g.S.Shelf.files c.args.shelf.now) c.args.name.now c.args.piece in
    let all = explained (left_notes c.args.playing.now) c.args.src.now in
    let left = left_notes c.loop-next.playing in
    let rest = c.loop-next.rest.now in
    let text : explained left rest ≡ rest ++ [] =
    last_is left rest c.in_default.ensures.value ∙ sym (append-nil rest) in
    let front = one_more files c.args.name.now old all rest [] (explained left rest) c.loop-next.piece
    c.add.new.piece c.loop-next.invariant.front text c.in_ok-add.ensures in
    on_err_weaker c.put_last_piece.result
    (λ h. is_part files c.args.name.now old all [] c.add.new.piece (g.S.Shelf.files
    c.put_last_piece.new.shelf) front (h c.loop-next.invariant.there)) c.put_last_piece.ensures.part
