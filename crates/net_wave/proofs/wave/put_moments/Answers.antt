use Rattle.std.proofs.Common.{[], ℕ, List, Option, sym, ◌∙◌, subst, append-nil}
use Rattle.std.proofs.lemmas.Result.{on_err_weaker, on_ok_weaker}
use Rattle.ij_io.specs.Bytes.{Adds}
use Rattle.ij_io.proofs.Adding.{at_refusal}
use Rattle.ij_io.proofs.Fronts.{front_all}
use Rattle.ij_io.proofs.Later.{one_later}
use Rattle.ij_io.proofs.Pieces.{front_stays}
use Rattle.ij_io.specs.Pieces.{with_piece}
use Rattle.net_wave.specs.Left.{left_text}
use Rattle.net_wave.proofs.PieceTexts.{gone, is_part, one_more}
use Rattle.net_wave.proofs.wave.put_moments.Goals as goal

pub returns-in_err-add_next-clause-part : goal.returns-in_err-add_next-clause-part
returns-in_err-add_next-clause-part g c =
    let files = g.S.Shelf.files c.loop-piece.shelf in
    let old = with_piece (g.S.Shelf.files c.args.shelf.now) c.args.name.now c.args.piece in
    at_refusal _
    (is_part files c.args.name.now old (left_text c.args.playing.now)
    (left_text c.loop-piece.playing) c.loop-piece.piece files c.loop-piece.invariant.front
    (front_stays files c.args.name.now c.loop-piece.piece c.loop-piece.invariant.there))

pub returns-in_err-piece-clause-part : goal.returns-in_err-piece-clause-part
returns-in_err-piece-clause-part g c =
    let files = g.S.Shelf.files c.loop-piece.shelf in
    let old = with_piece (g.S.Shelf.files c.args.shelf.now) c.args.name.now c.args.piece in
    let later = left_text c.add_next.new.self in
    let more = c.in_ok-add_next.ensures.text c.if-branch.true in
    let front = one_more files c.args.name.now old (left_text c.args.playing.now) more.0 later
    (left_text c.loop-piece.playing) c.loop-piece.piece c.add_next.new.piece
    c.loop-piece.invariant.front more.2 more.1 in
    at_refusal _
    (is_part files c.args.name.now old (left_text c.args.playing.now) later c.add_next.new.piece
    (g.S.Shelf.files c.store_full_piece.new.shelf) front c.in_err-piece.ensures.part)

pub loop-piece-preserved : goal.loop-piece-preserved
loop-piece-preserved g c =
    let files = g.S.Shelf.files c.loop-piece.shelf in
    let old = with_piece (g.S.Shelf.files c.args.shelf.now) c.args.name.now c.args.piece in
    let all = left_text c.args.playing.now in
    let later = left_text c.add_next.new.self in
    let more = c.in_ok-add_next.ensures.text c.if-branch.true in
    let front = one_more files c.args.name.now old all more.0 later (left_text c.loop-piece.playing)
    c.loop-piece.piece c.add_next.new.piece c.loop-piece.invariant.front more.2 more.1 in
    record {
      playing = c.in_ok-add_next.ensures.playing c.if-branch.true;
      differs = c.in_ok-add_next.ensures.differs ∙ c.loop-piece.invariant.differs;
      front = gone files c.args.name.now old all later c.add_next.new.piece c.in_ok-piece.piece
          (g.S.Shelf.files c.store_full_piece.new.shelf) front c.in_ok-piece.ensures.whole;
      there = c.in_ok-piece.ensures.there;
      others = λ other n. c.store_full_piece.ensures.others other n ∙ c.loop-piece.invariant.others other n;
      later = one_later c.args.name.now (g.S.Shelf.store_faults c.args.shelf.now)
          (g.S.Shelf.store_faults c.loop-piece.shelf) (g.S.Shelf.store_faults c.store_full_piece.new.shelf)
          _ _
          c.loop-piece.invariant.later c.store_full_piece.ensures.cause;
      loads = λ name. c.store_full_piece.ensures.loads name ∙ c.loop-piece.invariant.loads name;
    }

pub returns-clause-whole : goal.returns-clause-whole
returns-clause-whole g c =
    let files = g.S.Shelf.files c.loop-piece.shelf in
    let old = with_piece (g.S.Shelf.files c.args.shelf.now) c.args.name.now c.args.piece in
    let all = left_text c.args.playing.now in
    let here = left_text c.loop-piece.playing in
    let front = one_more files c.args.name.now old all here
    [] here c.loop-piece.piece c.add_next.new.piece c.loop-piece.invariant.front (sym (append-nil here))
    (c.in_ok-add_next.ensures.end c.if-branch.false) in
    on_ok_weaker c.put_last_piece.result (λ e. subst (λ (n : Option (List ℕ)). Adds old n all) (sym e)
    (front_all front)) c.put_last_piece.ensures.whole

pub returns-clause-part : goal.returns-clause-part
returns-clause-part g c =
    let files = g.S.Shelf.files c.loop-piece.shelf in
    let old = with_piece (g.S.Shelf.files c.args.shelf.now) c.args.name.now c.args.piece in
    let all = left_text c.args.playing.now in
    let here = left_text c.loop-piece.playing in
    let front = one_more files c.args.name.now old all here
    [] here c.loop-piece.piece c.add_next.new.piece c.loop-piece.invariant.front (sym (append-nil here))
    (c.in_ok-add_next.ensures.end c.if-branch.false) in
    on_err_weaker c.put_last_piece.result
    (λ h. is_part files c.args.name.now old all [] c.add_next.new.piece (g.S.Shelf.files
    c.put_last_piece.new.shelf) front (h c.loop-piece.invariant.there)) c.put_last_piece.ensures.part

pub returns-clause-differs : goal.returns-clause-differs
returns-clause-differs g c =
    on_ok_weaker c.put_last_piece.result (λ _. c.in_ok-add_next.ensures.differs
    ∙ c.loop-piece.invariant.differs) c.put_last_piece.ensures.there

pub returns-clause-step : goal.returns-clause-step
returns-clause-step g c =
    on_ok_weaker c.put_last_piece.result (λ _. c.in_ok-add_next.ensures.step) c.put_last_piece.ensures.there
