use Rattle.std.proofs.Common.{◌≡◌, ◌∷◌, ◌∙◌, [], ap, refl, subst}
use Rattle.std.specs.Prelude.{MatchOption}
use Rattle.ij_io.proofs.Adding.{at_refusal}
use Rattle.ij_io.proofs.Later.{one_later}
use Rattle.ij_io.proofs.Pieces.{front_stays}
use Rattle.ij_io.specs.Pieces.{with_piece}
use Rattle.std.proofs.lemmas.Result.{on_err_weaker}
use Rattle.mux_test.specs.Given.{SeenTest, seen_test_scan}
use Rattle.mux_test.proofs.Filed.{first_can, is_part, later_can, one_more}
use Rattle.mux_test.proofs.file.put_scans.Goals as goal

pub returns-in_err-scan-clause-part : goal.returns-in_err-scan-clause-part
returns-in_err-scan-clause-part g c =
    let files = g.S.Shelf.files c.loop-piece.shelf in
    at_refusal _
    (is_part c.args.net.now c.args.test.now.scans
    (with_piece (g.S.Shelf.files c.args.shelf.now) c.args.name.now c.args.piece) c.args.name.now
    c.loop-piece.test.scans files c.loop-piece.piece c.loop-piece.invariant.go files
    (front_stays files c.args.name.now c.loop-piece.piece c.loop-piece.invariant.there))

pub put_scan-requires-clause-can : goal.put_scan-requires-clause-can
put_scan-requires-clause-can g c =
    let given = subst (λ o. MatchOption o (c.loop-piece.test.scans ≡ []) (λ t. c.loop-piece.test.scans
    ≡ seen_test_scan t ∷ c.next.new.self.scans)) c.in-Some.is c.in_ok-scan.ensures.gives in
    first_can c.args.net.now c.loop-piece.test.scans
    (seen_test_scan c.in-Some.scan) c.next.new.self.scans given c.loop-piece.invariant.can

pub returns-in_err-put_scan-clause-part : goal.returns-in_err-put_scan-clause-part
returns-in_err-put_scan-clause-part g c =
    let files = g.S.Shelf.files c.loop-piece.shelf in
    at_refusal _
    (is_part c.args.net.now c.args.test.now.scans
    (with_piece (g.S.Shelf.files c.args.shelf.now) c.args.name.now c.args.piece) c.args.name.now
    c.loop-piece.test.scans files c.loop-piece.piece c.loop-piece.invariant.go files
    (front_stays files c.args.name.now c.loop-piece.piece c.loop-piece.invariant.there))

pub returns-in_err-piece-clause-part : goal.returns-in_err-piece-clause-part
returns-in_err-piece-clause-part g c =
    let files = g.S.Shelf.files c.loop-piece.shelf in
    let old = with_piece (g.S.Shelf.files c.args.shelf.now) c.args.name.now c.args.piece in
    let given = subst (λ o. MatchOption o (c.loop-piece.test.scans ≡ []) (λ t. c.loop-piece.test.scans
    ≡ seen_test_scan t ∷ c.next.new.self.scans)) c.in-Some.is c.in_ok-scan.ensures.gives in
    let go =
    one_more c.args.net.now c.args.test.now.scans old c.args.name.now c.loop-piece.test.scans files
    c.loop-piece.piece c.loop-piece.invariant.go
    (seen_test_scan c.in-Some.scan) c.next.new.self.scans c.put_scan.new.k c.put_scan.new.k files
    given c.in_ok-put_scan.ensures.whole refl in
    at_refusal _
    (is_part c.args.net.now c.args.test.now.scans old c.args.name.now c.next.new.self.scans files
    c.put_scan.new.k go (g.S.Shelf.files c.store_full_piece.new.shelf) c.in_err-piece.ensures.part)

pub loop-piece-preserved : goal.loop-piece-preserved
loop-piece-preserved g c =
    let given = subst (λ o. MatchOption o (c.loop-piece.test.scans ≡ []) (λ t. c.loop-piece.test.scans
    ≡ seen_test_scan t ∷ c.next.new.self.scans)) c.in-Some.is c.in_ok-scan.ensures.gives in
    record {
      go =
          one_more c.args.net.now c.args.test.now.scans (with_piece (g.S.Shelf.files c.args.shelf.now)
          c.args.name.now c.args.piece) c.args.name.now c.loop-piece.test.scans
          (g.S.Shelf.files c.loop-piece.shelf) c.loop-piece.piece c.loop-piece.invariant.go
          (seen_test_scan c.in-Some.scan) c.next.new.self.scans c.put_scan.new.k c.in_ok-piece.piece
          (g.S.Shelf.files c.store_full_piece.new.shelf) given
          c.in_ok-put_scan.ensures.whole c.in_ok-piece.ensures.whole;
      there = c.in_ok-piece.ensures.there;
      can = later_can c.args.net.now c.loop-piece.test.scans
          (seen_test_scan c.in-Some.scan) c.next.new.self.scans given c.loop-piece.invariant.can;
      others = λ other n. c.store_full_piece.ensures.others other n ∙ c.loop-piece.invariant.others other n;
      later = one_later c.args.name.now (g.S.Shelf.store_faults c.args.shelf.now)
          (g.S.Shelf.store_faults c.loop-piece.shelf) (g.S.Shelf.store_faults c.store_full_piece.new.shelf)
          _ _
          c.loop-piece.invariant.later c.store_full_piece.ensures.cause;
      loads = λ name. c.store_full_piece.ensures.loads name ∙ c.loop-piece.invariant.loads name;
      unseen = ap (λ (t : SeenTest). t.unseen) c.in_ok-scan.ensures.others ∙ c.loop-piece.invariant.unseen;
      scan_count = ap (λ (t : SeenTest). t.scan_count) c.in_ok-scan.ensures.others
          ∙ c.loop-piece.invariant.scan_count;
      row_count = ap (λ (t : SeenTest). t.row_count) c.in_ok-scan.ensures.others
          ∙ c.loop-piece.invariant.row_count;
    }

pub returns-clause-part : goal.returns-clause-part
returns-clause-part g c =
    let files = g.S.Shelf.files c.loop-piece.shelf in
    on_err_weaker c.put_last_piece.result
    (λ h. is_part c.args.net.now c.args.test.now.scans
    (with_piece (g.S.Shelf.files c.args.shelf.now) c.args.name.now c.args.piece) c.args.name.now
    c.loop-piece.test.scans files c.loop-piece.piece c.loop-piece.invariant.go
    (g.S.Shelf.files c.put_last_piece.new.shelf) (h c.loop-piece.invariant.there))
    c.put_last_piece.ensures.part
