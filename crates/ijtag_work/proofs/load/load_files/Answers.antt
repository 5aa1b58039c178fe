use Rattle.std.specs.Prelude.{Err, map, take}
use Rattle.std.proofs.Common.{◌≡◌, ◌+◌, ◌∙◌, sym, ap, subst, rules, arith, ℕ, List, ◌++◌, ◌∷◌, [], Option}
use Rattle.ij_io.specs.Files.{Files}
use Rattle.ijtag_work.specs.Follows.{LoadsAndFollows, AreShort, seen_texts}
use Rattle.ijtag_work.specs.Loads.{loaded}
use Rattle.ijtag_work.specs.Seen.{seen_load, seen_stop}
use Rattle.ijtag_work.proofs.Loading.{next_given, next_stop, next_none, texts_more, short_more}
use Rattle.ijtag_work.proofs.load.load_files.Goals as goal

pub returns-in_err-text-clause-follows : goal.returns-in_err-text-clause-follows
returns-in_err-text-clause-follows g c =
    let files : Option Files = g.S.Shelf.files c.args.shelf.now in
    let counts : List ℕ → ℕ = g.S.Shelf.load_faults c.args.shelf.now in
    let now : List ℕ → ℕ = g.S.Shelf.load_faults c.load_one.new.shelf in
    let kept = c.loop-load.invariant in
    let is : c.from_residual.result ≡ Err c.in_err-text.field-0.0 = search rules in
    subst (LoadsAndFollows files _ counts now (loaded files _) _) (sym is)
    (next_stop files (g.S.Shelf.files c.loop-load.shelf) c.args.loads.now c.loop-load.load-index _ counts
    (g.S.Shelf.load_faults c.loop-load.shelf) now
    (seen_stop c.in_err-text.field-0.0) c.loop-load-test.true
    kept.files kept.given kept.later c.in_err-text.ensures.follows)

pub returns-in_err-text-clause-others : goal.returns-in_err-text-clause-others
returns-in_err-text-clause-others g c = λ other none.
    c.load_one.ensures.others other
    (next_none c.args.loads.now c.loop-load.load-index other c.loop-load-test.true none)
    ∙ c.loop-load.invariant.others other none

pub returns-in_err-push-clause-others : goal.returns-in_err-push-clause-others
returns-in_err-push-clause-others g c = λ other none.
    c.load_one.ensures.others other
    (next_none c.args.loads.now c.loop-load.load-index other c.loop-load-test.true none)
    ∙ c.loop-load.invariant.others other none

pub loop-load-preserved : goal.loop-load-preserved
loop-load-preserved g c =
    let files : Option Files = g.S.Shelf.files c.args.shelf.now in
    let i : ℕ = c.loop-load.load-index in
    let kept = c.loop-load.invariant in
    let text = c.in_ok-text.text in
    let old = c.loop-load.texts.items in
    let more : c.push.new.self.items ≡ old ++ text ∷ [] = c.in_ok-push.ensures.items in
    let texts : seen_texts old ++ text.items ∷ []
    ≡ seen_texts c.push.new.self.items = sym (ap seen_texts more ∙ texts_more old text) in
    record {
      files = c.load_one.ensures.files ∙ kept.files;
      given = subst (λ (ts : List (List ℕ)).
          (loaded files (map seen_load (take (i + 1) c.args.loads.now))).gives ts) texts
          (next_given files (g.S.Shelf.files c.loop-load.shelf) c.args.loads.now i (seen_texts old) text.items
          c.loop-load-test.true kept.files kept.given c.in_ok-text.ensures.follows);
      count = omega (arith, c.in_ok-push.ensures.len, kept.count);
      short = subst AreShort texts
          (short_more (seen_texts old) text.items kept.short c.in_ok-text.ensures.fits);
      later = λ any. omega (arith, kept.later any, c.load_one.ensures.later any);
      others = λ other none. c.load_one.ensures.others other
          (next_none c.args.loads.now i other c.loop-load-test.true none) ∙ kept.others other none;
      stores = λ name. c.load_one.ensures.stores name ∙ kept.stores name;
    }
