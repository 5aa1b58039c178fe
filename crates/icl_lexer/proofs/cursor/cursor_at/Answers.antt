use Rattle.std.proofs.Common.{length, sym, ap, ◌∙◌, arith}
use Rattle.icl_lexer.specs.declared.token.PieceKind.TheVariants.{Gap, Is}
use Rattle.icl_lexer.specs.Seen.{tokens_in}
use Rattle.icl_lexer.proofs.Cursors.{cut_off, length_cut, piece_step}
use Rattle.icl_lexer.proofs.Fronts.{tokens_end}
use Rattle.icl_lexer.proofs.cursor.cursor_at.Goals as goal

pub invariant_of-result : goal.invariant_of-result
invariant_of-result c =
    let rest = c.loop-found.rest.now in
    let len = c.in-Some.found.len in
    let step = piece_step rest c.loop-found.at c.in-Some.found.kind
    (Is c.in-Is.kind) len c.in-Some.ensures.some c.in-Is.is in
    let long = length_cut rest len in (
      c.requires.counted ∙ ap length (sym (step ∙ c.loop-found.invariant.same)),
      (c.loop-found.invariant.places.0, omega (arith, long, c.loop-found.invariant.places.1)),
    )

pub returns-in-Is : goal.returns-in-Is
returns-in-Is c =
    piece_step c.loop-found.rest.now c.loop-found.at c.in-Some.found.kind
    (Is c.in-Is.kind) c.in-Some.found.len c.in-Some.ensures.some c.in-Is.is ∙ c.loop-found.invariant.same

pub loop-found-preserved : goal.loop-found-preserved
loop-found-preserved c =
    let rest = c.loop-found.rest.now in
    let len = c.in-Some.found.len in
    let step = piece_step rest c.loop-found.at c.in-Some.found.kind Gap len
    c.in-Some.ensures.some c.in_default-kind.is in
    let long = length_cut rest len in
    record {
      places = (
        c.place_after-at.ensures.column,
        omega (arith, long, c.place_after-at.ensures.sum, c.loop-found.invariant.places.1),
      );
      same = ap (tokens_in (cut_off rest len)) c.place_after-at.ensures.value
          ∙ step ∙ c.loop-found.invariant.same;
    }

pub invariant_of-result-2 : goal.invariant_of-result-2
invariant_of-result-2 c =
    let none = tokens_end c.loop-found.rest.now c.loop-found.at c.in_default.ensures.none in (
      c.requires.counted ∙ ap length (sym c.loop-found.invariant.same ∙ none),
      (c.loop-found.invariant.places.0, omega (arith, c.loop-found.invariant.places.1)),
    )

pub returns : goal.returns
returns c = sym (tokens_end c.loop-found.rest.now c.loop-found.at c.in_default.ensures.none)
    ∙ c.loop-found.invariant.same
