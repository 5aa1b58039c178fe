use Rattle.std.proofs.Common.{◌≡◌, ℕ, List, ◌∷◌, [], ◌++◌, ◌+◌, ◌-◌, suc, length, take, get_or, sym, ap, ◌∙◌}
use Rattle.std.proofs.Common.{arith, append-nil}
use Rattle.icl_lexer.specs.Pieces.{kind_of}
use Rattle.icl_lexer.specs.States.{kind_from}
use Rattle.icl_lexer.specs.Matches.{longest_match, longer}
use Rattle.icl_lexer.proofs.Matches.{take_more, no_longer}
use Rattle.icl_lexer.proofs.pieces.longest_match.Goals as goal

pub loop-n-preserved : goal.loop-n-preserved
loop-n-preserved c =
    let text = c.args.text.now in
    let n = c.loop-n.n in
    let next : suc n ≡ n + 1 = omega arith in
    let stands : (bs : List ℕ) → kind_from c.next-state.result bs ≡ kind_of (take (n + 1) text ++ bs) =
    λ bs. c.next-state.ensures bs ∙ c.loop-n.invariant.stands (get_or text n 0 ∷ bs)
    ∙ ap kind_of (take_more text n bs c.loop-n-test.true ∙ ap (λ k. take k text ++ bs) next) in
    let kind = c.kind.ensures ∙ stands [] ∙ ap kind_of (append-nil (take (n + 1) text)) in
    record {
      within = omega arith;
      stands = stands;
      found = c.longer-found.ensures
          ∙ ap (λ f. longer f c.kind.result (n + 1)) c.loop-n.invariant.found
          ∙ ap (λ k. longer (longest_match text n) k (n + 1)) kind
          ∙ ap (λ k. longer (longest_match text n) (kind_of (take k text)) k) (sym next)
          ∙ ap (longest_match text) next;
    }

pub returns-else-not-is_dead : goal.returns-else-not-is_dead
returns-else-not-is_dead c =
    let text = c.args.text.now in
    let n = c.loop-n.n in
    let all : n + (length text - n) ≡ length text = omega (arith, c.loop-n.invariant.within) in
    c.loop-n.invariant.found
    ∙ sym (no_longer text n (length text - n)
    (λ bs. sym (c.loop-n.invariant.stands bs) ∙ c.is_dead.ensures.only c.if-not-is_dead.false bs))
    ∙ ap (longest_match text) all
