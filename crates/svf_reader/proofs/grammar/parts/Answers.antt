use Rattle.std.proofs.Common.{◌≡◌, ◌-◌, ◌+◌, ℕ, suc, List, ◌∷◌, arith, ap, sym, ◌∙◌, Some}
use Rattle.svf_reader.specs.Commands.{Parts, parts, one_part, then_parts}
use Rattle.svf_reader.specs.Reading.{words_of}
use Rattle.svf_reader.specs.Seen.{seen_parts}
use Rattle.svf_reader.proofs.grammar.parts.Goals as goal

one_more : (n m : ℕ) (p q : Parts) (ws rest after : List (List ℕ)) (name : List ℕ) → n ≡ suc m
    → ws ≡ name ∷ rest → one_part p name rest ≡ Some (q, after) → parts m q after ≡ parts n p ws
one_more n m p q ws rest after name e f h =
    sym (ap (λ k. parts k p ws) e ∙ ap (parts (suc m) p) f
    ∙ ap (λ o. then_parts o (λ q rest. parts m q rest)) h)

pub loop-preserved : goal.loop-preserved
loop-preserved c =
    let left : 4 - c.loop.counter ≡ suc (4 - (c.loop.counter + 1)) = omega arith in
    one_more (4 - c.loop.counter) (4 - (c.loop.counter + 1)) (seen_parts c.loop.parts)
    (seen_parts c.one_part.new.parts) (words_of c.loop.text.now) (words_of c.in-Some.name.rest.now)
    (words_of c.in_ok-text.text.now) c.in-Some.name.piece.now left
    c.in-Some.ensures.value c.in_ok-text.ensures
    ∙ c.loop.invariant
