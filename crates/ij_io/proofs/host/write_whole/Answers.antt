use Rattle.std.proofs.Common.{◌≡◌, ◌+◌, ◌-◌, ℕ, Option, List, ◌++◌, take, drop, length, length-drop, arith}
use Rattle.std.proofs.Common.{sym, ap, ◌∙◌, subst}
use Rattle.std.proofs.Math.Seq.{take-add}
use Rattle.std.proofs.lemmas.List.{take_rest}
use Rattle.std.specs.Io.KnownBytes.{Appends}
use Rattle.std.proofs.KnownBytes.{Appends-trans, Appends-kept}
use Rattle.ij_io.proofs.host.write_whole.Goals as goal
use Rattle.ij_io.proofs.host.write_whole.Goals.{in-Ok, in-Err+else-ne}

-- what was given of a piece, and what was taken of the rest
given_more : (piece : List ℕ) (done n : ℕ) (a b c : Option (List ℕ)) → Appends a b (take done piece)
    → Appends b c (take n (take (length piece - done) (drop done piece)))
    → Appends a c (take (done + n) piece)
given_more piece done n a b c before more =
    let rest : take (length piece - done) (drop done piece) ≡ drop done piece = take_rest piece done in
    let front : take done piece ++ take n (take (length piece - done) (drop done piece)) ≡ take (done + n)
    piece = ap (λ (l : List ℕ). take done piece ++ take n l) rest ∙ sym (take-add done n piece) in
    subst (Appends a c) front (Appends-trans a b c _ _ before more)

pub loop-preserved : goal.loop-preserved
loop-preserved g c =
    let piece = c.args.piece.now in
    elim c.match-write.branch [
      | in-Ok w ↦
          let rest : take (length piece - c.loop.done) (drop c.loop.done piece)
          ≡ drop c.loop.done piece = take_rest piece c.loop.done in
          rw w.done-is record {
            within = omega (arith, w.in-Ok.ensures.bound, ap length rest, length-drop c.loop.done piece);
            so_far =
                given_more piece c.loop.done w.in-Ok.n _ _ _ c.loop.invariant.so_far w.in-Ok.ensures.bytes;
          }
      | in-Err+else-ne w ↦
          rw w.done-is record {
            within = c.loop.invariant.within;
            so_far = Appends-kept _ _ _ _ c.loop.invariant.so_far w.in-Err.ensures.bytes;
          }
    ]
