use Rattle.std.proofs.Common.{◌≡◌, ◌∙◌, ◌∷◌, ◌++◌, [], List, map, take, sym, ap, Ok}
use Rattle.std.proofs.lemmas.List.{map-append}
use Rattle.std.proofs.lemmas.Result.{err_from_is_err_and}
use Rattle.icl_declarations.specs.Faults.{seen_fault}
use Rattle.icl_declarations.proofs.Each.{round_goes, round_fails}
use Rattle.icl_frames.proofs.Passing.{taken_more}
use Rattle.icl_elab.specs.FoundParts.{Found, part_found}
use Rattle.icl_elab.specs.SeenCells.{PartHead, head_of_member, head_of_placed, seen_placed}
use Rattle.icl_references.specs.Tables.{frames_of, here_in, seen_member}
use Rattle.icl_elab.proofs.pass.add_parts.Goals as goal

pub returns-in_err-found-clause-gives : goal.returns-in_err-found-clause-gives
returns-in_err-found-clause-gives c =
    let p = err_from_is_err_and c.from_residual.result c.from_residual.ensures.1 in
    let f = part_found (frames_of c.args.tables.now) (here_in c.args.tables.now c.args.here) in
    rw (p.1, p.2)
    (round_fails seen_member seen_placed f c.args.members.now c.loop-m.m-index c.m-item.result
    c.loop-m.parts.items (seen_fault c.in_err-found.field-0.0) _ c.loop-m-test.true c.m-item.is
    c.in_err-found.ensures c.loop-m.invariant.goes_on)

pub loop-m-preserved : goal.loop-m-preserved
loop-m-preserved c =
    let f = part_found (frames_of c.args.tables.now) (here_in c.args.tables.now c.args.here) in
    let part = c.in_ok-part.part in
    let m = c.m-item.result in
    let found : f (seen_member m) ≡ Ok (seen_placed part) =
    c.in_ok-found.ensures ∙ ap (λ (z : Found). Ok z) (sym c.in_ok-part.ensures.same) in
    let i = c.loop-m.m-index in
    record {
      heads = ap (map head_of_placed) c.in_ok-push.ensures.items
          ∙ map-append head_of_placed c.loop-m.parts.items (part ∷ [])
          ∙ ap (λ (l : List PartHead). l ++ head_of_placed part ∷ []) c.loop-m.invariant.heads
          ∙ ap (λ (h : PartHead). map head_of_member (map seen_member (take i c.args.members.now)) ++ h ∷ [])
          c.in_ok-part.ensures.head
          ∙ sym (ap (map head_of_member)
          (taken_more seen_member c.args.members.now i m c.loop-m-test.true c.m-item.is)
          ∙ map-append head_of_member (map seen_member (take i c.args.members.now)) (seen_member m ∷ []));
      goes_on = round_goes seen_member seen_placed f c.args.members.now i m c.loop-m.parts.items
          c.push.new.self.items part c.loop-m-test.true c.m-item.is found c.in_ok-push.ensures.items
          ∙ c.loop-m.invariant.goes_on;
    }
