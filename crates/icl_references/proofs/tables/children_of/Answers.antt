use Rattle.std.proofs.Common.{List, map, take, sym, subst, ◌∙◌, arith}
use Rattle.std.proofs.lemmas.List.{length-map, length-take}
use Rattle.icl_frames.specs.FirstPass.{Frame}
use Rattle.icl_frames.specs.SeenFrames.{seen_frame}
use Rattle.icl_frames.proofs.Passing.{taken_more}
use Rattle.icl_references.specs.Tables.{AreAllChildren}
use Rattle.icl_references.proofs.tables.children_of.Goals as goal

pub loop-frame-preserved : goal.loop-frame-preserved
loop-frame-preserved c =
    let i = c.loop-frame.frame-index in
    let before = map seen_frame (take i c.args.frames.now) in
    let n = length-map (take i c.args.frames.now) seen_frame in
    let m = length-take i c.args.frames.now in
    let more = taken_more seen_frame c.args.frames.now i c.frame-item.result
    c.loop-frame-test.true c.frame-item.is in
    record {
      counted = omega (arith, c.loop-frame.invariant.counted);
      long = c.in_ok-add_frame.ensures.long ∙ c.loop-frame.invariant.long;
      so_far = subst (λ (l : List Frame). AreAllChildren l c.add_frame.new.children.items) (sym more)
          (c.in_ok-add_frame.ensures.added before c.loop-frame.invariant.so_far
          (omega (arith, n, m, c.loop-frame.invariant.counted, c.loop-frame-test.true)));
    }
