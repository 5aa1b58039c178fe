use Rattle.std.proofs.Common.{refl}
use Rattle.icl_frames.specs.SeenFrames.{seen_frame}
use Rattle.icl_references.proofs.Children.{child_more, top_more}
use Rattle.icl_references.proofs.tables.add_frame.Goals as goal

pub returns-in_ok-add_child-clause-added : goal.returns-in_ok-add_child-clause-added
returns-in_ok-add_child-clause-added c frames h n =
    child_more frames (seen_frame c.args.frame.now) c.args.children.now.items c.add_child.new.children.items h
    c.in-Some.parent c.args.number c.args.frame.now.name.now c.in-Some.is refl n
    c.in_ok-add_child.ensures.long c.in_ok-add_child.ensures.added

pub returns-in_default-clause-added : goal.returns-in_default-clause-added
returns-in_default-clause-added c frames h n = top_more frames
    (seen_frame c.args.frame.now) c.args.children.now.items c.args.children.now.items h c.in_default.is
