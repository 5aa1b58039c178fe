use Rattle.std.proofs.Common.{sym, ◌∙◌, arith}
use Rattle.std.proofs.lemmas.List.{length-map}
use Rattle.icl_frames.specs.SeenFrames.{seen_frame}
use Rattle.icl_references.specs.declared.tables.CellTable.{CellTable}
use Rattle.icl_references.specs.Names.{child_cell}
use Rattle.icl_references.specs.Tables.{frames_of}
use Rattle.icl_references.proofs.Children.{child_is, no_child}
use Rattle.icl_references.proofs.tables.Tables.child.Goals as goal

pub returns-in-Some-clause-there : goal.returns-in-Some-clause-there
returns-in-Some-clause-there c =
    let t = c.args.self.now in
    let all = c.requires.tables in
    let is = all.children c.args.here c.index-children.result.now
    (omega (arith, all.long, c.requires.there)) c.index-children.ensures c.args.name.now in
    let child = child_is (frames_of t) c.args.at c.args.here c.args.name.now c.in-Some.child
    (sym c.in-Some.is ∙ c.find.ensures ∙ is) in
    let l = length-map t.cells.items (λ (x : CellTable). seen_frame x.frame.now) in
    record { tables = all; there = let lt = child.there in omega (arith, lt, l) }

pub returns-in-Some-clause-gives : goal.returns-in-Some-clause-gives
returns-in-Some-clause-gives c =
    let all = c.requires.tables in
    let is = all.children c.args.here c.index-children.result.now
    (omega (arith, all.long, c.requires.there)) c.index-children.ensures c.args.name.now in
    (child_is (frames_of c.args.self.now) c.args.at c.args.here c.args.name.now c.in-Some.child
    (sym c.in-Some.is ∙ c.find.ensures ∙ is)).is

pub returns-in-None-clause-gives : goal.returns-in-None-clause-gives
returns-in-None-clause-gives c =
    let all = c.requires.tables in
    let is = all.children c.args.here c.index-children.result.now
    (omega (arith, all.long, c.requires.there)) c.index-children.ensures c.args.name.now in
    no_child c.args.at (child_cell (frames_of c.args.self.now) c.args.here c.args.name.now)
    (sym c.in-None.is ∙ c.find.ensures ∙ is)
