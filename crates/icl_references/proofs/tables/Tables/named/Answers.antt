use Rattle.std.proofs.Common.{◌<◌, List, ℕ, length, Err, sym, ap, subst, ◌∙◌, arith}
use Rattle.icl_declarations.specs.Faults.{Answer, NoName}
use Rattle.icl_frames.specs.FirstPass.{Frame}
use Rattle.icl_references.specs.Names.{Member, members, named}
use Rattle.icl_references.proofs.NamedParts.{frame_is, named_below, named_is, named_ok, unnamed}
use Rattle.icl_references.proofs.tables.Tables.named.Goals as goal

pub index-requires : goal.index-requires
index-requires c =
    let table = c.index-cell.result.now in
    let is = c.requires.tables.cells c.args.here table c.requires.there c.index-cell.ensures in
    let lt = (named_is table is c.args.at c.args.name.now c.in-Some.part
    (sym c.find.ensures ∙ c.in-Some.is)).there in
    omega (arith, lt, table.members.ok.0)

pub returns-in-Some-clause-part : goal.returns-in-Some-clause-part
returns-in-Some-clause-part c =
    let table = c.index-cell.result.now in
    let is = c.requires.tables.cells c.args.here table c.requires.there c.index-cell.ensures in
    let m = c.index.result.now in
    subst (λ (f : Frame). m.part < length (members f))
    (sym (frame_is c.args.self.now c.args.here table c.requires c.index-cell.ensures))
    (named_below table is c.args.at c.args.name.now c.in-Some.part m
    (sym c.find.ensures ∙ c.in-Some.is) c.index.ensures)

pub returns-in-Some-clause-gives : goal.returns-in-Some-clause-gives
returns-in-Some-clause-gives c =
    let table = c.index-cell.result.now in
    let is = c.requires.tables.cells c.args.here table c.requires.there c.index-cell.ensures in
    ap (λ (f : Frame). named f c.args.at c.args.name.now)
    (frame_is c.args.self.now c.args.here table c.requires c.index-cell.ensures)
    ∙ named_ok table is c.args.at c.args.name.now c.in-Some.part c.index.result.now
    (sym c.find.ensures ∙ c.in-Some.is) c.index.ensures

pub returns-in_ok-name-in-None-clause-gives : goal.returns-in_ok-name-in-None-clause-gives
returns-in_ok-name-in-None-clause-gives c =
    let table = c.index-cell.result.now in
    let is = c.requires.tables.cells c.args.here table c.requires.there c.index-cell.ensures in
    ap (λ (f : Frame). named f c.args.at c.args.name.now)
    (frame_is c.args.self.now c.args.here table c.requires c.index-cell.ensures)
    ∙ unnamed table is c.args.at c.args.name.now (sym c.find.ensures ∙ c.in-None.is)
    ∙ ap (λ (l : List ℕ). failed l) (sym c.in_ok-name-in-None.ensures)
  where
    failed : List ℕ → Answer Member
    failed l = Err (NoName c.args.at l)
