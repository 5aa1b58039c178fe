use Rattle.std.proofs.Common.{◌+◌, ap, sym, ◌∙◌, add-one, drop}
use Rattle.net_graph.specs.SeenSteps.{SeenGroup, seen_group}
use Rattle.svf_writer.specs.SeenCommands.{seen_scan}
use Rattle.svf_audit.specs.declared.answer.Cause.TheVariants.{Write, Read}
use Rattle.svf_audit.specs.Audit.{changed, does_reads, does_writes, need, note, scanned}
use Rattle.svf_audit.specs.Auditing.{ok, state_of}
use Rattle.svf_audit.specs.LastParts.{seen_last}
use Rattle.svf_audit.specs.Left.{work_left}
use Rattle.svf_audit.specs.Registers.{path_in}
use Rattle.svf_audit.specs.Work.{due}
use Rattle.svf_audit.proofs.Dues.{due_all}
use Rattle.svf_audit.proofs.Going.{group_goes, group_is, kept_looks, noted_as}
use Rattle.svf_audit.proofs.Pieces.{IsPiece, first_piece, left_held, left_pieces}
use Rattle.svf_audit.proofs.auditor.Auditor.do_group.Goals as goal

pub due_group-requires-clause-held : goal.due_group-requires-clause-held
due_group-requires-clause-held c =
    let a = c.args.self.now in
    left_held a.registers.net.now a.registers.holds a.left c.requires.sound.holds c.requires.steps

pub does-requires-clause-group : goal.does-requires-clause-group
does-requires-clause-group c =
    let a = c.args.self.now in
    let net = a.registers.net.now in
    first_piece net (due a.registers.holds (work_left a.left))
    (seen_group c.in-Some.group.now) (c.in-Some.ensures.group)
    (due_all (IsPiece net) a.registers.holds (work_left a.left) (left_pieces net a.left c.requires.steps))

pub returns-in-Err-clause-err : goal.returns-in-Err-clause-err
returns-in-Err-clause-err c =
    let a = c.args.self.now in
    let net = a.registers.net.now in
    let x = seen_scan c.args.scan.now in
    let g : SeenGroup = seen_group c.in-Some.group.now in
    let d = due a.registers.holds (work_left a.left) in
    let looks = kept_looks c.args.kept.now (seen_last a.dr) x c.requires.next in
    λ rs.
    let s = state_of a rs in
    let next = ok (scanned net a.device.now s x a.registers.after (note s g) (drop 1 d)) in
    group_goes net a.device.now s x a.registers.after g (drop 1 d) (group_is d g c.in-Some.ensures.group)
    ∙ ap (λ es. need (does_writes g (changed net (path_in a.registers) a.registers.holds a.registers.after)
    a.registers.after) Write (need (does_reads g (path_in a.registers) a.registers.holds es) Read next))
    (sym looks)
    ∙ c.in-Err.ensures.does next

pub returns-clause-ok : goal.returns-clause-ok
returns-clause-ok c =
    let a = c.args.self.now in
    let net = a.registers.net.now in
    let x = seen_scan c.args.scan.now in
    let g : SeenGroup = seen_group c.in-Some.group.now in
    let d = due a.registers.holds (work_left a.left) in
    let looks = kept_looks c.args.kept.now (seen_last a.dr) x c.requires.next in
    let left = c.finish_piece.ensures.work ∙ ap (drop 1) c.due_group.ensures.work in
    λ rs n.
    let s = state_of a rs in
    let next = ok (scanned net a.device.now s x a.registers.after (note s g) (drop 1 d)) in (
      note s g,
      noted_as s g a.readings.items c.note.new.readings.items
          (a.scans + 1) n (add-one a.scans) c.in_ok-note.ensures,
      group_goes net a.device.now s x a.registers.after g (drop 1 d) (group_is d g c.in-Some.ensures.group)
          ∙ ap (λ es. need (does_writes g
          (changed net (path_in a.registers) a.registers.holds a.registers.after) a.registers.after) Write
          (need (does_reads g (path_in a.registers) a.registers.holds es) Read next)) (sym looks)
          ∙ c.in_default-does.ensures.does next
          ∙ ap (λ ws. ok (scanned net a.device.now s x a.registers.after (note s g) ws)) (sym left),
    )
