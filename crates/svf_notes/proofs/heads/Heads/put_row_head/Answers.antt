use Rattle.std.proofs.Common.{◌<◌, ◌≤◌, ◌-◌, ◌∙◌, ℕ, List, Some, length, length-drop, drop, ap, refl, arith}
use Rattle.std.proofs.lemmas.List.{take_all}
use Rattle.ij_io.proofs.Adding.{whole_as}
use Rattle.net_graph.specs.declared.net.Net.{Net}
use Rattle.svf_notes.specs.Heads.{row_head}
use Rattle.svf_notes.proofs.RowHeads.{after_bytes, kept_at, kept_is, kept_new, kept_set}
use Rattle.svf_notes.proofs.heads.Heads.put_row_head.Goals as goal

pub returns-then-is_of-clause-text : goal.returns-then-is_of-clause-text
returns-then-is_of-clause-text c =
    let net = c.self.inside.net.now in
    let reg = c.args.reg in
    let at = c.args.at in
    let head = c.index-head.result.now in
    let there : reg < length c.self.inside.heads.items = omega (
      arith,
      c.requires.there,
      c.self.invariant.count,
      ap (λ (n : Net). length n.regs.items) c.self.view_is,
    ) in
    let is = kept_is net reg at head (kept_at net c.self.inside.heads.items reg head there
    c.self.invariant.each c.index-head.ensures) (c.if-is_of.ensures refl).0 (c.if-is_of.ensures refl).1 in
    whole_as c.write.result (Some c.args.note.now) (Some c.write.new.self) (c.deref.ensures.value ∙ is
    ∙ ap (λ (n : Net). row_head n reg at) c.self.view_is) c.write.ensures.whole

pub invariant_of-self : goal.invariant_of-self
invariant_of-self c =
    let net = c.self.inside.net.now in
    let reg = c.args.reg in
    let at = c.args.at in
    let rest = drop (length c.bytes-from.result.now) c.bytes.result.now in
    let all : length rest ≤ length c.bytes.result.now - length c.bytes-from.result.now =
    omega (arith, length-drop (length c.bytes-from.result.now) c.bytes.result.now) in
    let text = take_all (length c.bytes.result.now - length c.bytes-from.result.now) rest all
    ∙ ap (λ (l : List ℕ). drop (length l) c.bytes.result.now) c.bytes-from.ensures
    ∙ ap (drop (length c.args.note.now)) c.bytes.ensures
    ∙ after_bytes c.args.note.now c.put_head.new.note (row_head net reg at) c.in_ok-put_head.ensures in
    kept_set net reg c.self.inside.heads.items c.keep.new.self c.self.invariant
    (kept_new net reg at c.keep.new.self _ text c.keep.ensures)

pub invariant_of-self-2 : goal.invariant_of-self-2
invariant_of-self-2 c =
    let net = c.self.inside.net.now in
    let reg = c.args.reg in
    let at = c.args.at in
    let rest = drop (length c.bytes-from.result.now) c.bytes.result.now in
    let all : length rest ≤ length c.bytes.result.now - length c.bytes-from.result.now =
    omega (arith, length-drop (length c.bytes-from.result.now) c.bytes.result.now) in
    let text = take_all (length c.bytes.result.now - length c.bytes-from.result.now) rest all
    ∙ ap (λ (l : List ℕ). drop (length l) c.bytes.result.now) c.bytes-from.ensures
    ∙ ap (drop (length c.args.note.now)) c.bytes.ensures
    ∙ after_bytes c.args.note.now c.put_head.new.note (row_head net reg at) c.in_ok-put_head.ensures in
    kept_set net reg c.self.inside.heads.items c.keep.new.self c.self.invariant
    (kept_new net reg at c.keep.new.self _ text c.keep.ensures)
