use Rattle.std.proofs.Common.{◌≡◌, ◌<◌, ◌+◌, ◌-◌, ◌++◌, ◌∙◌, ℕ, suc, Bool, Some, List, length, take, drop}
use Rattle.std.proofs.Common.{get_or, arith, refl, ap, sym, subst}
use Rattle.std.specs.Prelude.{codes}
use Rattle.ij_io.specs.Bytes.{Adds}
use Rattle.net_graph.specs.declared.net.Net.{Net}
use Rattle.net_graph.specs.Named.{width_of}
use Rattle.net_graph.specs.Signals.{bits_at}
use Rattle.net_graph.proofs.Widths.{as_many_held}
use Rattle.svf_notes.specs.Notes.{note_text, row, rows}
use Rattle.svf_notes.proofs.Rows.{route_at, rows_next, turn_is, width_is}
use Rattle.svf_notes.proofs.row.put_rows.Goals as goal

pub register-held-requires : goal.register-held-requires
register-held-requires c =
    let net = c.args.heads.now in
    let path = c.args.path.now in
    let there : get_or path (length path - 1 - c.loop-j.j) 0
    < length net.regs.items = route_at (length net.regs.items) path (length path - 1 - c.loop-j.j)
    (omega (arith, c.loop-j-test.true)) c.requires.route in
    omega (arith, there, as_many_held net c.args.holds.now c.requires.holds)

pub overflow_sub-at : goal.overflow_sub-at
overflow_sub-at c =
    let path = c.args.path.now in
    let holds = c.args.holds.now in
    let turn = turn_is holds path c.loop-j.j (length path - 1 - c.loop-j.j) c.loop-j.end
    (omega (arith, c.loop-j-test.true)) (omega arith) c.loop-j.invariant.end in
    omega (arith, turn, c.len.ensures, ap length c.register-held.ensures)

pub put_row-requires-clause-there : goal.put_row-requires-clause-there
put_row-requires-clause-there c =
    let path = c.args.path.now in
    let k = length path - 1 - c.loop-j.j in
    subst (λ (net : Net). get_or path k 0 < length net.regs.items) (sym c.loop-j.invariant.same) (route_at
    (length c.args.heads.now.regs.items) path k (omega (arith, c.loop-j-test.true)) c.requires.route)

pub put_row-requires-clause-wide : goal.put_row-requires-clause-wide
put_row-requires-clause-wide c =
    let net = c.args.heads.now in
    let path = c.args.path.now in
    let r = get_or path (length path - 1 - c.loop-j.j) 0 in
    ap (λ (n : Net). width_of n r) c.loop-j.invariant.same ∙ width_is net c.args.holds.now r c.requires.holds
    ∙ sym (ap length c.register-held.ensures)

pub put_row-requires-clause-within : goal.put_row-requires-clause-within
put_row-requires-clause-within c =
    let path = c.args.path.now in
    let holds = c.args.holds.now in
    let end = c.loop-j.end in
    let turn = turn_is holds path c.loop-j.j (length path - 1 - c.loop-j.j) end
    (omega (arith, c.loop-j-test.true)) (omega arith) c.loop-j.invariant.end in
    omega (arith, turn, c.len.ensures, ap length c.register-held.ensures, c.loop-j.invariant.within)

pub loop-j-preserved : goal.loop-j-preserved
loop-j-preserved c =
    let net = c.args.heads.now in
    let path = c.args.path.now in
    let holds = c.args.holds.now in
    let bits = c.args.bits.now.items in
    let end = c.loop-j.end in
    let at = end - c.len.result in
    let k = length path - 1 - c.loop-j.j in
    let i = length path - (c.loop-j.j + 1) in
    let r = get_or path k 0 in
    let w = length (bits_at holds r) in
    let old = Some c.args.note.now in
    let inside = c.loop-j-test.true in
    let turn = turn_is holds path c.loop-j.j k end
    (omega (arith, inside)) (omega arith) c.loop-j.invariant.end in
    let wide : c.len.result ≡ w = omega (arith, c.len.ensures, ap length c.register-held.ensures) in
    let ends : end ≡ at + w = omega (arith, turn, wide) in
    let more : length path - c.loop-j.j ≡ suc i = omega (arith, inside) in
    let place : k ≡ i = omega (arith, inside) in
    let before : Adds old (Some c.loop-j.note)
    (note_text (rows net holds end (drop (suc i) path) (drop end bits))) =
    subst (λ (n : ℕ). Adds old (Some c.loop-j.note)
    (note_text (rows net holds end (drop n path) (drop end bits)))) more c.loop-j.invariant.rows in
    let line : Adds (Some c.loop-j.note) (Some c.put_row.new.note)
    (codes "\n!:" ++ row net r at (bits_at holds r) (take w (drop at bits))) =
    subst (λ (held : List Bool). Adds (Some c.loop-j.note) (Some c.put_row.new.note)
    (codes "\n!:" ++ row net r at held (take (length held) (drop at bits)))) c.register-held.ensures
    (subst (λ (n : Net). Adds (Some c.loop-j.note) (Some c.put_row.new.note) (codes "\n!:" ++ row n r at
    c.register-held.result.now.items (take (length c.register-held.result.now.items) (drop at bits))))
    c.loop-j.invariant.same c.in_ok-put_row.ensures.row) in
    record {
      end = omega (arith, turn, wide);
      within = omega (arith, c.loop-j.invariant.within);
      same = c.in_ok-put_row.ensures.same ∙ c.loop-j.invariant.same;
      rows = rows_next net holds path bits i r end at (take w (drop at bits)) old (Some c.loop-j.note)
          (Some c.put_row.new.note) (omega (arith, inside))
          (ap (λ (n : ℕ). get_or path n 0) place) ends refl before line;
    }
