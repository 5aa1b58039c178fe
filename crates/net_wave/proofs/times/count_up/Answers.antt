use Rattle.std.proofs.Common.{◌≡◌, ◌≢◌, ◌+◌, ◌-◌, ◌≤◌, ◌<◌, ℕ, length, get_or, min, take, drop, refl, ap, sym}
use Rattle.std.proofs.Common.{◌∙◌, arith}
use Rattle.std.proofs.lemmas.Grind.{get_or_default_zero}
use Rattle.net_wave.proofs.Counting.{counted_over, counted_up}
use Rattle.net_wave.proofs.times.count_up.Goals as goal

pub returns-then-index-ne57 : goal.returns-then-index-ne57
returns-then-index-ne57 c = λ n small is.
    let old = c.args.line.now.items in
    let line = c.loop-k.line.items in
    let h = c.loop-k.invariant in
    let i = c.len-len.result - 1 - c.loop-k.k in
    let at : i + 1 ≡ c.len-len.result - c.loop-k.k = omega (arith, c.loop-k-test.true) in
    let some : 1 ≤ i = omega (arith, c.loop-k-test.true) in
    let within : i < length old = omega (arith, c.loop-k-test.true, c.len-len.ensures) in
    let inside : i < length line = omega (arith, within, h.same) in
    let other : get_or line i 0 ≢ 57 = λ nine. c.if-index-ne57.true
    (c.index.ensures ∙ get_or_default_zero line i c.index.result.now inside ∙ nine) in
    let next : c.saturating_add.result ≡ min (get_or line i 0 + 1) 255 =
    c.saturating_add.ensures ∙ ap (λ (d : ℕ). min (d + 1) 255) (c.index-then-index-ne57.ensures
    ∙ get_or_default_zero line i c.index-then-index-ne57.result.now inside) in
    counted_up old line _ i c.loop-k.k n c.saturating_add.result some within h.same
    (ap (λ (m : ℕ). drop m old) at ∙ h.nines) (ap (λ (m : ℕ). drop m line) at ∙ h.zeros) (ap
    (λ (m : ℕ). take m line) at ∙ h.front ∙ ap (λ (m : ℕ). take m old) (sym at)) refl other next small is

pub returns : goal.returns
returns c = λ n small is.
    let old = c.args.line.now.items in
    let line = c.loop-k.line.items in
    let h = c.loop-k.invariant in
    let one : c.len-len.result - c.loop-k.k
    ≡ 1 = omega (arith, c.loop-k-test.false, c.loop-k.auto.k-end, c.len-len.ensures, c.requires) in
    counted_over old line _ c.loop-k.k n (ap (λ (m : ℕ). drop m old) (sym one) ∙ h.nines)
    (ap (λ (m : ℕ). drop m line) (sym one) ∙ h.zeros) (ap (λ (m : ℕ). take m line) (sym one) ∙ h.front
    ∙ ap (λ (m : ℕ). take m old) one) c.in_ok-insert.ensures.items small is
