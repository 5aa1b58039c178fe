use Rattle.std.proofs.Common.{◌≡◌, ◌+◌, ◌-◌, ◌<◌, ◌≤◌, ◌∙◌, length, drop, get_or, refl, sym, ap, arith}
use Rattle.std.specs.Prelude.{reverse}
use Rattle.std.proofs.lemmas.List.{drop_all, length-reverse, length-set}
use Rattle.net_graph.specs.Chain.{position}
use Rattle.net_graph.specs.Resets.{zero_holds}
use Rattle.net_graph.specs.Signals.{bits_at}
use Rattle.scan_packer.specs.Started.{noted}
use Rattle.scan_packer.proofs.Filling.{bits_next, place_fits, reg_width}
use Rattle.scan_packer.proofs.Putting.{turned}
use Rattle.scan_packer.proofs.Starting.{next_noted, noted_at}
use Rattle.scan_packer.proofs.fill.note_starts.Goals as goal

pub set-requires : goal.set-requires
set-requires c =
    let path = c.args.path.now in
    let back : length path - 1 - c.loop-i.i < length path = omega (arith, c.loop-i-test.true) in
    omega (
      arith,
      c.requires.there (length path - 1 - c.loop-i.i) 0 back,
      c.loop-i.invariant.long,
      c.requires.long,
    )

pub overflow_add-start : goal.overflow_add-start
overflow_add-start c =
    let path = c.args.path.now in
    let reg = get_or path (length path - 1 - c.loop-i.i) 0 in
    let zeros = zero_holds c.args.net.now in
    let back : length path - 1 - c.loop-i.i < length path = omega (arith, c.loop-i-test.true) in
    let wide = reg_width c.args.net.now reg c.get.result.now
    (c.requires.there (length path - 1 - c.loop-i.i) 0 back) c.get.ensures in
    let here : c.get.result.now.width ≤ length (bits_at zeros reg) = omega (arith, wide) in
    let fits = place_fits path zeros c.loop-i.i reg c.loop-i.start _ _ c.loop-i-test.true refl
    c.loop-i.invariant.bits c.requires.short c.get.result.now.width here in
    omega (arith, fits)

pub loop-i-preserved : goal.loop-i-preserved
loop-i-preserved c =
    let path = c.args.path.now in
    let i = c.loop-i.i in
    let reg = get_or path (length path - 1 - i) 0 in
    let zeros = zero_holds c.args.net.now in
    let start = c.loop-i.start in
    let rest = drop (i + 1) (reverse path) in
    let back : length path - 1 - i < length path = omega (arith, c.loop-i-test.true) in
    let wide = reg_width c.args.net.now reg c.get.result.now
    (c.requires.there (length path - 1 - i) 0 back) c.get.ensures in
    record {
      starts = ap (λ n. noted zeros rest (start + n) c.set.new.self.items) wide
          ∙ ap (λ l. noted zeros rest (start + length (bits_at zeros reg)) l) c.set.ensures.items
          ∙ sym (next_noted path zeros i reg 0 start c.loop-i.starts.items c.loop-i-test.true refl)
          ∙ c.loop-i.invariant.starts;
      bits = bits_next path zeros i reg start _ _ c.loop-i-test.true refl
          c.loop-i.invariant.bits c.requires.short c.get.result.now.width wide;
      long = ap length c.set.ensures.items ∙ length-set c.loop-i.starts.items reg start
          ∙ c.loop-i.invariant.long;
    }

pub returns-clause-starts : goal.returns-clause-starts
returns-clause-starts c = λ reg default on within.
    let net = c.args.net.now in
    let path = c.args.path.now in
    let zeros = zero_holds net in
    let long = c.requires.long in
    let all = length-reverse path in
    let done = ap (λ p. noted zeros p c.loop-i.start c.loop-i.starts.items)
    (sym (drop_all c.loop-i.i (reverse path) (omega (arith, all, c.loop-i-test.false))))
    ∙ c.loop-i.invariant.starts in
    let place = position (reverse path) zeros (record { reg = reg; pos = 0 }) in
    let same : 0 + place ≡ place = omega arith in
    ap (λ l. get_or l reg default) done
    ∙ noted_at (length net.regs.items) zeros (reverse path) 0 c.args.starts.now.items reg default
    c.requires.route (omega (arith, long)) (turned reg path on)
    ∙ same
