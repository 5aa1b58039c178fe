use Rattle.std.proofs.Common.{ℕ, ◌+◌, ap, sym, ◌∙◌, arith}
use Rattle.std.specs.Prelude.{reverse}
use Rattle.net_graph.specs.Chain.{position}
use Rattle.net_graph.specs.Resets.{zero_holds}
use Rattle.scan_packer.proofs.Putting.{after_start, place_within, turned, zero_held}
use Rattle.scan_packer.proofs.put.position_from_start.Goals as goal

pub overflow_add-result : goal.overflow_add-result
overflow_add-result c =
    let path = reverse c.args._path.now in
    let zeros = zero_holds c.args._net.now in
    let on = turned c.args.bit.reg c.args._path.now c.requires.on_path in
    let inside = place_within path zeros c.args.bit on
    (zero_held c.args._net.now c.args.bit c.requires.bit) in
    let start = c.requires.start
    ∙ ap (λ (r : ℕ). position path zeros (record { reg = r; pos = 0 })) c.requires.reg in
    omega (arith, inside, start, after_start path zeros c.args.bit on, c.requires.short)

pub returns : goal.returns
returns c =
    let path = reverse c.args._path.now in
    let zeros = zero_holds c.args._net.now in
    let start = c.requires.start
    ∙ ap (λ (r : ℕ). position path zeros (record { reg = r; pos = 0 })) c.requires.reg in
    ap (λ n. n + c.args.bit.pos) start
    ∙ sym (after_start path zeros c.args.bit (turned c.args.bit.reg c.args._path.now c.requires.on_path))
