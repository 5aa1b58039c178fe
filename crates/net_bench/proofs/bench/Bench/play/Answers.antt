use Rattle.std.proofs.Common.{◌≡◌, ◌+◌, ◌++◌, ◌∙◌, length, ap, subst, sym}
use Rattle.instruments.specs.declared.Counts.{Counts}
use Rattle.instruments.specs.Machine.{count_log}
use Rattle.instruments.specs.Runners.{machines_of}
use Rattle.net_bench.specs.Bench.{Chip, fault_free}
use Rattle.std.proofs.lemmas.List.{length-append}
use Rattle.tap_machine.specs.Pieces.{piece_pins}
use Rattle.tap_machine.proofs.Pieces.{length-piece_pins}
use Rattle.net_bench.specs.Board.{SeenBench, chip_of, state_of}
use Rattle.net_bench.specs.Pieces.{pin_compares, piece_compares}
use Rattle.net_bench.specs.Playing.{after_pins, compares}
use Rattle.net_bench.proofs.Pieces.{compares_found}
use Rattle.net_bench.proofs.Scans.{after_pins-append, compares-append}
use Rattle.net_bench.proofs.bench.Bench.play.Goals as goal

pub returns-clause-state : goal.returns-clause-state
returns-clause-state c =
    let chip = chip_of c.self.inside.board in
    let s = state_of c.self.inside.board in
    let ps = piece_pins c.in_ok-piece.piece in
    let rest = c.next_piece.new.self.pins in
    let now : SeenBench → Chip Counts = λ v. fault_free count_log v.net v.device (machines_of v.models) in
    subst (λ (v : SeenBench). after_pins (now v) c.args.player.now.pins v.state
    ≡ after_pins (now v) rest (state_of c.clocks-found.new.self)) c.self.view_is
    (ap (λ qs. after_pins chip qs s) c.in_ok-piece.ensures.given ∙ after_pins-append chip ps rest s
    ∙ ap (after_pins chip rest) (sym c.clocks-found.ensures.state))

pub returns-clause-compares : goal.returns-clause-compares
returns-clause-compares c =
    let chip = chip_of c.self.inside.board in
    let s = state_of c.self.inside.board in
    let ps = piece_pins c.in_ok-piece.piece in
    let rest = c.next_piece.new.self.pins in
    let now : SeenBench → Chip Counts = λ v. fault_free count_log v.net v.device (machines_of v.models) in
    let here = piece_compares (record { piece = c.in_ok-piece.piece; found = c.clocks-found.result }) in
    subst (λ (v : SeenBench). compares (now v) c.args.player.now.pins v.state
    ≡ here ++ compares (now v) rest (state_of c.clocks-found.new.self)) c.self.view_is
    (ap (λ qs. compares chip qs s) c.in_ok-piece.ensures.given ∙ compares-append chip ps rest s
    ∙ ap (λ cs. cs ++ compares chip rest (after_pins chip ps s))
    (compares_found chip ps s ∙ ap (pin_compares ps) (sym c.clocks-found.ensures.found))
    ∙ ap (λ u. here ++ compares chip rest u) (sym c.clocks-found.ensures.state))

pub returns-clause-clocks : goal.returns-clause-clocks
returns-clause-clocks c =
    let ps = piece_pins c.in_ok-piece.piece in
    let rest = c.next_piece.new.self.pins in
    ap length c.in_ok-piece.ensures.given ∙ length-append ps rest
    ∙ ap (λ n. n + length rest) (length-piece_pins c.in_ok-piece.piece)
