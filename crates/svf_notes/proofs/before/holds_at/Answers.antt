use Rattle.std.proofs.Common.{◌≡◌, ◌+◌, ◌∙◌, ap, sym, arith, cond, Bool, None, Some, suc}
use Rattle.std.specs.Prelude.{map}
use Rattle.instruments.specs.Seen.{seen_model}
use Rattle.tap_machine.specs.Play.{scans_in}
use Rattle.svf_notes.proofs.Earlier.{held_is, none_is_zero}
use Rattle.svf_notes.proofs.before.holds_at.Goals as goal

pub returns-then-scan-eq0-clause-holds : goal.returns-then-scan-eq0-clause-holds
returns-then-scan-eq0-clause-holds c =
    none_is_zero c.args.net.now c.args.device.now
    (map seen_model c.args.models.now.items) c.args.commands.now c.args.scan c.if-scan-eq0.true

pub returns-then-play_to-clause-holds : goal.returns-then-play_to-clause-holds
returns-then-play_to-clause-holds c =
    let last : c.from-end.result + 1 ≡ suc (scans_in c.args.commands.now) =
    omega (arith, c.from-end.ensures, c.scan_count.ensures) in
    let found = c.play_to.ensures.found
    ∙ ap (λ (b : Bool). cond b (Some c.play_to.new.bench.state.holds) None) c.if-play_to.true in
    ap Some (c.in_ok-copy.ensures ∙ c.holds.ensures.holds)
    ∙ sym (held_is c.args.net.now c.args.device.now c.args.models.now.items c.args.commands.now c.args.scan
    c.in_ok-bench.bench c.new-player.result.pins (c.from-end.result + 1)
    (Some c.play_to.new.bench.state.holds) c.if-scan-eq0.false c.in_ok-bench.ensures
    c.new-player.ensures.pins last found)

pub returns-clause-holds : goal.returns-clause-holds
returns-clause-holds c =
    let last : c.from-end.result + 1 ≡ suc (scans_in c.args.commands.now) =
    omega (arith, c.from-end.ensures, c.scan_count.ensures) in
    let found = c.play_to.ensures.found
    ∙ ap (λ (b : Bool). cond b (Some c.play_to.new.bench.state.holds) None) c.if-play_to.false in
    sym (held_is c.args.net.now c.args.device.now c.args.models.now.items c.args.commands.now c.args.scan
    c.in_ok-bench.bench c.new-player.result.pins
    (c.from-end.result + 1) None c.if-scan-eq0.false c.in_ok-bench.ensures c.new-player.ensures.pins
    last found)
