use Rattle.std.proofs.Common.{◌≡◌, false, true, arith, refl, ap, ◌∙◌}
use Rattle.std.specs.Prelude.{◌==◌}
use Rattle.std.proofs.lemmas.Bool.Decides.{nat_tests}
use Rattle.ij_bits.specs.BitLists.{bits_of}
use Rattle.net_bench.specs.Pieces.{tdos}
use Rattle.net_bench.specs.Playing.{after_pins}
use Rattle.tap_machine.specs.Pieces.{piece_pins}
use Rattle.bench_report.proofs.Counting.{same_step}
use Rattle.bench_report.specs.Report.{chip_of}
use Rattle.svf_notes.specs.Scans.{scans_of}
use Rattle.svf_notes.proofs.Scanning.{ends, goes_on, in_none, no_clock}
use Rattle.svf_notes.proofs.scan.next_scan.Goals as goal

pub returns-then-played-clause-scan : goal.returns-then-played-clause-scan
returns-then-played-clause-scan c =
    let chip = chip_of c.args.bench.now in
    let s = c.loop-played.bench.state in
    let t = c.play.new.self.state in
    let piece = c.in-Some.played.piece in
    let pins = piece_pins piece in
    let found = bits_of piece.count c.in-Some.played.found in
    let same : chip_of c.loop-played.bench ≡ chip = ap chip_of c.loop-played.invariant.same in
    let is : found ≡ tdos chip pins s = c.in-Some.ensures.found ∙ ap (λ d. tdos d pins s) same in
    let next : t ≡ after_pins chip pins s =
    ap (λ b. b.state) c.in-Some.ensures.bench ∙ ap (λ d. after_pins d pins s) same in
    let shifts : (piece.scan == 0) ≡ false = grind (arith, nat_tests) in
    ends chip piece c.play.new.player.pins c.loop-played.player.pins s t found c.loop-played.bits.items
    (scans_of chip c.args.player.now.pins c.args.bench.now.state)
    c.in-Some.ensures.given is next c.loop-played.invariant.left
    shifts c.add_bits.new.bits.items c.in_ok-add_bits.ensures c.if-played.true c.in-Some.ensures.some

pub loop-played-preserved-else-played : goal.loop-played-preserved-else-played
loop-played-preserved-else-played c =
    let chip = chip_of c.args.bench.now in
    let s = c.loop-played.bench.state in
    let t = c.play.new.self.state in
    let piece = c.in-Some.played.piece in
    let pins = piece_pins piece in
    let found = bits_of piece.count c.in-Some.played.found in
    let same : chip_of c.loop-played.bench ≡ chip = ap chip_of c.loop-played.invariant.same in
    let is : found ≡ tdos chip pins s = c.in-Some.ensures.found ∙ ap (λ d. tdos d pins s) same in
    let next : t ≡ after_pins chip pins s =
    ap (λ b. b.state) c.in-Some.ensures.bench ∙ ap (λ d. after_pins d pins s) same in
    let shifts : (piece.scan == 0) ≡ false = grind (arith, nat_tests) in
    record {
      same = same_step c.play.new.self c.loop-played.bench c.args.bench.now _
          c.in-Some.ensures.bench c.loop-played.invariant.same;
      left = goes_on chip piece c.play.new.player.pins c.loop-played.player.pins s t found
          c.loop-played.bits.items (scans_of chip c.args.player.now.pins c.args.bench.now.state)
          c.in-Some.ensures.given is next c.loop-played.invariant.left
          shifts c.add_bits.new.bits.items c.in_ok-add_bits.ensures c.if-played.false;
    }

pub returns-clause-scan : goal.returns-clause-scan
returns-clause-scan c =
    let chip = chip_of c.args.bench.now in (
      no_clock chip c.loop-played.player.pins c.loop-played.bench.state c.loop-played.bits.items
          (scans_of chip c.args.player.now.pins c.args.bench.now.state) (c.in_default.ensures.given
          ∙ c.in_default.ensures.end refl) c.loop-played.invariant.left,
      c.in_default.ensures.end refl,
    )

pub loop-played-preserved : goal.loop-played-preserved
loop-played-preserved c =
    let chip = chip_of c.args.bench.now in
    let s = c.loop-played.bench.state in
    let t = c.play.new.self.state in
    let piece = c.in-Some.played.piece in
    let pins = piece_pins piece in
    let found = bits_of piece.count c.in-Some.played.found in
    let same : chip_of c.loop-played.bench ≡ chip = ap chip_of c.loop-played.invariant.same in
    let is : found ≡ tdos chip pins s = c.in-Some.ensures.found ∙ ap (λ d. tdos d pins s) same in
    let next : t ≡ after_pins chip pins s =
    ap (λ b. b.state) c.in-Some.ensures.bench ∙ ap (λ d. after_pins d pins s) same in
    let none : (piece.scan == 0) ≡ true = grind (arith, nat_tests) in
    record {
      same = same_step c.play.new.self c.loop-played.bench c.args.bench.now _
          c.in-Some.ensures.bench c.loop-played.invariant.same;
      left = in_none chip piece c.play.new.player.pins c.loop-played.player.pins s t found
          c.loop-played.bits.items (scans_of chip c.args.player.now.pins c.args.bench.now.state)
          c.in-Some.ensures.given is next c.loop-played.invariant.left none;
    }
