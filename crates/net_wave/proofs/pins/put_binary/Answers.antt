use Rattle.std.proofs.Common.{◌≡◌, ◌≤◌, ◌+◌, ◌-◌, ◌/◌, ◌%◌, ◌++◌, ◌∙◌, ℕ, List, drop, refl, ap, sym, arith}
use Rattle.std.proofs.Math.ListN.{length-set}
use Rattle.std.proofs.lemmas.Grind.{get_or-set_at}
use Rattle.std.proofs.lemmas.List.{drop-set-lt}
use Rattle.net_wave.specs.Changes.{binary}
use Rattle.net_wave.specs.Moments.{trimmed}
use Rattle.net_wave.specs.Values.{number_digits}
use Rattle.net_wave.proofs.Binary.{put_all, put_next, put_small, room_left}
use Rattle.net_wave.proofs.pins.put_binary.Goals as goal

pub loop-left-init : goal.loop-left-init
unfolding binary
loop-left-init c =
    let line = c.args.line.now in
    let d = 48 + c.args.number % 2 in
    record {
      low = omega arith;
      high = omega arith;
      size = length-set line 32 d ∙ c.told-line;
      small = c.ranges.number.fits;
      here = get_or-set_at line 32 32 d 0 refl (omega (arith, c.told-line));
      text = ap (λ (l : List ℕ). trimmed (number_digits 32 c.args.number) ++ l)
          (sym (drop-set-lt 33 line 32 d (omega arith)));
    }

pub loop-left-preserved : goal.loop-left-preserved
loop-left-preserved c =
    let line = c.loop-left.line in
    let left = c.loop-left.left in
    let i = c.loop-left.i in
    let h = c.loop-left.invariant in
    let more : 2 ≤ left = omega (arith, c.loop-left-test.true) in
    let place : i ≡ (i - 1) + 1 = omega (arith, h.low) in
    let room = room_left i left more h.small in
    let low : 1 ≤ i - 1 = omega (arith, room) in
    let size = h.size in
    let d = 48 + left / 2 % 2 in
    record {
      low = low;
      high = omega (arith, h.high);
      size = length-set line (i - 1) d ∙ size;
      small = put_small left (left / 2) i (i - 1) place h.small refl;
      here = get_or-set_at line (i - 1) (i - 1) d 0 refl (omega (arith, h.high, size));
      text = put_next (binary c.args.number ++ drop 33 c.args.line.now) line _ left i (i - 1) d
          (left / 2) place (omega (arith, h.high, size)) more h.small h.here refl refl refl h.text;
    }

pub returns-clause-text : goal.returns-clause-text
returns-clause-text c =
    let h = c.loop-left.invariant in
    put_all (binary c.args.number ++ drop 33 c.args.line.now) c.loop-left.line c.loop-left.left c.loop-left.i
    h.low (omega (arith, h.high, h.size)) (omega (arith, c.loop-left-test.false)) h.here h.text
