use Rattle.std.proofs.Common.{◌≡◌, ◌+◌, ◌*◌, ◌∷◌, ℕ, true, false, decimal, ap, sym, ◌∙◌, subst, arith}
use Rattle.std.specs.Prelude.{◌||◌}
use Rattle.bench_report.specs.Report.{chip_of}
use Rattle.net_bench.specs.Bench.{clock, tdo}
use Rattle.net_bench.specs.Board.{SeenBench}
use Rattle.net_graph.specs.Held.{AreHolds}
use Rattle.net_wave.specs.declared.playing.Playing.{Playing}
use Rattle.net_wave.specs.Left.{IsPlaying, after_text, differs_with, left_text, some_differs}
use Rattle.net_wave.specs.Moments.{counted, next_clock}
use Rattle.net_wave.specs.Values.{differs}
use Rattle.net_wave.proofs.Leaving.{clock_left, clock_played, compared, next_time, rise_time, told_as_many}
use Rattle.net_wave.proofs.playing.Playing.add_clock.Goals as goal

pub tick-requires : goal.tick-requires
tick-requires c =
    let time : counted (2 * c.args.self.now.clock)
    ≡ c.saturating_mul-time.result = omega (arith, c.saturating_mul-time.ensures) in
    ap (λ (y : Playing). y.digits.items) c.in_ok-add_falling.ensures.same
    ∙ c.requires.digits ∙ ap (λ (t : ℕ). 35 ∷ decimal t) time

pub add_rising-requires : goal.add_rising-requires
add_rising-requires c =
    let time : c.saturating_mul-time.result
    ≡ counted (2 * c.args.self.now.clock) = omega (arith, c.saturating_mul-time.ensures) in
    record {
      digits = c.deref.ensures.value ∙ c.in_ok-tick.ensures
          ∙ ap (λ (t : ℕ). 35 ∷ decimal t)
          (rise_time c.args.self.now.clock c.saturating_mul-time.result time);
    }

pub tick-requires-2 : goal.tick-requires-2
tick-requires-2 c =
    let rise : counted (c.saturating_mul-time.result + 1)
    ≡ c.saturating_add-rise.result = omega (arith, c.saturating_add-rise.ensures) in
    c.in_ok-tick.ensures ∙ ap (λ (t : ℕ). 35 ∷ decimal t) rise

pub returns-clause-playing : goal.returns-clause-playing
returns-clause-playing c =
    let p = c.args.self.now in
    let q = c.add_falling.new.self in
    let x = c.args.pins in
    let same = c.in_ok-add_falling.ensures.same in
    let b = c.step-differs.new.bench in
    let stages = c.step-differs.new.stages in
    let k = c.saturating_add-self.result in
    let on = c.tick-2.new.line in
    let some = c.either-self.result in
    let e = c.step-differs.ensures.bench ∙ ap (λ (y : Playing). record y.bench
    { state = clock (chip_of y.bench) x.tms x.tdi y.bench.state }) same in
    let time : c.saturating_mul-time.result
    ≡ counted (2 * p.clock) = omega (arith, c.saturating_mul-time.ensures) in
    let rise : c.saturating_add-rise.result
    ≡ counted (c.saturating_mul-time.result + 1) = omega (arith, c.saturating_add-rise.ensures) in
    let next : k ≡ next_clock p.clock = omega (arith, c.saturating_add-self.ensures) in
    let digits = c.in_ok-tick-2.ensures ∙ ap (λ (t : ℕ). 35 ∷ decimal t)
    (next_time p.clock c.saturating_mul-time.result c.saturating_add-rise.result k time rise next) in
    subst (λ (y : Playing). IsPlaying (record y
    { bench = b; stages = stages; first = false; clock = k; digits = on; differs = some })) (sym same)
    (clock_played p x b stages q.told q.instruction q.scratch q.last k on some c.requires e
    c.in_ok-add_falling.ensures.last c.in_ok-add_falling.ensures.told
    (told_as_many p x q.last q.instruction.items q.told.items c.in_ok-add_falling.ensures.told)
    (subst (λ (y : Playing). AreHolds y.bench.net stages) same c.step-differs.ensures.shape)
    (subst (λ (y : Playing). y.shifts ≡ true
    → stages ≡ b.state.stages) same c.step-differs.ensures.stages) digits)

pub returns-clause-left : goal.returns-clause-left
returns-clause-left c =
    let p = c.args.self.now in
    let q = c.add_falling.new.self in
    let x = c.args.pins in
    let same = c.in_ok-add_falling.ensures.same in
    let b = c.step-differs.new.bench in
    let stages = c.step-differs.new.stages in
    let k = c.saturating_add-self.result in
    let on = c.tick-2.new.line in
    let some = c.either-self.result in
    let e = c.step-differs.ensures.bench ∙ ap (λ (y : Playing). record y.bench
    { state = clock (chip_of y.bench) x.tms x.tdi y.bench.state }) same in
    let next : k ≡ next_clock p.clock = omega (arith, c.saturating_add-self.ensures) in
    subst (λ (y : Playing). left_text (record y {
      bench = b;
      stages = stages;
      first = false;
      clock = k;
      digits = on;
      differs = some;
    }) ≡ after_text p x) (sym same)
    (clock_left p x b stages q.told q.instruction q.scratch q.last k on some
    e c.in_ok-add_falling.ensures.told next)

pub returns-clause-differs : goal.returns-clause-differs
unfolding some_differs differs_with
returns-clause-differs c =
    let p = c.args.self.now in
    let x = c.args.pins in
    let same = c.in_ok-add_falling.ensures.same in
    let b = c.step-differs.new.bench in
    let e = c.step-differs.ensures.bench ∙ ap (λ (y : Playing). record y.bench
    { state = clock (chip_of y.bench) x.tms x.tdi y.bench.state }) same in
    ap (λ (y : Playing). some_differs (record y { bench = b; differs = c.either-self.result })) same
    ∙ compared (chip_of b) (chip_of p.bench) x p.player.pins p.bench.state b.state p.differs
    c.step-differs.result c.either-self.result (ap chip_of e) (ap (λ (y : SeenBench). y.state) e)
    (c.step-differs.ensures.differs
    ∙ ap (λ (y : Playing). differs x.expect (tdo (chip_of y.bench) y.bench.state)) same)
    (c.either-self.ensures ∙ ap (λ (y : Playing). y.differs || c.step-differs.result) same)
