-- What a reader finds in the text of a file.
use Rattle.std.proofs.Common.{◌≡◌, ℕ, ◌∙◌, ap, List, [], ◌++◌, drop, take}
use Rattle.bench_report.specs.Report.{chip}
use Rattle.net_bench.specs.Bench.{power_up}
use Rattle.net_bench.specs.Playing.{after_pins}
use Rattle.tap_machine.specs.declared.Stable.TheVariants.{Reset as InReset}
use Rattle.tap_machine.specs.Play.{pins}
use Rattle.net_wave.specs.Laws.{WavesAreRead}
use Rattle.net_wave.specs.Header.{header}
use Rattle.net_wave.specs.Moments.{moments_text}
use Rattle.net_wave.specs.Reader.{padded, read_value}
use Rattle.net_wave.specs.Vars.{items, vars}
use Rattle.net_wave.specs.Wave.{moments, moments_of, wave_text}
use Rattle.net_wave.proofs.Headed.{Passed, header_passed}
use Rattle.net_wave.proofs.Read.{halves_found, moments_found, tck_found}

skipped : (front text : List ℕ) → Passed front → (of : List ℕ) (width time : ℕ)
    → read_value (front ++ text) of width time ≡ read_value text of width time
skipped front text h of width time = ap (padded width) (h text time of [])

pub waves_found : WavesAreRead
unfolding wave_text moments_of
waves_found kind net device models top commands window names few small =
    let it = chip net device models in
    let seen = vars kind net models in
    let played = pins InReset 0 commands in
    let shown = take window.count (drop window.from played) in
    let start = after_pins it (take window.from played) (power_up it) in
    let front = header net device models top (items kind net models) in
    let text = moments_text (moments kind net device models commands window) in
    let over = skipped front text
    (header_passed net device models top (items kind net models) names.outermost names.others) in
    let tck = tck_found it models seen shown start window.from few small in
    record {
      starts = λ i j within h. over _ _ _
          ∙ moments_found it models seen shown start window.from i j within few h small;
      halves = λ i j within h. over _ _ _
          ∙ halves_found it models seen shown start window.from i j within few h small;
      tck_low = λ j h. over _ _ _ ∙ tck.0 j h;
      tck_high = λ j h. over _ _ _ ∙ tck.1 j h;
    }
