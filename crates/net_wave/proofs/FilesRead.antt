-- What a reader finds in the text of a file, and in it alone.
use Rattle.std.proofs.Common.{◌≡◌, ℕ, zero, suc, ◌+◌, ◌*◌, ◌^◌, ◌<◌, ◌≤◌, Bool, true, false, cond, List, []}
use Rattle.std.proofs.Common.{◌∷◌, length, take, drop, get_or, refl, ap, sym, ◌∙◌, arith}
use Rattle.std.specs.Prelude.{◌==◌, codes}
use Rattle.std.proofs.lemmas.Bool.Decides.{nat_tests}
use Rattle.bench_report.specs.Report.{chip}
use Rattle.instruments.specs.declared.Counts.{Counts}
use Rattle.instruments.specs.Seen.{SeenModel}
use Rattle.net_bench.specs.Bench.{State, power_up}
use Rattle.net_bench.specs.Playing.{after_pins}
use Rattle.net_bench.proofs.Wide.{captures_wide}
use Rattle.net_graph.specs.declared.device.Device.{Device}
use Rattle.net_graph.specs.declared.net.Net.{Net}
use Rattle.net_graph.proofs.Shapes.{capture_widths, widths}
use Rattle.tap_machine.specs.declared.Pins.{Pins}
use Rattle.tap_machine.specs.declared.Stable.TheVariants.{Reset as InReset}
use Rattle.tap_machine.specs.Play.{no_shift, pins}
use Rattle.net_wave.specs.declared.var.Var.{Var}
use Rattle.net_wave.specs.declared.var.Var.TheVariants.{Tms}
use Rattle.net_wave.specs.Codes.{code}
use Rattle.net_wave.specs.Files.{FilesAreRead, width_in}
use Rattle.net_wave.specs.Header.{shape}
use Rattle.net_wave.specs.Laws.{declared_from}
use Rattle.net_wave.specs.Reader.{Declared, read_declared, read_value}
use Rattle.net_wave.specs.Values.{values}
use Rattle.net_wave.specs.Vars.{vars}
use Rattle.net_wave.specs.Wave.{wave_text}
use Rattle.net_wave.proofs.Bounded.{all_narrow, vars_few}
use Rattle.net_wave.proofs.DeclaredRead.{declarations_found}
use Rattle.net_wave.proofs.Filed.{waves_found}
use Rattle.net_wave.proofs.Named.{names_without}
use Rattle.net_wave.proofs.Read.{same_code}
use Rattle.net_wave.proofs.Scoped.{scopes_are_paths}
use Rattle.net_wave.proofs.ScopesRead.{scopes_found}
use Rattle.net_wave.proofs.Wide.{Fits, begins, played_fits, value_long}

module _ (net : Net) (device : Device) (models : List SeenModel) where
  -- the width that is found under the code of a variable
  width_at : (vs : List Var) (n i : ℕ) → i < length vs → n + length vs ≤ 2 ^ 32
      → width_in (declared_from net device models n vs) (code (n + i))
      ≡ (shape net device models (get_or vs i Tms)).width
  width_at [] n i h small = absurd (omega (arith, h))
  width_at (v ∷ vs) n zero h small =
      let here : (n == n + 0) ≡ true = grind (arith, nat_tests) in
      ap (λ (b : Bool). cond b (shape net device models v).width
      (width_in (declared_from net device models (suc n) vs) (code (n + 0))))
      (same_code n (n + 0) (omega (arith, small)) (omega (arith, small)) ∙ here)
  width_at (v ∷ vs) n (suc i) h small =
      let other : (n == n + suc i) ≡ false = grind (arith, nat_tests) in
      let more : n + suc i ≡ suc n + i = omega arith in
      ap (λ (b : Bool). cond b (shape net device models v).width
      (width_in (declared_from net device models (suc n) vs) (code (n + suc i))))
      (same_code n (n + suc i) (omega (arith, small)) (omega (arith, small, h)) ∙ other)
      ∙ ap (λ (k : ℕ). width_in (declared_from net device models (suc n) vs) (code k)) more
      ∙ width_at vs (suc n) i (omega (arith, h)) (omega (arith, small))

  values_long : (vs : List Var) (i : ℕ) (p : Pins) (s : State Counts) → Fits (chip net device models) s
      → i < length vs → (shape net device models (get_or vs i Tms)).width
      ≡ length (get_or (values (chip net device models) models vs p s) i [])
  values_long [] i p s h l = absurd (omega (arith, l))
  values_long (v ∷ vs) zero p s h l = sym (value_long net device models v p s h)
  values_long (v ∷ vs) (suc i) p s h l = values_long vs i p s h (omega (arith, l))

  abbrev tck : Declared
  tck = record { code = code 0; width = 1; name = codes "TCK" }

  module _ (vs : List Var) (text : List ℕ) (few : length vs < 2 ^ 32)
      (declared : read_declared text ≡ tck ∷ declared_from net device models 1 vs) where
    found_wide : (i : ℕ) (p : Pins) (s : State Counts) → Fits (chip net device models) s → i < length vs
        → width_in (read_declared text) (code (i + 1))
        ≡ length (get_or (values (chip net device models) models vs p s) i [])
    found_wide i p s h l =
        let other : (0 == i + 1) ≡ false = grind (arith, nat_tests) in
        let more : i + 1 ≡ 1 + i = omega arith in
        ap (λ (ds : List Declared). width_in ds (code (i + 1))) declared
        ∙ ap (λ (b : Bool). cond b 1 (width_in (declared_from net device models 1 vs) (code (i + 1))))
        (same_code 0 (i + 1) (omega arith) (omega (arith, few, l)) ∙ other)
        ∙ ap (λ (k : ℕ). width_in (declared_from net device models 1 vs) (code k)) more
        ∙ width_at vs 1 i l (omega (arith, few))
        ∙ values_long vs i p s h l

    tck_wide : width_in (read_declared text) (code 0) ≡ 1
    tck_wide =
        ap (λ (ds : List Declared). width_in ds (code 0)) declared
        ∙ ap (λ (b : Bool). cond b 1 (width_in (declared_from net device models 1 vs) (code 0)))
        (same_code 0 0 (omega arith) (omega arith))

pub files_found : FilesAreRead
files_found kind net device models top commands window is are count short free small =
    let it = chip net device models in
    let seen = vars kind net models in
    let text = wave_text kind net device models top commands window in
    let played = pins InReset 0 commands in
    let shown = take window.count (drop window.from played) in
    let wide : capture_widths it.net ≡ widths it.net = captures_wide net net.regs.items is.regs in
    let start = after_pins it (take window.from played) (power_up it) in
    let fits = played_fits it wide (take window.from played) (power_up it) (begins it) in
    let feeds = names_without 10 refl (λ x h. h.0) kind net models top is free in
    let blanks = names_without 32 refl (λ x h. h.1) kind net models top is free in
    let few = vars_few net models is are kind in
    let declared = declarations_found kind net device models top commands window feeds blanks
    (all_narrow net device models is are short seen) in
    let told = waves_found kind net device models top commands window feeds few small in
    let wide_at = λ (i j : ℕ) (l : i < length seen). found_wide net device models seen text few declared i
    (get_or shown j (no_shift false)) (after_pins it (take j shown) start)
    (played_fits it wide (take j shown) start fits) l in
    let scopes = scopes_found kind net device models top commands window feeds blanks in
    record {
      declared = declared;
      scopes = scopes;
      paths = λ pre. scopes ∙ ap (λ l. (top ∷ []) ∷ l) (scopes_are_paths kind net models top is pre);
      values = record {
        widths = λ i j l h. wide_at i j l;
        starts = λ i j l h. ap (λ (w : ℕ). read_value text (code (i + 1)) w (2 * (window.from + j)))
            (wide_at i j l) ∙ told.starts i j l h;
        halves = λ i j l h. ap (λ (w : ℕ). read_value text (code (i + 1)) w (2 * (window.from + j) + 1))
            (wide_at i j l) ∙ told.halves i j l h;
        tck_low = λ j h. ap (λ (w : ℕ). read_value text (code 0) w (2 * (window.from + j)))
            (tck_wide net device models seen text few declared) ∙ told.tck_low j h;
        tck_high = λ j h. ap (λ (w : ℕ). read_value text (code 0) w (2 * (window.from + j) + 1))
            (tck_wide net device models seen text few declared) ∙ told.tck_high j h;
      };
    }
