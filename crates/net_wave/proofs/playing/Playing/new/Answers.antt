use Rattle.std.proofs.Common.{◌≡◌, ◌<◌, ◌≤◌, ◌*◌, ◌∷◌, ◌++◌, ℕ, List, false, decimal, arith, get_or, ap, sym}
use Rattle.std.proofs.Common.{◌∙◌, subst, length}
use Rattle.std.specs.List.{list_any}
use Rattle.net_wave.specs.declared.var.Var.{Var}
use Rattle.net_wave.specs.declared.var.Var.TheVariants.{Tms}
use Rattle.net_wave.specs.Changes.{is_shift, pin_vars}
use Rattle.net_wave.specs.Header.{is_pin}
use Rattle.net_bench.specs.Board.{SeenBench}
use Rattle.net_graph.specs.Held.{AreHolds}
use Rattle.net_graph.specs.Signals.{Holds}
use Rattle.net_graph.proofs.Widths.{zeros_held}
use Rattle.net_wave.specs.Left.{skipped_text, some_differs, text_from}
use Rattle.net_wave.specs.Moments.{counted, untold}
use Rattle.net_wave.proofs.Leaving.{start_differs, start_text, told_count}
use Rattle.net_wave.proofs.playing.Playing.new.Goals as goal

pub returns-clause-playing : goal.returns-clause-playing
returns-clause-playing c =
    record {
      well_formed = c.requires.well_formed;
      models = c.requires.models;
      net = ap (λ (b : SeenBench). b.net) c.in_ok-bench.ensures;
      same_models = ap (λ (b : SeenBench). b.models) c.in_ok-bench.ensures;
      shape = subst (λ (x : Holds). AreHolds c.args.net.now x)
          (sym c.in_ok-stages.ensures) (zeros_held c.args.net.now);
      stages = λ e. c.in_ok-stages.ensures
          ∙ sym (ap (λ (b : SeenBench). b.state.stages) c.in_ok-bench.ensures);
      vars = c.requires.there;
      told = told_count c.in_ok-told.told.items (length c.args.vars.items)
          (c.in_ok-told.ensures ∙ ap untold c.len.ensures);
      few = subst (λ (l : List Var). c.after_pins-pins.result ≤ length l)
          c.as_slice.ensures c.after_pins-pins.ensures.few;
      pins = subst (λ (l : List Var). (k : ℕ) → c.after_pins-pins.result ≤ k → k < length l
          → is_pin (get_or l k Tms) ≡ false) c.as_slice.ensures c.after_pins-pins.ensures.rest;
      shifts = λ e. sym (ap (list_any is_shift) c.as_slice-2.ensures) ∙ (sym c.has_shifts-shifts.ensures ∙ e);
      known = λ e. absurd (cc);
      digits = let time : c.saturating_mul.result
          ≡ counted (2 * c.args.window.from) = omega (arith, c.saturating_mul.ensures) in
          c.in_ok-digits.ensures ∙ ap (λ (t : ℕ). 35 ∷ decimal t) time;
    }

pub returns-clause-text : goal.returns-clause-text
unfolding skipped_text text_from
returns-clause-text c =
    start_text c.args.net.now c.args.device.now c.args.models.now.items
    (pin_vars ++ c.args.vars.items) c.args.window c.in_ok-bench.bench c.new-player.result.pins _ _
    c.in_ok-bench.ensures c.new-player.ensures.pins

pub returns-clause-differs : goal.returns-clause-differs
unfolding some_differs
returns-clause-differs c =
    start_differs c.args.net.now c.args.device.now c.args.models.now.items c.in_ok-bench.bench
    c.new-player.result.pins c.args.commands.now c.in_ok-bench.ensures c.new-player.ensures.pins
