use Rattle.std.proofs.Common.{◌≡◌, ◌<◌, ◌≤◌, ◌++◌, ℕ, drop, false, true, get_or, length, map, take, [], ap}
use Rattle.std.proofs.Common.{sym, ◌∙◌, arith, add-one}
use Rattle.std.proofs.lemmas.List.{get_or-map, length-map}
use Rattle.bench_report.specs.Report.{chip_of}
use Rattle.ij_bits.specs.Room.{Listed}
use Rattle.instruments.specs.Seen.{seen_model}
use Rattle.net_wave.specs.declared.var.Var.{Var}
use Rattle.net_wave.specs.declared.var.Var.TheVariants.{Tms}
use Rattle.net_wave.specs.declared.shown.Shown.{Shown}
use Rattle.net_wave.specs.Changes.{may_change, shown_at}
use Rattle.net_wave.specs.Left.{told_of}
use Rattle.net_wave.specs.Values.{value}
use Rattle.net_wave.proofs.Changing.{all_text, all_told, text_next, told_before, told_next}
use Rattle.net_wave.proofs.Staying.{told_stays}
use Rattle.net_wave.proofs.moments.add_changes.Goals as goal

pub loop-i-preserved : goal.loop-i-preserved
loop-i-preserved c =
    let b = c.args.scene.now.bench.now in
    let models = map seen_model c.args.scene.now.models.now.items in
    let f = λ (v : Var). value (chip_of b) models v c.args.scene.now.pins b.state in
    let now = map f c.args.vars.now in
    let old = told_of c.args.told.now.items in
    let i = c.loop-i.i in
    let within : i < length c.args.vars.now = omega (arith, c.loop-i-test.true, c.requires.place) in
    let h : i < length now = omega (arith, within, length-map c.args.vars.now f) in
    let as_many : length old ≡ length now = omega (
      arith,
      length-map c.args.vars.now f,
      length-map c.args.told.now.items (λ (d : Listed ℕ). d.items),
      c.requires.same,
    ) in
    let is = sym (get_or-map f c.args.vars.now i _ _ within) in
    record {
      told = told_next c.loop-i.told.items c.add_var.new.told now old i h as_many c.loop-i.invariant.told
          (c.in_ok-add_var.ensures.told ∙ is) ∙ ap (λ (k : ℕ). take k now ++ drop k old) (sym (add-one i));
      text = text_next c.args.first old now i c.args.piece.now c.loop-i.piece c.add_var.new.piece
          c.index_mut.result.now.items _ c.loop-i.invariant.text
          (told_before c.loop-i.told.items c.index_mut.result.now now old i h as_many c.loop-i.invariant.told
          c.index_mut.ensures.value) is c.in_ok-add_var.ensures.text;
    }

pub add_var-requires-clause-stays : goal.add_var-requires-clause-stays
add_var-requires-clause-stays c = λ first same.
    let b = c.args.scene.now.bench.now in
    let models = map seen_model c.args.scene.now.models.now.items in
    let f = λ (v : Var). value (chip_of b) models v c.args.scene.now.pins b.state in
    let now = map f c.args.vars.now in
    let old = told_of c.args.told.now.items in
    let i = c.loop-i.i in
    let many : length now ≡ length c.args.vars.now = length-map c.args.vars.now f in
    let as_many : length old ≡ length now =
    omega (arith, many, length-map c.args.told.now.items (λ (d : Listed ℕ). d.items), c.requires.same) in
    let h : i < length c.args.vars.now = omega (arith, c.loop-i-test.true, c.requires.place) in
    let g : i < length now = omega (arith, h, many) in
    let v = get_or c.args.vars.now i Tms in
    let stays : may_change c.args.last.now (shown_at (chip_of b) c.args.scene.now.pins b.state) v ≡ false =
    ap (λ (x : Shown). may_change c.args.last.now x v) (sym c.requires.now)
    ∙ (sym c.may_change-changes.ensures ∙ same) in
    told_before c.loop-i.told.items c.index_mut.result.now now old i g as_many
    c.loop-i.invariant.told c.index_mut.ensures.value
    ∙ told_stays (chip_of b) models c.args.vars.now old c.args.last.now c.args.scene.now.pins b.state i Tms
    (c.requires.known first) h stays
    ∙ get_or-map f c.args.vars.now i Tms [] h

pub returns-clause-told : goal.returns-clause-told
returns-clause-told c =
    let b = c.args.scene.now.bench.now in
    let models = map seen_model c.args.scene.now.models.now.items in
    let f = λ (v : Var). value (chip_of b) models v c.args.scene.now.pins b.state in
    let now = map f c.args.vars.now in
    let old = told_of c.args.told.now.items in
    let i = c.loop-i.i in
    let many : length now ≡ length c.args.vars.now = length-map c.args.vars.now f in
    let as_many : length old ≡ length now =
    omega (arith, many, length-map c.args.told.now.items (λ (d : Listed ℕ). d.items), c.requires.same) in
    let at_end : i ≡ c.args.place = omega (arith, c.loop-i-test.false, c.loop-i.auto.i-end) in
    let within : i ≤ length now = omega (arith, at_end, many, c.requires.place) in
    let all : c.args.first ≡ true → i ≡ length now = λ e. omega (arith, at_end, many, c.requires.all e) in
    let stay : c.args.first ≡ false → (k : ℕ) → i ≤ k → k < length now → get_or old k [] ≡ get_or now k [] =
    λ e k l m. let h : k < length c.args.vars.now = omega (arith, m, many) in
    told_stays (chip_of b) models c.args.vars.now old c.args.last.now
    c.args.scene.now.pins b.state k Tms (c.requires.known e) h
    (ap (λ (x : Shown). may_change c.args.last.now x (get_or c.args.vars.now k Tms)) (sym c.requires.now)
    ∙ c.requires.stay e k (omega (arith, l, at_end)) h) in
    all_told c.args.first old now i as_many within all stay
    (told_of c.loop-i.told.items) c.loop-i.invariant.told

pub returns-clause-text : goal.returns-clause-text
returns-clause-text c =
    let b = c.args.scene.now.bench.now in
    let models = map seen_model c.args.scene.now.models.now.items in
    let f = λ (v : Var). value (chip_of b) models v c.args.scene.now.pins b.state in
    let now = map f c.args.vars.now in
    let old = told_of c.args.told.now.items in
    let i = c.loop-i.i in
    let many : length now ≡ length c.args.vars.now = length-map c.args.vars.now f in
    let as_many : length old ≡ length now =
    omega (arith, many, length-map c.args.told.now.items (λ (d : Listed ℕ). d.items), c.requires.same) in
    let at_end : i ≡ c.args.place = omega (arith, c.loop-i-test.false, c.loop-i.auto.i-end) in
    let within : i ≤ length now = omega (arith, at_end, many, c.requires.place) in
    let all : c.args.first ≡ true → i ≡ length now = λ e. omega (arith, at_end, many, c.requires.all e) in
    let stay : c.args.first ≡ false → (k : ℕ) → i ≤ k → k < length now → get_or old k [] ≡ get_or now k [] =
    λ e k l m. let h : k < length c.args.vars.now = omega (arith, m, many) in
    told_stays (chip_of b) models c.args.vars.now old c.args.last.now
    c.args.scene.now.pins b.state k Tms (c.requires.known e) h
    (ap (λ (x : Shown). may_change c.args.last.now x (get_or c.args.vars.now k Tms)) (sym c.requires.now)
    ∙ c.requires.stay e k (omega (arith, l, at_end)) h) in
    all_text c.args.first old now i as_many within all stay
    c.args.piece.now c.loop-i.piece c.loop-i.invariant.text
