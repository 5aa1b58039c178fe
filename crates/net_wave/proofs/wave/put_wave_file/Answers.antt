use Rattle.std.proofs.Common.{◌++◌, ℕ, List, map, ap, ◌∙◌}
use Rattle.ij_io.proofs.Adding.{at_refusal}
use Rattle.bench_report.specs.Report.{chip}
use Rattle.instruments.specs.Seen.{seen_model}
use Rattle.tap_machine.specs.declared.Stable.TheVariants.{Reset as InReset}
use Rattle.tap_machine.specs.Play.{pins}
use Rattle.net_wave.specs.declared.var.Var.{Var}
use Rattle.net_wave.specs.Header.{header}
use Rattle.net_wave.specs.Left.{left_text}
use Rattle.net_wave.specs.Moments.{moments_text}
use Rattle.net_wave.specs.Vars.{items}
use Rattle.net_wave.specs.Wave.{moments_of, wave_text}
use Rattle.net_wave.proofs.PieceTexts.{all_of, part_of}
use Rattle.net_wave.proofs.wave.put_wave_file.Goals as goal

pub returns-clause-whole : goal.returns-clause-whole
unfolding wave_text
returns-clause-whole g c =
    let a = c.args in
    let models = map seen_model a.models.now.items in
    let top = header a.net.now a.device.now models a.top.now (items a.kind a.net.now models) in
    let text = c.in_ok-playing.ensures.text ∙ ap (λ (l : List Var). moments_text
    (moments_of (chip a.net.now a.device.now models) models l (pins InReset 0 a.commands.now) a.window))
    c.in_ok-it.ensures.vars in
    (all_of (g.S.Shelf.files a.shelf.now) (g.S.Shelf.files c.begin.new.self)
    (g.S.Shelf.files c.put_moments.new.shelf) a.name.now c.in_ok-it.it.text top
    (left_text c.in_ok-playing.playing) (wave_text a.kind a.net.now a.device.now models a.top.now
    a.commands.now a.window) c.in_ok-it.ensures.text c.in_ok-begin.ensures.empty
    (ap (λ (l : List ℕ). top ++ l) text) c.in_ok-put_moments.ensures.whole c.in_ok-put_moments.ensures.there)

pub returns-in_err-put_moments-clause-part : goal.returns-in_err-put_moments-clause-part
unfolding wave_text
returns-in_err-put_moments-clause-part g c =
    let a = c.args in
    let models = map seen_model a.models.now.items in
    let top = header a.net.now a.device.now models a.top.now (items a.kind a.net.now models) in
    let text = c.in_ok-playing.ensures.text ∙ ap (λ (l : List Var). moments_text
    (moments_of (chip a.net.now a.device.now models) models l (pins InReset 0 a.commands.now) a.window))
    c.in_ok-it.ensures.vars in
    at_refusal _
    (part_of (g.S.Shelf.files a.shelf.now) (g.S.Shelf.files c.begin.new.self)
    (g.S.Shelf.files c.put_moments.new.shelf) a.name.now c.in_ok-it.it.text top
    (left_text c.in_ok-playing.playing) (wave_text a.kind a.net.now a.device.now models a.top.now
    a.commands.now a.window) c.in_ok-it.ensures.text c.in_ok-begin.ensures.empty
    (ap (λ (l : List ℕ). top ++ l) text)
    c.in_err-put_moments.ensures.part)

pub returns-clause-differs : goal.returns-clause-differs
returns-clause-differs g c = c.finish.ensures
    ∙ c.in_ok-put_moments.ensures.differs ∙ c.in_ok-playing.ensures.differs
