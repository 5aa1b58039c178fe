use Rattle.std.proofs.Common.{map}
use Rattle.std.proofs.lemmas.Result.{on_err_weaker}
use Rattle.instruments.specs.Seen.{seen_model}
use Rattle.svf_notes.specs.Explained.{explained, explained_text}
use Rattle.svf_notes.specs.Left.{left_notes}
use Rattle.svf_notes.proofs.Filing.{all_of, on_both, part_of, start_text}
use Rattle.svf_notes.proofs.explained.put_explained_file.Goals as goal

pub returns-clause-part : goal.returns-clause-part
returns-clause-part g c =
    let a = c.args in
    let models = map seen_model a.models.now.items in
    let playing = c.in_ok-playing.playing in
    let is = c.in_ok-playing.ensures in
    on_err_weaker c.put_text.result
    (part_of (g.S.Shelf.files a.shelf.now) (g.S.Shelf.files c.begin.new.self)
    (g.S.Shelf.files c.put_text.new.shelf) a.name.now c.new-piece.result
    (explained (left_notes playing) a.src.now) (explained_text a.net.now a.device.now models
    a.commands.now a.src.now) c.new-piece.ensures c.in_ok-begin.ensures.empty
    (start_text playing a.net.now a.device.now models a.commands.now a.src.now is.net is.device is.scans))
    c.put_text.ensures.part

pub returns-clause-whole : goal.returns-clause-whole
returns-clause-whole g c =
    let a = c.args in
    let models = map seen_model a.models.now.items in
    let playing = c.in_ok-playing.playing in
    let is = c.in_ok-playing.ensures in
    on_both c.put_text.result
    (all_of (g.S.Shelf.files a.shelf.now) (g.S.Shelf.files c.begin.new.self)
    (g.S.Shelf.files c.put_text.new.shelf) a.name.now c.new-piece.result
    (explained (left_notes playing) a.src.now) (explained_text a.net.now a.device.now models
    a.commands.now a.src.now) c.new-piece.ensures c.in_ok-begin.ensures.empty
    (start_text playing a.net.now a.device.now models a.commands.now a.src.now is.net is.device is.scans))
    c.put_text.ensures.whole c.put_text.ensures.there
