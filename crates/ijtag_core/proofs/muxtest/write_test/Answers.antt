use Rattle.std.specs.Prelude.{OnErr, OnOk, option_map}
use Rattle.std.proofs.Common.{◌≡◌, ◌++◌, subst, ℕ, List, Some}
use Rattle.ij_io.specs.Files.{file_at}
use Rattle.ij_io.specs.Pieces.{HoldsPart}
use Rattle.svf_writer.specs.Written.{preface}
use Rattle.mux_test.specs.Texts.{scans_text}
use Rattle.ijtag_work.specs.Accepted.{SeenAccepted}
use Rattle.ijtag_work.specs.Order.{test_text_of}
use Rattle.ijtag_work.specs.Using.{seen_accepted}
use Rattle.ijtag_core.proofs.Testing.{text_is}
use Rattle.ijtag_core.proofs.muxtest.write_test.Goals as goal

pub returns-clause-whole : goal.returns-clause-whole
returns-clause-whole g c =
    let it : SeenAccepted = seen_accepted c.args.it.now in
    let same : preface it.device ++ scans_text it.network.net c.args.test.now.scans
    ≡ test_text_of it = text_is it c.requires.usable.nested c.mux_tests_law.ensures.text
    c.args.test.now.scans c.requires.planned.scans in
    subst (λ (text : List ℕ). OnOk c.put_test_file.result
    (file_at (g.S.Shelf.files c.put_test_file.new.shelf) c.args.name.now
    ≡ option_map (λ _. Some text) (g.S.Shelf.files c.args.shelf.now))) same c.put_test_file.ensures.whole

pub returns-clause-part : goal.returns-clause-part
returns-clause-part g c =
    let it : SeenAccepted = seen_accepted c.args.it.now in
    let same : preface it.device ++ scans_text it.network.net c.args.test.now.scans
    ≡ test_text_of it = text_is it c.requires.usable.nested c.mux_tests_law.ensures.text
    c.args.test.now.scans c.requires.planned.scans in
    subst (λ (text : List ℕ). OnErr c.put_test_file.result (HoldsPart (g.S.Shelf.files c.args.shelf.now)
    (g.S.Shelf.files c.put_test_file.new.shelf) c.args.name.now text)) same c.put_test_file.ensures.part
