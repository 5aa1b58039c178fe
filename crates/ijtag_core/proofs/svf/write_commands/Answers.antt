use Rattle.std.proofs.Common.{◌≡◌, ◌⊎◌, inr, sym, subst, ℕ, List, Option}
use Rattle.ij_io.specs.Files.{Files}
use Rattle.ij_io.proofs.Adding.{at_refusal}
use Rattle.ijtag_work.specs.Filed.{IsPartFiled}
use Rattle.ijtag_work.specs.Accepted.{SeenAccepted}
use Rattle.ijtag_work.specs.Order.{written_text}
use Rattle.ijtag_work.specs.Using.{seen_accepted}
use Rattle.ijtag_work.proofs.Running.{found, short}
use Rattle.ijtag_work.proofs.Whole.{whole_is_part}
use Rattle.ijtag_core.proofs.svf.write_commands.Goals as goal

pub returns-in_err-write_file-clause-part : goal.returns-in_err-write_file-clause-part
returns-in_err-write_file-clause-part g c =
    let name : List ℕ = c.args.name.now in
    let it : SeenAccepted = seen_accepted c.args.it.now in
    let bytes : List ℕ = c.bytes-bytes.result.now in
    let written = subst (written_text it).gives (sym c.bytes-bytes.ensures) c.in_ok-svf.ensures.text in
    let old : Option Files = g.S.Shelf.files c.args.shelf.now in
    let new : Option Files = g.S.Shelf.files c.write_file.new.shelf in
    let part : (new ≡ old) ⊎ IsPartFiled (written_text it) old new name =
    inr (record { bytes = bytes; given = written; held = c.in_err-write_file.ensures.part }) in
    at_refusal _ part

pub returns-in_err-write_file-clause-text : goal.returns-in_err-write_file-clause-text
returns-in_err-write_file-clause-text g c =
    let it : SeenAccepted = seen_accepted c.args.it.now in
    let bytes : List ℕ = c.bytes-bytes.result.now in
    let written = subst (written_text it).gives (sym c.bytes-bytes.ensures) c.in_ok-svf.ensures.text in
    λ failed. (bytes, written)

pub read_commands-requires : goal.read_commands-requires
read_commands-requires g c =
    let name : List ℕ = c.args.name.now in
    let it : SeenAccepted = seen_accepted c.args.it.now in
    let bytes : List ℕ = c.bytes-bytes.result.now in
    let written = subst (written_text it).gives (sym c.bytes-bytes.ensures) c.in_ok-svf.ensures.text in
    record { short = short name it bytes written; written = found name it bytes written }

pub returns-in_err-commands-clause-part : goal.returns-in_err-commands-clause-part
returns-in_err-commands-clause-part g c =
    let name : List ℕ = c.args.name.now in
    let it : SeenAccepted = seen_accepted c.args.it.now in
    let bytes : List ℕ = c.bytes-bytes.result.now in
    let written = subst (written_text it).gives (sym c.bytes-bytes.ensures) c.in_ok-svf.ensures.text in
    let old : Option Files = g.S.Shelf.files c.args.shelf.now in
    let new : Option Files = g.S.Shelf.files c.write_file.new.shelf in
    let part : (new ≡ old) ⊎ IsPartFiled (written_text it) old new name =
    inr (record {
      bytes = bytes;
      given = written;
      held = whole_is_part old new name bytes c.in_ok-write_file.ensures.whole;
    }) in
    at_refusal _ part

pub returns-in_err-commands-clause-text : goal.returns-in_err-commands-clause-text
returns-in_err-commands-clause-text g c =
    let it : SeenAccepted = seen_accepted c.args.it.now in
    let bytes : List ℕ = c.bytes-bytes.result.now in
    let written = subst (written_text it).gives (sym c.bytes-bytes.ensures) c.in_ok-svf.ensures.text in
    λ failed. (bytes, written)

pub returns-clause-whole : goal.returns-clause-whole
returns-clause-whole g c =
    let it : SeenAccepted = seen_accepted c.args.it.now in
    let bytes : List ℕ = c.bytes-bytes.result.now in
    let written = subst (written_text it).gives (sym c.bytes-bytes.ensures) c.in_ok-svf.ensures.text in
    record {
      bytes = bytes;
      given = written;
      held = c.in_ok-write_file.ensures.whole;
      found = c.in_ok-commands.ensures.given;
    }

pub returns-clause-text : goal.returns-clause-text
returns-clause-text g c =
    let it : SeenAccepted = seen_accepted c.args.it.now in
    let bytes : List ℕ = c.bytes-bytes.result.now in
    let written = subst (written_text it).gives (sym c.bytes-bytes.ensures) c.in_ok-svf.ensures.text in
    λ failed. (bytes, written)
