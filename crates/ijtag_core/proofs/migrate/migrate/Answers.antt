use Rattle.std.specs.Prelude.{option_map}
use Rattle.std.proofs.Common.{◌≡◌, ◌∙◌, ap, inl, refl, sym, subst, ℕ, false, List, Option, Some}
use Rattle.ij_io.specs.Causes.{Rose}
use Rattle.ij_io.specs.Files.{Files}
use Rattle.retargeter.specs.Files.{HoldsPart}
use Rattle.table_file.specs.Answers.{seen_tables}
use Rattle.table_file.specs.Tables.{SeenTable}
use Rattle.ijtag_work.specs.Command.{Migrate}
use Rattle.ijtag_work.specs.Follows.{seen_texts}
use Rattle.ijtag_work.specs.Loads.{Load, loaded}
use Rattle.ijtag_work.specs.Order.{filed, migrate, read_tables_of}
use Rattle.ijtag_work.specs.Runs.{Counts, counts}
use Rattle.ijtag_work.specs.Task.{work}
use Rattle.ijtag_work.specs.Words.{seen_migrate}
use Rattle.ijtag_work.proofs.Ends.{file_done, file_part}
use Rattle.ijtag_work.proofs.Late.{begun_in}
use Rattle.ijtag_core.proofs.Acting.{file_stop_of}
use Rattle.ijtag_core.proofs.migrate.migrate.Goals as goal

pub returns-in-Ok-clause-done : goal.returns-in-Ok-clause-done
returns-in-Ok-clause-done g c =
    let files : Option Files = g.S.Shelf.files c.args.shelf.now in
    let mid : Option Files = g.S.Shelf.files c.load_files.new.shelf in
    let new : Option Files = g.S.Shelf.files c.write_file.new.shelf in
    let words : Migrate = seen_migrate c.args.words.now in
    let texts : List (List ℕ) = seen_texts c.in_ok-texts.texts.items in
    let tables : List SeenTable = seen_tables c.in_ok-tables.tables in
    let bytes : List ℕ = c.bytes.result.now in
    let read : (loaded files (migrate words).loads).gives texts = subst
    (λ (ls : List Load). (loaded files ls).gives texts) c.loads.ensures c.in_ok-texts.ensures.follows in
    let is : (read_tables_of texts).gives tables = subst (λ ts. (read_tables_of (seen_texts ts)).gives tables)
    c.deref.ensures.value c.in_ok-tables.ensures.follows in
    let own : (work files (migrate words)).gives (filed words.written bytes) =
    subst (λ (b : List ℕ). (work files (migrate words)).gives (filed words.written b))
    (sym (c.bytes.ensures ∙ c.in_ok-text.ensures)) (texts, read, (tables, is, refl)) in
    let same : mid ≡ files = c.in_ok-texts.ensures.files in
    file_done (work files (migrate words)) files new (g.O.Sink.taken c.args._out.now) words.written bytes
    false own (c.in-Ok.ensures.whole ∙ ap (λ (fs : Option Files). option_map (λ _. Some bytes) fs) same)

pub returns-clause-stop : goal.returns-clause-stop
returns-clause-stop g c =
    let files : Option Files = g.S.Shelf.files c.args.shelf.now in
    let mid : Option Files = g.S.Shelf.files c.load_files.new.shelf in
    let new : Option Files = g.S.Shelf.files c.write_file.new.shelf in
    let words : Migrate = seen_migrate c.args.words.now in
    let texts : List (List ℕ) = seen_texts c.in_ok-texts.texts.items in
    let tables : List SeenTable = seen_tables c.in_ok-tables.tables in
    let bytes : List ℕ = c.bytes.result.now in
    let read : (loaded files (migrate words).loads).gives texts = subst
    (λ (ls : List Load). (loaded files ls).gives texts) c.loads.ensures c.in_ok-texts.ensures.follows in
    let is : (read_tables_of texts).gives tables = subst (λ ts. (read_tables_of (seen_texts ts)).gives tables)
    c.deref.ensures.value c.in_ok-tables.ensures.follows in
    let own : (work files (migrate words)).gives (filed words.written bytes) =
    subst (λ (b : List ℕ). (work files (migrate words)).gives (filed words.written b))
    (sym (c.bytes.ensures ∙ c.in_ok-text.ensures)) (texts, read, (tables, is, refl)) in
    let same : mid ≡ files = c.in_ok-texts.ensures.files in
    let name : List ℕ = words.written in
    let now : ℕ = g.S.Shelf.store_faults c.write_file.new.shelf name in
    let k : Counts = counts g.S.Shelf.load_faults g.S.Shelf.store_faults g.O.Sink.faults c.args.shelf.now
    c.write_file.new.shelf c.args._out.now c.args._out.now in
    file_stop_of files (migrate words) k name c.in-Err.fault c.of_file.ensures.stop (filed name bytes, own)
    (inl refl) (λ failed. subst (λ (before : ℕ). Rose before now) (c.in_ok-texts.ensures.stores name)
    (c.in-Err.ensures.cause.failed failed))

pub returns-clause-part : goal.returns-clause-part
returns-clause-part g c =
    let files : Option Files = g.S.Shelf.files c.args.shelf.now in
    let mid : Option Files = g.S.Shelf.files c.load_files.new.shelf in
    let new : Option Files = g.S.Shelf.files c.write_file.new.shelf in
    let words : Migrate = seen_migrate c.args.words.now in
    let texts : List (List ℕ) = seen_texts c.in_ok-texts.texts.items in
    let tables : List SeenTable = seen_tables c.in_ok-tables.tables in
    let bytes : List ℕ = c.bytes.result.now in
    let read : (loaded files (migrate words).loads).gives texts = subst
    (λ (ls : List Load). (loaded files ls).gives texts) c.loads.ensures c.in_ok-texts.ensures.follows in
    let is : (read_tables_of texts).gives tables = subst (λ ts. (read_tables_of (seen_texts ts)).gives tables)
    c.deref.ensures.value c.in_ok-tables.ensures.follows in
    let own : (work files (migrate words)).gives (filed words.written bytes) =
    subst (λ (b : List ℕ). (work files (migrate words)).gives (filed words.written b))
    (sym (c.bytes.ensures ∙ c.in_ok-text.ensures)) (texts, read, (tables, is, refl)) in
    let same : mid ≡ files = c.in_ok-texts.ensures.files in
    begun_in files (migrate words) (work files (migrate words)) (λ leaves given. given) _ _
    (file_part (work files (migrate words)) files new (g.O.Sink.taken c.args._out.now) words.written bytes
    false own
    (subst (λ (fs : Option Files). HoldsPart fs new words.written bytes) same c.in-Err.ensures.part))
