use Rattle.std.specs.Prelude.{option_map}
use Rattle.std.proofs.Common.{◌≡◌, inl, refl, sym, subst, ℕ, List, Some}
use Rattle.ij_io.specs.Files.{file_at}
use Rattle.ij_io.proofs.Adding.{at_refusal}
use Rattle.ijtag_work.specs.Filed.{HasPlans}
use Rattle.ijtag_work.specs.Accepted.{SeenAccepted}
use Rattle.ijtag_work.specs.Order.{commands_of, run, run_of, written_text}
use Rattle.ijtag_work.specs.Runs.{Counts, Seen, counts, seen}
use Rattle.ijtag_work.specs.Seen.{differing}
use Rattle.ijtag_work.specs.Task.{task_of}
use Rattle.ijtag_work.specs.Using.{seen_accepted}
use Rattle.ijtag_work.specs.Words.{seen_run}
use Rattle.ijtag_work.proofs.Running.{can_run, found, print_part, ran_done, report, short, silent_part, told}
use Rattle.ijtag_work.proofs.Running.{write_part}
use Rattle.ijtag_core.proofs.Acting.{file_stops, output_stops}
use Rattle.ijtag_core.proofs.run.RunWordsEffect.act.Goals as goal

pub read_commands-requires : goal.read_commands-requires
read_commands-requires g c =
    let name : List ℕ = c.args.self.now.svf.now in
    let it : SeenAccepted = seen_accepted c.args.it.now in
    let bytes : List ℕ = c.bytes-bytes.result.now in
    let written = subst (written_text it).gives (sym c.bytes-bytes.ensures) c.in_ok-svf.ensures.text in
    record { short = short name it bytes written; written = found name it bytes written }

pub returns-in-Err-clause-stop : goal.returns-in-Err-clause-stop
returns-in-Err-clause-stop g c =
    let name : List ℕ = c.args.self.now.svf.now in
    let it : SeenAccepted = seen_accepted c.args.it.now in
    let bytes : List ℕ = c.bytes-bytes.result.now in
    let written = subst (written_text it).gives (sym c.bytes-bytes.ensures) c.in_ok-svf.ensures.text in
    let plans : HasPlans it = c.in_ok-svf.ensures.plans in
    let k : Counts = counts g.S.Shelf.load_faults g.S.Shelf.store_faults g.O.Sink.faults c.args.shelf.now
    c.write_file.new.shelf c.args.out.now c.args.out.now in
    file_stops (run_of name it) (task_of (run (seen_run c.args.self.now))) k name c.in-Err.fault
    c.of_file.ensures.stop (λ failed. can_run name it bytes written plans) (inl refl)
    c.in-Err.ensures.cause.failed

pub returns-in-Err-clause-part : goal.returns-in-Err-clause-part
returns-in-Err-clause-part g c =
    let name : List ℕ = c.args.self.now.svf.now in
    let it : SeenAccepted = seen_accepted c.args.it.now in
    let bytes : List ℕ = c.bytes-bytes.result.now in
    let written = subst (written_text it).gives (sym c.bytes-bytes.ensures) c.in_ok-svf.ensures.text in
    let plans : HasPlans it = c.in_ok-svf.ensures.plans in
    let old : Seen = seen g.S.Shelf.files g.O.Sink.taken c.args.shelf.now c.args.out.now in
    let new : Seen = seen g.S.Shelf.files g.O.Sink.taken c.write_file.new.shelf c.args.out.now in
    write_part name it bytes written plans old new c.in-Err.ensures.part refl

pub returns-in_err-commands-clause-part : goal.returns-in_err-commands-clause-part
returns-in_err-commands-clause-part g c =
    let name : List ℕ = c.args.self.now.svf.now in
    let it : SeenAccepted = seen_accepted c.args.it.now in
    let bytes : List ℕ = c.bytes-bytes.result.now in
    let written = subst (written_text it).gives (sym c.bytes-bytes.ensures) c.in_ok-svf.ensures.text in
    let plans : HasPlans it = c.in_ok-svf.ensures.plans in
    let old : Seen = seen g.S.Shelf.files g.O.Sink.taken c.args.shelf.now c.args.out.now in
    let new : Seen = seen g.S.Shelf.files g.O.Sink.taken c.write_file.new.shelf c.args.out.now in
    let whole : file_at new.files name ≡ option_map (λ _. Some bytes) old.files = c.in-Ok.ensures.whole in
    at_refusal _ (silent_part name it bytes written plans old new whole refl)

pub returns-in-Ok-put_lines-clause-done : goal.returns-in-Ok-put_lines-clause-done
returns-in-Ok-put_lines-clause-done g c =
    let name : List ℕ = c.args.self.now.svf.now in
    let it : SeenAccepted = seen_accepted c.args.it.now in
    let bytes : List ℕ = c.bytes-bytes.result.now in
    let written = subst (written_text it).gives (sym c.bytes-bytes.ensures) c.in_ok-svf.ensures.text in
    let plans : HasPlans it = c.in_ok-svf.ensures.plans in
    let old : Seen = seen g.S.Shelf.files g.O.Sink.taken c.args.shelf.now c.args.out.now in
    let new : Seen = seen g.S.Shelf.files g.O.Sink.taken c.write_file.new.shelf c.put_lines.new.out in
    let whole : file_at new.files name ≡ option_map (λ _. Some bytes) old.files = c.in-Ok.ensures.whole in
    let commands = c.in_ok-commands.commands in
    let is : (commands_of bytes).gives commands = c.in_ok-commands.ensures.given in
    let verdict = c.in-Ok-put_lines.verdict in
    ran_done name it bytes written plans old new whole commands is (differing verdict)
    (c.in-Ok-put_lines.ensures.printed (report name it bytes written plans commands)
    (told name it bytes written plans commands)) c.in-Ok-put_lines.ensures.verdict

pub returns-clause-stop : goal.returns-clause-stop
returns-clause-stop g c =
    let name : List ℕ = c.args.self.now.svf.now in
    let it : SeenAccepted = seen_accepted c.args.it.now in
    let bytes : List ℕ = c.bytes-bytes.result.now in
    let written = subst (written_text it).gives (sym c.bytes-bytes.ensures) c.in_ok-svf.ensures.text in
    let plans : HasPlans it = c.in_ok-svf.ensures.plans in
    let k : Counts = counts g.S.Shelf.load_faults g.S.Shelf.store_faults g.O.Sink.faults c.args.shelf.now
    c.write_file.new.shelf c.args.out.now c.put_lines.new.out in
    output_stops (run_of name it) (task_of (run (seen_run c.args.self.now))) k c.in-Err-put_lines.fault
    c.of_output.ensures.stop (λ failed. can_run name it bytes written plans) refl
    c.in-Err-put_lines.ensures.cause.failed

pub returns-clause-part : goal.returns-clause-part
returns-clause-part g c =
    let name : List ℕ = c.args.self.now.svf.now in
    let it : SeenAccepted = seen_accepted c.args.it.now in
    let bytes : List ℕ = c.bytes-bytes.result.now in
    let written = subst (written_text it).gives (sym c.bytes-bytes.ensures) c.in_ok-svf.ensures.text in
    let plans : HasPlans it = c.in_ok-svf.ensures.plans in
    let old : Seen = seen g.S.Shelf.files g.O.Sink.taken c.args.shelf.now c.args.out.now in
    let new : Seen = seen g.S.Shelf.files g.O.Sink.taken c.write_file.new.shelf c.put_lines.new.out in
    let whole : file_at new.files name ≡ option_map (λ _. Some bytes) old.files = c.in-Ok.ensures.whole in
    let commands = c.in_ok-commands.commands in
    let is : (commands_of bytes).gives commands = c.in_ok-commands.ensures.given in
    print_part name it bytes written plans old new whole commands is (c.in-Err-put_lines.ensures.part
    (report name it bytes written plans commands) (told name it bytes written plans commands))
