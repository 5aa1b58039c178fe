use Rattle.std.proofs.Common.{◌≡◌, sym, subst, ℕ, List, [], Ok}
use Rattle.svf_reader.specs.Meaning.{svf}
use Rattle.svf_writer.specs.SeenCommands.{SeenCommand}
use Rattle.ijtag_work.specs.Accepted.{SeenAccepted}
use Rattle.ijtag_work.specs.Order.{commands_of, written_text}
use Rattle.ijtag_work.specs.Using.{seen_accepted}
use Rattle.ijtag_work.proofs.Running.{found, short}
use Rattle.ijtag_tools.proofs.planned.compiled.Goals as goal

pub read_commands-requires : goal.read_commands-requires
read_commands-requires c =
    let it : SeenAccepted = seen_accepted c.args.it.now in
    let bytes : List ℕ = c.bytes.result.now in
    let written : (written_text it).gives bytes =
    subst (λ (b : List ℕ). (written_text it).gives b) (sym c.bytes.ensures) c.in_ok-svf.ensures.text in
    record { short = short [] it bytes written; written = found [] it bytes written }

-- the commands of a text
read_of : (bytes : List ℕ) (commands : List SeenCommand)
    → (commands_of bytes).gives commands → svf bytes ≡ Ok commands
unfolding commands_of
read_of bytes commands given = given

pub returns : goal.returns
returns c =
    let it : SeenAccepted = seen_accepted c.args.it.now in
    let text : List ℕ = c.in_ok-svf.svf in
    let written : (written_text it).gives text = c.in_ok-svf.ensures.text in
    let commands : List SeenCommand = c.in_ok-commands.commands in
    let read : svf text ≡ Ok commands = subst (λ (b : List ℕ). svf b ≡ Ok commands) c.bytes.ensures
    (read_of c.bytes.result.now commands c.in_ok-commands.ensures.given) in
    record {
      sound = record {
        commands = commands;
        read = read;
        does = c.a_yes_does_as_meant.ensures (c.own_texts_pass.ensures.texts it text commands written read);
        takes = c.cost_of-cost.ensures;
      };
      written = written;
    }
